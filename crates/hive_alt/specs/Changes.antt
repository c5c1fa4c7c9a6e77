-- What a change of the default set does to a tree and to a disk, over any way to keep a hive. (This project's own.)
use Rattle.std.specs.Prelude.{◌≡◌, ◌⊎◌, ◌==◌, nat_lt, Bool, false, if◌then◌else◌, ℕ, List, [], ◌∷◌, codes, Option, Some, None, Result, Ok, Err}
use Rattle.std.specs.Int.{w32, to_le_bytes}
use Rattle.nt_bytes.specs.declared.version.HiveVersion.{HiveVersion}
use Rattle.hive_model.specs.Base.{version_of}
use Rattle.hive_model.specs.Edit.{at_key, of_items, with_item, most_bulk}
use Rattle.hive_model.specs.Image.{Image}
use Rattle.hive_model.specs.Load.{Holds, state_of}
use Rattle.hive_model.specs.Recovery.{Recovered}
use Rattle.hive_model.specs.Size.{bulk_of}
use Rattle.hive_model.specs.State.{HiveState}
use Rattle.hive_model.specs.Tree.{Tree, find_key, find_dword}
use Rattle.hive_commit.specs.Stages.{next_number}
use Rattle.hive_store.specs.Checks.{held_state}
use Rattle.hive_alt.specs.declared.change.Changed.{Changed}
use Rattle.hive_alt.specs.declared.change.ChangeStop.{ChangeStop}
use Rattle.hive_alt.specs.declared.change.ChangeStop.TheVariants as stops
use Rattle.hive_alt.specs.Schemes.{Standing, StandsFor, StandsClean, StandFault}

-- the key `Select`, and its value `Default`
abbrev pub select_path : List (List ℕ)
select_path = codes "Select" ∷ []

abbrev pub default_name : List ℕ
default_name = codes "Default"

-- what is asked of a tree
pub data Change : Type 0 where
  nothing : Change
  no_select : Change
  too_large : Change
  changed : Tree → Change

-- the tree with this number as `Select\Default`
abbrev pub defaulted : ℕ → Tree → Tree
defaulted number t = at_key select_path (of_items (with_item default_name 4 (to_le_bytes w32 number))) t

-- a tree is too large where its bulk is over 16,773,120 bytes
abbrev pub unless_large : HiveVersion → Tree → Change
unless_large version u = if nat_lt most_bulk (bulk_of version u) then too_large else changed u

-- a number is there, and is this one
abbrev pub is_number : ℕ → Option ℕ → Bool
is_number number None = false
is_number number (Some n) = n == number

-- by the key `Select`: nothing is done where its `Default` is that number already
abbrev pub change_in : HiveVersion → Tree → ℕ → Option Tree → Change
change_in version t number None = no_select
change_in version t number (Some select) =
    if is_number number (find_dword default_name select) then nothing else unless_large version (defaulted number t)

-- what becomes of a tree; without a number nothing
abbrev pub change_of : HiveVersion → Tree → Option ℕ → Change
change_of version t None = nothing
change_of version t (Some number) = change_in version t number (find_key select_path t)

-- the state after a change: the changed tree under the next number, else what was
abbrev pub after_change : Recovered → Tree → Change → HiveState
after_change found t nothing = held_state found t
after_change found t no_select = held_state found t
after_change found t too_large = held_state found t
after_change found t (changed u) = state_of u (next_number found.base.first) (version_of found.base.minor)

-- the sequence number of a change that was committed
abbrev pub committed_by : Recovered → Change → Option ℕ
committed_by found nothing = None
committed_by found no_select = None
committed_by found too_large = None
committed_by found (changed u) = Some (next_number found.base.first)

-- The image stands for what was found, which holds the tree, of which this becomes; these are the number and the repair.
pub record IsLoaded (stands : Standing) (image : Image) (number : Option ℕ) (loaded : ℕ) (mended : Bool) (change : Change) : Type 0 where
  pub found : Recovered
  pub tree : Tree
  pub read : stands image ≡ Ok found
  pub holds : Holds found (held_state found tree)
  pub number_is : loaded ≡ found.base.first
  pub mended_is : mended ≡ found.dirty
  pub change_is : change_of (version_of found.base.minor) tree number ≡ change

-- nothing was to be done, or a change was committed; the image after it stands for the state then, and there is nothing to repair
pub record IsDone (stands : Standing) (before after : Image) (number : Option ℕ) (done : Changed) : Type 0 where
  pub change : Change
  pub loaded : IsLoaded stands before number done.loaded done.mended change
  pub is_done : (change ≡ nothing) ⊎ ((u : Tree) × (change ≡ changed u))
  pub committed : done.committed ≡ committed_by loaded.found change
  pub stands_for : StandsClean stands (after_change loaded.found loaded.tree change) after

-- a stop after the load has its number and its repair, and a change was to be made
abbrev pub WasLoaded : Standing → Image → Option ℕ → Option (ℕ × Bool) → Type 0
WasLoaded stands image number None = Unit {0}
WasLoaded stands image number (Some x) = (u : Tree) × IsLoaded stands image number x.0 x.1 (changed u)

-- which refusal comes
abbrev pub IsStopped : Standing → Image → Option ℕ → ChangeStop → Type 0
IsStopped stands image number (stops.Fault f) = StandFault stands image f
IsStopped stands image number (stops.NoSelect loaded mended) = IsLoaded stands image number loaded mended no_select
IsStopped stands image number (stops.Full loaded mended) = IsLoaded stands image number loaded mended too_large
IsStopped stands image number (stops.PowerLost loaded) = WasLoaded stands image number loaded
IsStopped stands image number (stops.Device loaded) = WasLoaded stands image number loaded
IsStopped stands image number stops.Memory = Unit {0}

-- what a change answers, by the image at entry and the one at its end
abbrev pub Answers : Standing → Image → Image → Option ℕ → Result Changed ChangeStop → Type 0
Answers stands before after number (Ok done) = IsDone stands before after number done
Answers stands before after number (Err stop) = IsStopped stands before number stop

-- the image stands for what was, or for what is after the change
pub record IsEitherOf (stands : Standing) (found : Recovered) (tree : Tree) (number : Option ℕ) (image : Image) : Type 0 where
  pub state : HiveState
  pub stands_for : StandsFor stands state image
  pub is_one : (state ≡ held_state found tree) ⊎ (state ≡ after_change found tree (change_of (version_of found.base.minor) tree number))

-- the image stands for the tree as it is to be, and there is nothing to repair
abbrev pub StandsAfter : Standing → Recovered → Tree → Option ℕ → Image → Type 0
StandsAfter stands found tree number image =
    StandsClean stands (after_change found tree (change_of (version_of found.base.minor) tree number)) image

-- an answer by the tree: there was nothing to do, or the change was made or refused
abbrev pub IsDecided : Result Changed ChangeStop → Type 0
IsDecided (Ok done) = Unit {0}
IsDecided (Err (stops.Fault f)) = ⊥
IsDecided (Err (stops.NoSelect loaded mended)) = Unit {0}
IsDecided (Err (stops.Full loaded mended)) = Unit {0}
IsDecided (Err (stops.PowerLost loaded)) = ⊥
IsDecided (Err (stops.Device loaded)) = ⊥
IsDecided (Err stops.Memory) = ⊥

-- the power was lost, the device failed, memory was lacking
abbrev pub IsLost : Result Changed ChangeStop → Type 0
IsLost (Ok done) = ⊥
IsLost (Err (stops.Fault f)) = ⊥
IsLost (Err (stops.NoSelect loaded mended)) = ⊥
IsLost (Err (stops.Full loaded mended)) = ⊥
IsLost (Err (stops.PowerLost loaded)) = Unit {0}
IsLost (Err (stops.Device loaded)) = ⊥
IsLost (Err stops.Memory) = ⊥

abbrev pub IsFailed : Result Changed ChangeStop → Type 0
IsFailed (Ok done) = ⊥
IsFailed (Err (stops.Fault f)) = ⊥
IsFailed (Err (stops.NoSelect loaded mended)) = ⊥
IsFailed (Err (stops.Full loaded mended)) = ⊥
IsFailed (Err (stops.PowerLost loaded)) = ⊥
IsFailed (Err (stops.Device loaded)) = Unit {0}
IsFailed (Err stops.Memory) = ⊥

abbrev pub IsLacking : Result Changed ChangeStop → Type 0
IsLacking (Ok done) = ⊥
IsLacking (Err (stops.Fault f)) = ⊥
IsLacking (Err (stops.NoSelect loaded mended)) = ⊥
IsLacking (Err (stops.Full loaded mended)) = ⊥
IsLacking (Err (stops.PowerLost loaded)) = ⊥
IsLacking (Err (stops.Device loaded)) = ⊥
IsLacking (Err stops.Memory) = Unit {0}
