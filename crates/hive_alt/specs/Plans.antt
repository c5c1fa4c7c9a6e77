-- What is planned for a tree whose default set is to change. (This project's own.)
use Rattle.std.specs.Prelude.{◌≡◌, ℕ, Bool, Some, Result, Ok, Err, List, [], ◌∷◌}
use Rattle.nt_bytes.specs.declared.version.HiveVersion.{HiveVersion}
use Rattle.nt_bytes.specs.declared.fault.ReadStop.{ReadStop}
use Rattle.nt_bytes.specs.declared.fault.ReadStop.TheVariants as read
use Rattle.hive_model.specs.Base.{Base}
use Rattle.hive_model.specs.Edit.{Step, set_value}
use Rattle.hive_model.specs.Image.{Image}
use Rattle.hive_model.specs.Load.{Holds, HeldFault}
use Rattle.hive_model.specs.Recovery.{Recovered}
use Rattle.hive_model.specs.Tree.{Tree}
use Rattle.std.specs.Int.{w32, to_le_bytes}
use Rattle.hive_log.specs.declared.stops.LoadStop.{LoadStop}
use Rattle.hive_log.specs.declared.stops.LoadStop.TheVariants as load
use Rattle.hive_commit.specs.Stages.{next_number}
use Rattle.hive_store.specs.Checks.{held_state}
use Rattle.hive_store.specs.Session.{HasTree}
use Rattle.hive_alt.specs.Changes.{Change, nothing, no_select, too_large, changed, select_path, default_name}
use Rattle.hive_alt.specs.declared.change.Changed.{Changed}
use Rattle.hive_alt.specs.declared.change.ChangeStop.{ChangeStop}
use Rattle.hive_alt.specs.declared.change.ChangeStop.TheVariants as stops
use Rattle.hive_alt.specs.declared.planning.Plan.{Plan}
use Rattle.hive_alt.specs.declared.planning.Plan.TheVariants as plans
use Rattle.hive_alt.specs.Schemes.{Standing, StandFault}

-- the step that sets the number
abbrev pub default_steps : ℕ → List Step
default_steps number = set_value select_path default_name 4 (to_le_bytes w32 number) ∷ []

-- the plan is that of the change; what is packed has the changed tree at 32
abbrev pub IsPlanOf : HiveVersion → Change → Plan → Type 0
IsPlanOf version change plans.Nothing = change ≡ nothing
IsPlanOf version change plans.NoSelect = change ≡ no_select
IsPlanOf version change plans.Full = change ≡ too_large
IsPlanOf version change (plans.Pack bytes) = (u : Tree) × (change ≡ changed u) × HasTree version bytes 32 u

-- the tree that was recovered, or its first fault
abbrev pub HeldAs : Recovered → Result Tree ReadStop → Type 0
HeldAs found (Ok t) = Holds found (held_state found t)
HeldAs found (Err (read.Fault f)) = HeldFault found f
HeldAs found (Err read.Memory) = Unit {0}

-- a fault is the first of the image; nothing is said of the other stops
abbrev pub IsStandStop : Standing → Image → LoadStop → Type 0
IsStandStop stands image (load.Fault f) = StandFault stands image f
IsStandStop stands image load.PowerLost = Unit {0}
IsStandStop stands image load.Device = Unit {0}
IsStandStop stands image load.Memory = Unit {0}

-- the image stands for what was found, which holds the tree
pub record IsFound (stands : Standing) (image : Image) (found : Recovered) (tree : Tree) : Type 0 where
  pub read : stands image ≡ Ok found
  pub holds : Holds found (held_state found tree)

-- after a fault this holds
abbrev pub AfterFault : {T : Type 0} → Result T LoadStop → Type 0 → Type 0
AfterFault (Ok x) fact = Unit {0}
AfterFault (Err (load.Fault f)) fact = fact
AfterFault (Err load.PowerLost) fact = Unit {0}
AfterFault (Err load.Device) fact = Unit {0}
AfterFault (Err load.Memory) fact = Unit {0}

-- what is found and holds a tree, or the first fault of the image
abbrev pub ChecksFor : Standing → Image → Result (Unit {0}) ReadStop → Type 0
ChecksFor stands image (Ok u) = (found : Recovered) × (tree : Tree) × IsFound stands image found tree
ChecksFor stands image (Err (read.Fault f)) = StandFault stands image f
ChecksFor stands image (Err read.Memory) = Unit {0}

-- what a commit after a load answers
abbrev pub committed_to : ℕ → Bool → Base → Changed
committed_to number was_mended base = record { loaded = number; mended = was_mended; committed = Some (next_number base.first) }

-- a stop of the commit has the number and the repair of the load
abbrev pub IsCommitStop : ℕ → Bool → ChangeStop → Type 0
IsCommitStop number was_mended (stops.Fault f) = ⊥
IsCommitStop number was_mended (stops.NoSelect loaded mended) = ⊥
IsCommitStop number was_mended (stops.Full loaded mended) = ⊥
IsCommitStop number was_mended (stops.PowerLost loaded) = loaded ≡ Some (number, was_mended)
IsCommitStop number was_mended (stops.Device loaded) = loaded ≡ Some (number, was_mended)
IsCommitStop number was_mended stops.Memory = Unit {0}
