-- Which segments of lists need not be judged again (this project's own)?
--
-- What stands only grows, so that a segment that isn't clear of it once never is again. Of a list that is remembered the segments
-- before the least such one are watched: what is used since is looked up among these.
use Rattle.std.specs.Prelude.{◌≡◌, ◌<◌, ◌≤◌, ◌+◌, ◌*◌, ◌==◌, ℕ, min, false, if◌then◌else◌, List, [], ◌∷◌, ◌++◌, length, take, slice_get, Option, None, Some, Result, Ok, Err}
use Rattle.std.specs.Ordering.{nat_cmp}
use Rattle.std.specs.BTreeMap.{BTreeMap, get}
use Rattle.nt_bytes.specs.declared.fault.ReadStop.{ReadStop}
use Rattle.nt_bytes.specs.declared.fault.ReadStop.TheVariants as stops
use Rattle.hive_model.specs.Lists.{numbers_in}
use Rattle.salvage_bins.specs.Ground.{Ground}
use Rattle.salvage_walk.specs.declared.claims.Claim.{Claim}
use Rattle.salvage_walk.specs.declared.lists.Watch.{Watch}
use Rattle.salvage_walk.specs.declared.lists.Lists.{Lists}
use Rattle.salvage_walk.specs.Clear.{IsClear, Stand}

-- each is the use of a full segment
abbrev pub AreFull : List Claim → Type 0
AreFull list = (i : ℕ) (s : Claim) → slice_get list i ≡ Some s → s.end ≡ s.at + 16348

-- these are the first segments of the list in the cell at an offset, and stand where nothing else does
abbrev pub AreFirst : Ground → ℕ → List Claim → Type 0
AreFirst hive at list = (payload : List ℕ) → hive.cells.payload at ≡ Ok payload → Stand hive [] (numbers_in 4 (length list) payload) list

-- the same of each list that is remembered
abbrev pub AreKnown : Ground → BTreeMap ℕ (List Claim) → Type 0
AreKnown hive lists = (at : ℕ) (list : List Claim) → get nat_cmp lists at ≡ Some list → AreFirst hive at list

-- ---- watches

-- the number that stands for a place and a list, in the order of places
abbrev pub watch_key : ℕ → ℕ → ℕ
watch_key at list = 4294967296 * at + list

-- an entry at a place is watched, or one before it
pub record IsWatched (watches : BTreeMap ℕ Watch) (list i at : ℕ) : Type 0 where
  pub number : ℕ
  pub there : get nat_cmp watches (watch_key at list) ≡ Some (record { list = list; number = number })
  pub before : number ≤ i

-- the watches of other lists are kept
abbrev pub KeepsOthers : ℕ → BTreeMap ℕ Watch → BTreeMap ℕ Watch → Type 0
KeepsOthers list old new = (other i at : ℕ) → other < 4294967296 → (other == list) ≡ false → IsWatched old other i at → IsWatched new other i at

-- the entries before this number
abbrev pub AreClearBelow : List Claim → List Claim → ℕ → Type 0
AreClearBelow claims list n = (i : ℕ) (s : Claim) → i < n → slice_get list i ≡ Some s → IsClear claims s

abbrev pub AreWatchedBelow : BTreeMap ℕ Watch → ℕ → List Claim → ℕ → Type 0
AreWatchedBelow watches at list n = (i : ℕ) (s : Claim) → i < n → slice_get list i ≡ Some s → IsWatched watches at i s.at

-- of each list the entries before its least one are clear of these uses and watched
pub record AreWatched (claims : List Claim) (lists : BTreeMap ℕ (List Claim)) (least : BTreeMap ℕ ℕ) (watches : BTreeMap ℕ Watch) : Type 0 where
  pub clear : (at : ℕ) (list : List Claim) (n : ℕ) → at < 4294967296 → get nat_cmp lists at ≡ Some list → get nat_cmp least at ≡ Some n
      → AreClearBelow claims list n
  pub watched : (at : ℕ) (list : List Claim) (n : ℕ) → at < 4294967296 → get nat_cmp lists at ≡ Some list → get nat_cmp least at ≡ Some n
      → AreWatchedBelow watches at list n
  pub full : (at : ℕ) (list : List Claim) → get nat_cmp lists at ≡ Some list → AreFull list

-- the least one of a list, after this number of another
abbrev pub lowered : ℕ → ℕ → ℕ → Option ℕ → Option ℕ
lowered list number at (Some n) = Some (if at == list then min number n else n)
lowered list number at None = None

-- one use more
abbrev pub KeepsWatch : Claim → BTreeMap ℕ ℕ → BTreeMap ℕ Watch → BTreeMap ℕ ℕ → BTreeMap ℕ Watch → Type 0
KeepsWatch c least watches least2 watches2 =
    (claims : List Claim) (lists : BTreeMap ℕ (List Claim)) → AreWatched claims lists least watches
    → AreWatched (claims ++ c ∷ []) lists least2 watches2

-- ---- both

-- the first of these uses, as many as were looked up
pub record Follows (claims : List Claim) (l : Lists) : Type 0 where
  pub watched : AreWatched (take l.seen claims) l.lists l.least l.watches
  pub few : l.seen ≤ length claims

pub record Remembers (hive : Ground) (claims : List Claim) (l : Lists) : Type 0 where
  pub known : AreKnown hive l.lists
  pub follows : Follows claims l

-- where there was memory
abbrev pub KeepsLists : {X : Type 0} → Ground → List Claim → Lists → Result X ReadStop → Type 0
KeepsLists hive claims l (Ok x) = Remembers hive claims l
KeepsLists hive claims l (Err stops.Memory) = Unit {0}
KeepsLists hive claims l (Err (stops.Fault f)) = Remembers hive claims l
