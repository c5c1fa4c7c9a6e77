-- What holds of the lines of a check? (this project's own)
use Rattle.std.specs.Prelude.{◌≡◌, ◌↔◌, ℕ, ◌<◌, Bool, true, false, ◌==◌, List, [], filter, length, Option, Contains}
use Rattle.std.specs.List.{list_all}
use Rattle.hive_model.specs.Tree.{Tree}
use Rattle.answer_lines.specs.declared.check_lines.lines.Fault.{Fault}
use Rattle.answer_lines.specs.declared.check_lines.lines.Fault.TheVariants as faults
use Rattle.answer_lines.specs.declared.check_lines.lines.CheckLine.{CheckLine}
use Rattle.answer_lines.specs.declared.check_lines.lines.CheckLine.TheVariants as lines
use Rattle.wait_cycles.specs.Waits.{needs_at, is_held, is_stuck, cycles_of}
use Rattle.service_check.specs.declared.stage.Staged.{Staged}
use Rattle.service_check.specs.Needs.{waits_of}
use Rattle.service_check.specs.Check.{found_lines, finding_count, check_lines}

-- ---- quiet

-- the line is `set`, `found 0` or `end`
abbrev pub is_quiet : CheckLine → Bool
is_quiet (lines.Set number) = true
is_quiet (lines.Select word number) = false
is_quiet lines.CurrentSetKey = false
is_quiet (lines.NoSet number) = false
is_quiet lines.NoServices = false
is_quiet lines.NoList = false
is_quiet (lines.About fault name) = false
is_quiet (lines.GroupUnlisted count group) = false
is_quiet (lines.Cycle number name) = false
is_quiet (lines.Found count) = count == 0
is_quiet lines.End = true

-- nothing is found exactly where each line is one of these
abbrev pub NothingFoundIsQuiet : Type 0
NothingFoundIsQuiet =
    (root : Tree) (asked : Option ℕ) (in_order : Bool)
    → (finding_count (found_lines root asked in_order) == 0) ≡ list_all is_quiet (check_lines root asked in_order)

-- ---- the order

-- the fault is not about a tag
abbrev pub is_plain_fault : Fault → Bool
is_plain_fault faults.NoStart = true
is_plain_fault faults.NoType = true
is_plain_fault (faults.Malformed field) = true
is_plain_fault (faults.Beyond start) = true
is_plain_fault (faults.Kind kind) = true
is_plain_fault (faults.TooEarly start) = true
is_plain_fault faults.NoControl = true
is_plain_fault (faults.ControlBeyond control) = true
is_plain_fault faults.NoImage = true
is_plain_fault (faults.NoService need) = true
is_plain_fault (faults.Never start need) = true
is_plain_fault (faults.Later start need) = true
is_plain_fault (faults.NoMember group) = true
is_plain_fault (faults.TagUnlisted tag group) = false

-- the line is not about the order of groups and tags
abbrev pub is_plain : CheckLine → Bool
is_plain (lines.Set number) = true
is_plain (lines.Select word number) = true
is_plain lines.CurrentSetKey = true
is_plain (lines.NoSet number) = true
is_plain lines.NoServices = true
is_plain lines.NoList = true
is_plain (lines.About fault name) = is_plain_fault fault
is_plain (lines.GroupUnlisted count group) = false
is_plain (lines.Cycle number name) = true
is_plain (lines.Found count) = true
is_plain lines.End = true

-- without the order the same is found, but for these lines
abbrev pub OrderOnlyAdds : Type 0
OrderOnlyAdds = (root : Tree) (asked : Option ℕ) → found_lines root asked false ≡ filter is_plain (found_lines root asked true)

-- ---- stuck places

-- each need of each place has a way, and its ways are places
pub record AreProper (waits : List (List (List ℕ))) : Type 0 where
  pub some : (p : ℕ) (ways : List ℕ) → Contains (needs_at waits p) ways → (q : ℕ) × Contains ways q
  pub within : (p : ℕ) (ways : List ℕ) (q : ℕ) → Contains (needs_at waits p) ways → Contains ways q → q < length waits

-- so it is with the good needs of entries
abbrev pub GoodNeedsAreProper : Type 0
GoodNeedsAreProper = (rows : List Staged) → AreProper (waits_of rows)

-- each place of the set has a need all of whose ways are in the set
abbrev pub HoldsItself : List (List (List ℕ)) → (ℕ → Bool) → Type 0
HoldsItself waits set = (p : ℕ) → p < length waits → set p ≡ true → is_held waits set p ≡ true

-- so has each stuck place of the stuck ones
abbrev pub StuckHoldsItself : Type 0
StuckHoldsItself = (waits : List (List (List ℕ))) → HoldsItself waits (is_stuck waits)

-- each such set has stuck places alone
abbrev pub StuckIsGreatest : Type 0
StuckIsGreatest =
    (waits : List (List (List ℕ))) (set : ℕ → Bool) → AreProper waits → HoldsItself waits set → (p : ℕ) → p < length waits
    → set p ≡ true → is_stuck waits p ≡ true

-- there is no cycle exactly where no entry is stuck
abbrev pub NoCycleNoneStuck : Type 0
NoCycleNoneStuck =
    (rows : List Staged)
    → (cycles_of (waits_of rows) ≡ []) ↔ ((p : ℕ) → p < length (waits_of rows) → is_stuck (waits_of rows) p ≡ false)
