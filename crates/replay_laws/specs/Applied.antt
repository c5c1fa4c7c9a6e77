-- Which entries of the logs were applied, and why did it end there? (this project's own)
use Rattle.std.specs.Prelude.{◌≡◌, ◌⊎◌, ◌+◌, ℕ, true, false, List, [], ◌∷◌, Some, None}
use Rattle.windows_logs.specs.entry_log.Growing.{grows_whole}
use Rattle.log_replay.specs.declared.entries.HiveNow.{HiveNow}
use Rattle.log_replay.specs.declared.reading.GivenLog.{GivenLog}
use Rattle.log_replay.specs.Entries.{Chosen, chosen, with_entry}

-- the hive was made from the first by these entries, one after another
abbrev pub IsFoldOf : List GivenLog → List Chosen → HiveNow → HiveNow → Type 0
IsFoldOf logs [] old new = new ≡ old
IsFoldOf logs (c ∷ cs) old new =
    (chosen logs old.next ≡ Some c) × ((grows_whole c.log.bytes c.entry old.size ≡ true) × IsFoldOf logs cs (with_entry old c) new)

-- the same by some entries
abbrev pub IsFold : List GivenLog → HiveNow → HiveNow → Type 0
IsFold logs old new = (cs : List Chosen) × IsFoldOf logs cs old new

-- the entry of the next number would make a sector that is not in its pages
abbrev pub IsHeldUp : List GivenLog → HiveNow → Type 0
IsHeldUp logs hive = (c : Chosen) × ((chosen logs hive.next ≡ Some c) × (grows_whole c.log.bytes c.entry hive.size ≡ false))

-- no log has the next entry, or it is held up; or n entries more were applied
abbrev pub EndsSo : ℕ → List GivenLog → HiveNow → HiveNow → Type 0
EndsSo n logs old new = (chosen logs new.next ≡ None) ⊎ (IsHeldUp logs new ⊎ (new.applied ≡ old.applied + n))

-- no log has the next entry, or it is held up
abbrev pub EndsForGood : List GivenLog → HiveNow → Type 0
EndsForGood logs new = (chosen logs new.next ≡ None) ⊎ IsHeldUp logs new
