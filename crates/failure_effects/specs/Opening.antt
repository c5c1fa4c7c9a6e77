-- What becomes of the plain start before its phases? (this project's own)
--
-- Which set is taken, and what its beginning changes, is that of the book of startup.
use Rattle.std.specs.Prelude.{ℕ, Bool, Result, Ok, Err}
use Rattle.std.specs.Option.{unwrap_or}
use Rattle.nt_bytes.specs.declared.version.HiveVersion.{HiveVersion}
use Rattle.hive_model.specs.Tree.{Tree}
use Rattle.hive_model.specs.Edit.{Refusal}
use Rattle.hive_model.specs.Valid.{HoldsKeys}
use Rattle.start_model.specs.Sets as sets
use Rattle.start_model.specs.Sets.{SetChange, ChangeStop, NoPlan, NoControlSet, NoLastKnownGood, NoFreeNumber, select_numbers_of, taken_number, begin_of}
use Rattle.start_model.specs.Starter.{no_set, good_is_usable}
use Rattle.select_keys.specs.Sets.{usable_set}
use Rattle.select_keys.specs.declared.stop.SelectStop.{SelectStop}
use Rattle.select_keys.specs.declared.stop.SelectStop.TheVariants as stops
use Rattle.report_words.specs.declared.words.Verdict.TheVariants as verdicts
use Rattle.failure_effects.specs.declared.opening.Opening.{Opening}
use Rattle.failure_effects.specs.declared.opening.Opening.TheVariants.{NoSet, NoPhase, Begun}
use Rattle.failure_effects.specs.declared.opening.StartChoice.{StartChoice}
use Rattle.failure_effects.specs.declared.opening.StartChoice.TheVariants.{OnSet, Ends}
use Rattle.failure_effects.specs.declared.opening.Taken.{Taken}

-- the set of a number in the tree with which the start begins; the taken one is always there
abbrev pub taken_set : Tree → ℕ → Tree
taken_set tree number = unwrap_or (usable_set tree number) no_set

-- what the start takes of the tree with which it begins
abbrev pub taken_of : Bool → ℕ → Tree → Taken
taken_of on_good number tree = record { number = number; on_good = on_good; usable = good_is_usable tree; set = taken_set tree number }

-- by what the beginning of the start makes of the tree, or why there is none
abbrev pub opened : Bool → Tree → Result SetChange ChangeStop → Opening
opened on_good tree (Ok change) = Begun (taken_of on_good change.chosen change.tree)
opened on_good tree (Err (NoPlan NoControlSet)) = NoSet verdicts.NoControlSet
opened on_good tree (Err (NoPlan NoLastKnownGood)) = NoSet verdicts.NoLastKnownGood
opened on_good tree (Err (NoPlan NoFreeNumber)) = NoPhase (taken_number (select_numbers_of tree) on_good) on_good verdicts.NoNumber
opened on_good tree (Err sets.Full) = NoPhase (taken_number (select_numbers_of tree) on_good) on_good verdicts.Full

-- what becomes of the plain start on a tree that a hive of this version loads as
abbrev pub opening_of : HiveVersion → Tree → StartChoice → Opening
opening_of version tree (OnSet on_good) = opened on_good tree (begin_of version tree on_good)
opening_of version tree (Ends verdict) = NoSet verdict

-- ---- parts of it

-- the same where there is a plan for a number: by the tree after its steps
abbrev pub opened_by : Bool → ℕ → Result Tree Refusal → Opening
opened_by on_good number (Ok tree) = Begun (taken_of on_good number tree)
opened_by on_good number (Err why) = NoPhase number on_good verdicts.Full

-- the same where there is no plan; lack of memory is no reason
abbrev pub stopped_as : SelectStop → ℕ → Bool → Opening
stopped_as stops.NoControlSet number on_good = NoSet verdicts.NoControlSet
stopped_as stops.NoLastKnownGood number on_good = NoSet verdicts.NoLastKnownGood
stopped_as stops.NoFreeNumber number on_good = NoPhase number on_good verdicts.NoNumber
stopped_as stops.Memory number on_good = NoPhase number on_good verdicts.Full

-- the taken set is one that a hive can hold
abbrev pub HoldsTaken : Opening → Type 0
HoldsTaken (NoSet verdict) = Unit {0}
HoldsTaken (NoPhase number on_good verdict) = Unit {0}
HoldsTaken (Begun taken) = HoldsKeys taken.set
