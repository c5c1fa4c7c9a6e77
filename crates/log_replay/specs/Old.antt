-- Which old log is applied where no entry was, and what does it make of the hive? (this project's own)
use Rattle.std.specs.Prelude.{◌==◌, Bool, true, ℕ, if◌then◌else◌, List, [], ◌∷◌, Option, Some, None}
use Rattle.hive_model.specs.Base.{Base}
use Rattle.windows_logs.specs.log_parts.Pages.{put_pages}
use Rattle.windows_logs.specs.declared.dirt_log.reading.OldReading.{OldReading}
use Rattle.windows_logs.specs.declared.dirt_log.reading.OldReading.TheVariants as old
use Rattle.windows_logs.specs.dirt_log.Dirt.{old_pages_of}
use Rattle.log_replay.specs.declared.reading.LogReading.{LogReading}
use Rattle.log_replay.specs.declared.reading.LogReading.TheVariants.{Empty, Broken, New, Old}
use Rattle.log_replay.specs.declared.reading.GivenLog.{GivenLog}
use Rattle.log_replay.specs.declared.old.WholeOld.{WholeOld}
use Rattle.log_replay.specs.Entries.{roomy}

-- a whole old log: its base block, and how many sectors it has
abbrev pub whole_as : Base → OldReading → Option WholeOld
whole_as base (old.Broken fault) = None
whole_as base (old.OtherStamp number) = None
whole_as base (old.OtherNumber number) = None
whole_as base (old.Whole number sectors) = Some (record { base = base; sectors = sectors })

abbrev pub whole_old : LogReading → Option WholeOld
whole_old Empty = None
whole_old (Broken fault) = None
whole_old (New run) = None
whole_old (Old base reading) = whole_as base reading

-- a whole old log, and its file
pub record ChosenOld : Type 0 where
  pub log : GivenLog
  pub whole : WholeOld

-- any number will do, or this one alone
abbrev pub is_wanted : Option ℕ → ℕ → Bool
is_wanted None number = true
is_wanted (Some wanted) number = number == wanted

-- the log where it is a whole old one of such a number
abbrev pub wanted_as : GivenLog → Option ℕ → Option WholeOld → Option ChosenOld
wanted_as log wanted None = None
wanted_as log wanted (Some whole) = if is_wanted wanted whole.base.first then Some (record { log = log; whole = whole }) else None

abbrev pub wanted_old : GivenLog → Option ℕ → Option ChosenOld
wanted_old log wanted = wanted_as log wanted (whole_old log.reading)

abbrev pub first_of : Option ChosenOld → Option ChosenOld → Option ChosenOld
first_of None other = other
first_of (Some chosen) other = Some chosen

-- the first whole old log of such a number
abbrev pub first_old : List GivenLog → Option ℕ → Option ChosenOld
first_old [] wanted = None
first_old (log ∷ logs) wanted = first_of (wanted_old log wanted) (first_old logs wanted)

-- the first whose number is the hive's first, else the first
abbrev pub chosen_old : List GivenLog → ℕ → Option ChosenOld
chosen_old logs first = first_of (first_old logs (Some first)) (first_old logs None)

-- its sectors are written
abbrev pub with_old : List ℕ → ChosenOld → List ℕ
with_old file c = put_pages (roomy file c.whole.base.size) (old_pages_of c.log.bytes c.whole.base.size)
