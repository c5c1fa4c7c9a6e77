-- What does the boot event do, from the entry that is chosen to the start's first line?
--
-- The order of a start is that of Windows Internals, 4th edition, startup; the lines and the stops are this project's own.
use Rattle.std.specs.Prelude.{ℕ, ◌+◌, Bool, false, ◌||◌, if◌then◌else◌, List, Option, Result, Ok, Err}
use Rattle.report_words.specs.declared.words.Verdict.TheVariants as verdicts
use Rattle.report_words.specs.declared.words.PhaseWord.TheVariants as phases
use Rattle.report_words.specs.declared.words.CommitWord.TheVariants as commits
use Rattle.report_words.specs.declared.line.Line.{Line}
use Rattle.report_words.specs.declared.line.Line.TheVariants.{Start as StartLine, Entry as EntryLine, Load as LoadLine, Set as SetLine, Phase as PhaseLine}
use Rattle.start_model.specs.Sets as sets
use Rattle.start_model.specs.Sets.{SelectNumbers, NoControlSet, NoLastKnownGood, NoFreeNumber, SetChange, ChangeStop, NoPlan, select_numbers_of, taken_number, begin_of}
use Rattle.start_model.specs.Machine.{begun_with, with_start}
use Rattle.start_model.specs.Possible.{Woken, settled_at, woken_at, Outcome, Finished, PowerCut, DeviceFault}
use Rattle.start_model.specs.Act.{RunState, Held, Act, done, say, ask, wake, mark, with_machine, end_with}
use Rattle.start_model.specs.Commit.{commit, select_line}
use Rattle.start_model.specs.Starter.{live_set}

-- what boot.ini has for a start: an entry, by its number and path, that is on LastKnownGood or not; or none of that number;
-- or one of another loader; or one of another system
pub data Choice : Type 0 where
  EntryTaken : (number : ℕ) → (path : List ℕ) → (last_known_good : Bool) → Choice
  NoEntry : Choice
  OtherLoader : (number : ℕ) → (path : List ℕ) → Choice
  NoSystem : (number : ℕ) → (path : List ℕ) → Choice

-- the start runs, in its boot phase
abbrev pub begun_state : ℕ → Bool → RunState → RunState
begun_state number on_good m = with_machine (with_start (begun_with (live_set m number) number on_good) m.machine) m

-- the start begins: its first line is that of the boot phase
abbrev pub begin_start : ℕ → Bool → SelectNumbers → RunState → Act
begin_start number on_good numbers m = say (select_line numbers) (say (PhaseLine phases.Boot) (done (begun_state number on_good m)))

-- where something changed, the tree is committed before the start begins
abbrev pub begin_with : Bool → SetChange → RunState → Act
begin_with on_good change m =
    if change.has_steps then commit commits.Begin change.tree m (begin_start change.chosen on_good change.numbers)
    else begin_start change.chosen on_good change.numbers m

-- the `set` line of the number that is taken
abbrev pub set_line : Bool → RunState → Line
set_line on_good m = SetLine (taken_number (select_numbers_of m.live) on_good) on_good

-- the `set` line and the beginning; or the verdict where there is none, after that line where the number names a set
abbrev pub begin_by : Bool → RunState → Result SetChange ChangeStop → Act
begin_by on_good m (Ok change) = say (set_line on_good m) (begin_with on_good change m)
begin_by on_good m (Err (NoPlan NoControlSet)) = end_with verdicts.NoControlSet false m
begin_by on_good m (Err (NoPlan NoLastKnownGood)) = end_with verdicts.NoLastKnownGood false m
begin_by on_good m (Err (NoPlan NoFreeNumber)) = say (set_line on_good m) (end_with verdicts.NoNumber false m)
begin_by on_good m (Err sets.Full) = say (set_line on_good m) (end_with verdicts.Full false m)

-- LastKnownGood or Default is taken, guard and retirement are done, and the start begins
abbrev pub take_set : Bool → RunState → Act
take_set on_good m = begin_by on_good m (begin_of m.version m.live on_good)

-- the load is done: the live tree and its numbers are those that the disk loads as
abbrev pub loaded_state : RunState → Woken → RunState
loaded_state m w =
    record m { live = w.state.tree; sequence = w.state.sequence; version = w.state.version; changed = false; disk = settled_at w.state }

-- the load was begun, and perhaps stopped
abbrev pub woken_state : RunState → Woken → RunState
woken_state m w = record m { disk = woken_at w }

-- the hive was loaded, its line is printed and a set is taken; or the load was stopped, and the start ends
abbrev pub loaded : Bool → RunState → Woken → Outcome → Act
loaded on_good m w Finished = say (LoadLine w.state.sequence w.dirty) (take_set on_good (loaded_state m w))
loaded on_good m w PowerCut = end_with verdicts.Cut false (woken_state m w)
loaded on_good m w DeviceFault = end_with verdicts.Device false (woken_state m w)

-- the disk is turned on, and what it loads as is settled
abbrev pub woken : Bool → RunState → Woken → Act
woken on_good m w = mark (Held w.state.tree) (ask (woken_at w) (loaded on_good m w))

-- the entry is printed and the disk turned on; or the start ends before that
abbrev pub chosen : Bool → RunState → Choice → Act
chosen on_good m (EntryTaken number path entry_on_good) = say (EntryLine number path) (wake m.disk (woken (on_good || entry_on_good) m))
chosen on_good m NoEntry = end_with verdicts.NoEntry false m
chosen on_good m (OtherLoader number path) = say (EntryLine number path) (end_with verdicts.OtherLoader false m)
chosen on_good m (NoSystem number path) = say (EntryLine number path) (end_with verdicts.NoSystem false m)

-- one more start was asked for, and a fallback that was due is taken
abbrev pub accepted_state : RunState → RunState
accepted_state m = record m { starts = m.starts + 1; machine = record m.machine { fallback_due = false } }

-- a fallback that is due is taken and cleared by each accepted boot
abbrev pub boot_act : (Option ℕ → Choice) → Option ℕ → Bool → RunState → Act
boot_act choice entry last_known_good m =
    say (StartLine (m.starts + 1)) (chosen (m.machine.fallback_due || last_known_good) (accepted_state m) (choice entry))
