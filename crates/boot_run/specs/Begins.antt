-- How does a start begin that has a plan, what do events do that leave the session alone, and what does a run amount to? (this project's own)
use Rattle.std.specs.Prelude.{◌≡◌, not, ◌==◌, Bool, true, false, ℕ, length, Option, Some, None, Result, Ok, Err}
use Rattle.hive_model.specs.Tree.{Tree}
use Rattle.hive_model.specs.Edit.{Refusal}
use Rattle.nt_edge.specs.Bench.{armed}
use Rattle.nt_edge.specs.Crash.{EachCrash}
use Rattle.nt_edge.specs.Disk.{DiskState}
use Rattle.nt_edge.specs.Host.{HostState}
use Rattle.hive_store.specs.Session.{Session}
use Rattle.report_words.specs.declared.words.Verdict.{Verdict}
use Rattle.reg_tree.specs.declared.steps.TreeStep.{TreeStep}
use Rattle.reg_tree.specs.Makes.{step_of}
use Rattle.select_keys.specs.declared.stop.SelectStop.{SelectStop}
use Rattle.select_keys.specs.declared.stop.SelectStop.TheVariants as stops
use Rattle.report_words.specs.declared.words.Verdict.TheVariants as verdicts
use Rattle.start_model.specs.Sets.{SetPlan, SetStop, NoControlSet, NoLastKnownGood, NoFreeNumber, is_usable, select_numbers_of}
use Rattle.start_model.specs.Events as book
use Rattle.start_model.specs.Events.{Event, Fail, Vital, Edits, Arm}
use Rattle.start_model.specs.Machine.{MachineState, failing, requiring}
use Rattle.start_model.specs.Report.{Going}
use Rattle.start_model.specs.Fits.{MayLoad}
use Rattle.start_model.specs.Summary.{no_summary}
use Rattle.start_model.specs.Act.{RunState, Act, done, end_with, with_machine}
use Rattle.start_model.specs.Boot.{begin_with}
use Rattle.start_model.specs.EventActs.{arm_act}
use Rattle.start_model.specs.Run.{reached}
use Rattle.report_text.specs.declared.line_text.form.ReportForm.{ReportForm}
use Rattle.run_parts.specs.printed_parts.Parts.{Told, Goes, RunBreaks}
use Rattle.boot_run.specs.Agrees.{IsUp, IsDown, IsEnding}
use Rattle.boot_run.specs.Views.{summary_in}
use Rattle.boot_run.specs.declared.summary.Summary.{Summary}
use Rattle.boot_run.specs.declared.stop.RunStop.{RunStop}

-- ---- the beginning of a start

-- the plan is the book's, or the book has none for the stated reason; of lack of memory nothing is printed
abbrev pub Planned : Result SetPlan SelectStop → Result SetPlan SetStop → Type 0
Planned (Ok made) plan = plan ≡ Ok made
Planned (Err stops.NoControlSet) plan = plan ≡ Err NoControlSet
Planned (Err stops.NoLastKnownGood) plan = plan ≡ Err NoLastKnownGood
Planned (Err stops.NoFreeNumber) plan = plan ≡ Err NoFreeNumber
Planned (Err stops.Memory) plan = Unit {0}

-- after the `set` line: the tree of the plan is committed where it has steps, and the start begins; or it ends as full
abbrev pub begin_planned : Bool → RunState → SetPlan → Result Tree Refusal → Act
begin_planned on_good m plan (Ok t) =
    begin_with on_good (record { chosen = plan.chosen; numbers = plan.numbers; has_steps = not (length plan.steps == 0); tree = t }) m
begin_planned on_good m plan (Err why) = end_with verdicts.Full false m

-- a set was found with its plan, or the start ends with a verdict
abbrev pub SetLeft : (RunState → SetPlan → Act) → RunState → Result SetPlan Verdict → Act → Type 0
SetLeft next m (Ok plan) rest = rest ≡ next m plan
SetLeft next m (Err word) rest = (rest ≡ end_with word false m) × IsEnding word

-- the number names a set of the tree, and is the current one
pub record IsTaken (tree : Tree) (number : ℕ) : Type 0 where
  pub there : is_usable tree number ≡ true
  pub current : (select_numbers_of tree).current ≡ number

-- there is a session on a disk that is on, or no session, and the disk is off
abbrev pub IsUpOrDown : DiskState → Option Session → Type 0
IsUpOrDown disk None = IsDown disk
IsUpOrDown disk (Some hive) = IsUp hive disk

-- ---- events that leave the session alone

-- failures and vital names are noted, and stops are ordered; other events do nothing
abbrev pub aside_machine : Event → MachineState → MachineState
aside_machine (Fail name count) k = failing name count k
aside_machine (Vital name) k = requiring name k
aside_machine e k = k

abbrev pub aside_disk : Event → DiskState → DiskState
aside_disk (Arm arming) disk = armed arming disk
aside_disk e disk = disk

abbrev pub aside_act : Event → RunState → Act
aside_act (Fail name count) m = done (with_machine (failing name count m.machine) m)
aside_act (Vital name) m = done (with_machine (requiring name m.machine) m)
aside_act (Arm arming) m = arm_act arming m
aside_act e m = done m

-- the step is that of the edit, where the event is one
abbrev pub IsStepOf : ℕ → Event → TreeStep → Type 0
IsStepOf number (Edits e) step = step_of step ≡ book.step_of number e
IsStepOf number e step = Unit {0}

-- the event is an edit
abbrev pub IsEdit : Event → Type 0
IsEdit (Edits e) = Unit {0}
IsEdit e = ⊥

-- ---- a run

-- all of it was played
pub record Played (whole : Going) (told told' : Told) (old new : DiskState) : Type 0 where
  pub last : RunState
  pub goes : Goes whole (reached last) told told' old new
  pub left : EachCrash new (MayLoad last.disk)

-- all of it was played, or it was given up
abbrev pub RunsOr : {T E : Type 0} → Going → Told → Told → DiskState → DiskState → Result T E → Type 0
RunsOr whole told told' old new (Ok x) = Played whole told told' old new
RunsOr whole told told' old new (Err e) = RunBreaks whole told told'.said old new

-- what was reported before a run whose lines are printed in this form
abbrev pub untold : ReportForm → HostState → Told
untold form host = record { said = host.said; form = form; summary = no_summary }

-- what was reported in it: the summary is the answer
abbrev pub answered : ReportForm → HostState → Result Summary RunStop → Told
answered form host (Ok summary) = record { said = host.said; form = form; summary = summary_in summary }
answered form host (Err stop) = untold form host
