-- When is a set saved, and which one? (this project's own)
use Rattle.std.specs.Prelude.{◌≡◌, true, List, None, Some}
use Rattle.std.specs.List.{Contains}
use Rattle.hive_model.specs.Tree.{Tree}
use Rattle.report_words.specs.declared.words.PhaseWord.TheVariants as phases
use Rattle.report_words.specs.declared.line.Line.{Line}
use Rattle.report_words.specs.declared.line.Line.TheVariants.{Logon as LogonLine, Phase as PhaseLine}
use Rattle.start_model.specs.Entries as entries
use Rattle.start_model.specs.Events.{Event, BootNow, Go, Fail, Vital, Edits, Flush, Logon, Off, CutNow, Arm}
use Rattle.start_model.specs.Machine.{Start}
use Rattle.start_model.specs.Act.{RunState}

-- by this event the start becomes good: by the logon in the last phase, or in steps that end in it, after the logon
abbrev pub BecomesGood : Event → Start → List Line → Type 0
BecomesGood Logon s said = (s.phase ≡ entries.Done) × Contains said LogonLine
BecomesGood (Go steps) s said = (s.logged_on ≡ true) × Contains said (PhaseLine phases.Done)
BecomesGood (BootNow entry good) s said = ⊥
BecomesGood (Fail name count) s said = ⊥
BecomesGood (Vital name) s said = ⊥
BecomesGood (Edits edit) s said = ⊥
BecomesGood Flush s said = ⊥
BecomesGood Off s said = ⊥
BecomesGood (CutNow keep) s said = ⊥
BecomesGood (Arm arming) s said = ⊥

-- a start runs that becomes good by the event and saved nothing yet, and the clone is its own
pub record IsSavedAfterLogon (e : Event) (m : RunState) (said : List Line) (clone : Tree) : Type 0 where
  pub start : Start
  pub runs : m.machine.start ≡ Some start
  pub unsaved : start.saved ≡ None
  pub its : start.clone ≡ Some clone
  pub good : BecomesGood e start said
