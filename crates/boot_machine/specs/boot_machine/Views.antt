-- The words of the code as those of the book.
use Rattle.std.specs.Prelude.{◌≡◌, Option, Some, None, Result, Ok, Err}
use Rattle.boot_script.specs.declared.boot_script.event.Event.{Event}
use Rattle.boot_script.specs.declared.boot_script.event.Event.TheVariants as script
use Rattle.nt_edge.specs.Book.{call_of, keep_of}
use Rattle.hive_model.specs.Image.{ArmedCut, ArmedFault}
use Rattle.start_model.specs.Events as book
use Rattle.report_words.specs.declared.words.RefusedWord.{RefusedWord}
use Rattle.report_words.specs.declared.words.RefusedWord.TheVariants as reasons
use Rattle.boot_machine.specs.declared.boot_machine.refusal.EventRefusal.{EventRefusal}
use Rattle.boot_machine.specs.declared.boot_machine.refusal.EventRefusal.TheVariants as code
use Rattle.boot_machine.specs.declared.boot_machine.tried.Tried.{Tried}
use Rattle.boot_phases.specs.error_control.Judgement.{judgement_in}
use Rattle.start_model.specs.Machine as machine

abbrev pub event_in : Event → book.Event
event_in (script.Boot entry good) = book.BootNow entry good
event_in (script.Go steps) = book.Go steps
event_in (script.Fail name count) = book.Fail name count
event_in (script.Vital name) = book.Vital name
event_in (script.Set path name kind bytes) = book.Edits (book.Set path name kind bytes)
event_in (script.Delete path name) = book.Edits (book.Delete path name)
event_in (script.Make path) = book.Edits (book.Make path)
event_in (script.Remove path) = book.Edits (book.Remove path)
event_in script.Flush = book.Flush
event_in script.Logon = book.Logon
event_in script.Off = book.Off
event_in (script.CutNow keep) = book.CutNow (keep_of keep)
event_in (script.ArmCut call n keep) = book.Arm (ArmedCut (call_of call) n (keep_of keep))
event_in (script.ArmFault call n) = book.Arm (ArmedFault (call_of call) n)

abbrev pub word_of_refusal : EventRefusal → RefusedWord
word_of_refusal code.Off = reasons.Off
word_of_refusal code.Running = reasons.Running
word_of_refusal code.Early = reasons.Early
word_of_refusal code.Again = reasons.Again
word_of_refusal code.Idle = reasons.Idle
word_of_refusal code.Protected = reasons.Protected

abbrev pub tried_in : Tried → machine.Tried
tried_in t = record { name = t.name; ok = t.ok; judgement = judgement_in t.judgement }

-- an event is taken where nothing refuses it, and refused for the stated reason otherwise
abbrev pub Answers : Result (Unit {0}) EventRefusal → Option RefusedWord → Type 0
Answers (Ok taken) why = why ≡ None
Answers (Err refusal) why = why ≡ Some (word_of_refusal refusal)
