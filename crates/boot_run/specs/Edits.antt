-- What does an edit of the script say? (this project's own)
use Rattle.std.specs.Prelude.{◌≡◌, Option, Some, None, Result, Ok, Err}
use Rattle.hive_model.specs.Edit.{Refusal}
use Rattle.reg_tree.specs.Makes.{refusal_of}
use Rattle.reg_tree.specs.declared.stop.EditStop.{EditStop}
use Rattle.start_model.specs.Events.{Event}
use Rattle.report_words.specs.declared.line.Line.{Line}
use Rattle.report_words.specs.declared.line.Line.TheVariants.{EditOk as EditOkLine, Refused as RefusedLine}
use Rattle.start_model.specs.EventActs.{event_word_of, reason_of}
use Rattle.run_parts.specs.printed_parts.Parts.{Told, TellsOr}

-- the line of an edit, by how it ended; lack of memory has none
abbrev pub refusal_line : Event → Option Refusal → Option Line
refusal_line e None = None
refusal_line e (Some why) = Some (RefusedLine (event_word_of e) (reason_of why))

abbrev pub edit_line : Event → Result (Unit {0}) EditStop → Option Line
edit_line e (Ok done) = Some EditOkLine
edit_line e (Err stop) = refusal_line e (refusal_of stop)

-- nothing was printed
abbrev pub StaysSilent : {T E : Type 0} → Told → Told → Result T E → Type 0
StaysSilent old new (Ok x) = ⊥
StaysSilent old new (Err e) = new.said ≡ old.said

-- the line was reported, or a prefix of it was printed; without a line the call was given up, and nothing was printed
abbrev pub TellsLine : {T E : Type 0} → Option Line → Told → Told → Result T E → Type 0
TellsLine None old new r = StaysSilent old new r
TellsLine (Some line) old new r = TellsOr line old new r
