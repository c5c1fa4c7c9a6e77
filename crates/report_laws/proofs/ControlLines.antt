-- The lines of `control`, read from their objects.
use Rattle.std.proofs.Common.{◌≡◌, ℕ, List, [], ◌∷◌, ◌++◌, Option, Some, None, refl, true}
use Rattle.std.specs.Prelude.{codes}
use Rattle.std.specs.Option.{option_map_or}
use Rattle.hive_model.specs.Tree.{Tree}
use Rattle.report_words.specs.declared.words.Verdict.TheVariants.{NoControlSet}
use Rattle.report_words.specs.declared.line.Line.TheVariants.{Verdict as VerdictLine, End as EndLine}
use Rattle.start_model.specs.Lines.{line_text}
use Rattle.report_text.specs.declared.line_text.form.ReportForm.{ReportForm}
use Rattle.report_text.specs.declared.line_text.form.ReportForm.TheVariants as forms
use Rattle.report_text.specs.line_objects.Objects as objects
use Rattle.json_laws.specs.Reports.{Said, IsRead, IsReport, printed}
use Rattle.json_laws.proofs.ReportLemmas.{both, same, report_of_lines}
use Rattle.report_laws.specs.report_json_laws.Starts.{said_of}
use Rattle.dependencies.specs.Work.{names_of}
use Rattle.service_control.specs.State.{ControlState}
use Rattle.service_control.specs.Calls.{start_refusal, stop_refusal, off_refusal, new_of, after_start, after_stop, after_stop_all, stopped_by}
use Rattle.service_control.specs.First.{control_of}
use Rattle.service_control.specs.declared.stop.ControlStop.{ControlStop}
use Rattle.service_control.specs.declared.stop.ControlStop.TheVariants.{NoService, Disabled, Running, NotStarted, Missing, NeedDisabled, InUse, Unmet, Memory}
use Rattle.control_command.specs.declared.command.ControlCommand.{ControlCommand}
use Rattle.control_command.specs.declared.command.ControlCommand.TheVariants.{Start, Stop, StopAll, Listing}
use Rattle.control_command.specs.Report.{name_line_in, name_lines_in, refused_json, refused_line_in, end_line_in, no_set_lines_in, unless_in, spelled, answer_in, answer_to, answers_in, default_set, report_in, stop_text}
use Rattle.report_laws.specs.command_json_laws.Control.{name_said, names_said, refused_said, unless_said, answer_said, answers_said, no_set_said, control_said, control_reader}
use Rattle.report_laws.proofs.OneLine.{one_line, start_line}
use Rattle.report_laws.specs.command_json_laws.Texts.{is_line, AreLines}
use Rattle.report_laws.proofs.TextParts.{Inside, has_no_end, part, name_inside, onto, ends, both_lines, each_line}
use Rattle.report_laws.proofs.StartTexts.{starts_are_lines}

-- ---- lines

name_report : (word name : List ℕ) → IsRead control_reader (name_said word name)
    → IsReport control_reader (λ form. name_line_in form word name) (name_said word name ∷ [])
name_report word name is_read =
    one_line control_reader (λ form. name_line_in form word name) (name_said word name) refl refl is_read

name_whole : (word : List ℕ) (form : ReportForm) (name : List ℕ) → name_line_in form word name ≡ printed form (name_said word name)
name_whole word forms.Text name = refl
name_whole word forms.Json name = refl

names_report : (word : List ℕ) → ((name : List ℕ) → IsRead control_reader (name_said word name)) → (names : List (List ℕ))
    → IsReport control_reader (λ form. name_lines_in form word names) (names_said word names)
names_report word is_read names =
    report_of_lines (λ form name. name_line_in form word name) (name_said word) control_reader (name_whole word) is_read names

started_read : (name : List ℕ) → IsRead control_reader (name_said (codes "started") name)
started_read name = record { words = refl; back = refl }

stopped_read : (name : List ℕ) → IsRead control_reader (name_said (codes "stopped") name)
stopped_read name = record { words = refl; back = refl }

running_read : (name : List ℕ) → IsRead control_reader (name_said (codes "running") name)
running_read name = record { words = refl; back = refl }

refused_read : (command name : List ℕ) (stop : ControlStop) → IsRead control_reader (refused_said command name stop)
refused_read command name NoService = record { words = refl; back = refl }
refused_read command name Disabled = record { words = refl; back = refl }
refused_read command name Running = record { words = refl; back = refl }
refused_read command name NotStarted = record { words = refl; back = refl }
refused_read command name (Missing other) = record { words = refl; back = refl }
refused_read command name (NeedDisabled other) = record { words = refl; back = refl }
refused_read command name (InUse other) = record { words = refl; back = refl }
refused_read command name Unmet = record { words = refl; back = refl }
refused_read command name Memory = record { words = refl; back = refl }

refused_report : (command name : List ℕ) (stop : ControlStop)
    → IsReport control_reader (λ form. refused_line_in form command name stop) (refused_said command name stop ∷ [])
unfolding refused_json
refused_report command name stop =
    one_line control_reader (λ form. refused_line_in form command name stop) (refused_said command name stop) refl refl
    (refused_read command name stop)

-- ---- a command

unless_report : (why : Option ControlStop) (command name : List ℕ) (c next : ControlState) (text : ReportForm → List ℕ) (lines : List Said)
    → IsReport control_reader text lines
    → IsReport control_reader (λ form. (unless_in form why command name c (record { text = text form; state = next })).text)
    (unless_said why command name lines)
unless_report None command name c next text lines done = done
unless_report (Some stop) command name c next text lines done = refused_report command name stop

answer_report : (c : ControlState) (command : ControlCommand)
    → IsReport control_reader (λ form. (answer_in form c command).text) (answer_said c command)
answer_report c (Start name) =
    unless_report (start_refusal c name) (codes "start") name c (after_start c name)
    (λ form. name_lines_in form (codes "started") (names_of (new_of c name))) (names_said (codes "started") (names_of (new_of c name)))
    (names_report (codes "started") started_read (names_of (new_of c name)))
answer_report c (Stop name) =
    unless_report (stop_refusal c name) (codes "stop") name c (after_stop c name)
    (λ form. name_line_in form (codes "stopped") (spelled c name)) (name_said (codes "stopped") (spelled c name) ∷ [])
    (name_report (codes "stopped") (spelled c name) (stopped_read (spelled c name)))
answer_report c (StopAll name) =
    unless_report (off_refusal c name) (codes "stopall") name c (after_stop_all c name)
    (λ form. name_lines_in form (codes "stopped") (stopped_by c name)) (names_said (codes "stopped") (stopped_by c name))
    (names_report (codes "stopped") stopped_read (stopped_by c name))
answer_report c Listing = names_report (codes "running") running_read (names_of c.running)

-- what is known of the services then is the same in either form
unless_state : (why : Option ControlStop) (command name : List ℕ) (c next : ControlState) (text : ReportForm → List ℕ) (form : ReportForm)
    → (unless_in form why command name c (record { text = text form; state = next })).state
    ≡ (unless_in forms.Text why command name c (record { text = text forms.Text; state = next })).state
unless_state None command name c next text form = refl
unless_state (Some stop) command name c next text form = refl

answer_state : (c : ControlState) (command : ControlCommand) (form : ReportForm) → (answer_in form c command).state ≡ (answer_to c command).state
answer_state c (Start name) form =
    unless_state (start_refusal c name) (codes "start") name c (after_start c name)
    (λ f. name_lines_in f (codes "started") (names_of (new_of c name))) form
answer_state c (Stop name) form =
    unless_state (stop_refusal c name) (codes "stop") name c (after_stop c name)
    (λ f. name_line_in f (codes "stopped") (spelled c name)) form
answer_state c (StopAll name) form =
    unless_state (off_refusal c name) (codes "stopall") name c (after_stop_all c name)
    (λ f. name_lines_in f (codes "stopped") (stopped_by c name)) form
answer_state c Listing form = refl

-- ---- the whole

end_whole : (form : ReportForm) → end_line_in form ≡ objects.printed form EndLine
unfolding line_text
end_whole forms.Text = refl
end_whole forms.Json = refl

end_report : IsReport control_reader end_line_in (said_of EndLine ∷ [])
end_report =
    same control_reader (λ form. objects.printed form EndLine) end_line_in (said_of EndLine ∷ []) end_whole
    (start_line control_reader EndLine (λ fields. refl))

answers_report : (c : ControlState) (commands : List ControlCommand)
    → IsReport control_reader (λ form. answers_in form c commands) (answers_said c commands)
answers_report c [] = end_report
answers_report c (command ∷ more) =
    let next : ControlState = (answer_to c command).state in
    same control_reader (λ form. (answer_in form c command).text ++ answers_in form next more) (λ form. answers_in form c (command ∷ more))
    (answer_said c command ++ answers_said next more)
    (λ form. (λ i. (answer_in form c command).text ++ answers_in form (answer_state c command form i) more))
    (both control_reader (λ form. (answer_in form c command).text) (λ form. answers_in form next more) (answer_said c command)
    (answers_said next more) (answer_report c command) (answers_report next more))

no_set_whole : (form : ReportForm) → no_set_lines_in form ≡ objects.printed form (VerdictLine NoControlSet) ++ objects.printed form EndLine
unfolding line_text
no_set_whole forms.Text = refl
no_set_whole forms.Json = refl

no_set_report : IsReport control_reader no_set_lines_in no_set_said
no_set_report =
    same control_reader (λ form. objects.printed form (VerdictLine NoControlSet) ++ objects.printed form EndLine) no_set_lines_in no_set_said
    no_set_whole
    (both control_reader (λ form. objects.printed form (VerdictLine NoControlSet)) (λ form. objects.printed form EndLine)
    (said_of (VerdictLine NoControlSet) ∷ []) (said_of EndLine ∷ [])
    (start_line control_reader (VerdictLine NoControlSet) (λ fields. refl)) (start_line control_reader EndLine (λ fields. refl)))

by_set : (set : Option Tree) (commands : List ControlCommand)
    → IsReport control_reader (λ form. option_map_or (λ s. answers_in form (control_of s) commands) set (no_set_lines_in form))
    (option_map_or (λ s. answers_said (control_of s) commands) set no_set_said)
by_set None commands = no_set_report
by_set (Some set) commands = answers_report (control_of set) commands

pub control_report : (tree : Tree) (commands : List ControlCommand)
    → IsReport control_reader (λ form. report_in form tree commands) (control_said tree commands)
control_report tree commands = by_set (default_set tree) commands

-- ---- each text is one line

named_line : (word name : List ℕ) → has_no_end word ≡ true → is_line (name_said word name).text ≡ true
named_line word name e = ends (onto (onto (part word e) (part (codes " ") refl)) (name_inside name)) (codes "\n") refl

named_lines : (word : List ℕ) (names : List (List ℕ)) → has_no_end word ≡ true → AreLines (names_said word names)
named_lines word names e = each_line (name_said word) (λ name. named_line word name e) names

stop_inside : (stop : ControlStop) → Inside (stop_text stop)
stop_inside NoService = part (codes "no-service") refl
stop_inside Disabled = part (codes "disabled") refl
stop_inside Running = part (codes "running") refl
stop_inside NotStarted = part (codes "not-started") refl
stop_inside (Missing name) = onto (part (codes "missing ") refl) (name_inside name)
stop_inside (NeedDisabled name) = onto (part (codes "need-disabled ") refl) (name_inside name)
stop_inside (InUse name) = onto (part (codes "in-use ") refl) (name_inside name)
stop_inside Unmet = part (codes "unmet") refl
stop_inside Memory = part [] refl

refused_line : (command name : List ℕ) (stop : ControlStop) → has_no_end command ≡ true
    → is_line (refused_said command name stop).text ≡ true
refused_line command name stop e =
    ends (onto (onto (onto (onto (onto (part (codes "refused ") refl) (part command e)) (part (codes " ") refl)) (name_inside name))
    (part (codes " ") refl)) (stop_inside stop)) (codes "\n") refl

unless_lines : (why : Option ControlStop) (command name : List ℕ) (done : List Said) → has_no_end command ≡ true → AreLines done
    → AreLines (unless_said why command name done)
unless_lines None command name done e of_done = of_done
unless_lines (Some stop) command name done e of_done = (refused_line command name stop e, tt)

answer_lines : (c : ControlState) (command : ControlCommand) → AreLines (answer_said c command)
answer_lines c (Start name) =
    unless_lines (start_refusal c name) (codes "start") name (names_said (codes "started") (names_of (new_of c name))) refl
    (named_lines (codes "started") (names_of (new_of c name)) refl)
answer_lines c (Stop name) =
    unless_lines (stop_refusal c name) (codes "stop") name (name_said (codes "stopped") (spelled c name) ∷ []) refl
    (named_line (codes "stopped") (spelled c name) refl, tt)
answer_lines c (StopAll name) =
    unless_lines (off_refusal c name) (codes "stopall") name (names_said (codes "stopped") (stopped_by c name)) refl
    (named_lines (codes "stopped") (stopped_by c name) refl)
answer_lines c Listing = named_lines (codes "running") (names_of c.running) refl

answers_lines : (c : ControlState) (commands : List ControlCommand) → AreLines (answers_said c commands)
answers_lines c [] = starts_are_lines (EndLine ∷ [])
answers_lines c (command ∷ more) =
    both_lines (answer_said c command) (answers_said (answer_to c command).state more) (answer_lines c command)
    (answers_lines (answer_to c command).state more)

set_lines : (set : Option Tree) (commands : List ControlCommand)
    → AreLines (option_map_or (λ s. answers_said (control_of s) commands) set no_set_said)
set_lines None commands = starts_are_lines (VerdictLine NoControlSet ∷ EndLine ∷ [])
set_lines (Some set) commands = answers_lines (control_of set) commands

pub control_lines : (tree : Tree) (commands : List ControlCommand) → AreLines (control_said tree commands)
control_lines tree commands = set_lines (default_set tree) commands
