-- What is printed for commands, in sequence.
use Rattle.std.proofs.Common.{◌≡◌, ℕ, ◌+◌, List, ◌++◌, Option, Some, refl, sym, ap, ◌∙◌, subst}
use Rattle.std.specs.Prelude.{Result, Ok, Err, OnOk, IfOk}
use Rattle.std.specs.Option.{option_map_or}
use Rattle.service_control.specs.declared.stop.ControlStop.{ControlStop}
use Rattle.service_control.specs.declared.stop.ControlStop.TheVariants as stops
use Rattle.hive_model.specs.Tree.{Tree}
use Rattle.service_control.specs.State.{ControlState}
use Rattle.service_control.specs.First.{control_of}
use Rattle.service_control.specs.Calls.{StopsBy}
use Rattle.report_text.specs.line_text.Objects.{Value, fields_text}
use Rattle.control_command.specs.declared.command.ControlCommand.{ControlCommand}
use Rattle.control_command.specs.Report.{Answered, Adds, answers_in, default_set, no_set_lines_in, report_in, unless_in, refused_line_in, stop_fields}
use Rattle.report_text.specs.declared.line_text.form.ReportForm.{ReportForm}

-- a refusal that is no lack of memory is the reason
pub is_reason : (stop : ControlStop) (why : Option ControlStop) → StopsBy why stop → (stop ≡ stops.Memory → ⊥)
    → why ≡ Some stop
is_reason stops.NoService why s named = s
is_reason stops.Disabled why s named = s
is_reason stops.Running why s named = s
is_reason stops.NotStarted why s named = s
is_reason (stops.Missing n) why s named = s
is_reason (stops.NeedDisabled n) why s named = s
is_reason (stops.InUse n) why s named = s
is_reason stops.Unmet why s named = s
is_reason stops.Memory why s named = absurd (named refl)

-- it was refused, and the refusal was printed
pub refused_adds : (form : ReportForm) (why : Option ControlStop) (command name : List ℕ) (old control : ControlState) (done : Answered)
    (stop : ControlStop) (before after : List ℕ)
    → StopsBy why stop → (stop ≡ stops.Memory → ⊥) → control ≡ old → after ≡ before ++ refused_line_in form command name stop
    → Adds (unless_in form why command name old done) control before after
refused_adds form why command name old control done stop before after stopped named kept said =
    let P : Option ControlStop → Type 0 = λ o. Adds (unless_in form o command name old done) control before after in
    subst P (sym (is_reason stop why stopped named)) (record { state = kept; said = said })

-- the fields of a known refusal
pub fields_on : {E : Type 0} (r : Result (Unit {0}) E) (stop known : ControlStop) (fields : List (List ℕ × Value))
    (before after : List ℕ)
    → stop ≡ known → stop_fields known ≡ fields → OnOk r (after ≡ before ++ fields_text fields)
    → OnOk r (after ≡ before ++ fields_text (stop_fields stop))
fields_on (Ok x) stop known fields before after same is said =
    said ∙ ap (λ (f : List (List ℕ × Value)). before ++ fields_text f) (sym is ∙ sym (ap stop_fields same))
fields_on (Err e) stop known fields before after same is said = tt

-- the same of what a call returned; the name in the line is that of the command
pub refused_on : {E : Type 0} (form : ReportForm) (r : Result (Unit {0}) E) (why given : Option ControlStop) (command name slice : List ℕ)
    (old control : ControlState) (done : Answered) (stop : ControlStop) (before after : List ℕ)
    → given ≡ why → StopsBy given stop → control ≡ old → slice ≡ name
    → OnOk r (after ≡ before ++ refused_line_in form command slice stop) → OnOk r (stop ≡ stops.Memory → ⊥)
    → OnOk r (Adds (unless_in form why command name old done) control before after)
refused_on form (Ok x) why given command name slice old control done stop before after same stopped kept is said named =
    let P : Option ControlStop → Type 0 = λ o. StopsBy o stop in
    refused_adds form why command name old control done stop before after (subst P same stopped) named kept
    (said ∙ ap (λ n. before ++ refused_line_in form command n stop) is)
refused_on form (Err e) why given command name slice old control done stop before after same stopped kept is said named =
    said

-- the report on a tree with a set
pub report_with : {E : Type 0} (form : ReportForm) (tree set : Tree) (commands : List ControlCommand) (r : Result (List ℕ) E)
    → Some set ≡ default_set tree → IfOk r (λ t. t ≡ answers_in form (control_of set) commands)
    → IfOk r (λ t. t ≡ report_in form tree commands)
report_with form tree set commands r found h =
    let P : List ℕ → Type 0 = λ l. IfOk r (λ t. t ≡ l) in
    subst P (ap (λ o. option_map_or (λ s. answers_in form (control_of s) commands) o (no_set_lines_in form))
    found) h
