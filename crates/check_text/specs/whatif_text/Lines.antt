-- How are the lines of single failures printed? (this project's own)
use Rattle.std.specs.Prelude.{ℕ, Bool, List, [], ◌∷◌, ◌++◌, codes}
use Rattle.std.specs.List.{flat_map}
use Rattle.std.specs.Fmt.{decimal}
use Rattle.start_model.specs.Lines.{name_text, set_word, verdict_word}
use Rattle.report_words.specs.declared.words.Verdict.{Verdict}
use Rattle.boot_phases.specs.declared.error_control.outcome.Judgement.{Judgement}
use Rattle.boot_phases.specs.declared.error_control.outcome.Judgement.TheVariants as judgements
use Rattle.report_text.specs.declared.line_text.form.ReportForm.{ReportForm}
use Rattle.report_text.specs.declared.line_text.form.ReportForm.TheVariants as forms
use Rattle.report_text.specs.line_text.Objects.{Value, Number, Text, object_text}
use Rattle.failure_effects.specs.declared.lines.EffectLine.{EffectLine}
use Rattle.failure_effects.specs.declared.lines.EffectLine.TheVariants as lines
use Rattle.failure_effects.specs.declared.lines.EntryState.{EntryState}
use Rattle.failure_effects.specs.declared.lines.EntryState.TheVariants as states
use Rattle.failure_effects.specs.declared.lines.NeedWord.{NeedWord}
use Rattle.failure_effects.specs.declared.lines.NeedWord.TheVariants as needs

-- ---- words

abbrev pub state_word : EntryState → List ℕ
state_word states.Started = codes "started"
state_word states.Unmet = codes "unmet"
state_word states.Untaken = codes "untaken"
state_word states.NoEntry = codes "no-entry"

abbrev pub need_word : NeedWord → List ℕ
need_word needs.Service = codes "service"
need_word needs.Group = codes "group"

-- what follows from a failure, as the report of a run says it
abbrev pub judgement_word : Judgement → List ℕ
judgement_word judgements.Ignore = codes "ignored"
judgement_word judgements.Log = codes "logged"
judgement_word judgements.FallBack = codes "fall-back"
judgement_word judgements.Stop = codes "stop"

-- ---- texts

-- the name stands last
abbrev pub named_text : List ℕ → List ℕ → List ℕ
named_text front name = front ++ name_text name ++ codes "\n"

abbrev pub set_text : ℕ → Bool → List ℕ
set_text number on_good = codes "set " ++ decimal number ++ codes " " ++ set_word on_good ++ codes "\n"

abbrev pub verdict_text : Verdict → List ℕ
verdict_text verdict = codes "verdict " ++ verdict_word verdict ++ codes "\n"

abbrev pub of_text : EntryState → List ℕ → List ℕ
of_text state name = named_text (codes "of " ++ state_word state ++ codes " ") name

abbrev pub fail_text : Judgement → ℕ → List ℕ → List ℕ
fail_text judgement lost name = named_text (codes "fail " ++ judgement_word judgement ++ codes " " ++ decimal lost ++ codes " ") name

abbrev pub off_text : ℕ → List ℕ → List ℕ
off_text lost name = named_text (codes "off " ++ decimal lost ++ codes " ") name

abbrev pub leans_text : ℕ → NeedWord → EntryState → List ℕ → List ℕ
leans_text steps by state name =
    named_text (codes "leans " ++ decimal steps ++ codes " " ++ need_word by ++ codes " " ++ state_word state ++ codes " ") name

-- a line as a text
abbrev pub line_text : EffectLine → List ℕ
line_text lines.Start = codes "start 1\n"
line_text (lines.Set number on_good) = set_text number on_good
line_text (lines.Verdict verdict) = verdict_text verdict
line_text (lines.Of state name) = of_text state name
line_text (lines.Fail judgement lost name) = fail_text judgement lost name
line_text (lines.Off lost name) = off_text lost name
line_text (lines.Unmet name) = named_text (codes "unmet ") name
line_text (lines.Untaken name) = named_text (codes "untaken ") name
line_text (lines.Leans steps by state name) = leans_text steps by state name
line_text lines.End = codes "end\n"

-- ---- objects

abbrev pub Fields : Type 0
Fields = List (List ℕ × Value)

abbrev pub start_fields : Fields
start_fields = (codes "number", Number 1) ∷ []

abbrev pub set_fields : ℕ → Bool → Fields
set_fields number on_good = (codes "number", Number number) ∷ (codes "by", Text (set_word on_good)) ∷ []

abbrev pub verdict_fields : Verdict → Fields
verdict_fields verdict = (codes "word", Text (verdict_word verdict)) ∷ []

abbrev pub name_fields : List ℕ → Fields
name_fields name = (codes "name", Text name) ∷ []

abbrev pub of_fields : EntryState → List ℕ → Fields
of_fields state name = (codes "state", Text (state_word state)) ∷ (codes "name", Text name) ∷ []

abbrev pub fail_fields : Judgement → ℕ → List ℕ → Fields
fail_fields judgement lost name =
    (codes "judgement", Text (judgement_word judgement)) ∷ (codes "lost", Number lost) ∷ (codes "name", Text name) ∷ []

abbrev pub off_fields : ℕ → List ℕ → Fields
off_fields lost name = (codes "lost", Number lost) ∷ (codes "name", Text name) ∷ []

abbrev pub leans_fields : ℕ → NeedWord → EntryState → List ℕ → Fields
leans_fields steps by state name =
    (codes "steps", Number steps) ∷ (codes "by", Text (need_word by)) ∷ (codes "state", Text (state_word state)) ∷ (codes "name", Text name) ∷ []

-- a line as an object of JSON
abbrev pub line_json : EffectLine → List ℕ
line_json lines.Start = object_text (codes "start") start_fields
line_json (lines.Set number on_good) = object_text (codes "set") (set_fields number on_good)
line_json (lines.Verdict verdict) = object_text (codes "verdict") (verdict_fields verdict)
line_json (lines.Of state name) = object_text (codes "of") (of_fields state name)
line_json (lines.Fail judgement lost name) = object_text (codes "fail") (fail_fields judgement lost name)
line_json (lines.Off lost name) = object_text (codes "off") (off_fields lost name)
line_json (lines.Unmet name) = object_text (codes "unmet") (name_fields name)
line_json (lines.Untaken name) = object_text (codes "untaken") (name_fields name)
line_json (lines.Leans steps by state name) = object_text (codes "leans") (leans_fields steps by state name)
line_json lines.End = object_text (codes "end") []

-- a line in a form
abbrev pub printed : ReportForm → EffectLine → List ℕ
printed forms.Text line = line_text line
printed forms.Json line = line_json line

-- lines in a form
abbrev pub printed_lines : ReportForm → List EffectLine → List ℕ
printed_lines form said = flat_map (printed form) said
