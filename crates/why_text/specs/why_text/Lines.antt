-- How are the lines printed that say where an entry is in a start? (this project's own)
use Rattle.std.specs.Prelude.{ℕ, Bool, if◌then◌else◌, List, [], ◌∷◌, ◌++◌, codes}
use Rattle.std.specs.List.{flat_map}
use Rattle.std.specs.Fmt.{decimal}
use Rattle.start_model.specs.Lines.{name_text, set_word, verdict_word}
use Rattle.boot_phases.specs.declared.boot_phases.phase.Phase.{Phase}
use Rattle.boot_phases.specs.declared.boot_phases.phase.Phase.TheVariants as phases
use Rattle.boot_phases.specs.declared.error_control.outcome.Judgement.{Judgement}
use Rattle.boot_phases.specs.declared.error_control.outcome.Judgement.TheVariants as judgements
use Rattle.report_text.specs.declared.line_text.form.ReportForm.{ReportForm}
use Rattle.report_text.specs.declared.line_text.form.ReportForm.TheVariants as forms
use Rattle.report_text.specs.line_text.Objects.{Value, Number, Text, object_text}
use Rattle.answer_lines.specs.declared.why_lines.lines.EntryKind.{EntryKind}
use Rattle.answer_lines.specs.declared.why_lines.lines.EntryKind.TheVariants as kinds
use Rattle.answer_lines.specs.declared.why_lines.lines.OrderWord.{OrderWord}
use Rattle.answer_lines.specs.declared.why_lines.lines.OrderWord.TheVariants as orders
use Rattle.answer_lines.specs.declared.why_lines.lines.GroupPlace.{GroupPlace}
use Rattle.answer_lines.specs.declared.why_lines.lines.GroupPlace.TheVariants as groups
use Rattle.answer_lines.specs.declared.why_lines.lines.TagPlace.{TagPlace}
use Rattle.answer_lines.specs.declared.why_lines.lines.TagPlace.TheVariants as tags
use Rattle.answer_lines.specs.declared.why_lines.lines.Reason.{Reason}
use Rattle.answer_lines.specs.declared.why_lines.lines.Reason.TheVariants as reasons
use Rattle.answer_lines.specs.declared.why_lines.lines.NameState.{NameState}
use Rattle.answer_lines.specs.declared.why_lines.lines.NameState.TheVariants as states
use Rattle.answer_lines.specs.declared.why_lines.lines.NeedState.{NeedState}
use Rattle.answer_lines.specs.declared.why_lines.lines.NeedState.TheVariants as needs
use Rattle.answer_lines.specs.declared.why_lines.lines.WhyLine.{WhyLine}
use Rattle.answer_lines.specs.declared.why_lines.lines.WhyLine.TheVariants as lines

-- ---- words

abbrev pub phase_word : Phase → List ℕ
phase_word phases.Boot = codes "boot"
phase_word phases.System = codes "system"
phase_word phases.Automatic = codes "automatic"
phase_word phases.Done = codes "done"

abbrev pub kind_word : EntryKind → List ℕ
kind_word kinds.Driver = codes "driver"
kind_word kinds.Service = codes "service"
kind_word kinds.Other = codes "other"

abbrev pub order_word : OrderWord → List ℕ
order_word orders.Group = codes "group"
order_word orders.Tag = codes "tag"
order_word orders.Registry = codes "registry"

-- what follows from a failure, as the report of a run says it
abbrev pub judgement_word : Judgement → List ℕ
judgement_word judgements.Ignore = codes "ignored"
judgement_word judgements.Log = codes "logged"
judgement_word judgements.FallBack = codes "fall-back"
judgement_word judgements.Stop = codes "stop"

abbrev pub reason_word : Reason → List ℕ
reason_word reasons.NoKey = codes "no-key"
reason_word reasons.NoStart = codes "no-start"
reason_word reasons.NoType = codes "no-type"
reason_word reasons.Kind = codes "kind"
reason_word reasons.Disabled = codes "disabled"
reason_word reasons.Beyond = codes "beyond"
reason_word reasons.TooEarly = codes "too-early"
reason_word reasons.Demand = codes "demand"

abbrev pub need_word : NeedState → List ℕ
need_word needs.Started = codes "started"
need_word needs.Failed = codes "failed"
need_word needs.Unmet = codes "unmet"
need_word needs.Later = codes "later"
need_word needs.Late = codes "late"
need_word (needs.NotTaken reason) = reason_word reason

-- the state of a group's need: whether the set has a member of it
abbrev pub group_word : Bool → List ℕ
group_word has_members = if has_members then codes "not-started" else codes "no-member"

-- the word of a line
abbrev pub line_word : WhyLine → List ℕ
line_word lines.NoBoot = codes "no-boot"
line_word (lines.Start number) = codes "start"
line_word (lines.Set number on_good) = codes "set"
line_word (lines.Verdict verdict) = codes "verdict"
line_word (lines.EndedBy name) = codes "ended-by"
line_word (lines.Vital name) = codes "vital"
line_word (lines.Name name) = codes "name"
line_word (lines.Entry kind start number control) = codes "entry"
line_word (lines.Place phase place of) = codes "place"
line_word (lines.Group place name) = codes "group"
line_word lines.NoGroup = codes "group"
line_word (lines.Tag tag place) = codes "tag"
line_word lines.NoTag = codes "tag"
line_word (lines.Registry place) = codes "registry"
line_word (lines.After by name) = codes "after"
line_word (lines.Before by name) = codes "before"
line_word (lines.Pulled name) = codes "pulled"
line_word lines.ReadyAtOnce = codes "ready"
line_word (lines.ReadyAfter name) = codes "ready"
line_word (lines.State state) = codes "state"
line_word (lines.Unmet phase name) = codes "unmet"
line_word (lines.LackService state name) = codes "lack"
line_word (lines.LackGroup has_members name) = codes "lack"
line_word (lines.Member state name) = codes "member"
line_word (lines.Cycle name) = codes "cycle"
line_word lines.End = codes "end"

-- ---- texts: after the word its parts, each after a space

abbrev pub word_part : List ℕ → List ℕ
word_part word = codes " " ++ word

abbrev pub number_part : ℕ → List ℕ
number_part number = codes " " ++ decimal number

abbrev pub name_part : List ℕ → List ℕ
name_part name = codes " " ++ name_text name

abbrev pub group_part : GroupPlace → List ℕ
group_part (groups.Listed place) = number_part place
group_part groups.Unlisted = word_part (codes "unlisted")

abbrev pub tag_part : TagPlace → List ℕ
tag_part (tags.Listed place) = number_part place
tag_part tags.Unlisted = word_part (codes "unlisted")
tag_part tags.Idle = word_part (codes "idle")

abbrev pub state_parts : NameState → List ℕ
state_parts states.NoPhase = word_part (codes "no-phase")
state_parts (states.Started number) = word_part (codes "started") ++ number_part number
state_parts (states.Failed number judgement) = word_part (codes "failed") ++ number_part number ++ word_part (judgement_word judgement)
state_parts states.Unmet = word_part (codes "unmet")
state_parts (states.NotReached phase) = word_part (codes "not-reached") ++ word_part (phase_word phase)
state_parts states.Late = word_part (codes "not-taken") ++ word_part (codes "late")
state_parts (states.NotTaken reason) = word_part (codes "not-taken") ++ word_part (reason_word reason)

abbrev pub entry_parts : EntryKind → ℕ → ℕ → ℕ → List ℕ
entry_parts kind start number control =
    word_part (kind_word kind)
    ++ word_part (codes "start") ++ number_part start
    ++ word_part (codes "type") ++ number_part number
    ++ word_part (codes "control") ++ number_part control

abbrev pub place_parts : Phase → ℕ → ℕ → List ℕ
place_parts phase place of = word_part (phase_word phase) ++ number_part place ++ word_part (codes "of") ++ number_part of

abbrev pub line_parts : WhyLine → List ℕ
line_parts lines.NoBoot = []
line_parts (lines.Start number) = number_part number
line_parts (lines.Set number on_good) = number_part number ++ word_part (set_word on_good)
line_parts (lines.Verdict verdict) = word_part (verdict_word verdict)
line_parts (lines.EndedBy name) = name_part name
line_parts (lines.Vital name) = name_part name ++ word_part (codes "missing")
line_parts (lines.Name name) = name_part name
line_parts (lines.Entry kind start number control) = entry_parts kind start number control
line_parts (lines.Place phase place of) = place_parts phase place of
line_parts (lines.Group place name) = group_part place ++ name_part name
line_parts lines.NoGroup = word_part (codes "none")
line_parts (lines.Tag tag place) = number_part tag ++ tag_part place
line_parts lines.NoTag = word_part (codes "none")
line_parts (lines.Registry place) = number_part place
line_parts (lines.After by name) = word_part (order_word by) ++ name_part name
line_parts (lines.Before by name) = word_part (order_word by) ++ name_part name
line_parts (lines.Pulled name) = name_part name
line_parts lines.ReadyAtOnce = word_part (codes "at-once")
line_parts (lines.ReadyAfter name) = word_part (codes "after") ++ name_part name
line_parts (lines.State state) = state_parts state
line_parts (lines.Unmet phase name) = word_part (phase_word phase) ++ name_part name
line_parts (lines.LackService state name) = word_part (codes "service") ++ word_part (need_word state) ++ name_part name
line_parts (lines.LackGroup has_members name) = word_part (codes "group") ++ word_part (group_word has_members) ++ name_part name
line_parts (lines.Member state name) = word_part (need_word state) ++ name_part name
line_parts (lines.Cycle name) = name_part name
line_parts lines.End = []

-- a line as a text
abbrev pub line_text : WhyLine → List ℕ
line_text line = line_word line ++ line_parts line ++ codes "\n"

-- ---- objects

abbrev pub Fields : Type 0
Fields = List (List ℕ × Value)

abbrev pub group_value : GroupPlace → Value
group_value (groups.Listed place) = Number place
group_value groups.Unlisted = Text (codes "unlisted")

abbrev pub tag_value : TagPlace → Value
tag_value (tags.Listed place) = Number place
tag_value tags.Unlisted = Text (codes "unlisted")
tag_value tags.Idle = Text (codes "idle")

abbrev pub state_fields : NameState → Fields
state_fields states.NoPhase = (codes "word", Text (codes "no-phase")) ∷ []
state_fields (states.Started number) = (codes "word", Text (codes "started")) ∷ (codes "number", Number number) ∷ []
state_fields (states.Failed number judgement) =
    (codes "word", Text (codes "failed")) ∷ (codes "number", Number number) ∷ (codes "judgement", Text (judgement_word judgement)) ∷ []
state_fields states.Unmet = (codes "word", Text (codes "unmet")) ∷ []
state_fields (states.NotReached phase) = (codes "word", Text (codes "not-reached")) ∷ (codes "phase", Text (phase_word phase)) ∷ []
state_fields states.Late = (codes "word", Text (codes "not-taken")) ∷ (codes "reason", Text (codes "late")) ∷ []
state_fields (states.NotTaken reason) = (codes "word", Text (codes "not-taken")) ∷ (codes "reason", Text (reason_word reason)) ∷ []

abbrev pub name_fields : List ℕ → Fields
name_fields name = (codes "name", Text name) ∷ []

-- a word under a key, and a name
abbrev pub worded_fields : List ℕ → List ℕ → List ℕ → Fields
worded_fields key word name = (key, Text word) ∷ (codes "name", Text name) ∷ []

-- a lacking need: what it is, its state and its name
abbrev pub lack_fields : List ℕ → List ℕ → List ℕ → Fields
lack_fields of state name = (codes "of", Text of) ∷ (codes "state", Text state) ∷ (codes "name", Text name) ∷ []

abbrev pub entry_fields : EntryKind → ℕ → ℕ → ℕ → Fields
entry_fields kind start number control =
    (codes "kind", Text (kind_word kind)) ∷ (codes "start", Number start) ∷ (codes "type", Number number) ∷ (codes "control", Number control) ∷ []

abbrev pub place_fields : Phase → ℕ → ℕ → Fields
place_fields phase place of = (codes "phase", Text (phase_word phase)) ∷ (codes "place", Number place) ∷ (codes "of", Number of) ∷ []

abbrev pub line_fields : WhyLine → Fields
line_fields lines.NoBoot = []
line_fields (lines.Start number) = (codes "number", Number number) ∷ []
line_fields (lines.Set number on_good) = (codes "number", Number number) ∷ (codes "by", Text (set_word on_good)) ∷ []
line_fields (lines.Verdict verdict) = (codes "word", Text (verdict_word verdict)) ∷ []
line_fields (lines.EndedBy name) = name_fields name
line_fields (lines.Vital name) = name_fields name
line_fields (lines.Name name) = name_fields name
line_fields (lines.Entry kind start number control) = entry_fields kind start number control
line_fields (lines.Place phase place of) = place_fields phase place of
line_fields (lines.Group place name) = (codes "place", group_value place) ∷ (codes "name", Text name) ∷ []
line_fields lines.NoGroup = (codes "place", Text (codes "none")) ∷ []
line_fields (lines.Tag tag place) = (codes "tag", Number tag) ∷ (codes "place", tag_value place) ∷ []
line_fields lines.NoTag = (codes "tag", Text (codes "none")) ∷ []
line_fields (lines.Registry place) = (codes "place", Number place) ∷ []
line_fields (lines.After by name) = worded_fields (codes "by") (order_word by) name
line_fields (lines.Before by name) = worded_fields (codes "by") (order_word by) name
line_fields (lines.Pulled name) = name_fields name
line_fields lines.ReadyAtOnce = (codes "moment", Text (codes "at-once")) ∷ []
line_fields (lines.ReadyAfter name) = worded_fields (codes "moment") (codes "after") name
line_fields (lines.State state) = state_fields state
line_fields (lines.Unmet phase name) = worded_fields (codes "phase") (phase_word phase) name
line_fields (lines.LackService state name) = lack_fields (codes "service") (need_word state) name
line_fields (lines.LackGroup has_members name) = lack_fields (codes "group") (group_word has_members) name
line_fields (lines.Member state name) = worded_fields (codes "state") (need_word state) name
line_fields (lines.Cycle name) = name_fields name
line_fields lines.End = []

-- a line as an object of JSON
abbrev pub line_json : WhyLine → List ℕ
line_json line = object_text (line_word line) (line_fields line)

-- a line in a form
abbrev pub printed : ReportForm → WhyLine → List ℕ
printed forms.Text line = line_text line
printed forms.Json line = line_json line

-- lines in a form
unfoldable pub printed_lines : ReportForm → List WhyLine → List ℕ
printed_lines form said = flat_map (printed form) said
