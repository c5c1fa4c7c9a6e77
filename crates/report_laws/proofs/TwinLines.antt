-- The lines of `twin`, read from their objects.
use Rattle.std.proofs.Common.{◌≡◌, ℕ, Bool, true, false, List, [], ◌∷◌, ◌++◌, Option, Some, None, refl, sym, ap, ◌∙◌, append_assoc}
use Rattle.std.specs.Prelude.{codes}
use Rattle.std.specs.Fmt.{decimal}
use Rattle.hive_model.specs.Base.{version_of}
use Rattle.hive_model.specs.Recovery.{Recovered}
use Rattle.hive_model.specs.Tree.{Tree}
use Rattle.hive_commit.specs.Stages.{next_number}
use Rattle.hive_alt.specs.Changes.{Change, nothing, no_select, too_large, changed, change_of}
use Rattle.report_words.specs.declared.line.Line.TheVariants.{Load as LoadLine, End as EndLine}
use Rattle.start_model.specs.Lines.{load_word, line_text}
use Rattle.report_text.specs.declared.line_text.form.ReportForm.{ReportForm}
use Rattle.report_text.specs.declared.line_text.form.ReportForm.TheVariants as forms
use Rattle.report_text.specs.line_objects.Objects as objects
use Rattle.json_laws.specs.Reports.{IsReport, said}
use Rattle.json_laws.proofs.ReportLemmas.{both, same}
use Rattle.json_laws.proofs.ReportLemmas as report
use Rattle.report_laws.specs.report_json_laws.Starts.{said_of}
use Rattle.twin_command.specs.Told.{load_end, load_text, word_text, word_json, word_of, told_in, told_of}
use Rattle.report_laws.specs.command_json_laws.Twin.{refused_said, commit_said, default_said, lines_said, twin_said, twin_reader}
use Rattle.report_laws.specs.command_json_laws.Texts.{AreLines}
use Rattle.report_laws.proofs.OneLine.{one_line, start_line}
use Rattle.report_laws.proofs.TextParts.{part, number_inside, onto, ends, both_lines}
use Rattle.report_laws.proofs.StartTexts.{start_is_line, starts_are_lines}

-- the line of the default set in one of the two forms
default_in : Option ℕ → Recovered → Change → ReportForm → List ℕ
default_in number found change forms.Text = word_text (word_of number found change)
default_in number found change forms.Json = word_json (word_of number found change)

unasked : (found : Recovered) (change : Change) (form : ReportForm) → default_in None found change form ≡ []
unfolding default_in
unasked found change forms.Text = refl
unasked found change forms.Json = refl

default_report : (number : Option ℕ) (found : Recovered) (change : Change)
    → IsReport twin_reader (default_in number found change) (default_said number found change)
unfolding default_in
default_report None found change =
    same twin_reader (λ form. []) (default_in None found change) [] (unasked found change) (report.nothing twin_reader)
default_report (Some number) found nothing =
    one_line twin_reader (default_in (Some number) found nothing) (said (codes "default nothing\n") (codes "default") []) refl refl
    (record { words = refl; back = refl })
default_report (Some number) found no_select =
    one_line twin_reader (default_in (Some number) found no_select) (refused_said (codes "no-key")) refl refl
    (record { words = refl; back = refl })
default_report (Some number) found too_large =
    one_line twin_reader (default_in (Some number) found too_large) (refused_said (codes "full")) refl refl
    (record { words = refl; back = refl })
default_report (Some number) found (changed u) =
    one_line twin_reader (default_in (Some number) found (changed u)) (commit_said (next_number found.base.first)) refl refl
    (record { words = refl; back = refl })

load_end_whole : (mended : Bool) → load_end mended ≡ codes " " ++ (load_word mended ++ codes "\n")
load_end_whole true = refl
load_end_whole false = refl

load_whole : (number : ℕ) (mended : Bool) → load_text number mended ≡ line_text (LoadLine number mended)
unfolding line_text
load_whole number mended =
    let front = codes "load " ++ decimal number in
    ap (λ (t : List ℕ). front ++ t) (load_end_whole mended)
    ∙ sym (append_assoc (front ++ codes " ") (load_word mended) (codes "\n")
    ∙ append_assoc front (codes " ") (load_word mended ++ codes "\n"))

told_whole : (number : Option ℕ) (found : Recovered) (tree : Tree) (form : ReportForm)
    → told_in form (told_of number found tree)
    ≡ objects.printed form (LoadLine found.base.first found.dirty)
    ++ default_in number found (change_of (version_of found.base.minor) tree number) form ++ objects.printed form EndLine
unfolding default_in line_text
told_whole number found tree forms.Text =
    (λ i. load_whole found.base.first found.dirty i
    ++ word_text (word_of number found (change_of (version_of found.base.minor) tree number)) ++ codes "end\n")
told_whole number found tree forms.Json = refl

lines_report : (number : Option ℕ) (found : Recovered) (change : Change)
    → IsReport twin_reader
    (λ form. objects.printed form (LoadLine found.base.first found.dirty) ++ default_in number found change form ++ objects.printed form EndLine)
    (lines_said number found change)
lines_report number found change =
    let load = LoadLine found.base.first found.dirty in
    both twin_reader (λ form. objects.printed form load ++ default_in number found change form) (λ form. objects.printed form EndLine)
    (said_of load ∷ default_said number found change) (said_of EndLine ∷ [])
    (both twin_reader (λ form. objects.printed form load) (default_in number found change) (said_of load ∷ [])
    (default_said number found change) (start_line twin_reader load (λ fields. refl)) (default_report number found change))
    (start_line twin_reader EndLine (λ fields. refl))

pub twin_report : (number : Option ℕ) (found : Recovered) (tree : Tree)
    → IsReport twin_reader (λ form. told_in form (told_of number found tree)) (twin_said number found tree)
twin_report number found tree =
    let change = change_of (version_of found.base.minor) tree number in
    same twin_reader
    (λ form. objects.printed form (LoadLine found.base.first found.dirty) ++ default_in number found change form
    ++ objects.printed form EndLine)
    (λ form. told_in form (told_of number found tree)) (twin_said number found tree) (told_whole number found tree)
    (lines_report number found change)

-- ---- each text is one line

default_lines : (number : Option ℕ) (found : Recovered) (change : Change) → AreLines (default_said number found change)
default_lines None found change = tt
default_lines (Some number) found nothing = (refl, tt)
default_lines (Some number) found no_select = (refl, tt)
default_lines (Some number) found too_large = (refl, tt)
default_lines (Some number) found (changed u) =
    (ends (onto (part (codes "commit default ") refl) (number_inside (next_number found.base.first))) (codes "\n") refl, tt)

lines_are_lines : (number : Option ℕ) (found : Recovered) (change : Change) → AreLines (lines_said number found change)
lines_are_lines number found change = (
  start_is_line (LoadLine found.base.first found.dirty),
  both_lines (default_said number found change) (said_of EndLine ∷ []) (default_lines number found change)
      (starts_are_lines (EndLine ∷ [])),
)

pub twin_lines : (number : Option ℕ) (found : Recovered) (tree : Tree) → AreLines (twin_said number found tree)
twin_lines number found tree = lines_are_lines number found (change_of (version_of found.base.minor) tree number)
