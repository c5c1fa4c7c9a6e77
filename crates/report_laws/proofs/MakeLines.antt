-- The line of `make`, read from its object.
use Rattle.std.proofs.Common.{◌≡◌, ℕ, [], ◌∷◌, refl, true, Option, Some, None}
use Rattle.start_model.specs.Summary.{Summary, summary_of}
use Rattle.json_laws.specs.Reports.{IsReport}
use Rattle.ntboot_cli.specs.declared.making.Usual.{Usual}
use Rattle.ntboot_cli.specs.Made.{made_run, made_text, summary_line, last_word}
use Rattle.report_laws.specs.command_json_laws.Make.{summary_said, made_said, make_reader}
use Rattle.report_laws.proofs.OneLine.{one_line}
use Rattle.std.specs.Prelude.{codes}
use Rattle.report_words.specs.declared.words.Verdict.{Verdict}
use Rattle.report_laws.specs.command_json_laws.Texts.{is_line, AreLines}
use Rattle.report_laws.proofs.TextParts.{has_no_end, part, number_inside, onto, ends}
use Rattle.report_laws.proofs.StartTexts.{verdict_inside}

summary_report : (count : ℕ) (s : Summary) → IsReport make_reader (λ form. summary_line form count s) (summary_said count s ∷ [])
summary_report count s =
    one_line make_reader (λ form. summary_line form count s) (summary_said count s) refl refl (record { words = refl; back = refl })

pub make_report : (usual : Usual) (count : ℕ) → IsReport make_reader (λ form. made_text form usual count) (made_said usual count)
make_report usual count = summary_report count (summary_of (made_run usual count).lines)

-- ---- each text is one line

last_inside : (verdict : Option Verdict) → has_no_end (last_word verdict) ≡ true
last_inside None = refl
last_inside (Some verdict) = verdict_inside verdict

summary_is_line : (count : ℕ) (s : Summary) → is_line (summary_said count s).text ≡ true
summary_is_line count s =
    let started = onto (onto (onto (part (codes "made ") refl) (number_inside count)) (part (codes " started ") refl)) (number_inside s.started) in
    let failed = onto (onto started (part (codes " failed ") refl)) (number_inside s.failed) in
    let unmet = onto (onto failed (part (codes " unmet ") refl)) (number_inside s.unmet) in
    let verdict = onto (onto unmet (part (codes " verdict ") refl)) (part (last_word s.verdict) (last_inside s.verdict)) in
    ends (onto (onto verdict (part (codes " sequence ") refl)) (number_inside s.sequence)) (codes "\n") refl

pub make_lines : (usual : Usual) (count : ℕ) → AreLines (made_said usual count)
make_lines usual count = (summary_is_line count (summary_of (made_run usual count).lines), tt)
