-- The lines of `import`, read from their objects.
use Rattle.std.proofs.Common.{◌≡◌, ℕ, List, [], ◌∷◌, ◌++◌, Option, Some, None, refl, true}
use Rattle.std.specs.Prelude.{codes}
use Rattle.json_laws.specs.Reports.{IsRead, IsReport}
use Rattle.json_laws.proofs.ReportLemmas.{nothing, both}
use Rattle.text_commands.specs.declared.said.Done.{Done}
use Rattle.text_commands.specs.declared.said.Done.TheVariants as dones
use Rattle.text_commands.specs.declared.said.Said.{Said as ImportSaid}
use Rattle.text_commands.specs.ImportLines.{number_line, option_line, done_line, said_text, edit_word, stop_word}
use Rattle.report_laws.specs.command_json_laws.Import.{number_said, option_said, done_said, import_said, import_reader}
use Rattle.report_laws.proofs.OneLine.{one_line}
use Rattle.reg_tree.specs.declared.stop.EditStop.{EditStop}
use Rattle.text_commands.specs.declared.said.ImportStop.{ImportStop}
use Rattle.report_laws.specs.command_json_laws.Texts.{is_line, AreLines}
use Rattle.report_laws.proofs.TextParts.{has_no_end, part, number_inside, onto, ends, both_lines}
use Rattle.reg_tree.specs.declared.stop.EditStop.TheVariants as edits
use Rattle.text_commands.specs.declared.said.ImportStop.TheVariants as import_stops

option_report : (word key : List ℕ) → ((n : ℕ) → IsRead import_reader (number_said word key n)) → (number : Option ℕ)
    → IsReport import_reader (λ form. option_line form word key number) (option_said word key number)
option_report word key is_read None = nothing import_reader
option_report word key is_read (Some n) =
    one_line import_reader (λ form. number_line form word key n) (number_said word key n) refl refl (is_read n)

done_report : (done : Done) → IsReport import_reader (λ form. done_line form done) (done_said done ∷ [])
done_report (dones.Refused stop) =
    one_line import_reader (λ form. done_line form (dones.Refused stop)) (done_said (dones.Refused stop)) refl refl
    (record { words = refl; back = refl })
done_report dones.Nothing =
    one_line import_reader (λ form. done_line form dones.Nothing) (done_said dones.Nothing) refl refl (record { words = refl; back = refl })
done_report (dones.Commit number) =
    one_line import_reader (λ form. done_line form (dones.Commit number)) (done_said (dones.Commit number)) refl refl
    (record { words = refl; back = refl })

pub import_report : (s : ImportSaid) → IsReport import_reader (λ form. said_text form s) (import_said s)
import_report s =
    let current = option_said (codes "current") (codes "number") s.current in
    let passed = option_said (codes "passed") (codes "count") s.passed in
    both import_reader
    (λ form. option_line form (codes "current") (codes "number") s.current ++ option_line form (codes "passed") (codes "count") s.passed)
    (λ form. done_line form s.done) (current ++ passed) (done_said s.done ∷ [])
    (both import_reader (λ form. option_line form (codes "current") (codes "number") s.current)
    (λ form. option_line form (codes "passed") (codes "count") s.passed) current passed
    (option_report (codes "current") (codes "number") (λ n. record { words = refl; back = refl }) s.current)
    (option_report (codes "passed") (codes "count") (λ n. record { words = refl; back = refl }) s.passed))
    (done_report s.done)

-- ---- each text is one line

option_lines : (word key : List ℕ) (number : Option ℕ) → has_no_end word ≡ true → AreLines (option_said word key number)
option_lines word key None e = tt
option_lines word key (Some n) e =
    (ends (onto (onto (part word e) (part (codes " ") refl)) (number_inside n)) (codes "\n") refl, tt)

edit_inside : (stop : EditStop) → has_no_end (edit_word stop) ≡ true
edit_inside edits.NoKey = refl
edit_inside edits.NoValue = refl
edit_inside edits.BadName = refl
edit_inside edits.Exists = refl
edit_inside edits.NameTooLong = refl
edit_inside edits.TooDeep = refl
edit_inside edits.DataTooLong = refl
edit_inside edits.Full = refl
edit_inside edits.Memory = refl

stop_inside : (stop : ImportStop) → has_no_end (stop_word stop) ≡ true
stop_inside import_stops.NoControlSet = refl
stop_inside import_stops.Protected = refl
stop_inside (import_stops.Edit stop) = edit_inside stop

done_is_line : (done : Done) → is_line (done_said done).text ≡ true
done_is_line (dones.Refused stop) =
    ends (onto (part (codes "import refused ") refl) (part (stop_word stop) (stop_inside stop))) (codes "\n") refl
done_is_line dones.Nothing = refl
done_is_line (dones.Commit number) = ends (onto (part (codes "commit import ") refl) (number_inside number)) (codes "\n") refl

pub import_lines : (s : ImportSaid) → AreLines (import_said s)
import_lines s =
    let current = option_said (codes "current") (codes "number") s.current in
    let passed = option_said (codes "passed") (codes "count") s.passed in
    both_lines (current ++ passed) (done_said s.done ∷ [])
    (both_lines current passed (option_lines (codes "current") (codes "number") s.current refl)
    (option_lines (codes "passed") (codes "count") s.passed refl))
    (done_is_line s.done, tt)
