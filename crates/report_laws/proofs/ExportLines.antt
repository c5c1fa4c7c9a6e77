-- The line of `export`, read from its object.
use Rattle.std.proofs.Common.{◌≡◌, ℕ, List, Option, Some, None, Result, Ok, Err, refl, true, arith}
use Rattle.std.specs.Prelude.{codes}
use Rattle.std.specs.Option.{option_map_or}
use Rattle.hive_model.specs.Tree.{Tree, find_key, key_count, item_count}
use Rattle.report_text.specs.declared.line_text.form.ReportForm.{ReportForm}
use Rattle.report_text.specs.declared.line_text.form.ReportForm.TheVariants as forms
use Rattle.json_laws.specs.Objects.{IsNumber}
use Rattle.json_laws.specs.Reports.{IsReport, HaveValues, said}
use Rattle.json_laws.proofs.Units.{word_units}
use Rattle.reg_text.specs.declared.stop.RegFault.{RegFault}
use Rattle.reg_text.specs.Writing.{reg_text_of}
use Rattle.command_parts.specs.declared.command_parts.status.Status.TheVariants as statuses
use Rattle.text_commands.specs.Exported.{exported_text, exported_json, exported_in, no_key_fields, no_key_in, text_export, found_export, export_of}
use Rattle.report_laws.specs.command_json_laws.Export.{count_fields, exported_said, no_key_said, export_said, export_reader}
use Rattle.report_laws.proofs.OneLine.{one_line}
use Rattle.nt_bytes.specs.Counts.{capped}
use Rattle.report_laws.specs.command_json_laws.Texts.{is_line, AreLines}
use Rattle.report_laws.proofs.TextParts.{part, number_inside, onto, ends}

exported_report : (t : Tree) → IsReport export_reader (λ form. exported_in form t) (exported_said t)
unfolding exported_text exported_json
exported_report t =
    one_line export_reader (λ form. exported_in form t) (said (exported_text t) (codes "exported") (count_fields t)) refl refl
    (record { words = refl; back = refl })

no_key_report : IsReport export_reader no_key_in no_key_said
no_key_report =
    one_line export_reader no_key_in (said (no_key_in forms.Text) (codes "refused") no_key_fields) refl refl
    (record { words = refl; back = refl })

-- a fault is not done
not_done : statuses.RegFault ≡ statuses.Done → ⊥
not_done e = absurd cc

text_report : (t : Tree) (any : ReportForm) (text : Result (List ℕ) RegFault) → (text_export any t text).answer.status ≡ statuses.Done
    → IsReport export_reader (λ form. (text_export form t text).answer.text) (exported_said t)
text_report t any (Ok text) done = exported_report t
text_report t any (Err fault) done = absurd (not_done done)

found_report : (path : List (List ℕ)) (any : ReportForm) (found : Option Tree) → (found_export any path found).answer.status ≡ statuses.Done
    → IsReport export_reader (λ form. (found_export form path found).answer.text) (option_map_or exported_said found no_key_said)
found_report path any None done = no_key_report
found_report path any (Some t) done = text_report t any (reg_text_of path t) done

pub export_report : (path : List (List ℕ)) (root : Tree) (any : ReportForm) → (export_of any path root).answer.status ≡ statuses.Done
    → IsReport export_reader (λ form. (export_of form path root).answer.text) (export_said path root)
export_report path root any done = found_report path any (find_key path root) done

-- ---- each text is one line

exported_line : (t : Tree) → is_line (exported_text t) ≡ true
unfolding exported_text
exported_line t =
    ends (onto (onto (onto (part (codes "exported ") refl) (number_inside (capped (key_count t)))) (part (codes " keys ") refl))
    (number_inside (capped (item_count t)))) (codes " values\n") refl

found_lines : (found : Option Tree) → AreLines (option_map_or exported_said found no_key_said)
found_lines None = (refl, tt)
found_lines (Some t) = (exported_line t, tt)

pub export_lines : (path : List (List ℕ)) (root : Tree) → AreLines (export_said path root)
export_lines path root = found_lines (find_key path root)

-- ---- what is in its object

capped_small : (n : ℕ) → IsNumber (capped n)
capped_small n = omega arith

found_values : (found : Option Tree) → HaveValues (option_map_or exported_said found no_key_said)
found_values None = ((word_units (codes "export") refl, (word_units (codes "no-key") refl, tt)), tt)
found_values (Some t) = ((capped_small (key_count t), (capped_small (item_count t), tt)), tt)

pub export_values : (path : List (List ℕ)) (root : Tree) → HaveValues (export_said path root)
export_values path root = found_values (find_key path root)
