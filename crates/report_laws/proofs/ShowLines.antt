-- The lines of `show`, read from their objects.
use Rattle.std.proofs.Common.{◌≡◌, ℕ, suc, ◌+◌, ◌≤◌, List, ◌++◌, map, refl, sym, ap, ◌∙◌, append_assoc, arith}
use Rattle.std.specs.Prelude.{codes}
use Rattle.std.specs.List.{flat_map}
use Rattle.std.proofs.lemmas.Grind.{flat_map-append}
use Rattle.std.proofs.lemmas.List.Folds.{flat_map-map}
use Rattle.hive_model.specs.Tree.{Item, Tree, Trees, key, none, more}
use Rattle.start_model.specs.Lines.{name_text}
use Rattle.report_text.specs.declared.line_text.form.ReportForm.{ReportForm}
use Rattle.report_text.specs.declared.line_text.form.ReportForm.TheVariants as forms
use Rattle.json_laws.specs.Reports.{IsRead, IsReport, printed}
use Rattle.json_laws.proofs.ReportLemmas.{report_of_lines, same}
use Rattle.tree_text.specs.TreeText.{deeper, value_text, values_text, key_text, keys_text, shown_text}
use Rattle.tree_text.specs.TreeObjects.{TreeLine, HiveLine, KeyLine, ValueLine, line_json, level_below, value_lines, key_lines, keys_lines, shown_lines, shown_in}
use Rattle.report_laws.specs.report_json_laws.Show.{levels, levels_in, margin, hive_text, name_line, text_of, said_of, show_reader}

-- ---- each line

line_in : ReportForm → TreeLine → List ℕ
line_in forms.Text line = text_of line
line_in forms.Json line = line_json line

whole : (form : ReportForm) (line : TreeLine) → line_in form line ≡ printed form (said_of line)
unfolding line_in
whole forms.Text line = refl
whole forms.Json (HiveLine sequence bulk) = refl
whole forms.Json (KeyLine level name) = refl
whole forms.Json (ValueLine level v) = refl

read : (line : TreeLine) → IsRead show_reader (said_of line)
unfolding value_text
read (HiveLine sequence bulk) = record { words = refl; back = refl }
read (KeyLine level name) = record { words = refl; back = refl }
read (ValueLine level v) = record { words = refl; back = refl }

-- ---- the text by its lines

abbrev texts_of : List TreeLine → List ℕ
texts_of lines = flat_map text_of lines

values_shown : (level : ℕ) (values : List Item)
    → values_text (deeper (margin level)) values ≡ texts_of (value_lines level values)
unfolding value_lines
values_shown level values = sym (flat_map-map text_of (ValueLine level) values)

below : (level : ℕ) → level + 1 ≤ 18446744073709551615 → suc level ≡ level_below level
below level le = omega arith

mutual
  key_shown : (level : ℕ) (t : Tree) → level + levels t ≤ 18446744073709551615
      → key_text (margin level) t ≡ texts_of (key_lines level t)
  key_shown level (key h ts) le =
      (λ i. margin level ++ name_text h.name ++ codes "\n" ++ values_shown level h.values i ++ keys_shown level ts le i)
      ∙ append_assoc (name_line level h.name) (texts_of (value_lines level h.values))
      (texts_of (keys_lines (level_below level) ts))
      ∙ ap (λ (t : List ℕ). name_line level h.name ++ t)
      (sym (flat_map-append text_of (value_lines level h.values) (keys_lines (level_below level) ts)))

  keys_shown : (level : ℕ) (ts : Trees) → level + levels_in ts ≤ 18446744073709551615
      → keys_text (margin (suc level)) ts ≡ texts_of (keys_lines (level_below level) ts)
  keys_shown level none le = refl
  keys_shown level (more t ts) le =
      let first : key_text (margin (suc level)) t ≡ texts_of (key_lines (level_below level) t) =
      key_shown (suc level) t (omega arith)
      ∙ ap (λ (n : ℕ). texts_of (key_lines n t)) (below level (omega arith)) in
      (λ i. first i ++ keys_shown level ts (omega arith) i)
      ∙ sym (flat_map-append text_of (key_lines (level_below level) t) (keys_lines (level_below level) ts))

shown : (form : ReportForm) (sequence bulk : ℕ) (root : Tree) → levels root ≤ 18446744073709551615
    → shown_in form sequence bulk root ≡ flat_map (line_in form) (shown_lines sequence bulk root)
unfolding line_in shown_text
shown forms.Text sequence bulk root le =
    ap (λ (t : List ℕ). hive_text sequence bulk ++ t) (key_shown 0 root (omega arith))
shown forms.Json sequence bulk root le = refl

pub show_report : (sequence bulk : ℕ) (root : Tree) → levels root ≤ 18446744073709551615
    → IsReport show_reader (λ form. shown_in form sequence bulk root) (map said_of (shown_lines sequence bulk root))
show_report sequence bulk root le =
    same show_reader (λ form. flat_map (line_in form) (shown_lines sequence bulk root))
    (λ form. shown_in form sequence bulk root) (map said_of (shown_lines sequence bulk root))
    (λ form. shown form sequence bulk root le)
    (report_of_lines line_in said_of show_reader whole read (shown_lines sequence bulk root))
