-- The lines of `find` among those of `key`.
use Rattle.std.proofs.Common.{◌≡◌, ◌≤◌, ℕ, zero, suc, ◌+◌, ◌-◌, ◌%◌, ◌==◌, ◌&&◌, not, Bool, true, false, cond, List, [], ◌∷◌, ◌++◌, length, map, filter, refl, sym, ap, ◌∙◌, append-nil, arith}
use Rattle.std.specs.Prelude.{codes}
use Rattle.std.proofs.lemmas.List.Elements.{filter-append}
use Rattle.std.proofs.lemmas.Bool.Decides.{nat_tests}
use Rattle.std.proofs.lemmas.List.{map-append}
use Rattle.nt_bytes.specs.Text.{wide_of}
use Rattle.hive_model.specs.Tree.{Item, Head, Tree, Trees, key, none, more, head, listed}
use Rattle.hive_model.specs.Valid.{levels, most_levels}
use Rattle.report_text.specs.declared.line_text.form.ReportForm.{ReportForm}
use Rattle.report_text.specs.declared.line_text.form.ReportForm.TheVariants as forms
use Rattle.report_text.specs.line_text.Objects.{Value, Text, Texts, object_text}
use Rattle.report_text.specs.line_text.Paths.{written, written_path}
use Rattle.line_parts.specs.Parts.{line, printed, part_text, part_pieces}
use Rattle.key_text.specs.declared.data.DataForm.{DataForm}
use Rattle.key_text.specs.declared.data.DataForm.TheVariants as data_forms
use Rattle.key_text.specs.Data.{form_of, form_fields}
use Rattle.key_text.specs.Kinds.{kind_text}
use Rattle.key_text.specs.Lines.{KeyLine, FlagsLine, ClassLine, ClassBytesLine, SecurityLine, ValueLine, value_fields, printed as printed_by_key}
use Rattle.key_text.specs.Blocks.{title_line, flags_lines, class_lines, security_lines, head_lines, subkey_line, block_lines, key_lines, keys_lines}
use Rattle.find_rule.specs.Hits.{Hit, KeyName, Data, values_places, places, places_below}
use Rattle.find_rule.specs.Lines.{data_parts, hit_line}
use Rattle.find_rule.specs.AsKey.{has_key_line, key_line_of, says_place}

-- ---- the lines of a key

titled : (path : List (List ℕ)) (name : List ℕ) → says_place (title_line path name) ≡ true
titled [] name = refl
titled (first ∷ rest) name = refl

no_flags : (flags : ℕ) → filter says_place (flags_lines flags) ≡ []
no_flags flags = by (flags == 0)
  where
    by : (b : Bool) → filter says_place (cond b [] (FlagsLine flags ∷ [])) ≡ []
    by true = refl
    by false = refl

no_class : (class : List ℕ) → filter says_place (class_lines class) ≡ []
no_class class = by (length class == 0) (length class % 2 == 0)
  where
    by : (b even : Bool)
        → filter says_place (cond b [] (cond even (ClassLine (wide_of class) ∷ []) (ClassBytesLine class ∷ []))) ≡ []
    by true even = refl
    by false true = refl
    by false false = refl

no_security : (asked : Bool) (security : List ℕ) → filter says_place (security_lines asked security) ≡ []
no_security asked security = by (asked && not (length security == 0))
  where
    by : (b : Bool) → filter says_place (cond b (SecurityLine security ∷ []) []) ≡ []
    by true = refl
    by false = refl

all_values : (vs : List Item) → filter says_place (map ValueLine vs) ≡ map ValueLine vs
all_values [] = refl
all_values (v ∷ vs) = ap (λ (ls : List KeyLine). ValueLine v ∷ ls) (all_values vs)

no_subkeys : (ts : List Tree) → filter says_place (map subkey_line ts) ≡ []
no_subkeys [] = refl
no_subkeys (t ∷ ts) = no_subkeys ts

of_head : (asked : Bool) (h : Head) → filter says_place (head_lines asked h) ≡ map ValueLine h.values
unfolding head_lines
of_head asked h =
    filter-append says_place (flags_lines h.flags ++ class_lines h.class ++ security_lines asked h.security) (map ValueLine h.values)
    ∙ ap (λ (ls : List KeyLine). ls ++ filter says_place (map ValueLine h.values))
    (filter-append says_place (flags_lines h.flags ++ class_lines h.class) (security_lines asked h.security)
    ∙ ap (λ (ls : List KeyLine). ls ++ filter says_place (security_lines asked h.security))
    (filter-append says_place (flags_lines h.flags) (class_lines h.class)
    ∙ ap (λ (ls : List KeyLine). ls ++ filter says_place (class_lines h.class)) (no_flags h.flags)
    ∙ no_class h.class)
    ∙ no_security asked h.security)
    ∙ all_values h.values

of_block : (asked : Bool) (path : List (List ℕ)) (h : Head) (ts : List Tree)
    → filter says_place (block_lines asked path h ts) ≡ title_line path h.name ∷ map ValueLine h.values
of_block asked path h ts =
    ap (λ (b : Bool). cond b (title_line path h.name ∷ filter says_place (head_lines asked h ++ map subkey_line ts))
    (filter says_place (head_lines asked h ++ map subkey_line ts))) (titled path h.name)
    ∙ ap (λ (ls : List KeyLine). title_line path h.name ∷ ls)
    (filter-append says_place (head_lines asked h) (map subkey_line ts)
    ∙ ap (λ (ls : List KeyLine). filter says_place (head_lines asked h) ++ ls) (no_subkeys ts)
    ∙ append-nil (filter says_place (head_lines asked h))
    ∙ of_head asked h)

-- ---- the places that have one

abbrev lines_for : List Hit → List KeyLine
lines_for all = map key_line_of (filter has_key_line all)

for_values : (path : List (List ℕ)) (vs : List Item) → lines_for (values_places path vs) ≡ map ValueLine vs
for_values path [] = refl
for_values path (v ∷ vs) = ap (λ (ls : List KeyLine). ValueLine v ∷ ls) (for_values path vs)

for_both : (xs ys : List Hit) → lines_for (xs ++ ys) ≡ lines_for xs ++ lines_for ys
for_both xs ys = ap (map key_line_of) (filter-append has_key_line xs ys) ∙ map-append key_line_of (filter has_key_line xs) (filter has_key_line ys)

no_level : (ts : Trees) → most_levels ts ≤ 0 → ts ≡ none
no_level none le = refl
no_level (more (key h us) ts) le = absurd (omega (arith, le))

mutual
  pub for_key : (asked : Bool) (depth : ℕ) (path : List (List ℕ)) (t : Tree) → levels t ≤ depth + 1
      → lines_for (places path t) ≡ filter says_place (key_lines asked depth path t)
  for_key asked zero path (key h ts) le =
      let empty = no_level ts (omega (arith, le)) in
      ap (λ (us : Trees). lines_for (KeyName path h.name ∷ values_places path h.values ++ places_below path us)) empty
      ∙ ap (λ (xs : List Hit). lines_for (KeyName path h.name ∷ xs)) (append-nil (values_places path h.values))
      ∙ ap (λ (ls : List KeyLine). title_line path h.name ∷ ls) (for_values path h.values)
      ∙ sym (of_block asked path h (listed ts))
      ∙ ap (filter says_place) (sym (append-nil (block_lines asked path h (listed ts))))
  for_key asked (suc depth) path (key h ts) le =
      let less : suc depth - 1 ≡ depth = omega arith in
      let deeper : (suc depth == 0) ≡ false = grind (arith, nat_tests) in
      let own : lines_for (KeyName path h.name ∷ values_places path h.values) ≡ filter says_place (block_lines asked path h (listed ts)) =
      ap (λ (ls : List KeyLine). title_line path h.name ∷ ls) (for_values path h.values) ∙ sym (of_block asked path h (listed ts)) in
      for_both (KeyName path h.name ∷ values_places path h.values) (places_below path ts)
      ∙ ap (λ (ls : List KeyLine). ls ++ lines_for (places_below path ts)) own
      ∙ ap (λ (ls : List KeyLine). filter says_place (block_lines asked path h (listed ts)) ++ ls)
      (for_keys asked depth path ts (omega (arith, le)))
      ∙ sym (filter-append says_place (block_lines asked path h (listed ts)) (keys_lines asked depth path ts))
      ∙ ap (λ (n : ℕ). filter says_place (block_lines asked path h (listed ts) ++ keys_lines asked n path ts)) (sym less)
      ∙ ap (λ (b : Bool). filter says_place (block_lines asked path h (listed ts) ++ cond b [] (keys_lines asked (suc depth - 1) path ts)))
      (sym deeper)

  for_keys : (asked : Bool) (depth : ℕ) (path : List (List ℕ)) (ts : Trees) → most_levels ts ≤ depth + 1
      → lines_for (places_below path ts) ≡ filter says_place (keys_lines asked depth path ts)
  for_keys asked depth path none le = refl
  for_keys asked depth path (more t ts) le =
      for_both (places (path ++ (head t).name ∷ []) t) (places_below path ts)
      ∙ ap (λ (ls : List KeyLine). ls ++ lines_for (places_below path ts))
      (for_key asked depth (path ++ (head t).name ∷ []) t (omega (arith, le)))
      ∙ ap (λ (ls : List KeyLine). filter says_place (key_lines asked depth (path ++ (head t).name ∷ []) t) ++ ls)
      (for_keys asked depth path ts (omega (arith, le)))
      ∙ sym (filter-append says_place (key_lines asked depth (path ++ (head t).name ∷ []) t) (keys_lines asked depth path ts))

-- ---- their texts

pub name_as_key : (form : ReportForm) (path : List (List ℕ)) (name : List ℕ)
    → printed form (hit_line (KeyName path name)) ≡ printed_by_key form (title_line path name)
unfolding printed part_text part_pieces
name_as_key forms.Text [] name = ap (λ (t : List ℕ). codes "root" ++ t ++ codes "\n") (append-nil (codes " " ++ written name))
name_as_key forms.Text (first ∷ rest) name =
    ap (λ (t : List ℕ). codes "key" ++ t ++ codes "\n") (append-nil (codes " " ++ written_path (first ∷ rest)))
name_as_key forms.Json [] name = refl
name_as_key forms.Json (first ∷ rest) name = refl

abbrev fields_with : List ℕ → List ℕ → DataForm → List (List ℕ) → List (List ℕ × Value)
fields_with name kind form path =
    (codes "name", Text name)
    ∷ (codes "type", Text kind)
    ∷ form_fields form ++ (codes "path", Texts path) ∷ []

by_form : (name kind : List ℕ) (form : DataForm) (path : List (List ℕ))
    → printed forms.Json (line (codes "data") (data_parts name kind form path))
    ≡ object_text (codes "data") (fields_with name kind form path)
unfolding printed part_pieces
by_form name kind (data_forms.Dword n) path = refl
by_form name kind (data_forms.Qword n) path = refl
by_form name kind (data_forms.Strings items) path = refl
by_form name kind (data_forms.Ended units) path = refl
by_form name kind (data_forms.Unended units) path = refl
by_form name kind (data_forms.Raw bytes) path = refl

pub data_as_key : (path : List (List ℕ)) (v : Item)
    → printed forms.Json (hit_line (Data path v)) ≡ object_text (codes "data") (value_fields v ++ (codes "path", Texts path) ∷ [])
data_as_key path v = by_form v.name (kind_text v.kind) (form_of v.kind v.bytes) path
