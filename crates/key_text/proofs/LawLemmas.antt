-- The laws on depth and on paths.
use Rattle.std.proofs.Common.{◌≡◌, ℕ, Bool, true, false, List, [], ◌∷◌, ◌++◌, refl, sym, ap, ◌∙◌, append-nil}
use Rattle.std.specs.Prelude.{Option, Some, None, ◌↔◌, option_and_then}
use Rattle.std.proofs.lemmas.Grind.{flat_map-append}
use Rattle.std.proofs.lemmas.Bool.{false≢true}
use Rattle.nt_bytes.specs.Folding.{folds_same}
use Rattle.nt_bytes.specs.Front.{IsFront}
use Rattle.hive_model.specs.Tree.{Tree, key, listed, find_key}
use Rattle.hive_model.specs.Edit.{has_child}
use Rattle.start_model.specs.Sets.{select_numbers_of, set_name, is_usable}
use Rattle.report_text.specs.declared.line_text.form.ReportForm.{ReportForm}
use Rattle.key_text.specs.Lines.{KeyLine, NoKeyLine, EndLine, printed, printed_lines}
use Rattle.key_text.specs.Blocks.{block_lines, key_lines}
use Rattle.key_text.specs.Found.{current, means_current, true_path, spelled, found_key, found_lines, path_lines, no_key_lines, lines_of}

-- ---- depth

begun : (form : ReportForm) (a b : List KeyLine) → IsFront (printed_lines form (a ++ b)) (printed_lines form (a ++ []))
begun form a b = record {
  rest = printed_lines form b;
  cut = flat_map-append (printed form) a b
      ∙ ap (λ (x : List KeyLine). printed_lines form x ++ printed_lines form b) (sym (append-nil a));
}

pub depth_begins : (form : ReportForm) (security : Bool) (depth : ℕ) (path : List (List ℕ)) (t : Tree)
    → IsFront (printed_lines form (key_lines security depth path t)) (printed_lines form (key_lines security 0 path t))
depth_begins form security depth path (key h ts) = begun form (block_lines security path h (listed ts)) _

-- ---- the current set

by_default : (root : Tree) (name : List ℕ) (rest : List (List ℕ)) → means_current root name ≡ true
    → is_usable root (select_numbers_of root).default ≡ true
    → true_path root (name ∷ rest) ≡ Some (set_name (select_numbers_of root).default ∷ rest)
unfolding true_path
by_default root name rest e usable = rw (e, usable) refl

by_name : (root : Tree) (n : ℕ) (rest : List (List ℕ)) → true_path root (set_name n ∷ rest) ≡ Some (set_name n ∷ rest)
unfolding true_path
by_name root n rest = refl

pub current_default : (root : Tree) (name : List ℕ) (rest : List (List ℕ)) (depth : ℕ) (security : Bool)
    → folds_same current name ≡ true → has_child current root ≡ false
    → is_usable root (select_numbers_of root).default ≡ true
    → lines_of root (name ∷ rest) depth security
    ≡ lines_of root (set_name (select_numbers_of root).default ∷ rest) depth security
current_default root name rest depth security same no_child usable =
    let n = (select_numbers_of root).default in
    let means : means_current root name ≡ true = rw (same, no_child) refl in
    ap (path_lines security depth root) (by_default root name rest means usable ∙ sym (by_name root n rest))

-- ---- nothing found

-- the first line says that there is no such key
abbrev says_no_key : List KeyLine → Bool
says_no_key (NoKeyLine ∷ ls) = true
says_no_key _ = false

says_a_key : (security : Bool) (depth : ℕ) (path : List (List ℕ)) (t : Tree) (ls : List KeyLine)
    → says_no_key (key_lines security depth path t ++ ls) ≡ false
says_a_key security depth [] (key h ts) ls = refl
says_a_key security depth (name ∷ path) (key h ts) ls = refl

by_found : (security : Bool) (depth : ℕ) (path : List (List ℕ)) (o : Option Tree)
    → (found_lines security depth path o ≡ no_key_lines) ↔ (o ≡ None)
by_found security depth path None = ((λ e. refl), (λ e. refl))
by_found security depth path (Some t) = (
  (λ e. absurd (false≢true (sym (says_a_key security depth path t (EndLine ∷ [])) ∙ ap says_no_key e))),
  (λ e. absurd cc),
)

by_path : (root : Tree) (depth : ℕ) (security : Bool) (o : Option (List (List ℕ)))
    → (path_lines security depth root o ≡ no_key_lines)
    ↔ (option_and_then (λ (p : List (List ℕ)). find_key p root) o ≡ None)
by_path root depth security None = ((λ e. refl), (λ e. refl))
by_path root depth security (Some path) = by_found security depth (spelled path root) (find_key path root)

pub none_found : (root : Tree) (path : List (List ℕ)) (depth : ℕ) (security : Bool)
    → (lines_of root path depth security ≡ no_key_lines) ↔ (found_key root path ≡ None)
none_found root path depth security = by_path root depth security (true_path root path)
