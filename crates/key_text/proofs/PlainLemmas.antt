-- A path that is printed finds the key again.
use Rattle.std.proofs.Common.{◌≡◌, ℕ, zero, suc, ◌==◌, ◌&&◌, not, Bool, true, false, cond, List, [], ◌∷◌, ◌++◌, refl, sym, ap, ◌∙◌, append-nil, arith}
use Rattle.std.specs.Prelude.{Option, Some, None, find, option_and_then, nat_lt}
use Rattle.std.specs.Option.{is_some, option_map_or}
use Rattle.std.specs.List.{All, flat_map, list_all, slice_split}
use Rattle.std.specs.Char.Escape.{encode_utf16}
use Rattle.std.specs.Str.{IsAscii}
use Rattle.std.proofs.lemmas.Str.{chars-IsAscii}
use Rattle.std.proofs.lemmas.Bool.{and_parts, false≢true}
use Rattle.std.proofs.lemmas.Bool.Decides.{nat_tests}
use Rattle.std.proofs.lemmas.List.Elements.{All-head, All-tail}
use Rattle.std.proofs.lemmas.List.Splits.{slice_split_at, slice_split_none}
use Rattle.nt_bytes.specs.Folding.{folded_unit, folds_same}
use Rattle.nt_bytes.specs.Text.{is_printable, is_backslash}
use Rattle.hive_model.specs.Tree.{Tree, head, children, is_named, find_key}
use Rattle.hive_model.specs.Edit.{has_child}
use Rattle.report_text.specs.line_text.Paths.{joined_path, begins_plain, is_plain, written, written_path}
use Rattle.key_text.specs.Found.{current, means_current, true_path, spelled, found_key}
use Rattle.key_text.specs.Words.{units_of, path_in}

-- ---- the path of a word

ascii : (text : List ℕ) → list_all is_printable text ≡ true → IsAscii text
ascii [] e i = omega arith
ascii (c ∷ cs) e zero =
    let one = (and_parts (is_printable c) (list_all is_printable cs) e).0 in grind (arith, nat_tests)
ascii (c ∷ cs) e (suc i) = ascii cs (and_parts (is_printable c) (list_all is_printable cs) e).1 i

one_unit : (c : ℕ) → is_printable c ≡ true → encode_utf16 c ≡ c ∷ []
one_unit c e = let lt : nat_lt c 0x10000 ≡ true = grind (arith, nat_tests) in rw lt refl

same_units : (text : List ℕ) → list_all is_printable text ≡ true → flat_map encode_utf16 text ≡ text
same_units [] e = refl
same_units (c ∷ cs) e =
    let both = and_parts (is_printable c) (list_all is_printable cs) e in
    ap (λ (t : List ℕ). t ++ flat_map encode_utf16 cs) (one_unit c both.0)
    ∙ ap (λ (t : List ℕ). c ∷ t) (same_units cs both.1)

units_back : (text : List ℕ) → list_all is_printable text ≡ true → units_of text ≡ text
units_back text e = ap (flat_map encode_utf16) (chars-IsAscii text (ascii text e)) ∙ same_units text e

abbrev pub IsWhole : List ℕ → Type 0
IsWhole name = All (λ u. is_backslash u ≡ false) name

parts_back : (first : List ℕ) (rest : List (List ℕ)) → All IsWhole (first ∷ rest)
    → slice_split is_backslash (joined_path (first ∷ rest)) ≡ first ∷ rest
parts_back first [] all =
    ap (slice_split is_backslash) (append-nil first)
    ∙ slice_split_none is_backslash first (All-head IsWhole first [] all)
parts_back first (second ∷ rest) all =
    let regroup : joined_path (first ∷ second ∷ rest) ≡ first ++ 92 ∷ joined_path (second ∷ rest) = refl in
    ap (slice_split is_backslash) regroup
    ∙ slice_split_at is_backslash first 92 (joined_path (second ∷ rest))
    (All-head IsWhole first (second ∷ rest) all) refl
    ∙ ap (λ (ps : List (List ℕ)). first ∷ ps) (parts_back second rest (All-tail IsWhole first (second ∷ rest) all))

as_it_is : (text : List ℕ) → is_plain text ≡ true → written text ≡ text
unfolding written
as_it_is text e = rw e refl

pub plain_back : (first : List ℕ) (rest : List (List ℕ)) → All IsWhole (first ∷ rest)
    → is_plain (joined_path (first ∷ rest)) ≡ true → path_in (Some (written_path (first ∷ rest))) ≡ first ∷ rest
plain_back first rest all plain =
    let text = joined_path (first ∷ rest) in
    let printable = (and_parts (begins_plain text) (list_all is_printable text) plain).1 in
    ap (λ (t : List ℕ). slice_split is_backslash (units_of t)) (as_it_is text plain)
    ∙ ap (slice_split is_backslash) (units_back text printable) ∙ parts_back first rest all

-- ---- the key of a spelled path

pub folds_along : (a b z : List ℕ) → folds_same a b ≡ true → folds_same b z ≡ folds_same a z
folds_along [] [] z e = refl
folds_along [] (y ∷ b) z e = absurd (false≢true e)
folds_along (x ∷ a) [] z e = absurd (false≢true e)
folds_along (x ∷ a) (y ∷ b) [] e = refl
folds_along (x ∷ a) (y ∷ b) (w ∷ z) e =
    let both = and_parts (folded_unit x == folded_unit y) (folds_same a b) e in
    let first = both.0 in
    let same : folded_unit y ≡ folded_unit x = grind (arith, nat_tests) in
    let one : (folded_unit y == folded_unit w) ≡ (folded_unit x == folded_unit w) =
    ap (λ (u : ℕ). u == folded_unit w) same in
    ap (λ (c : Bool). c && folds_same b z) one
    ∙ ap (λ (c : Bool). (folded_unit x == folded_unit w) && c) (folds_along a b z both.1)

passes_by : (b : Bool) (name : List ℕ) (t c : Tree) (o : Option Tree) → is_named name t ≡ b
    → cond b (Some t) o ≡ Some c → (o ≡ Some c → is_named name c ≡ true) → is_named name c ≡ true
passes_by true name t c o is e further = (let same : t ≡ c = cc in ap (is_named name) (sym same) ∙ is)
passes_by false name t c o is e further = further e

pub passes : (name : List ℕ) (ts : List Tree) (c : Tree) → find (is_named name) ts ≡ Some c → is_named name c ≡ true
passes name [] c e = absurd cc
passes name (t ∷ ts) c e =
    passes_by (is_named name t) name t c (find (is_named name) ts) refl e (λ f. passes name ts c f)

pub alike : (a b : List ℕ) (ts : List Tree) → folds_same a b ≡ true → find (is_named b) ts ≡ find (is_named a) ts
alike a b [] e = refl
alike a b (t ∷ ts) e =
    ap (λ (c : Bool). cond c (Some t) (find (is_named b) ts)) (folds_along a b (head t).name e)
    ∙ ap (λ (o : Option Tree). cond (is_named a t) (Some t) o) (alike a b ts e)

-- what a path leads to, by the first of its keys
leads_by : (name : List ℕ) (path : List (List ℕ)) (root : Tree) (o : Option Tree) (t : Tree)
    → find (is_named name) (children root) ≡ o → option_and_then (find_key path) o ≡ Some t
    → ((c : Tree) → find_key path c ≡ Some t → find_key (spelled path c) c ≡ Some t)
    → find_key (option_map_or (λ (c : Tree). (head c).name ∷ spelled path c) o []) root ≡ Some t
leads_by name path root None t is found further = absurd cc
leads_by name path root (Some c) t is found further =
    ap (option_and_then (find_key (spelled path c)))
    (alike name (head c).name (children root) (passes name (children root) c is) ∙ is)
    ∙ further c found

pub leads : (path : List (List ℕ)) (root t : Tree) → find_key path root ≡ Some t
    → find_key (spelled path root) root ≡ Some t
leads [] root t found = found
leads (name ∷ path) root t found =
    leads_by name path root (find (is_named name) (children root)) t refl found (λ c f. leads path c t f)

pub no_current : (root c : Tree) (name : List ℕ) → find (is_named name) (children root) ≡ Some c
    → means_current root name ≡ false
no_current root c name is = by_test (folds_same current name) refl
  where
    by_test : (b : Bool) → folds_same current name ≡ b → (b && not (has_child current root)) ≡ false
    by_test true e =
        ap (λ (o : Option Tree). not (is_some o)) (sym (alike current name (children root) e) ∙ is)
    by_test false e = refl

true_by : (name : List ℕ) (path : List (List ℕ)) (root : Tree) (o : Option Tree)
    → find (is_named name) (children root) ≡ o
    → true_path root (option_map_or (λ (c : Tree). (head c).name ∷ spelled path c) o [])
    ≡ Some (option_map_or (λ (c : Tree). (head c).name ∷ spelled path c) o [])
unfolding true_path
true_by name path root None is = refl
true_by name path root (Some c) is =
    let found = alike name (head c).name (children root) (passes name (children root) c is) ∙ is in
    let no = no_current root c (head c).name found in
    rw no refl

pub spelled_true : (path : List (List ℕ)) (root : Tree) → true_path root (spelled path root) ≡ Some (spelled path root)
unfolding true_path
spelled_true [] root = refl
spelled_true (name ∷ path) root = true_by name path root (find (is_named name) (children root)) refl

pub spelled_back : (root : Tree) (path : List (List ℕ)) (t : Tree) → find_key path root ≡ Some t
    → found_key root (spelled path root) ≡ Some t
spelled_back root path t found =
    ap (option_and_then (λ (p : List (List ℕ)). find_key p root)) (spelled_true path root) ∙ leads path root t found
