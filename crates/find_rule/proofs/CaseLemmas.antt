-- Texts and paths with letters of another case.
use Rattle.std.proofs.Common.{◌≡◌, ℕ, ◌==◌, ◌&&◌, ◌||◌, not, Bool, true, false, cond, List, [], ◌∷◌, Some, None, refl, sym, ap, ◌∙◌, arith}
use Rattle.std.specs.Prelude.{Option, find, option_map, option_and_then}
use Rattle.std.specs.List.{list_any}
use Rattle.std.specs.Option.{option_map_or}
use Rattle.std.proofs.lemmas.Bool.{and_parts, false≢true}
use Rattle.std.proofs.lemmas.Bool.Decides.{nat_tests}
use Rattle.std.proofs.lemmas.List.Elements.{filter_agree}
use Rattle.nt_bytes.specs.Folding.{folded_unit, folded, folds_same}
use Rattle.hive_model.specs.Tree.{Tree, head, children, is_named, find_key}
use Rattle.hive_model.specs.Edit.{has_child}
use Rattle.start_model.specs.Sets.{select_numbers_of, set_name, is_usable}
use Rattle.key_text.specs.Found.{current, means_current, default_path, true_path, spelled}
use Rattle.key_text.proofs.PlainLemmas.{folds_along, alike}
use Rattle.find_rule.specs.declared.wanted.Wanted.{Wanted}
use Rattle.find_rule.specs.Matching.{stands}
use Rattle.find_rule.specs.Hits.{Hit, KeyName, ValueName, Data, strings_in, bytes_stand, is_hit, hits_of, part_hits, path_hits, hits_at}
use Rattle.find_rule.specs.Cases.{with_text, AreSameNames}

-- ---- the text

one_folded : (a b : List ℕ) → folds_same a b ≡ true → folded a ≡ folded b
one_folded [] [] e = refl
one_folded [] (y ∷ b) e = absurd (false≢true e)
one_folded (x ∷ a) [] e = absurd (false≢true e)
one_folded (x ∷ a) (y ∷ b) e =
    let both = and_parts (folded_unit x == folded_unit y) (folds_same a b) e in
    let one = both.0 in
    let first : folded_unit x ≡ folded_unit y = grind (arith, nat_tests) in
    ap (λ (u : ℕ). u ∷ folded a) first ∙ ap (λ (us : List ℕ). folded_unit y ∷ us) (one_folded a b both.1)

hit_alike : (w : Wanted) (text other : List ℕ) → folded text ≡ folded other → (h : Hit)
    → is_hit (with_text w text) h ≡ is_hit (with_text w other) h
hit_alike w text other e (KeyName path name) = λ i. w.names && stands w.exact (e i) (folded name)
hit_alike w text other e (ValueName path name) = λ i. w.names && stands w.exact (e i) (folded name)
hit_alike w text other e (Data path v) =
    λ i. (w.strings && list_any (λ (s : List ℕ). stands w.exact (e i) (folded s)) (strings_in v)) || bytes_stand w v.bytes

pub text_alike : (w : Wanted) (text other : List ℕ) → folds_same text other ≡ true → (all : List Hit)
    → hits_of (with_text w text) all ≡ hits_of (with_text w other) all
text_alike w text other e all =
    filter_agree (is_hit (with_text w text)) (is_hit (with_text w other)) (hit_alike w text other (one_folded text other e)) all

-- ---- the path

flip : (a b : List ℕ) → folds_same a b ≡ folds_same b a
flip [] [] = refl
flip [] (y ∷ b) = refl
flip (x ∷ a) [] = refl
flip (x ∷ a) (y ∷ b) =
    let first : (folded_unit x == folded_unit y) ≡ (folded_unit y == folded_unit x) = grind (arith, nat_tests) in
    λ i. first i && flip a b i

itself : (a : List ℕ) → folds_same a a ≡ true
itself [] = refl
itself (x ∷ a) =
    let same : (folded_unit x == folded_unit x) ≡ true = grind (arith, nat_tests) in
    ap (λ (b : Bool). b && folds_same a a) same ∙ itself a

same_key : (p q : List (List ℕ)) (t : Tree) → AreSameNames p q → find_key p t ≡ find_key q t
same_key [] [] t e = refl
same_key [] (y ∷ q) t e = absurd e
same_key (x ∷ p) [] t e = absurd e
same_key (x ∷ p) (y ∷ q) t e =
    by (find (is_named x) (children t)) (λ c. same_key p q c e.1)
    ∙ ap (option_and_then (find_key q)) (sym (alike x y (children t) e.0))
  where
    by : (o : Option Tree) → ((c : Tree) → find_key p c ≡ find_key q c) → option_and_then (find_key p) o ≡ option_and_then (find_key q) o
    by None further = refl
    by (Some c) further = further c

same_spelling : (p q : List (List ℕ)) (t : Tree) → AreSameNames p q → spelled p t ≡ spelled q t
same_spelling [] [] t e = refl
same_spelling [] (y ∷ q) t e = absurd e
same_spelling (x ∷ p) [] t e = absurd e
same_spelling (x ∷ p) (y ∷ q) t e =
    by (find (is_named x) (children t)) (λ c. same_spelling p q c e.1)
    ∙ ap (λ (o : Option Tree). option_map_or (λ (c : Tree). (head c).name ∷ spelled q c) o []) (sym (alike x y (children t) e.0))
  where
    by : (o : Option Tree) → ((c : Tree) → spelled p c ≡ spelled q c)
        → option_map_or (λ (c : Tree). (head c).name ∷ spelled p c) o [] ≡ option_map_or (λ (c : Tree). (head c).name ∷ spelled q c) o []
    by None further = refl
    by (Some c) further = ap (λ (names : List (List ℕ)). (head c).name ∷ names) (further c)

same_path : (w : Wanted) (root : Tree) (p q : List (List ℕ)) → AreSameNames p q
    → path_hits w root (Some p) ≡ path_hits w root (Some q)
same_path w root p q e = λ i. part_hits w (same_spelling p q root e i) (same_key p q root e i)

same_current : (root : Tree) (x y : List ℕ) → folds_same x y ≡ true → means_current root x ≡ means_current root y
same_current root x y e =
    let one : folds_same current x ≡ folds_same current y =
    flip current x ∙ sym (folds_along x y current e) ∙ flip y current in
    ap (λ (b : Bool). b && not (has_child current root)) one

by_set : (w : Wanted) (root : Tree) (p q : List (List ℕ)) (b : Bool) → AreSameNames p q
    → path_hits w root (cond b (Some (set_name (select_numbers_of root).default ∷ p)) None)
    ≡ path_hits w root (cond b (Some (set_name (select_numbers_of root).default ∷ q)) None)
by_set w root p q true e =
    let name = set_name (select_numbers_of root).default in same_path w root (name ∷ p) (name ∷ q) (itself name, e)
by_set w root p q false e = refl

by_first : (w : Wanted) (root : Tree) (x y : List ℕ) (p q : List (List ℕ)) (b : Bool) → folds_same x y ≡ true → AreSameNames p q
    → path_hits w root (cond b (default_path root p) (Some (x ∷ p))) ≡ path_hits w root (cond b (default_path root q) (Some (y ∷ q)))
by_first w root x y p q true e f = by_set w root p q (is_usable root (select_numbers_of root).default) f
by_first w root x y p q false e f = same_path w root (x ∷ p) (y ∷ q) (e, f)

pub path_alike : (w : Wanted) (root : Tree) (p q : List (List ℕ)) → AreSameNames p q → hits_at w root p ≡ hits_at w root q
unfolding true_path
path_alike w root [] [] e = refl
path_alike w root [] (y ∷ q) e = absurd e
path_alike w root (x ∷ p) [] e = absurd e
path_alike w root (x ∷ p) (y ∷ q) e =
    by_first w root x y p q (means_current root x) e.0 e.1
    ∙ ap (λ (b : Bool). path_hits w root (cond b (default_path root q) (Some (y ∷ q)))) (same_current root x y e.0)
