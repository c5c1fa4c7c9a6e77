-- Names that fold to one.
use Rattle.std.proofs.Common.{◌≡◌, ℕ, true, ◌&&◌, ◌||◌, nat_eq, List, [], ◌∷◌, map, refl, sym, ap, ◌∙◌}
use Rattle.std.specs.List.{list_any}
use Rattle.std.proofs.lemmas.Bool.{false≢true, and_parts, eqb-true}
use Rattle.nt_bytes.specs.Folding.{folded, folded_unit, folds_same}
use Rattle.dependencies.proofs.MeetLemmas.{unit_again, folded_first, names_flip}
use Rattle.set_diff.specs.Shown.{names_same}
use Rattle.diff_laws.proofs.OwnLemmas.{names_self}

pub folded_again : (a : List ℕ) → folded (folded a) ≡ folded a
folded_again [] = refl
folded_again (x ∷ xs) = let unit = unit_again x in let rest = folded_again xs in λ i. unit i ∷ rest i

pub folded_second : (a b : List ℕ) → folds_same a (folded b) ≡ folds_same a b
folded_second a b = names_flip a (folded b) ∙ folded_first b a ∙ names_flip b a

pub both_folded : (a b : List ℕ) → folds_same (folded a) (folded b) ≡ folds_same a b
both_folded a b = folded_first a (folded b) ∙ folded_second a b

pub one_folded : (a b : List ℕ) → folds_same a b ≡ true → folded a ≡ folded b
one_folded [] [] h = refl
one_folded [] (y ∷ ys) h = absurd (false≢true h)
one_folded (x ∷ xs) [] h = absurd (false≢true h)
one_folded (x ∷ xs) (y ∷ ys) h =
    let both = and_parts (nat_eq (folded_unit x) (folded_unit y)) (folds_same xs ys) h in
    let unit = eqb-true (folded_unit x) (folded_unit y) both.0 in
    let rest = one_folded xs ys both.1 in
    λ i. unit i ∷ rest i

-- of two names that fold to one, either may stand first
pub same_first : (a b c : List ℕ) → folds_same a b ≡ true → folds_same a c ≡ folds_same b c
same_first a b c h = sym (folded_first a c) ∙ ap (λ (n : List ℕ). folds_same n c) (one_folded a b h) ∙ folded_first b c

-- or second
pub same_second : (a b c : List ℕ) → folds_same a b ≡ true → folds_same c a ≡ folds_same c b
same_second a b c h = names_flip c a ∙ same_first a b c h ∙ names_flip b c

-- ---- lists of names

pub names_alike : (ns ms : List (List ℕ)) → names_same ns ms ≡ true → map folded ns ≡ map folded ms
names_alike [] [] h = refl
names_alike [] (m ∷ ms) h = absurd (false≢true h)
names_alike (n ∷ ns) [] h = absurd (false≢true h)
names_alike (n ∷ ns) (m ∷ ms) h =
    let both = and_parts (folds_same n m) (names_same ns ms) h in
    let name = one_folded n m both.0 in
    let rest = names_alike ns ms both.1 in
    λ i. name i ∷ rest i

names_folded : (ns ms : List (List ℕ)) → names_same (map folded ns) (map folded ms) ≡ names_same ns ms
names_folded [] [] = refl
names_folded [] (m ∷ ms) = refl
names_folded (n ∷ ns) [] = refl
names_folded (n ∷ ns) (m ∷ ms) = λ i. both_folded n m i && names_folded ns ms i

pub same_names_of : (ns ms : List (List ℕ)) → map folded ns ≡ map folded ms → names_same ns ms ≡ true
same_names_of ns ms e =
    sym (names_folded ns ms) ∙ ap (λ (ls : List (List ℕ)). names_same ls (map folded ms)) e ∙ names_self (map folded ms)

pub any_folded : (n : List ℕ) (ns : List (List ℕ))
    → list_any (folds_same (folded n)) (map folded ns) ≡ list_any (folds_same n) ns
any_folded n [] = refl
any_folded n (m ∷ ms) = λ i. both_folded n m i || any_folded n ms i
