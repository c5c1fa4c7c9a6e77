-- Names that fold to one, and parts of lists.
use Rattle.std.proofs.Common.{◌≡◌, ◌↔◌, ℕ, Bool, true, false, ◌==◌, ◌&&◌, ◌||◌, List, [], ◌∷◌, ◌++◌, bytes_eq, refl, sym, ap, ◌∙◌, append-nil, arith}
use Rattle.std.proofs.lemmas.Bool.{and_parts, false≢true}
use Rattle.std.proofs.lemmas.Bool.Decides.{nat_tests}
use Rattle.nt_bytes.specs.Folding.{folded_unit, folded, folds_same}
use Rattle.find_rule.specs.Matching.{begins_with, is_part, HasWithin}

pub same_when_folded : (a b : List ℕ) → folds_same a b ≡ bytes_eq (folded a) (folded b)
same_when_folded [] [] = refl
same_when_folded [] (y ∷ ys) = refl
same_when_folded (x ∷ xs) [] = refl
same_when_folded (x ∷ xs) (y ∷ ys) = ap (λ (b : Bool). (folded_unit x == folded_unit y) && b) (same_when_folded xs ys)

-- what a list begins with occurs in it
pub part_here : (part whole : List ℕ) → begins_with part whole ≡ true → is_part part whole ≡ true
part_here part [] e = e
part_here part (y ∷ whole) e = ap (λ (b : Bool). b || is_part part whole) e

-- ---- what it is to occur in something

same_parts : (x y : ℕ) (part whole : List ℕ) → begins_with (x ∷ part) (y ∷ whole) ≡ true → (y ≡ x) × (begins_with part whole ≡ true)
same_parts x y part whole e =
    let both = and_parts (x == y) (begins_with part whole) e in
    let one = both.0 in
    (grind (arith, nat_tests), both.1)

front : (part whole : List ℕ) → begins_with part whole ≡ true → (rest : List ℕ) × (whole ≡ part ++ rest)
front [] whole e = (whole, refl)
front (x ∷ part) [] e = absurd (false≢true e)
front (x ∷ part) (y ∷ whole) e =
    let same = same_parts x y part whole e in
    let more = front part whole same.1 in
    (more.0, ap (λ (u : ℕ). u ∷ whole) same.0 ∙ ap (λ (us : List ℕ). x ∷ us) more.1)

front_back : (part rest : List ℕ) → begins_with part (part ++ rest) ≡ true
front_back [] rest = refl
front_back (x ∷ part) rest =
    let same : (x == x) ≡ true = grind (arith, nat_tests) in
    ap (λ (b : Bool). b && begins_with part (part ++ rest)) same ∙ front_back part rest

within : (part whole : List ℕ) → is_part part whole ≡ true → HasWithin part whole
within part [] e = (let f = front part [] e in record { before = []; after = f.0; cut = f.1 })
within part (y ∷ whole) e = by (begins_with part (y ∷ whole)) refl e (λ f. within part whole f)
  where
    by : (b : Bool) → begins_with part (y ∷ whole) ≡ b → (b || is_part part whole) ≡ true
        → (is_part part whole ≡ true → HasWithin part whole) → HasWithin part (y ∷ whole)
    by true is f further = (let g = front part (y ∷ whole) is in record { before = []; after = g.0; cut = g.1 })
    by false is f further =
        let h = further f in
        record { before = y ∷ h.before; after = h.after; cut = ap (λ (us : List ℕ). y ∷ us) h.cut }

or_second : (a b : Bool) → b ≡ true → (a || b) ≡ true
or_second true b e = refl
or_second false b e = e

part_after : (part before after : List ℕ) → is_part part (before ++ part ++ after) ≡ true
part_after part [] after = part_here part (part ++ after) (front_back part after)
part_after part (y ∷ before) after =
    or_second (begins_with part (y ∷ before ++ part ++ after)) (is_part part (before ++ part ++ after)) (part_after part before after)

pub part_exactly : (part whole : List ℕ) → (is_part part whole ≡ true) ↔ HasWithin part whole
part_exactly part whole = (
  within part whole,
  (λ h. ap (is_part part) h.cut ∙ part_after part h.before h.after),
)

same_lists : (a b : List ℕ) → bytes_eq a b ≡ true → a ≡ b
same_lists [] [] e = refl
same_lists [] (y ∷ b) e = absurd (false≢true e)
same_lists (x ∷ a) [] e = absurd (false≢true e)
same_lists (x ∷ a) (y ∷ b) e =
    let both = and_parts (x == y) (bytes_eq a b) e in
    let one = both.0 in
    let first : x ≡ y = grind (arith, nat_tests) in
    ap (λ (u : ℕ). u ∷ a) first ∙ ap (λ (us : List ℕ). y ∷ us) (same_lists a b both.1)

same_itself : (a : List ℕ) → bytes_eq a a ≡ true
same_itself [] = refl
same_itself (x ∷ a) =
    let same : (x == x) ≡ true = grind (arith, nat_tests) in
    ap (λ (b : Bool). b && bytes_eq a a) same ∙ same_itself a

pub whole_exactly : (part whole : List ℕ) → (bytes_eq part whole ≡ true) ↔ (part ≡ whole)
whole_exactly part whole = (
  same_lists part whole,
  (λ e. ap (bytes_eq part) (sym e) ∙ same_itself part),
)

-- what is the whole is a part
pub whole_is_part : (part whole : List ℕ) → bytes_eq part whole ≡ true → is_part part whole ≡ true
whole_is_part part whole e =
    let is = same_lists part whole e in
    ap (is_part part) (sym is ∙ sym (append-nil part)) ∙ part_after part [] []
