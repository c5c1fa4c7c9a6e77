-- A text is parted where a kind of byte ends.
use Rattle.std.proofs.Common.{◌≡◌, ℕ, Bool, true, false, eqb, not, List, [], ◌∷◌, ◌++◌, refl, sym, ap, subst, ◌∙◌, arith}
use Rattle.std.specs.List.{list_all}
use Rattle.std.proofs.lemmas.Bool.{false≢true, and_parts}
use Rattle.std.proofs.lemmas.Bool.Decides.{nat_tests}

-- the first byte, or 0
abbrev pub first_byte : List ℕ → ℕ
first_byte [] = 0
first_byte (c ∷ rest) = c

-- the bytes after the first
abbrev pub rest_of : List ℕ → List ℕ
rest_of [] = []
rest_of (c ∷ rest) = rest

-- two numbers that differ
pub apart : (a b : ℕ) → eqb a b ≡ false → a ≡ b → ⊥
apart a b differ e = grind (arith, nat_tests)

-- a text without its beginning
pub cancel : (front a b : List ℕ) → front ++ a ≡ front ++ b → a ≡ b
cancel [] a b e = e
cancel (c ∷ front) a b e = cancel front a b (ap rest_of e)

pub both_heads : (c d : ℕ) (a b : List ℕ) → c ∷ a ≡ d ∷ b → (c ≡ d) × (a ≡ b)
both_heads c d a b e = (ap first_byte e, ap rest_of e)

-- the kind of byte has ended before the text
abbrev pub stops : (ℕ → Bool) → List ℕ → Bool
stops p [] = true
stops p (c ∷ rest) = not (p c)

clash : (b : Bool) → b ≡ true → not b ≡ true → ⊥
clash true e f = false≢true f
clash false e f = false≢true e

-- of the kind, and not
none_of : (p : ℕ → Bool) (d : ℕ) (b after more : List ℕ) → list_all p (d ∷ b) ≡ true → stops p after ≡ true
    → after ≡ d ∷ (b ++ more) → ⊥
none_of p d b after more all stop e =
    clash (p d) (and_parts (p d) (list_all p b) all).0 (subst (λ (t : List ℕ). stops p t ≡ true) e stop)

pub parted_where : (p : ℕ → Bool) (a b after more : List ℕ) → list_all p a ≡ true → list_all p b ≡ true
    → stops p after ≡ true → stops p more ≡ true → a ++ after ≡ b ++ more → (a ≡ b) × (after ≡ more)
parted_where p [] [] after more all_a all_b stop_a stop_b e = (refl, e)
parted_where p [] (d ∷ b) after more all_a all_b stop_a stop_b e = absurd (none_of p d b after more all_b stop_a e)
parted_where p (c ∷ a) [] after more all_a all_b stop_a stop_b e =
    absurd (none_of p c a more after all_a stop_b (sym e))
parted_where p (c ∷ a) (d ∷ b) after more all_a all_b stop_a stop_b e =
    let both = both_heads c d (a ++ after) (b ++ more) e in
    let further = parted_where p a b after more (and_parts (p c) (list_all p a) all_a).1
    (and_parts (p d) (list_all p b) all_b).1 stop_a stop_b both.1 in
    (ap (λ (h : ℕ). h ∷ a) both.0 ∙ ap (λ (t : List ℕ). d ∷ t) further.0, further.1)
