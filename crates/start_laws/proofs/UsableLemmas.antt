-- The usable numbers of a tree are those that name sets.
use Rattle.std.proofs.Common.{◌≡◌, ℕ, zero, suc, ◌+◌, ◌<◌, ◌≤◌, Bool, true, false, ◌&&◌, ◌||◌, ◌==◌, cond, leb, List, [], ◌∷◌, filter, Option, Some, None, refl, sym, ap, ◌∙◌, arith, eq-eqb, eqb-true}
use Rattle.std.specs.Option.{is_some}
use Rattle.std.specs.List.{range_with_len}
use Rattle.std.proofs.lemmas.Bool.{false≢true, leb-true, and_from, or_left, or_right}
use Rattle.std.proofs.lemmas.Bool.Decides.{nat_tests}
use Rattle.hive_model.specs.Tree.{Tree}
use Rattle.start_model.specs.Sets.{set_of, is_usable, usable_numbers_of, has_number}
use Rattle.start_laws.specs.Changes.{IsLowestFree}
use Rattle.start_laws.proofs.NameLemmas.{and_left, and_right}
use Rattle.start_laws.proofs.NumberLemmas.{IsFree}

-- ---- members of filtered lists

has_from : (p : ℕ → Bool) (xs : List ℕ) (n : ℕ) → has_number (filter p xs) n ≡ true → p n ≡ true
has_from p [] n h = absurd (false≢true h)
has_from p (x ∷ xs) n h = split (p x) refl h (has_from p xs n)
  where
    here : (b : Bool) → (x == n) ≡ b → p x ≡ true → (b || has_number (filter p xs) n) ≡ true
        → (has_number (filter p xs) n ≡ true → p n ≡ true) → p n ≡ true
    here true is passes g deep = ap p (sym (eqb-true x n is)) ∙ passes
    here false is passes g deep = deep g

    split : (b : Bool) → p x ≡ b → has_number (cond b (x ∷ filter p xs) (filter p xs)) n ≡ true
        → (has_number (filter p xs) n ≡ true → p n ≡ true) → p n ≡ true
    split true passes g deep = here (x == n) refl passes g deep
    split false passes g deep = deep g

pub has_among : (p : ℕ → Bool) (xs : List ℕ) (n : ℕ) → has_number (filter p xs) n ≡ true → has_number xs n ≡ true
has_among p [] n h = h
has_among p (x ∷ xs) n h = split (p x) h (has_among p xs n)
  where
    here : (c : Bool) → (x == n) ≡ c → ((x == n) || has_number (filter p xs) n) ≡ true
        → (has_number (filter p xs) n ≡ true → has_number xs n ≡ true) → (c || has_number xs n) ≡ true
    here true is g deep = refl
    here false is g deep = deep (sym (ap (λ d. d || has_number (filter p xs) n) is) ∙ g)

    split : (b : Bool) → has_number (cond b (x ∷ filter p xs) (filter p xs)) n ≡ true
        → (has_number (filter p xs) n ≡ true → has_number xs n ≡ true) → has_number (x ∷ xs) n ≡ true
    split true g deep = here (x == n) refl g deep
    split false g deep = or_right (x == n) (has_number xs n) (deep g)

pub has_not : (p : ℕ → Bool) (xs : List ℕ) (n : ℕ) → p n ≡ false → has_number (filter p xs) n ≡ false
has_not p xs n h = split (has_number (filter p xs) n) refl
  where
    split : (b : Bool) → has_number (filter p xs) n ≡ b → has_number (filter p xs) n ≡ false
    split true e = absurd (false≢true (sym h ∙ has_from p xs n e))
    split false e = e

pub has_kept : (p : ℕ → Bool) (xs : List ℕ) (n : ℕ) → p n ≡ true → has_number xs n ≡ true
    → has_number (filter p xs) n ≡ true
has_kept p [] n h g = g
has_kept p (x ∷ xs) n h g = split (p x) refl (x == n) refl g (has_kept p xs n h)
  where
    split : (b : Bool) → p x ≡ b → (c : Bool) → (x == n) ≡ c → (c || has_number xs n) ≡ true
        → (has_number xs n ≡ true → has_number (filter p xs) n ≡ true)
        → has_number (cond b (x ∷ filter p xs) (filter p xs)) n ≡ true
    split true is true same there deep = or_left (x == n) _ same
    split true is false same there deep = or_right (x == n) _ (deep there)
    split false is true same there deep = absurd (false≢true (sym is ∙ ap p (eqb-true x n same) ∙ h))
    split false is false same there deep = deep there

has_to : (p : ℕ → Bool) (a len n : ℕ) → p n ≡ true → a ≤ n → n < a + len
    → has_number (filter p (range_with_len a len)) n ≡ true
has_to p a zero n h le lt = absurd (omega arith)
has_to p a (suc len) n h le lt = split (p a) refl (a == n) refl (has_to p (a + 1) len n h)
  where
    split : (b : Bool) → p a ≡ b → (c : Bool) → (a == n) ≡ c
        → (a + 1 ≤ n → n < a + 1 + len → has_number (filter p (range_with_len (a + 1) len)) n ≡ true)
        → has_number (cond b (a ∷ filter p (range_with_len (a + 1) len)) (filter p (range_with_len (a + 1) len))) n
        ≡ true
    split true is true same deep = or_left (a == n) _ same
    split true is false same deep =
        let ne : a ≡ n → ⊥ = λ e. false≢true (sym same ∙ eq-eqb a n e) in
        or_right (a == n) _ (deep (omega (arith, ne)) (omega arith))
    split false is true same deep = absurd (false≢true (sym is ∙ ap p (eqb-true a n same) ∙ h))
    split false is false same deep =
        let ne : a ≡ n → ⊥ = λ e. false≢true (sym same ∙ eq-eqb a n e) in deep (omega (arith, ne)) (omega arith)

-- ---- usable numbers

-- a number from 1 to 999 that names a set
pub record Usable (t : Tree) (n : ℕ) : Type 0 where
  pub least : 1 ≤ n
  pub most : n ≤ 999
  pub there : is_some (set_of t n) ≡ true

pub usable_parts : (t : Tree) (n : ℕ) → is_usable t n ≡ true → Usable t n
usable_parts t n h =
    let small : (leb 1 n && leb n 999) ≡ true = and_left (leb 1 n && leb n 999) (is_some (set_of t n)) h in
    record {
      least = leb-true 1 n (and_left (leb 1 n) (leb n 999) small);
      most = leb-true n 999 (and_right (leb 1 n) (leb n 999) small);
      there = and_right (leb 1 n && leb n 999) (is_some (set_of t n)) h;
    }

pub usable_has : (t : Tree) (n : ℕ) → is_usable t n ≡ true → has_number (usable_numbers_of t) n ≡ true
unfolding usable_numbers_of
usable_has t n h = let u = usable_parts t n h in has_to (is_usable t) 1 999 n h u.least (omega (arith, u.most))

pub usable_is : (t : Tree) (n : ℕ) → has_number (usable_numbers_of t) n ≡ true → is_usable t n ≡ true
unfolding usable_numbers_of
usable_is t n h = has_from (is_usable t) (range_with_len 1 999) n h

pub none_or : (o : Option Tree) → is_some o ≡ false → o ≡ None
none_or None h = refl
none_or (Some t) h = absurd (false≢true (sym h))

at_least : (n : ℕ) → 1 ≤ n → leb 1 n ≡ true
at_least n h = grind (arith, nat_tests)

at_most : (n : ℕ) → n ≤ 999 → leb n 999 ≡ true
at_most n h = grind (arith, nat_tests)

pub usable_from : (t : Tree) (n : ℕ) → 1 ≤ n → n ≤ 999 → is_some (set_of t n) ≡ true → is_usable t n ≡ true
usable_from t n low high there =
    and_from (leb 1 n && leb n 999) (is_some (set_of t n))
    (and_from (leb 1 n) (leb n 999) (at_least n low) (at_most n high)) there

-- the free number names no set
pub free_is_none : (t : Tree) (n : ℕ) → IsFree (usable_numbers_of t) n → set_of t n ≡ None
free_is_none t n f = none_or (set_of t n) (split (is_some (set_of t n)) refl)
  where
    split : (b : Bool) → is_some (set_of t n) ≡ b → is_some (set_of t n) ≡ false
    split true e = absurd (false≢true (sym f.unused ∙ usable_has t n (usable_from t n f.least f.most e)))
    split false e = e

-- it is the lowest that names none
pub lowest_free : (t : Tree) (n : ℕ) → IsFree (usable_numbers_of t) n → IsLowestFree t n
lowest_free t n f = record {
  least = f.least;
  most = f.most;
  free = free_is_none t n f;
  lower = λ k low lt. (usable_parts t k (usable_is t k (f.lower k low lt))).there;
}

-- ---- small numbers

abbrev pub Small : List ℕ → Type 0
Small [] = Unit {0}
Small (n ∷ ns) = ((1 ≤ n) × (n ≤ 999)) × Small ns

small_filter : (p : ℕ → Bool) (xs : List ℕ) → Small xs → Small (filter p xs)
small_filter p [] h = tt
small_filter p (x ∷ xs) h = split (p x) (small_filter p xs h.1)
  where
    split : (b : Bool) → Small (filter p xs) → Small (cond b (x ∷ filter p xs) (filter p xs))
    split true deep = (h.0, deep)
    split false deep = deep

small_range : (a len : ℕ) → 1 ≤ a → a + len ≤ 1000 → Small (range_with_len a len)
small_range a zero low h = tt
small_range a (suc len) low h = ((low, omega arith), small_range (a + 1) len (omega arith) (omega arith))

pub small_usable : (t : Tree) → Small (usable_numbers_of t)
unfolding usable_numbers_of
small_usable t = small_filter (is_usable t) (range_with_len 1 999) (small_range 1 999 (omega arith) (omega arith))

pub small_among : (p : ℕ → Bool) (t : Tree) → Small (filter p (usable_numbers_of t))
small_among p t = small_filter p (usable_numbers_of t) (small_usable t)
