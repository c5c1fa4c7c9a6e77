-- The places that are taken are those that each closed set has.
use Rattle.std.proofs.Common.{◌≡◌, ◌⊎◌, inl, inr, ℕ, zero, suc, ◌+◌, ◌<◌, ◌≤◌, Bool, true, false, cond, List, [], ◌∷◌, length, filter, refl, sym, ap, subst, ◌∙◌, arith}
use Rattle.std.specs.Prelude.{Contains}
use Rattle.std.specs.List.{range_with_len}
use Rattle.std.proofs.lemmas.Bool.{false≢true}
use Rattle.std.proofs.lemmas.List.Elements.{Contains-append_left, Contains-append_right, Contains-append_cases, Contains-push, Contains-push_cases}
use Rattle.start_model.specs.Demand.{Need, IsClosed, is_taken, automatic_of}
use Rattle.dependencies.proofs.PulledLemmas.{is_taken-closed, is_taken-least_of_all}

-- q is one of n numbers from a on, and passes
record Listed (p : ℕ → Bool) (a n q : ℕ) : Type 0 where
  low : a ≤ q
  high : q < a + n
  passes : p q ≡ true

alone : (x q : ℕ) → Contains (x ∷ []) q → x ≡ q
alone x q h = elim (Contains-push_cases [] x q h) [
  | inl none ↦ absurd (omega (arith, none.1))
  | inr same ↦ same
]

-- a filtered range has only what is in the range and passes
listed_from : (p : ℕ → Bool) (a n q : ℕ) → Contains (filter p (range_with_len a n)) q → Listed p a n q
listed_from p a zero q h = absurd (omega (arith, h.1))
listed_from p a (suc n) q h = split (p a) refl h (listed_from p (a + 1) n q)
  where
    deeper : Listed p (a + 1) n q → Listed p a (suc n) q
    deeper l = record { low = omega (arith, l.low); high = omega (arith, l.high); passes = l.passes }

    split : (b : Bool) → p a ≡ b
        → Contains (cond b (a ∷ filter p (range_with_len (a + 1) n)) (filter p (range_with_len (a + 1) n))) q
        → (Contains (filter p (range_with_len (a + 1) n)) q → Listed p (a + 1) n q) → Listed p a (suc n) q
    split true is c more = elim (Contains-append_cases (a ∷ []) (filter p (range_with_len (a + 1) n)) q c) [
      | inl here ↦ (let same : a ≡ q = alone a q here in
          record { low = omega arith; high = omega arith; passes = ap p (sym same) ∙ is })
      | inr there ↦ deeper (more there)
    ]
    split false is c more = deeper (more c)

cases : (a q : ℕ) → a ≤ q → (a ≡ q) ⊎ (a + 1 ≤ q)
cases a q h = grind arith

listed_to : (p : ℕ → Bool) (a n q : ℕ) → a ≤ q → q < a + n → p q ≡ true → Contains (filter p (range_with_len a n)) q
listed_to p a zero q low high h = absurd (omega arith)
listed_to p a (suc n) q low high h = split (p a) refl (λ above. listed_to p (a + 1) n q above (omega arith) h)
  where
    either : (a ≡ q) ⊎ (a + 1 ≤ q)
    either = cases a q low

    split : (b : Bool) → p a ≡ b → (a + 1 ≤ q → Contains (filter p (range_with_len (a + 1) n)) q)
        → Contains (cond b (a ∷ filter p (range_with_len (a + 1) n)) (filter p (range_with_len (a + 1) n))) q
    split true is more = elim either [
      | inl here ↦ (let H : ℕ → Type 0 = λ x. Contains (a ∷ filter p (range_with_len (a + 1) n)) x in
          subst H here (Contains-append_left (a ∷ []) (filter p (range_with_len (a + 1) n)) a (Contains-push [] a)))
      | inr above ↦ Contains-append_right (a ∷ []) (filter p (range_with_len (a + 1) n)) q (more above)
    ]
    split false is more = elim either [
      | inl here ↦ absurd (false≢true (sym is ∙ ap p here ∙ h))
      | inr above ↦ more above
    ]

-- what is taken is in each closed set, since the taken places are the least of them
pub taken_is_in_each : (table : List Need) (q : ℕ) → Contains (automatic_of table) q
    → (q < length table) × ((set : ℕ → Bool) → IsClosed table set → set q ≡ true)
taken_is_in_each table q h =
    let l = listed_from (is_taken table) 0 (length table) q h in
    let within : q < length table = omega (arith, l.high) in
    (within, λ set closed. is_taken-least_of_all table set closed q within l.passes)

-- what is in each closed set is taken, since the taken places are one of them
pub in_each_is_taken : (table : List Need) (q : ℕ) → q < length table
    → ((set : ℕ → Bool) → IsClosed table set → set q ≡ true) → Contains (automatic_of table) q
in_each_is_taken table q lt all =
    listed_to (is_taken table) 0 (length table) q (omega arith) (omega arith)
    (all (is_taken table) (is_taken-closed table))
