-- What is gathered item by item, and that ways are places of items.
use Rattle.std.proofs.Common.{◌≡◌, ℕ, ◌+◌, ◌<◌, List, [], ◌∷◌, ◌++◌, length, take, get_or, Option, Some, None, refl, ap, ◌∙◌, ◌⊎◌, inl, inr, append_assoc, arith}
use Rattle.std.specs.Prelude.{Contains, nat_eq, position}
use Rattle.std.specs.Option.{option_to_list}
use Rattle.std.specs.List.{filter_map, cons_option}
use Rattle.std.proofs.lemmas.List.Quantifiers.{position-Some}
use Rattle.wait_cycles.proofs.InverseLemmas.{none_in}
use Rattle.wait_cycles.proofs.CycleLemmas.{in_cons}
use Rattle.why_needs.proofs.TakeLemmas.{taken_more}
use Rattle.why_lacks.specs.why_cycle.Needs.{places_in}

-- one more item after what was there before
pub after_more : {A X : Type 0} (h : A → Option X) (items : List A) (i : ℕ) (a : A) (first out new : List X) → i < length items
    → a ≡ get_or items i a → out ≡ first ++ filter_map h (take i items) → new ≡ out ++ option_to_list (h a)
    → new ≡ first ++ filter_map h (take (i + 1) items)
after_more h items i a first out new lt is before more =
    more ∙ ap (λ xs. xs ++ option_to_list (h a)) before ∙ append_assoc first (filter_map h (take i items)) (option_to_list (h a))
    ∙ ap (λ xs. first ++ xs) (taken_more h items i a (filter_map h (take i items)) (filter_map h (take i items) ++ option_to_list (h a)) lt is refl refl)

-- ---- ways

-- a place that is found
place_in : (items : List ℕ) (number : ℕ) (o : Option ℕ) (rest : List ℕ) (v : ℕ) → position (nat_eq number) items ≡ o
    → Contains (cons_option o rest) v → (v < length items) ⊎ Contains rest v
place_in items number None rest v is i = inr i
place_in items number (Some place) rest v is i = elim (in_cons place rest v i) [
  | inl e ↦ inl (omega (arith, e, (position-Some (nat_eq number) items place 0 is).0))
  | inr there ↦ inr there
]

pub places_below : (items numbers : List ℕ) (v : ℕ) → Contains (places_in items numbers) v → v < length items
places_below items [] v i = absurd (none_in v i)
places_below items (number ∷ numbers) v i =
    elim (place_in items number (position (nat_eq number) items) (places_in items numbers) v refl i) [
      | inl here ↦ here
      | inr there ↦ places_below items numbers v there
    ]
