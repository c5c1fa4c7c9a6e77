-- What is gathered place by place.
use Rattle.std.proofs.Common.{◌≡◌, ℕ, ◌+◌, List, [], ◌∷◌, ◌++◌, Option, Some, None, refl, sym, ap, ◌∙◌}
use Rattle.std.specs.List.{filter_map, range_with_len}
use Rattle.std.proofs.lemmas.List.Elements.{filter_map-append}
use Rattle.dependencies.proofs.KeptLemmas.{range_push}
use Rattle.std.specs.Option.{option_to_list}

one : {X : Type 0} (f : ℕ → Option X) (n : ℕ) (o : Option X) → f n ≡ o → filter_map f (n ∷ []) ≡ option_to_list o
one f n None is = cc
one f n (Some x) is = cc

-- one more place
pub gathered_more : {X : Type 0} (f : ℕ → Option X) (n : ℕ) (xs ys : List X) → xs ≡ filter_map f (range_with_len 0 n)
    → ys ≡ xs ++ option_to_list (f n) → ys ≡ filter_map f (range_with_len 0 (n + 1))
gathered_more f n xs ys before more =
    more ∙ (λ i. before i ++ sym (one f n (f n) refl) i)
    ∙ sym (ap (filter_map f) (range_push n) ∙ filter_map-append f (range_with_len 0 n) (n ∷ []))
