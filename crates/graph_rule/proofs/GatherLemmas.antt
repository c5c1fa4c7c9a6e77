-- What is gathered number by number.
use Rattle.std.proofs.Common.{◌≡◌, ℕ, ◌+◌, List, [], ◌∷◌, ◌++◌, map, sym, ap, ◌∙◌, arith}
use Rattle.std.specs.Prelude.{Contains}
use Rattle.std.specs.List.{flat_map, range_with_len}
use Rattle.std.proofs.lemmas.List.FromFn.{map-range_with_len_more}
use Rattle.dependencies.proofs.KeptLemmas.{range_push}
use Rattle.wait_cycles.proofs.MetLemmas.{first_in, later_in}
use Rattle.wait_cycles.proofs.CycleLemmas.{flat_push}

-- more items for one more number
pub flat_more : {X : Type 0} (f : ℕ → List X) (n : ℕ) (xs ys : List X) → xs ≡ flat_map f (range_with_len 0 n) → ys ≡ xs ++ f n
    → ys ≡ flat_map f (range_with_len 0 (n + 1))
flat_more {X} f n xs ys before more =
    more ∙ ap (λ (zs : List X). zs ++ f n) before ∙ sym (flat_push f (range_with_len 0 n) n)
    ∙ ap (flat_map f) (sym (range_push n))

-- one item for one more number
pub each_more : {X : Type 0} (f : ℕ → X) (n : ℕ) (xs ys : List X) (x : X) → xs ≡ map f (range_with_len 0 n) → x ≡ f n
    → ys ≡ xs ++ x ∷ [] → ys ≡ map f (range_with_len 0 (n + 1))
each_more {X} f n xs ys x before is more =
    more ∙ (λ j. before j ++ is j ∷ []) ∙ sym (map-range_with_len_more f 0 n n (omega arith))

-- two functions that agree on a list
pub map_same : {X Y : Type 0} (f g : X → Y) (xs : List X) → ((x : X) → Contains xs x → f x ≡ g x) → map f xs ≡ map g xs
map_same f g [] h = λ j. []
map_same f g (x ∷ xs) h =
    let rest : map f xs ≡ map g xs = map_same f g xs (λ y i. h y (later_in x xs y i)) in
    λ j. h x (first_in x xs) j ∷ rest j
