-- What is made of the numbers from 0 on, one number more.
use Rattle.std.proofs.Common.{◌≡◌, ℕ, ◌+◌, List, [], ◌∷◌, ◌++◌, map, sym, ◌∙◌, ap, arith, append-nil, append_assoc}
use Rattle.std.specs.List.{flat_map, range_with_len}
use Rattle.std.proofs.lemmas.List.FromFn.{map-range_with_len_more}
use Rattle.std.proofs.lemmas.Grind.{flat_map-append}

pub one_more : {X : Type 0} (f : ℕ → X) → (n : ℕ)
    → map f (range_with_len 0 (n + 1)) ≡ map f (range_with_len 0 n) ++ f n ∷ []
one_more f n = map-range_with_len_more f 0 n n (omega arith)

-- the same of the bytes of each
pub bytes_more : {X : Type 0} (f : ℕ → X) (bytes : X → List ℕ) → (n : ℕ) (before : List ℕ)
    → before ++ flat_map bytes (map f (range_with_len 0 n)) ++ bytes (f n) ≡ before
    ++ flat_map bytes (map f (range_with_len 0 (n + 1)))
bytes_more {X = X} f bytes n before =
    let first : List X = map f (range_with_len 0 n) in
    let last : flat_map bytes (f n ∷ []) ≡ bytes (f n) = append-nil (bytes (f n)) in
    let all : flat_map bytes (map f (range_with_len 0 (n + 1))) ≡ flat_map bytes first ++ bytes (f n) =
    ap (flat_map bytes) (one_more f n) ∙ flat_map-append bytes first (f n ∷ [])
    ∙ ap (λ l. flat_map bytes first ++ l) last
    in
    append_assoc before (flat_map bytes first) (bytes (f n)) ∙ sym (ap (λ l. before ++ l) all)
