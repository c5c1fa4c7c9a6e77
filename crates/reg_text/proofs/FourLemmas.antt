-- A list whose first four elements were written together.
use Rattle.std.proofs.Common.{◌≡◌, ℕ, ◌-◌, ◌≤◌, List, [], ◌∷◌, ◌++◌, length, take, drop, get_or, sym, ap, ◌∙◌, append_assoc, arith}
use Rattle.std.specs.List.{flat_map}
use Rattle.std.proofs.lemmas.List.{take_rest}
use Rattle.std.proofs.lemmas.Grind.{flat_map-append}

-- what was written, and what is left to be written, are the whole
pub by_fours : (f : ℕ → List ℕ) (rest out new total : List ℕ) → 4 ≤ length rest
    → new ≡ out ++ flat_map f (get_or rest 0 0 ∷ get_or rest 1 0 ∷ get_or rest 2 0 ∷ get_or rest 3 0 ∷ [])
    → out ++ flat_map f rest ≡ total → new ++ flat_map f (take (length rest - 4) (drop 4 rest)) ≡ total
by_fours f [] out new total le wrote so_far = absurd (omega arith)
by_fours f (a ∷ []) out new total le wrote so_far = absurd (omega arith)
by_fours f (a ∷ b ∷ []) out new total le wrote so_far = absurd (omega arith)
by_fours f (a ∷ b ∷ c ∷ []) out new total le wrote so_far = absurd (omega arith)
by_fours f (a ∷ b ∷ c ∷ d ∷ more) out new total le wrote so_far =
    let four = a ∷ b ∷ c ∷ d ∷ [] in
    rw (take_rest (a ∷ b ∷ c ∷ d ∷ more) 4, wrote) (append_assoc out (flat_map f four) (flat_map f more)
    ∙ ap (λ t. out ++ t) (sym (flat_map-append f four more)) ∙ so_far)
