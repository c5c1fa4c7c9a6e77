-- The units of a string, as the loop reads them.
use Rattle.std.proofs.Common.{◌≡◌, ℕ, suc, ◌+◌, ◌*◌, ◌-◌, ◌≤◌, false, not, eqb, List, [], ◌∷◌, ◌++◌, length, take, drop, get_or, refl, sym, ap, ◌∙◌, append_assoc, arith}
use Rattle.std.specs.List.{prefix_len, before_first}
use Rattle.std.proofs.lemmas.List.{take_rest}
use Rattle.nt_bytes.specs.Text.{is_zero, wide_of, sz_of}

unit_stays : (u : ℕ) (more : List ℕ) → eqb u 0 ≡ false → before_first is_zero (u ∷ more) ≡ u ∷ before_first is_zero more
unit_stays u more unlike =
    let one : 1 + prefix_len (λ x. not (is_zero x)) more ≡ suc (prefix_len (λ x. not (is_zero x)) more) = omega arith in
    rw (unlike, one) refl

-- what was read, and what is left to be read, are the whole
pub string_goes_on : (rest text new total : List ℕ) (u : ℕ) → 2 ≤ length rest
    → u ≡ get_or rest 0 0 + 256 * get_or rest 1 0 → eqb u 0 ≡ false → new ≡ text ++ u ∷ []
    → text ++ sz_of rest ≡ total → new ++ sz_of (take (length rest - 2) (drop 2 rest)) ≡ total
string_goes_on [] text new total u le is unlike read so_far = absurd (omega arith)
string_goes_on (low ∷ []) text new total u le is unlike read so_far = absurd (omega arith)
string_goes_on (low ∷ high ∷ more) text new total u le is unlike read so_far =
    rw (take_rest (low ∷ high ∷ more) 2, read) (append_assoc text (u ∷ []) (sz_of more)
    ∙ ap (λ t. text ++ t) (sym (unit_stays u (wide_of more) unlike)
    ∙ ap (λ v. before_first is_zero (v ∷ wide_of more)) is)
    ∙ so_far)
