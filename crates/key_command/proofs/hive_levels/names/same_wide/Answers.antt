use Rattle.std.proofs.Common.{◌≡◌, ◌<◌, ℕ, eqb, List, [], ◌∷◌, length, refl, sym, ap, ◌∙◌, arith}
use Rattle.std.proofs.lemmas.Bool.{ne_eqb}
use Rattle.nt_bytes.specs.Folding.{folds_same}
use Rattle.nt_bytes.specs.Text.{wide_of}
use Rattle.key_command.proofs.hive_levels.names.same_wide.Goals as goal

-- under two bytes there is no unit
short_wide : (ys : List ℕ) → length ys < 2 → wide_of ys ≡ []
short_wide [] l = refl
short_wide (y ∷ []) l = refl
short_wide (y ∷ z ∷ ys) l = absurd (omega arith)

empty_same : (xs : List ℕ) → eqb (length xs) 0 ≡ folds_same xs []
empty_same [] = refl
empty_same (x ∷ xs) = ne_eqb (length (x ∷ xs)) 0 (λ e. omega arith)

pub returns-in_default : goal.returns-in_default
returns-in_default c =
    c.is_empty.ensures ∙ empty_same c.units.xs.now
    ∙ ap (folds_same c.units.xs.now) (sym (short_wide c.units.ys.now c.in_default.len_below)) ∙ c.units.invariant
