-- One step whole: a value that is there gets other data. Its vk is patched where it stands, its old data cell may go,
-- its new one lies where no cell was.
use Rattle.std.proofs.Common.{◌≡◌, ℕ, true, List, [], ◌∷◌, refl}
use Rattle.std.specs.Prelude.{◌==◌}
use Rattle.std.proofs.lemmas.Bool.{eq-eqb, and_from}
use Rattle.nt_bytes.specs.Folding.{folded_unit, folds_same}

pub folds_itself : (a : List ℕ) → folds_same a a ≡ true
folds_itself [] = refl
folds_itself (x ∷ a) =
    and_from (folded_unit x == folded_unit x) (folds_same a a) (eq-eqb (folded_unit x) (folded_unit x) refl)
    (folds_itself a)
