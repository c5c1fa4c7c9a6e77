-- A key gets other values: the cells are well-formed again, and the tree with those values is in them.
use Rattle.std.proofs.Common.{◌≡◌, ℕ, List, [], ◌∷◌, ◌++◌, length, refl, sym, subst, Result, Ok, arith}
use Rattle.nt_bytes.specs.declared.fault.HiveFaultKind.{HiveFaultKind}
use Rattle.hive_model.specs.Bins.{Cells}
use Rattle.hive_model.specs.KeyNode.{KeyNode}
use Rattle.edited_cells.specs.Owned.{Reaches, Folds}

-- ---- paths

abbrev done : {A : Type 0} → A → Result A HiveFaultKind
done x = Ok x

pub one_node : (r : Result KeyNode HiveFaultKind) (x y : KeyNode) → r ≡ done x → r ≡ done y → x ≡ y
one_node r x y e d = cc

pub folds_length : (a b : List (List ℕ)) → Folds a b → length a ≡ length b
folds_length [] [] f = refl
folds_length [] (y ∷ b) f = absurd f
folds_length (x ∷ a) [] f = absurd f
folds_length (x ∷ a) (y ∷ b) f = let l = folds_length a b f.1 in omega arith

-- a path, and one from where it leads
pub reach_on : (cells : Cells) (p q : List (List ℕ)) (at x y : ℕ) → Reaches cells at p x → Reaches cells x q y
    → Reaches cells at (p ++ q) y
reach_on cells [] q at x y h g = subst (λ (z : ℕ). Reaches cells z q y) (sym h) g
reach_on cells (m ∷ p) q at x y h g = (h.0, h.1, h.2, reach_on cells p q h.0 x y h.3 g)
