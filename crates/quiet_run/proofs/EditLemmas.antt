-- Whether an edit changed the tree.
use Rattle.std.proofs.Common.{◌≡◌, ◌↔◌, Bool, true, false, refl, sym}
use Rattle.std.specs.Prelude.{IsTrue}
use Rattle.hive_model.specs.Tree.{Tree, same_tree}
use Rattle.run_laws.proofs.SameLemmas.{same-Decides}

both : (a b : Bool) → (a ≡ true → b ≡ true) → (b ≡ true → a ≡ true) → a ≡ b
both true true f g = refl
both true false f g = sym (f refl)
both false true f g = g refl
both false false f g = refl

pub same_as : (r : Bool) (t u : Tree) → (IsTrue r ↔ (t ≡ u)) → r ≡ same_tree t u
same_as r t u h = both r (same_tree t u) (λ e. (same-Decides t u).1 (h.0 e)) (λ e. h.1 ((same-Decides t u).0 e))
