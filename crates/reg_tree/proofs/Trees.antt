-- A list of trees as the children of a key, and back.
use Rattle.std.proofs.Common.{◌≡◌, Bool, List, [], ◌∷◌, refl, sym, ◌∙◌, ap}
use Rattle.std.specs.Prelude.{IsTrue, ◌↔◌}
use Rattle.hive_model.specs.Tree.{Tree, Trees, key, none, more, trees, listed, Head, head, children}

pub listed_trees : (ts : List Tree) → listed (trees ts) ≡ ts
listed_trees [] = refl
listed_trees (t ∷ ts) = ap (λ us. t ∷ us) (listed_trees ts)

pub trees_listed : (ts : Trees) → trees (listed ts) ≡ ts
trees_listed none = refl
trees_listed (more t ts) = ap (λ us. more t us) (trees_listed ts)

-- trees with equal heads are equal where their children are
pub same_tree : (h g : Head) (ts us : List Tree) (s o : Tree) (r : Bool) → key h (trees ts) ≡ s → key g (trees us) ≡ o
    → head s ≡ head o → IsTrue r ↔ (ts ≡ us) → IsTrue r ↔ (s ≡ o)
same_tree h g ts us s o r v w same i =
    let heads : h ≡ g = ap head v ∙ same ∙ sym (ap head w) in (
      λ t. sym v ∙ (λ j. key (heads j) (trees (i.0 t j))) ∙ w,
      λ e. i.1 (sym (listed_trees ts) ∙ ap children (v ∙ e ∙ sym w) ∙ listed_trees us),
    )
