-- Each use of what is found lies in its cell.
use Rattle.std.proofs.Common.{◌≡◌, inl, inr, ℕ, List, [], ◌∷◌, ◌++◌, Option, Some, None, subst}
use Rattle.std.specs.Prelude.{take}
use Rattle.hive_model.specs.Tree.{Tree, listed, head}
use Rattle.salvage_bins.specs.Ground.{Ground}
use Rattle.salvage_walk.specs.declared.claims.Claim.{Claim}
use Rattle.salvage_walk.specs.declared.lines.Incomplete.{Incomplete}
use Rattle.salvage_walk.specs.declared.lines.WalkLine.{WalkLine}
use Rattle.salvage_walk.specs.Walked.{Walked}
use Rattle.salvage_walk.specs.Keys.{key_names, salvaged}
use Rattle.salvage_parents.specs.declared.search.ParentLine.{ParentLine}
use Rattle.salvage_parents.specs.declared.search.SearchedTree.{SearchedTree}
use Rattle.salvage_parents.specs.Naming.{naming}
use Rattle.salvage_laws.specs.LeftKeys.{Leaving, TreeLeft}
use Rattle.salvage_laws.proofs.LeavingKeys.{salvage-is}
use Rattle.salvage_laws.proofs.UsesLie.{Lie, none-lie, both-lie, lie-as, AllLie, tree-lies, salvage-lies}
use Rattle.found_laws.specs.found_laws.Found.{NodesLeft, levels_below}
use Rattle.found_laws.specs.found_laws.Searched.{SearchLeft, IsFoundSalvage, with_found, with_nothing}

module _ (hive : Ground) where
  nodes-lie : (Child : Leaving) (left : ℕ) (used : List Claim) (names : List (List ℕ)) (places : List ℕ) (keys : List Tree)
      (uses : List Claim) (said : List WalkLine) → AllLie hive Child → NodesLeft Child left hive used names places keys uses said
      → Lie hive uses
  nodes-lie Child left used names [] keys uses said each l = lie-as hive uses [] l.1 (none-lie hive)
  nodes-lie Child left used names (at ∷ more) keys uses said each (inl l) =
      lie-as hive uses (l.child_uses ++ l.rest_uses) l.uses_are
      (both-lie hive l.child_uses l.rest_uses (each at l.child l.child_uses l.child_said l.stands)
      (nodes-lie Child left used (names ++ (head l.child).name ∷ []) more l.rest_keys l.rest_uses l.rest_said each l.rest))
  nodes-lie Child left used names (at ∷ more) keys uses said each (inr l) =
      nodes-lie Child left used names more keys uses said each l.2

  search-lies : (used : List Claim) (keys : List Incomplete) (t u : Tree) (uses : List Claim) (said : List ParentLine)
      → SearchLeft hive used keys t u uses said → Lie hive uses
  search-lies used [] t u uses said l = lie-as hive uses [] l.1 (none-lie hive)
  search-lies used (own ∷ more) t u uses said l =
      let f = l.first in
      let c = f.children in
      lie-as hive uses (l.own_uses ++ l.rest_uses) l.uses_are
      (both-lie hive l.own_uses l.rest_uses
      (nodes-lie (TreeLeft (levels_below own) hive used f.h.security own.path) (levels_below own) used (key_names (listed f.ts))
      (naming hive own.at hive.slots) c.found l.own_uses c.below (tree-lies hive (levels_below own) used f.h.security own.path) c.nodes)
      (search-lies used more l.between u l.rest_uses l.rest_said l.rest))

  walk-lies : (root : ℕ) (o : Option Tree) (w : Walked) → salvaged hive root ≡ (o, w) → Lie hive w.claims
  walk-lies root o w e =
      subst (λ (r : Option Tree × Walked). Lie hive r.1.claims) e
      (salvage-lies hive root (salvaged hive root).0 (salvaged hive root).1 (salvage-is hive root))

  pub found-lies : (root : ℕ) (used : List Claim) (notes : List Incomplete) (r : SearchedTree) → IsFoundSalvage hive root used notes r
      → Lie hive used
  found-lies root used notes r (with_found t u w later uses said e is a l) =
      lie-as hive used (w.claims ++ uses) is (both-lie hive w.claims uses (walk-lies root (Some t) w e)
      (search-lies used (take hive.slots notes) t u uses said l))
  found-lies root used notes r (with_nothing w e is a) = lie-as hive used w.claims is (walk-lies root None w e)
