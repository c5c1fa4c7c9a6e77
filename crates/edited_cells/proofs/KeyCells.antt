-- Keys made and deleted, from the cells that were written and freed.
use Rattle.std.proofs.Common.{◌≡◌, ℕ, suc, ◌+◌, false, List, [], ◌∷◌, ◌++◌, length, Some, Ok, ◌≤◌}
use Rattle.std.specs.Prelude.{find}
use Rattle.hive_model.specs.Bins.{Cells}
use Rattle.hive_model.specs.Valid.{levels}
use Rattle.hive_model.specs.Tree.{Tree, find_key, children, is_named}
use Rattle.hive_model.specs.Edit.{make_key, delete_key, new_key, after_step, add_child, copy_child, renamed}
use Rattle.hive_model.specs.KeyNode.{KeyNode, key_node_at}
use Rattle.hive_model.specs.Walk.{reading}
use Rattle.hive_model.specs.Footprint.{key_place, has_key, child_places, security_cell_at}
use Rattle.hive_model.specs.Stands.{Stands, IsWellFormed, HasApartNames}
use Rattle.edited_cells.specs.Owned.{In, security, Extends, Owns}
use Rattle.edited_cells.specs.Relists.{HasPlace, Deletes}
use Rattle.edited_cells.specs.Lists.{InsertsChild, RemovesChild}
use Rattle.edited_cells.specs.Done.{IsDone}
use Rattle.edited_cells.proofs.FromLists.{inserts_child, removes_child}
use Rattle.edited_cells.proofs.KeySteps.{a_key_made, a_key_deleted, a_child_added, a_child_copied}

module _ (b c : Cells) (root : ℕ) (t u : Tree) (parent : List (List ℕ)) (name : List ℕ) (x left : ℕ) (n : KeyNode)
    (well : IsWellFormed b root t)
    (at : key_place b parent root ≡ Some x) (read : reading key_node_at b x ≡ Ok n)
    (deep : length parent + suc left ≡ 512) where
  -- a new key is put among the children
  pub key_put : (k : Tree) (front back : List ℕ) (y : ℕ) (q : List ℕ) (list : ℕ) (counted : List ℕ)
      → after_step (make_key parent name) t ≡ Ok u → has_key parent name t ≡ false → find_key parent t ≡ Some k
      → child_places b x ≡ front ++ back → InsertsChild b c root x left n front back y q list counted
      → ((o : ℕ) → In counted o → In (security_cell_at b x) o) → Stands c y (new_key name k)
      → HasPlace b name front back → IsDone b c root t u (make_key parent name)
  key_put k front back y q list counted ok absent found places g count new place =
      a_key_made b c root t u k parent name x y left front back counted well ok absent at found deep
      (inserts_child b c root x left n front back y q list counted read places g) count new place

  -- a key is taken out, with all below it
  pub key_taken : (front back : List ℕ) (y : ℕ) (q : List ℕ) (list : ℕ) (counted : List ℕ)
      → after_step (delete_key (parent ++ name ∷ [])) t ≡ Ok u → child_places b x ≡ front ++ y ∷ back
      → Deletes b root parent name y counted → RemovesChild b c root x left n front back y q list counted
      → IsDone b c root t u (delete_key (parent ++ name ∷ []))
  key_taken front back y q list counted ok places deletes g =
      a_key_deleted b c root t u parent name x y left front back counted well ok at deep deletes
      (removes_child b c root x left n front back y q list counted read places g)

module _ (b c : Cells) (root : ℕ) (t u k : Tree) (n : KeyNode) (front back : List ℕ) (y : ℕ) (q : List ℕ) (list : ℕ)
    (counted : List ℕ) (well : IsWellFormed b root t) (read : reading key_node_at b root ≡ Ok n)
    (places : child_places b root ≡ front ++ back) (g : InsertsChild b c root root 511 n front back y q list counted)
  where
    -- a key is put among the children of the root under a name
    pub child_put : (name : List ℕ) → after_step (add_child name k) t ≡ Ok u → HasApartNames k
        → ((o : ℕ) → In counted o → In (security_cell_at b root) o) → Stands c y (renamed name k)
        → HasPlace b name front back
        → IsDone b c root t u (add_child name k)
    child_put name ok apart count new place =
        a_child_added b c root t u k name y front back counted well ok apart
        (inserts_child b c root root 511 n front back y q list counted read places g) count new place

    -- a copy of a child of the root is put among its children under another name
    pub copy_put : (from to : List ℕ) → after_step (copy_child from to) t ≡ Ok u
        → find (is_named from) (children t) ≡ Some k
        → HasApartNames k → levels k ≤ 511
        → ((o : ℕ) → In counted o → (p : List (List ℕ)) × Extends (from ∷ []) p × Owns b root p security o)
        → Stands c y (renamed to k) → HasPlace b to front back → IsDone b c root t u (copy_child from to)
    copy_put from to ok found apart low count new place =
        a_child_copied b c root t u k from to y front back counted well ok found apart low
        (inserts_child b c root root 511 n front back y q list counted read places g) count new place
