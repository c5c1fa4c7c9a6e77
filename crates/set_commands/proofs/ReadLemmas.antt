-- What is read by paths is the part of the tree.
use Rattle.std.proofs.Common.{◌≡◌, ℕ, cond, List, [], ◌∷◌, map, Some, refl, ap, ◌∙◌, inl, inr}
use Rattle.std.specs.Prelude.{find, option_and_then, unwrap_or, codes}
use Rattle.nt_bytes.specs.Folding.{folds_same}
use Rattle.hive_model.specs.Tree.{Tree, key, children, listed, is_named, find_key}
use Rattle.hive_model.specs.Valid.{HoldsKeys}
use Rattle.edited_cells.specs.Owned.{In}
use Rattle.reg_tree.proofs.Unlike.{Unlike, unlike_from}
use Rattle.hive_edit.specs.Found.{found_names}
use Rattle.set_commands.specs.hive_sets.Parts.{bare, of_two, set_part, is_wanted, child_part, hive_part}
use Rattle.set_commands.specs.hive_sets.Reads.{set_at, whole_at, child_at}
use Rattle.set_commands.proofs.NameLemmas.{name_of, its_own}

-- below the child of a name
below : (tree : Tree) (name : List ℕ) (t : Tree) (path : List (List ℕ)) → find (is_named name) (children tree) ≡ Some t
    → find_key (name ∷ path) tree ≡ find_key path t
below tree name t path e = ap (option_and_then (find_key path)) e

set_same : (tree t : Tree) → find (is_named (name_of t)) (children tree) ≡ Some t → set_at tree (name_of t) ≡ set_part t
set_same tree t e =
    λ i. of_two (name_of t)
    (Some (of_two (codes "Control") (below tree (name_of t) t (codes "Control" ∷ codes "ServiceGroupOrder" ∷ []) e i)
    (below tree (name_of t) t (codes "Control" ∷ codes "GroupOrderList" ∷ []) e i)))
    (below tree (name_of t) t (codes "Services" ∷ []) e i)

whole_same : (tree t : Tree) → find (is_named (name_of t)) (children tree) ≡ Some t → whole_at tree (name_of t) ≡ t
whole_same tree t e = ap (λ o. unwrap_or o (bare (name_of t) [])) (below tree (name_of t) t [] e)

child_same : (numbers : List ℕ) (tree t : Tree) → find (is_named (name_of t)) (children tree) ≡ Some t
    → child_at tree numbers (name_of t) ≡ child_part numbers t
child_same numbers tree t e =
    λ i. cond (is_wanted numbers (name_of t)) (set_same tree t e i)
    (cond (folds_same (codes "Select") (name_of t)) (whole_same tree t e i) (bare (name_of t) []))

each_same : (numbers : List ℕ) (tree : Tree) (ts : List Tree)
    → ((t : Tree) → In ts t → find (is_named (name_of t)) (children tree) ≡ Some t)
    → map (child_at tree numbers) (map name_of ts) ≡ map (child_part numbers) ts
each_same numbers tree [] own = refl
each_same numbers tree (t ∷ ts) own =
    λ i. child_same numbers tree t (own t (inl refl)) i ∷ each_same numbers tree ts (λ u there. own u (inr there)) i

differ : (t : Tree) → HoldsKeys t → Unlike name_of (children t)
differ (key h ts) held = unlike_from name_of (listed ts) held.0.keys_differ

-- a root with these children is the part of the tree
pub read_part : (numbers : List ℕ) (tree : Tree) → HoldsKeys tree
    → bare [] (map (child_at tree numbers) (found_names [] tree)) ≡ hive_part numbers tree
read_part numbers tree held =
    ap (bare []) (each_same numbers tree (children tree) (λ t there. its_own (children tree) t (differ tree held) there))

-- the same by its steps: the path to the root, the names below it, the parts of its children, and a key of no name with these
pub made_part : (numbers : List ℕ) (tree part : Tree) (path names slice : List (List ℕ)) (keys : List Tree) (name : List ℕ)
    → HoldsKeys tree → path ≡ [] → names ≡ found_names path tree → slice ≡ names
    → keys ≡ map (child_at tree numbers) slice → name ≡ [] → part ≡ bare name keys → part ≡ hive_part numbers tree
made_part numbers tree part path names slice keys name held top found given made none is =
    is ∙ (λ i. bare (none i) (made i)) ∙ ap (λ s. bare [] (map (child_at tree numbers) s)) (given ∙ found)
    ∙ ap (λ p. bare [] (map (child_at tree numbers) (found_names p tree))) top ∙ read_part numbers tree held
