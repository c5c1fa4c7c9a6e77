-- Which cell belongs to which key, and which cells may an edit in place change? (this project's own)
--
-- A key is told by its path from the root. A path is looked up in the cells from before the edit: a node stays where it is, so
-- the key of a later step is an old node at the same path, or new. Whether a step adds a key is judged by the tree before it.
use Rattle.std.specs.Prelude.{◌≡◌, ◌⊎◌, ℕ, ◌==◌, true, false, if◌then◌else◌, List, [], ◌∷◌, ◌++◌, Ok}
use Rattle.nt_bytes.specs.Folding.{folds_same}
use Rattle.hive_model.specs.Bins.{Cells}
use Rattle.hive_model.specs.KeyNode.{KeyNode, key_node_at}
use Rattle.hive_model.specs.KeyValue.{KeyValue, key_value_at}
use Rattle.hive_model.specs.Lists.{offsets_in}
use Rattle.hive_model.specs.Walk.{reading, names_of, value_checks, class_checks}
use Rattle.hive_model.specs.Tree.{Tree}
use Rattle.hive_model.specs.Edit.{Step, set_value, delete_value, make_key, delete_key, copy_child, add_child, after_step}
use Rattle.hive_model.specs.Footprint.{of_read, of_node, used_in, child_places, security_cell_at, list_cells_at, has_key, parent_of}

-- ---- which cell belongs to which key

-- what a cell is to its key; a value's cell and those of its data are one role
pub data Role : Type 0 where
  node : Role
  class : Role
  security : Role
  value_list : Role
  value : (name : List ℕ) → Role
  lists : Role

-- one of these
abbrev pub In : {X : Type 0} → List X → X → Type 0
In [] x = ⊥
In (y ∷ ys) x = (y ≡ x) ⊎ In ys x

-- the first of names, empty where there is none
abbrev pub first_or_empty : List (List ℕ) → List ℕ
first_or_empty [] = []
first_or_empty (n ∷ ns) = n

-- a node's name, empty where none reads
abbrev pub node_name : Cells → ℕ → List ℕ
node_name cells at = first_or_empty (names_of (λ (n : KeyNode). n.name) (reading key_node_at cells at))

-- a value's name, empty where none reads
abbrev pub value_name : Cells → ℕ → List ℕ
value_name cells at = first_or_empty (names_of (λ (v : KeyValue). v.name) (reading key_value_at cells at))

-- the offsets of a key's values, in order
unfoldable pub value_places : Cells → ℕ → List ℕ
value_places cells at =
    of_node cells at (λ n. if n.value_count == 0 then [] else of_read (reading (offsets_in n.value_count) cells n.value_list) (λ offsets. offsets))

-- a key's value list
unfoldable pub value_list_at : Cells → ℕ → List ℕ
value_list_at cells at = of_node cells at (λ n. if n.value_count == 0 then [] else n.value_list ∷ [])

-- a key's class
unfoldable pub class_cell_at : Cells → ℕ → List ℕ
class_cell_at cells at = of_node cells at (λ n. used_in (class_checks cells n))

-- the cell of a value of this name, or one of its data
pub record HasValue (cells : Cells) (at : ℕ) (name : List ℕ) (o : ℕ) : Type 0 where
  pub place : ℕ
  pub listed : In (value_places cells at) place
  pub named : value_name cells place ≡ name
  pub used : In (used_in (value_checks cells [] place)) o

-- the key at an offset has this cell in this role
abbrev pub HasRole : Cells → ℕ → Role → ℕ → Type 0
HasRole cells at node o = at ≡ o
HasRole cells at class o = In (class_cell_at cells at) o
HasRole cells at security o = In (security_cell_at cells at) o
HasRole cells at value_list o = In (value_list_at cells at) o
HasRole cells at (value name) o = HasValue cells at name o
HasRole cells at lists o = In (list_cells_at cells at) o

-- the path of names, as they are stored, leads from one key to another
abbrev pub Reaches : Cells → ℕ → List (List ℕ) → ℕ → Type 0
Reaches cells at [] x = at ≡ x
Reaches cells at (name ∷ path) x = (y : ℕ) × In (child_places cells at) y × (node_name cells y ≡ name) × Reaches cells y path x

-- the key at a path owns this cell in this role
pub record Owns (cells : Cells) (root : ℕ) (path : List (List ℕ)) (role : Role) (o : ℕ) : Type 0 where
  pub at : ℕ
  pub reached : Reaches cells root path at
  pub has : HasRole cells at role o

-- ---- which cells a step names

-- the paths fold to one
abbrev pub Folds : List (List ℕ) → List (List ℕ) → Type 0
Folds [] [] = Unit {0}
Folds [] (y ∷ ys) = ⊥
Folds (x ∷ xs) [] = ⊥
Folds (x ∷ xs) (y ∷ ys) = (folds_same x y ≡ true) × Folds xs ys

-- the second path goes on from one that folds to the first
abbrev pub Extends : List (List ℕ) → List (List ℕ) → Type 0
Extends [] ys = Unit {0}
Extends (x ∷ xs) [] = ⊥
Extends (x ∷ xs) (y ∷ ys) = (folds_same x y ≡ true) × Extends xs ys

-- the paths of the keys that a step names
abbrev pub named_keys : Step → List (List (List ℕ))
named_keys (set_value path name kind bytes) = path ∷ []
named_keys (delete_value path name) = path ∷ []
named_keys (make_key parent name) = (parent ++ name ∷ []) ∷ []
named_keys (delete_key path) = path ∷ []
named_keys (copy_child from to) = (from ∷ []) ∷ (to ∷ []) ∷ []
named_keys (add_child name k) = (name ∷ []) ∷ []

-- it is the node of a named key or of its parent
pub record IsNamed (step : Step) (path : List (List ℕ)) (role : Role) : Type 0 where
  pub key : List (List ℕ)
  pub named : In (named_keys step) key
  pub folds : Folds key path ⊎ Folds (parent_of key) path
  pub is : role ≡ node

-- it is a value list, or of a value whose name folds to this one
abbrev pub IsOfValue : List ℕ → Role → Type 0
IsOfValue name role = (role ≡ value_list) ⊎ ((n : List ℕ) × (role ≡ value n) × (folds_same name n ≡ true))

-- where a key is added: the lists of its parent, and the security cell that the parent uses
abbrev pub IsAdding : Role → Type 0
IsAdding role = (role ≡ lists) ⊎ (role ≡ security)

-- It is another cell of the step: of a value that is set or deleted the value list, its cell and those of its data; of a key that
-- is added, copied or deleted the lists of its parent; for an added key the security cell that its parent uses, for a copied
-- one those that it and the keys below it use; of a deleted key all cells, its own and below it. A key that is made where
-- one of its name is changes nothing.
abbrev pub IsChanged : Tree → Step → List (List ℕ) → Role → Type 0
IsChanged t (set_value at name kind bytes) path role = Folds at path × IsOfValue name role
IsChanged t (delete_value at name) path role = Folds at path × IsOfValue name role
IsChanged t (make_key parent name) path role = (has_key parent name t ≡ false) × Folds parent path × IsAdding role
IsChanged t (delete_key at) path role = (Folds (parent_of at) path × (role ≡ lists)) ⊎ Extends at path
IsChanged t (copy_child from to) path role = (Folds [] path × (role ≡ lists)) ⊎ (Extends (from ∷ []) path × (role ≡ security))
IsChanged t (add_child name k) path role = Folds [] path × IsAdding role

-- the step, on this tree, names what the key at a path owns in a role
abbrev pub Matches : Tree → Step → List (List ℕ) → Role → Type 0
Matches t step path role = IsNamed step path role ⊎ IsChanged t step path role

-- a key owns the cell in a role in which the step names it
pub record IsMatched (cells : Cells) (root : ℕ) (t : Tree) (step : Step) (o : ℕ) : Type 0 where
  pub path : List (List ℕ)
  pub role : Role
  pub owns : Owns cells root path role o
  pub matches : Matches t step path role

-- some of the steps in order, the first on this tree, names the cell, with the tree at the root of these cells before the edit;
-- a refused step ends them and names none
abbrev pub IsInFootprint : Cells → ℕ → Tree → List Step → ℕ → Type 0
IsInFootprint cells root t [] o = ⊥
IsInFootprint cells root t (step ∷ steps) o =
    (u : Tree) × (after_step step t ≡ Ok u) × (IsMatched cells root t step o ⊎ IsInFootprint cells root u steps o)
