-- What the logic asks of a type that a model has as its value: a code that distinguishes values, and a weight that is less for
-- each part. A reader of the book needs none of it.
use Rattle.std.specs.Prelude.{◌≡◌, ℕ, ◌+◌, ◌≤◌, Bool, List, [], ◌∷◌, refl}
use Rattle.std.proofs.Common.{ap, arith}
use Rattle.std.specs.Coded.{Coded, code_by, coded×, coded_ℕ, coded_bool, coded_list}
use base.Stored.{Gv, gnil, gcons}
use denote.Param.Weighed.{most}
use Rattle.hive_model.specs.Tree.{Item, Head, Tree, Trees, key, none, more, trees}
use Rattle.hive_model.specs.Bins.{Cell, Bin}

-- ---- values, keys and trees

-- a value as the tuple of its fields
abbrev pub coded_item : Coded Item
coded_item =
    code_by (List ℕ × (ℕ × List ℕ)) (coded× (coded_list coded_ℕ) (coded× coded_ℕ (coded_list coded_ℕ))) (λ v. (v.name, (v.kind, v.bytes)))
    (λ p. record { name = p.0; kind = p.1.0; bytes = p.1.1 }) (λ _. refl)

-- the values of a key
abbrev pub coded_items : Coded (List Item)
coded_items = coded_list coded_item

-- a head as the tuple of its fields
abbrev pub coded_head : Coded Head
coded_head =
    code_by (List ℕ × (ℕ × (ℕ × (List ℕ × (List ℕ × List Item)))))
    (coded× (coded_list coded_ℕ) (coded× coded_ℕ (coded× coded_ℕ (coded× (coded_list coded_ℕ) (coded× (coded_list coded_ℕ) (coded_list coded_item))))))
    (λ h. (h.name, (h.flags, (h.stamp, (h.class, (h.security, h.values))))))
    (λ p. record { name = p.0; flags = p.1.0; stamp = p.1.1.0; class = p.1.1.1.0; security = p.1.1.1.1.0; values = p.1.1.1.1.1 }) (λ _. refl)

-- the first part of a pair of codes
abbrev first_code : Gv → Gv
first_code gnil = gnil
first_code (Gv.gnum n) = gnil
first_code (gcons a b) = a

-- the second part of a pair of codes
abbrev second_code : Gv → Gv
second_code gnil = gnil
second_code (Gv.gnum n) = gnil
second_code (gcons a b) = b

-- a tree as the pair of its head and its children
abbrev mutual
  pub tree_code : Tree → Gv
  tree_code (key h ts) = gcons (coded_head.code h) (trees_code ts)

  -- trees as pairs of the first and the rest, and nil for none
  pub trees_code : Trees → Gv
  trees_code none = gnil
  trees_code (more t ts) = gcons (tree_code t) (trees_code ts)

-- trees with one code are one
mutual
  pub tree_code-inj : (x y : Tree) → tree_code x ≡ tree_code y → x ≡ y
  tree_code-inj (key h ts) (key i us) p = λ j. key (coded_head.inj h i (ap first_code p) j) (trees_code-inj ts us (ap second_code p) j)

  -- lists of children with one code are one
  pub trees_code-inj : (x y : Trees) → trees_code x ≡ trees_code y → x ≡ y
  trees_code-inj none none p = refl
  trees_code-inj none (more u us) p = absurd cc
  trees_code-inj (more t ts) none p = absurd cc
  trees_code-inj (more t ts) (more u us) p = λ j. more (tree_code-inj t u (ap first_code p) j) (trees_code-inj ts us (ap second_code p) j)

-- the code of trees
abbrev pub coded_tree : Coded Tree
coded_tree = record { code = tree_code; inj = tree_code-inj }

-- the code of lists of trees
abbrev pub coded_trees : Coded (List Tree)
coded_trees = coded_list coded_tree

-- more than the weight of each key inside
abbrev mutual
  pub weight : Tree → ℕ
  weight (key h ts) = 1 + weight_of_all ts

  -- the weights of the children of a key together, and one more for each
  pub weight_of_all : Trees → ℕ
  weight_of_all none = 0
  weight_of_all (more t ts) = weight t + 1 + weight_of_all ts

-- more than the weight of each key of the list
abbrev pub weights : List Tree → ℕ
weights [] = 0
weights (t ∷ ts) = weight t + 1 + weights ts

-- a list of trees weighs as much as the children that it makes
pub weights-trees : (ts : List Tree) → weight_of_all (trees ts) ≡ weights ts
weights-trees [] = refl
weights-trees (t ∷ ts) = ap (λ n. weight t + 1 + n) (weights-trees ts)

-- the greatest weight in a list, and one, is at most the weight of the list
pub most_le-weights : (ts : List Tree) → most (λ t. weight t + 1) ts ≤ weights ts
most_le-weights [] = omega arith
most_le-weights (t ∷ ts) = omega (arith, most_le-weights ts)

-- ---- cells and bins

-- a cell as the pair of its flag and its payload, by which the logic distinguishes cells
abbrev pub coded_cell : Coded Cell
coded_cell = code_by (Bool × List ℕ) (coded× coded_bool (coded_list coded_ℕ)) (λ c. (c.allocated, c.payload))
    (λ p. record { allocated = p.0; payload = p.1 }) (λ _. refl)

-- a bin as the pair of its ignored bytes and its cells, by which the logic distinguishes bins
abbrev pub coded_bin : Coded Bin
coded_bin = code_by (List ℕ × List Cell) (coded× (coded_list coded_ℕ) (coded_list coded_cell)) (λ b. (b.ignored, b.cells))
    (λ p. record { ignored = p.0; cells = p.1 }) (λ _. refl)
