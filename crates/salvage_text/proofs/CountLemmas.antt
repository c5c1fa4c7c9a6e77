-- The counts of a key are its own and those of its children.
use Rattle.std.proofs.Common.{◌≡◌, ◌+◌, ◌<◌, List, [], ◌∷◌, length, refl, sym, ap, ◌∙◌, arith}
use Rattle.hive_model.specs.Tree.{Tree, key, trees, listed, head, children, key_count, keys_count, item_count, items_count}
use Rattle.hive_model.specs.Codes.{weight, weights, weights-trees}
use Rattle.reg_tree.proofs.Trees.{trees_listed}

pub keys_parted : (t : Tree) → key_count t ≡ 1 + keys_count (trees (children t))
keys_parted (key h ts) = ap (λ us. 1 + keys_count us) (sym (trees_listed ts))

pub items_parted : (t : Tree) → item_count t ≡ length (head t).values + items_count (trees (children t))
items_parted (key h ts) = ap (λ us. length h.values + items_count us) (sym (trees_listed ts))

pub weight_parted : (t : Tree) → weight t ≡ 1 + weights (children t)
weight_parted (key h ts) =
    ap (λ us. weight (key h us)) (sym (trees_listed ts)) ∙ ap (λ n. 1 + n) (weights-trees (listed ts))

-- a list without an element
pub empty : (ts : List Tree) → length ts < 1 → ts ≡ []
empty [] h = refl
empty (t ∷ ts) h = absurd (omega (arith, h))
