-- Sums that stay at the greatest number.
use Rattle.std.proofs.Common.{◌≡◌, ◌<◌, ◌+◌, ◌*◌, ℕ, List, [], ◌∷◌, length, refl, ap, arith}
use Rattle.std.specs.Prelude.{sum_by}
use Rattle.std.proofs.lemmas.List.Recursion.{is_sum_by}
use Rattle.nt_bytes.specs.declared.version.HiveVersion.{HiveVersion}
use Rattle.hive_model.specs.Size.{cell, item_size, items_sum, items_size, size, size_of_all}
use Rattle.nt_bytes.specs.Counts.{capped}
use Rattle.hive_model.specs.Tree.{Item, Tree, trees}
use Rattle.reg_tree.proofs.Trees.{listed_trees}

-- a cell's size needs no more of its payload's length than fits
pub cell_capped : (p q : ℕ) → q ≡ capped p → capped (cell q) ≡ capped (cell p)
cell_capped p q e = omega arith

pub size_of_all-trees : (version : HiveVersion) (shared : List ℕ) (ts : List Tree)
    → size_of_all version shared (trees ts) ≡ sum_by (size version shared) ts
size_of_all-trees version shared =
    is_sum_by (λ us. size_of_all version shared (trees us)) (size version shared) refl (λ t us. refl)

pub items_sum-is : (version : HiveVersion) (vs : List Item) → items_sum version vs ≡ sum_by (item_size version) vs
items_sum-is version = is_sum_by (items_sum version) (item_size version) refl (λ v vs. refl)

pub some_items : (version : HiveVersion) (vs : List Item) → 0 < length vs
    → items_size version vs ≡ cell (4 * length vs) + sum_by (item_size version) vs
some_items version [] h = absurd (omega arith)
some_items version (v ∷ vs) h = ap (λ n. cell (4 * length (v ∷ vs)) + n) (items_sum-is version (v ∷ vs))

pub ruleset sums = (cell_capped, items_sum-is, size_of_all-trees, listed_trees)
