-- A key and a value is an object each.
use Rattle.std.proofs.Common.{◌≡◌, ◌+◌, ℕ, List, length, refl, arith}
use Rattle.std.proofs.lemmas.List.{length-append, length-map}
use Rattle.hive_model.specs.Tree.{Item, Tree, Trees, key, none, more, key_count, keys_count, item_count, items_count}
use Rattle.tree_text.specs.TreeObjects.{ValueLine, level_below, value_lines, key_lines, keys_lines}

value_count : (level : ℕ) (values : List Item) → length (value_lines level values) ≡ length values
unfolding value_lines
value_count level values = length-map values (ValueLine level)

mutual
  pub line_count : (level : ℕ) (t : Tree) → length (key_lines level t) ≡ key_count t + item_count t
  line_count level (key h ts) =
      omega (
        arith,
        length-append (value_lines level h.values) (keys_lines (level_below level) ts),
        value_count level h.values,
        line_counts (level_below level) ts,
      )

  line_counts : (level : ℕ) (ts : Trees) → length (keys_lines level ts) ≡ keys_count ts + items_count ts
  line_counts level none = refl
  line_counts level (more t ts) =
      omega (
        arith,
        length-append (key_lines level t) (keys_lines level ts),
        line_count level t,
        line_counts level ts,
      )
