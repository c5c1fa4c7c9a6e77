-- Tests that the search for a place uses.
use Rattle.std.specs.Prelude.{ℕ, Bool, List}
use Rattle.std.specs.Ordering.{is_gt}
use Rattle.nt_bytes.specs.Folding.{folded_order}
use Rattle.hive_model.specs.Tree.{Tree, head}

-- the key's name folds greater than this one
abbrev pub folds_greater : List ℕ → Tree → Bool
folds_greater name t = is_gt (folded_order (head t).name name)
