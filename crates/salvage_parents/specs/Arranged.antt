-- How are the children of a key put in the order of their names (this project's own)?
use Rattle.std.specs.Prelude.{List, [], ◌∷◌}
use Rattle.std.specs.Ordering.{match_ordering}
use Rattle.nt_bytes.specs.Folding.{folded_order}
use Rattle.hive_model.specs.Tree.{Tree, head}

-- a key among others that are in the order of their folded names; in place of one whose name folds to the same
abbrev pub put_by_name : Tree → List Tree → List Tree
put_by_name t [] = t ∷ []
put_by_name t (u ∷ us) = match_ordering (folded_order (head t).name (head u).name) (t ∷ u ∷ us) (t ∷ us) (u ∷ put_by_name t us)

-- these keys, which are in that order, and others
unfoldable pub arranged_onto : List Tree → List Tree → List Tree
arranged_onto keys [] = keys
arranged_onto keys (t ∷ ts) = arranged_onto (put_by_name t keys) ts

-- keys in the order of their folded names
abbrev pub arranged : List Tree → List Tree
arranged keys = arranged_onto [] keys
