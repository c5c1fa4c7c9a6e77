-- Which children of a key are searched by binary search? (this project's own)
use Rattle.std.specs.Prelude.{◌≡◌, false, List}
use Rattle.std.specs.List.{AllPairs}
use Rattle.std.specs.Ordering.{is_lt}
use Rattle.nt_bytes.specs.Folding.{folded_order}
use Rattle.hive_model.specs.Tree.{Tree, head}

-- no key has a name that stands before that of an earlier one in the folded order
abbrev pub AreRising : List Tree → Type 0
AreRising keys = AllPairs (λ a b. is_lt (folded_order (head b).name (head a).name) ≡ false) keys
