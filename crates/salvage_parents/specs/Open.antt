-- How are the children of a key kept while some are found below them? (this project's own)
use Rattle.std.specs.Prelude.{◌≡◌, ◌⊎◌, ◌+◌, ◌≤◌, ◌++◌, ℕ, List, [], ◌∷◌}
use denote.Param.Weighed.{most}
use Rattle.std.proofs.Common.{arith}
use Rattle.hive_model.specs.Tree.{Tree}
use Rattle.hive_model.specs.Codes.{weight, weights, most_le-weights}
use Rattle.salvage_walk.specs.Keys.{key_names}

-- the children are as they were, or each is open; and these are the names of those that are open
pub record AreKept (kept drafts : List Tree) (names : List (List ℕ)) : Type 0 where
  pub one : (kept ≡ []) ⊎ (drafts ≡ [])
  pub named : names ≡ key_names drafts

-- these are the children, and their names
pub record AreOpen (keys drafts : List Tree) (names : List (List ℕ)) : Type 0 where
  pub all : drafts ≡ keys
  pub named : names ≡ key_names keys

weights_after : (kept keys : List Tree) → weights keys ≤ weights (kept ++ keys)
weights_after [] keys = omega arith
weights_after (t ∷ kept) keys = omega (arith, weights_after kept keys)

-- the greatest weight of the open children, and one, is at most the weight of all
pub most_le-open : (kept drafts : List Tree) → most (λ t. weight t + 1) drafts ≤ weights (kept ++ drafts)
most_le-open kept drafts = omega (arith, weights_after kept drafts, most_le-weights drafts)
