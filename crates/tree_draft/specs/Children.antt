-- How are the children of a key kept while steps go through it? (this project's own)
use Rattle.std.specs.Prelude.{◌≡◌, ◌⊎◌, ◌+◌, ◌≤◌, ◌++◌, ℕ, List, [], ◌∷◌}
use denote.Param.Weighed.{most}
use Rattle.std.specs.Map.{values_of}
use Rattle.std.proofs.Common.{arith}
use Rattle.std.specs.List.{All}
use Rattle.std.specs.Global.{Vec}
use Rattle.std.specs.Ordering.{nat_cmp}
use Rattle.std.specs.Cmp.Lexicographic.{slice_cmp}
use Rattle.std.specs.declared.cmp.Ordering.TheVariants.{Greater}
use Rattle.nt_bytes.specs.Folding.{folded}
use Rattle.hive_model.specs.Tree.{Tree, head}
use Rattle.hive_model.specs.Codes.{weight, weights, most_le-weights}

-- each child stands under its folded name
abbrev pub AreByName : List (Vec ℕ × Tree) → Type 0
AreByName entries = All (λ e. e.0.items ≡ folded (head e.1).name) entries

-- all children stand under names that come before this one
abbrev pub IsBehind : List ℕ → List (Vec ℕ × Tree) → Type 0
IsBehind name entries = All (λ e. slice_cmp nat_cmp name e.0.items ≡ Greater) entries

-- the children stand as they were, or each under its folded name
pub record AreKept (kept : List Tree) (entries : List (Vec ℕ × Tree)) : Type 0 where
  pub one : (kept ≡ []) ⊎ (entries ≡ [])
  pub named : AreByName entries

-- the children, each under its folded name
pub record AreOpened (keys : List Tree) (entries : List (Vec ℕ × Tree)) : Type 0 where
  pub all : values_of entries ≡ keys
  pub named : AreByName entries

weights_behind : (kept keys : List Tree) → weights keys ≤ weights (kept ++ keys)
weights_behind [] keys = omega arith
weights_behind (t ∷ kept) keys = omega (arith, weights_behind kept keys)

-- the greatest weight of the opened children, and one, is at most the weight of all
pub most_le-opened : (kept : List Tree) (entries : List (Vec ℕ × Tree))
    → most (λ t. weight t + 1) (values_of entries) ≤ weights (kept ++ values_of entries)
most_le-opened kept entries = omega (arith, weights_behind kept (values_of entries), most_le-weights (values_of entries))
