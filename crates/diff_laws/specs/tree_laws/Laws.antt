-- When does nothing differ between the trees of two control sets? (this project's own)
use Rattle.std.specs.Prelude.{◌≡◌, ◌↔◌, ℕ, Bool, true, false, [], Option, Some}
use Rattle.hive_model.specs.Tree.{Tree, head}
use Rattle.hive_model.specs.Edit.{renamed}
use Rattle.hive_model.specs.Valid.{HoldsKeys}
use Rattle.select_keys.specs.Sets.{usable_set}
use Rattle.set_diff.specs.Sets.{difference_count}
use Rattle.tree_diff.specs.Trees.{trees_lines}
use Rattle.set_commands.specs.diff_command.Compared.{found_lines}

-- the first tree is the second one, once its topmost key has the name of that one's
abbrev pub AreEqualButForName : Tree → Tree → Type 0
AreEqualButForName a b = renamed (head b).name a ≡ b

abbrev pub NoLineWhereEqual : Type 0
NoLineWhereEqual = (a b : Tree) → HoldsKeys a → trees_lines a b ≡ [] ↔ AreEqualButForName a b

-- ---- the answer

-- both sets are there, with trees that are equal so
abbrev pub AreBothEqual : Option Tree → Option Tree → Type 0
AreBothEqual (Some a) (Some b) = AreEqualButForName a b
AreBothEqual a b = ⊥

-- no line reports a difference between the sets of two numbers, so that the answer is `same`
abbrev pub AreTheSame : Bool → Tree → ℕ → Tree → ℕ → Type 0
AreTheSame all a n b m = difference_count (found_lines all a n b m) ≡ 0

abbrev pub SameWithAll : Type 0
SameWithAll =
    (a : Tree) (n : ℕ) (b : Tree) (m : ℕ) → HoldsKeys a
    → AreTheSame true a n b m ↔ (AreTheSame false a n b m × AreBothEqual (usable_set a n) (usable_set b m))
