-- Which steps are left where those that delete what isn't there are passed over? (this project's own)
--
-- Each step is judged on the tree that the steps before it have made. One that is refused for another reason stays with all that follow
-- it, since none of them is made. So does one that copies or adds a whole child: a text has none.
use Rattle.std.specs.Prelude.{ℕ, ◌+◌, ◌==◌, ◌&&◌, Bool, false, not, if◌then◌else◌, List, [], ◌∷◌, length, Option, Some, None}
use Rattle.std.specs.Option.{is_none}
use Rattle.std.specs.Result.{result_ok}
use Rattle.hive_model.specs.Tree.{Tree, find_key}
use Rattle.hive_model.specs.Edit.{Step, set_value, delete_value, make_key, delete_key, copy_child, add_child, has_item, after_step}

-- the step deletes a key or a value that the tree doesn't have; one that would delete the root is refused
abbrev pub is_void : Step → Tree → Bool
is_void (set_value path name kind bytes) t = false
is_void (delete_value path name) t = not (has_item path name t)
is_void (make_key parent name) t = false
is_void (delete_key path) t = not (length path == 0) && is_none (find_key path t)
is_void (copy_child from to) t = false
is_void (add_child name tree) t = false

-- the tree that a step of a text makes, unless it is refused
abbrev pub tree_after : Step → Tree → Option Tree
tree_after (set_value path name kind bytes) t = result_ok (after_step (set_value path name kind bytes) t)
tree_after (delete_value path name) t = result_ok (after_step (delete_value path name) t)
tree_after (make_key parent name) t = result_ok (after_step (make_key parent name) t)
tree_after (delete_key path) t = result_ok (after_step (delete_key path) t)
tree_after (copy_child from to) t = None
tree_after (add_child name tree) t = None

-- the steps that are left, and how many were passed over
pub record LeftSteps : Type 0 where
  pub steps : List Step
  pub passed : ℕ

-- one more that was passed over, or that is left
abbrev pub with_void : LeftSteps → LeftSteps
with_void left = record { steps = left.steps; passed = left.passed + 1 }

abbrev pub with_kept : Step → LeftSteps → LeftSteps
with_kept step left = record { steps = step ∷ left.steps; passed = left.passed }

-- the steps that are left after one that isn't passed over, by the tree that it makes
abbrev pub left_after : Step → List Step → Option Tree → (Tree → LeftSteps) → LeftSteps
left_after step steps (Some u) next = with_kept step (next u)
left_after step steps None next = record { steps = step ∷ steps; passed = 0 }

-- the steps of a list that are left on a tree
abbrev pub left_of : Tree → List Step → LeftSteps
left_of t [] = record { steps = []; passed = 0 }
left_of t (step ∷ steps) =
    if is_void step t then with_void (left_of t steps)
    else left_after step steps (tree_after step t) (λ u. left_of u steps)
