-- Which steps do the steps of a text become where `CurrentControlSet` stands for a set? (this project's own)
--
-- Each path that begins with a name which folds like `CurrentControlSet` has the set's name there. The set as a whole isn't deleted by that
-- name: the steps end before the first one that would.
use Rattle.std.specs.Prelude.{ℕ, Bool, true, false, if◌then◌else◌, codes, List, [], ◌∷◌}
use Rattle.nt_bytes.specs.Folding.{folds_same}
use Rattle.hive_model.specs.Edit.{Step, set_value, delete_value, make_key, delete_key, copy_child, add_child}
use Rattle.start_model.specs.Sets.{set_name}

-- the name that stands for the set
abbrev pub current_name : List ℕ
current_name = codes "CurrentControlSet"

-- the set's name in place of that
abbrev pub named_in : List ℕ → List ℕ → List ℕ
named_in set name = if folds_same current_name name then set else name

-- a path with the set's name in its first place
abbrev pub path_in : List ℕ → List (List ℕ) → List (List ℕ)
path_in set [] = []
path_in set (name ∷ path) = named_in set name ∷ path

-- the name of a key to be made below this parent
abbrev pub child_in : List ℕ → List (List ℕ) → List ℕ → List ℕ
child_in set [] name = named_in set name
child_in set (above ∷ path) name = name

-- a step with the set's name in its path
abbrev pub step_in : List ℕ → Step → Step
step_in set (set_value path name kind bytes) = set_value (path_in set path) name kind bytes
step_in set (delete_value path name) = delete_value (path_in set path) name
step_in set (make_key parent name) = make_key (path_in set parent) (child_in set parent name)
step_in set (delete_key path) = delete_key (path_in set path)
step_in set (copy_child from to) = copy_child from to
step_in set (add_child name tree) = add_child name tree

-- the path is that name alone
abbrev pub is_current : List (List ℕ) → Bool
is_current [] = false
is_current (name ∷ []) = folds_same current_name name
is_current (name ∷ next ∷ path) = false

-- the step deletes the set as a whole by that name
abbrev pub deletes_current : Step → Bool
deletes_current (set_value path name kind bytes) = false
deletes_current (delete_value path name) = false
deletes_current (make_key parent name) = false
deletes_current (delete_key path) = is_current path
deletes_current (copy_child from to) = false
deletes_current (add_child name tree) = false

-- the steps to be made, and whether there is one after them that is refused since it deletes the set
pub record SetSteps : Type 0 where
  pub steps : List Step
  pub protected : Bool

-- a step before those
abbrev pub with_step : Step → SetSteps → SetSteps
with_step step made = record { steps = step ∷ made.steps; protected = made.protected }

-- the steps for the set of this name
abbrev pub steps_in : List ℕ → List Step → SetSteps
steps_in set [] = record { steps = []; protected = false }
steps_in set (step ∷ steps) =
    if deletes_current step then record { steps = []; protected = true }
    else with_step (step_in set step) (steps_in set steps)

-- the steps for the set of this number
abbrev pub set_steps : ℕ → List Step → SetSteps
set_steps number steps = steps_in (set_name number) steps
