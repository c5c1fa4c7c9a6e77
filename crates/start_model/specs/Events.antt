-- What does a line of the script ask for, and which edit is it? (this project's own)
use Rattle.std.specs.Prelude.{ℕ, ◌-◌, Bool, false, ◌&&◌, ◌||◌, nat_le, if◌then◌else◌, List, [], ◌∷◌, length, take, drop, Option, codes}
use Rattle.std.specs.List.{list_all}
use Rattle.nt_bytes.specs.Folding.{folds_same}
use Rattle.hive_model.specs.Image.{Keep, Arming}
use Rattle.hive_model.specs.Edit.{Step, set_value, delete_value, make_key, delete_key}
use Rattle.start_model.specs.Sets.{set_name}
use Rattle.hive_model.specs.Footprint.{parent_of}

-- an edit of a value or of a key at a path, which is the list of its components
pub data Edit : Type 0 where
  Set : (path : List (List ℕ)) → (name : List ℕ) → (kind : ℕ) → (bytes : List ℕ) → Edit
  Delete : (path : List (List ℕ)) → (name : List ℕ) → Edit
  Make : (path : List (List ℕ)) → Edit
  Remove : (path : List (List ℕ)) → Edit

-- what a line of the script asks for
pub data Event : Type 0 where
  -- the wanted entry of boot.ini, counted from 1, and whether LastKnownGood is wanted
  BootNow : (entry : Option ℕ) → (last_known_good : Bool) → Event
  -- that many steps of the starter, or all
  Go : (steps : Option ℕ) → Event
  -- the next attempts of this name that fail
  Fail : (name : List ℕ) → (count : ℕ) → Event
  -- from now on a start that has passed its boot phase without this name stops
  Vital : (name : List ℕ) → Event
  Edits : Edit → Event
  Flush : Event
  Logon : Event
  Off : Event
  CutNow : Keep → Event
  -- orders a stop of the disk
  Arm : Arming → Event

-- `CurrentControlSet`, which stands for the set that the start took
abbrev pub is_current : List ℕ → Bool
is_current name = folds_same name (codes "CurrentControlSet")

-- a decimal digit, 0x30 to 0x39
abbrev pub is_digit_unit : ℕ → Bool
is_digit_unit u = nat_le 48 u && nat_le u 57

-- `ControlSet` and exactly three digits
abbrev pub names_a_set : List ℕ → Bool
names_a_set name = folds_same (take (length name - 3) name) (codes "ControlSet") && list_all is_digit_unit (drop (length name - 3) name)

-- the root's children that no script may edit: `Select`, and the sets by their numbers
abbrev pub is_protected_child : List ℕ → Bool
is_protected_child name = folds_same name (codes "Select") || names_a_set name

-- the path's first component is `Select` or a set by its number
abbrev pub begins_protected : List (List ℕ) → Bool
begins_protected [] = false
begins_protected (first ∷ path) = is_protected_child first

-- the path `CurrentControlSet` and no more
abbrev pub is_current_alone : List (List ℕ) → Bool
is_current_alone [] = false
is_current_alone (first ∷ []) = is_current first
is_current_alone (first ∷ second ∷ path) = false

-- an edit of what a start stands on is refused; the taken set itself is neither made nor removed
abbrev pub is_protected : Edit → Bool
is_protected (Set path name kind bytes) = begins_protected path
is_protected (Delete path name) = begins_protected path
is_protected (Make path) = begins_protected path || is_current_alone path
is_protected (Remove path) = begins_protected path || is_current_alone path

-- the path with the taken set's own name in the place of `CurrentControlSet`
abbrev pub resolved : ℕ → List (List ℕ) → List (List ℕ)
resolved number [] = []
resolved number (first ∷ path) = if is_current first then set_name number ∷ path else first ∷ path

-- the last component; empty where the path has none
abbrev pub last_of : List (List ℕ) → List ℕ
last_of [] = []
last_of (name ∷ []) = name
last_of (name ∷ next ∷ path) = last_of (next ∷ path)

-- the step on the tree that an edit is, where the start took this number
abbrev pub step_of : ℕ → Edit → Step
step_of number (Set path name kind bytes) = set_value (resolved number path) name kind bytes
step_of number (Delete path name) = delete_value (resolved number path) name
step_of number (Make path) = make_key (parent_of (resolved number path)) (last_of (resolved number path))
step_of number (Remove path) = delete_key (resolved number path)
