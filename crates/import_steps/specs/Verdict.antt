-- What is to be done with a step, by what is seen? (this project's own)
use Rattle.std.specs.Prelude.{◌≡◌, ℕ, ◌+◌, ◌==◌, ◌||◌, Bool, true, false, if◌then◌else◌, nat_lt, List, [], ◌∷◌, length, Some, option_and_then}
use Rattle.std.specs.Option.{is_none, is_some, option_map_or}
use Rattle.hive_model.specs.Tree.{Tree}
use Rattle.hive_model.specs.Valid.{longest_key_name, longest_value_name, longest_data, deepest_level}
use Rattle.hive_model.specs.Edit.{Step, set_value, delete_value, make_key, delete_key, copy_child, add_child, is_bad_name}
use Rattle.import_steps.specs.declared.marks.Life.TheVariants.{Made, Gone}
use Rattle.import_steps.specs.declared.marks.Mark.TheVariants as marks
use Rattle.import_steps.specs.declared.marks.Marks.{Marks}
use Rattle.import_steps.specs.declared.verdict.Verdict.{Verdict}
use Rattle.import_steps.specs.declared.verdict.Verdict.TheVariants as verdicts
use Rattle.import_steps.specs.Marks.{Seen, look, below, holds, IsMarked}

-- the step is refused where this holds
abbrev pub refused_where : Bool → Verdict
refused_where b = if b then verdicts.Ends else verdicts.Made

-- the step is passed over where this holds
abbrev pub void_where : Bool → Verdict
void_where b = if b then verdicts.Void else verdicts.Made

-- whether the key at a path has a value
abbrev pub holds_at : List (List ℕ) → List ℕ → Seen → Bool
holds_at path name s = option_map_or (holds name) (look path s) false

-- whether it has a child
abbrev pub has_below : List (List ℕ) → List ℕ → Seen → Bool
has_below parent name s = is_some (option_and_then (below name) (look parent s))

abbrev pub verdict_of : Step → Seen → Verdict
verdict_of (set_value path name kind bytes) s =
    refused_where (is_none (look path s) || nat_lt longest_value_name (length name) || nat_lt longest_data (length bytes))
verdict_of (delete_value path name) s = if holds_at path name s then verdicts.Made else verdicts.Void
verdict_of (make_key parent name) s =
    refused_where (is_none (look parent s) || is_bad_name name || nat_lt longest_key_name (length name) || nat_lt deepest_level (length parent + 2))
verdict_of (delete_key path) s = if length path == 0 then verdicts.Ends else void_where (is_none (look path s))
verdict_of (copy_child from to) s = verdicts.Ends
verdict_of (add_child name tree) s = verdicts.Ends

-- ---- the marks of a step

-- a path without its last name, and that name
abbrev pub parent_of : List (List ℕ) → List (List ℕ)
parent_of [] = []
parent_of (name ∷ []) = []
parent_of (name ∷ next ∷ path) = name ∷ parent_of (next ∷ path)

abbrev pub last_of : List (List ℕ) → List ℕ
last_of [] = []
last_of (name ∷ []) = name
last_of (name ∷ next ∷ path) = last_of (next ∷ path)

-- a key that is there already has no mark
abbrev pub IsMadeBelow : Bool → List (List ℕ) → List ℕ → Marks → Marks → Type 0
IsMadeBelow true parent name old new = new ≡ old
IsMadeBelow false parent name old new = IsMarked parent (marks.Key name Made) old new

-- the root's path is no key's to delete
abbrev pub IsGoneAt : List (List ℕ) → Marks → Marks → Type 0
IsGoneAt [] old new = Unit {0}
IsGoneAt (name ∷ path) old new = IsMarked (parent_of (name ∷ path)) (marks.Key (last_of (name ∷ path)) Gone) old new

-- the marks after a step, by the tree before all steps
abbrev pub IsMarkedBy : Step → Tree → Marks → Marks → Type 0
IsMarkedBy (set_value path name kind bytes) t old new = IsMarked path (marks.Value name true) old new
IsMarkedBy (delete_value path name) t old new = IsMarked path (marks.Value name false) old new
IsMarkedBy (make_key parent name) t old new =
    IsMadeBelow (has_below parent name (record { marks = Some old; base = Some t })) parent name old new
IsMarkedBy (delete_key path) t old new = IsGoneAt path old new
IsMarkedBy (copy_child from to) t old new = new ≡ old
IsMarkedBy (add_child name tree) t old new = new ≡ old
