-- Which lines are there of the trees of two control sets? (this project's own)
use Rattle.std.specs.Prelude.{ℕ, ◌==◌, Bool, true, false, not, List, [], ◌∷◌, ◌++◌, count_by, if◌then◌else◌}
use Rattle.std.specs.Option.{option_map_or}
use Rattle.hive_model.specs.Tree.{Head, Tree, Trees, key, none, more, head, children, listed}
use Rattle.answer_lines.specs.declared.diff_lines.lines.DiffLine.{DiffLine}
use Rattle.answer_lines.specs.declared.diff_lines.lines.DiffLine.TheVariants.{Stamps, Flags}
use Rattle.tree_diff.specs.declared.whole.Marks.{Marks}
use Rattle.tree_diff.specs.Heads.{tree_named, own_lines, both_lone_keys}

-- the lines of two keys at a path, with those of their children; the sets' own keys are the topmost ones
abbrev mutual
  pub key_lines : Bool → List (List ℕ) → Tree → Tree → List DiffLine
  key_lines top path (key h ts) b =
      own_lines top path h (listed ts) (head b) (children b) ++ keys_lines path (children b) ts ++ both_lone_keys path (listed ts) (children b)

  -- the lines of each child that has one of its name among the others
  pub keys_lines : List (List ℕ) → List Tree → Trees → List DiffLine
  keys_lines path others none = []
  keys_lines path others (more t ts) =
      option_map_or (key_lines false (path ++ (head t).name ∷ []) t) (tree_named others (head t).name) [] ++ keys_lines path others ts

-- ---- what is counted

-- what differs of two keys that is only counted
abbrev pub marks_of : Head → Head → Marks
marks_of h k = record { stamp = not (h.stamp == k.stamp); flags = not (h.flags == k.flags) }

-- of each pair of keys
abbrev mutual
  pub key_marks : Tree → Tree → List Marks
  key_marks (key h ts) b = marks_of h (head b) ∷ keys_marks (children b) ts

  pub keys_marks : List Tree → Trees → List Marks
  keys_marks others none = []
  keys_marks others (more t ts) = option_map_or (key_marks t) (tree_named others (head t).name) [] ++ keys_marks others ts

-- how many pairs of keys differ in stamps, and in flags
abbrev pub stamps_lines : ℕ → List DiffLine
stamps_lines count = if count == 0 then [] else Stamps count ∷ []

abbrev pub flags_lines : ℕ → List DiffLine
flags_lines count = if count == 0 then [] else Flags count ∷ []

abbrev pub marks_lines : List Marks → List DiffLine
marks_lines marks = stamps_lines (count_by (λ m. m.stamp) marks) ++ flags_lines (count_by (λ m. m.flags) marks)

-- ---- the whole

-- the lines of the trees of two sets
unfoldable pub trees_lines : Tree → Tree → List DiffLine
trees_lines a b = key_lines true [] a b ++ marks_lines (key_marks a b)
