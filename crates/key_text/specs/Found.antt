-- Which key does a path mean, and how is its path spelled? (this project's own)
use Rattle.std.specs.Prelude.{ℕ, Bool, ◌&&◌, not, if◌then◌else◌, List, [], ◌∷◌, ◌++◌, find, codes, Option, Some, None, option_and_then}
use Rattle.std.specs.Option.{option_map_or}
use Rattle.nt_bytes.specs.Folding.{folds_same}
use Rattle.hive_model.specs.Tree.{Tree, head, children, is_named, find_key}
use Rattle.hive_model.specs.Edit.{has_child}
use Rattle.start_model.specs.Sets.{select_numbers_of, set_name, is_usable}
use Rattle.key_text.specs.Blocks.{key_lines}
use Rattle.key_text.specs.Lines.{KeyLine, NoKeyLine, EndLine}

-- the name that stands for the set of the next start
abbrev pub current : List ℕ
current = codes "CurrentControlSet"

-- the first name stands for the set of the next start: the root has no child of that name
abbrev pub means_current : Tree → List ℕ → Bool
means_current root name = folds_same current name && not (has_child current root)

-- the path through the set that Default names, if it names one
abbrev pub default_path : Tree → List (List ℕ) → Option (List (List ℕ))
default_path root rest =
    let number = (select_numbers_of root).default in
    if is_usable root number then Some (set_name number ∷ rest) else None

-- the path with the true set in place of `CurrentControlSet`; none where there is no such set
unfoldable pub true_path : Tree → List (List ℕ) → Option (List (List ℕ))
true_path root [] = Some []
true_path root (name ∷ rest) = if means_current root name then default_path root rest else Some (name ∷ rest)

-- the names of the keys to which a path leads, as they are spelled, as far as there are any
abbrev pub spelled : List (List ℕ) → Tree → List (List ℕ)
spelled [] t = []
spelled (name ∷ path) t = option_map_or (λ (c : Tree). (head c).name ∷ spelled path c) (find (is_named name) (children t)) []

-- the key that a path means, if there is one
abbrev pub found_key : Tree → List (List ℕ) → Option Tree
found_key root path = option_and_then (λ (p : List (List ℕ)). find_key p root) (true_path root path)

-- the lines where nothing is found
abbrev pub no_key_lines : List KeyLine
no_key_lines = NoKeyLine ∷ EndLine ∷ []

-- the lines of a key that was found at a path, spelled so
abbrev pub found_lines : Bool → ℕ → List (List ℕ) → Option Tree → List KeyLine
found_lines security depth path None = no_key_lines
found_lines security depth path (Some t) = key_lines security depth path t ++ EndLine ∷ []

-- the lines for a path from the root, if it is one
abbrev pub path_lines : Bool → ℕ → Tree → Option (List (List ℕ)) → List KeyLine
path_lines security depth root None = no_key_lines
path_lines security depth root (Some path) = found_lines security depth (spelled path root) (find_key path root)

-- the lines for a path as it was asked for
abbrev pub lines_of : Tree → List (List ℕ) → ℕ → Bool → List KeyLine
lines_of root path depth security = path_lines security depth root (true_path root path)
