-- What does `key` show of a key, of the levels below it, and of the level after those? (this project's own)
use Rattle.std.specs.Prelude.{ℕ, ◌-◌, Bool, true, false, ◌==◌, if◌then◌else◌, List, [], Option, option_map, option_and_then}
use Rattle.hive_model.specs.Tree.{Head, Tree, Trees, key, none, more, head, find_key}
use Rattle.key_text.specs.Found.{true_path, spelled}

-- all that a key has but its children; the descriptor only where it is asked for
abbrev pub shown_head : Bool → Head → Head
shown_head true h = h
shown_head false h = record h { security = [] }

-- a key's name alone
abbrev pub named : Tree → Tree
named t = key (record { name = (head t).name; flags = 0; stamp = 0; class = []; security = []; values = [] }) none

-- the names of keys alone
abbrev pub all_named : Trees → Trees
all_named none = none
all_named (more t ts) = more (named t) (all_named ts)

-- a key and that many levels below it, and of the next level the names
abbrev mutual
  pub shown : Bool → ℕ → Tree → Tree
  shown security depth (key h ts) =
      key (shown_head security h) (if depth == 0 then all_named ts else all_shown security (depth - 1) ts)

  -- the same of each of these keys
  pub all_shown : Bool → ℕ → Trees → Trees
  all_shown security depth none = none
  all_shown security depth (more t ts) = more (shown security depth t) (all_shown security depth ts)

-- a key without the descriptors in it
abbrev mutual
  pub bare : Tree → Tree
  bare (key h ts) = key (shown_head false h) (all_bare ts)

  -- each of these keys without the descriptors in it
  pub all_bare : Trees → Trees
  all_bare none = none
  all_bare (more t ts) = more (bare t) (all_bare ts)

-- a key, and its path from the root down as the names are spelled
pub record Place : Type 0 where
  pub path : List (List ℕ)
  pub found : Tree

abbrev pub place_at : Tree → List (List ℕ) → Tree → Place
place_at root path t = record { path = spelled path root; found = t }

-- the key that a path leads to, with the path as it is spelled
abbrev pub place_by : Tree → List (List ℕ) → Option Place
place_by root path = option_map (place_at root path) (find_key path root)

-- the key that a path means, if there is one
abbrev pub place_of : Tree → List (List ℕ) → Option Place
place_of root path = option_and_then (place_by root) (true_path root path)

-- what is shown of it
abbrev pub shown_at : Bool → ℕ → Place → Place
shown_at security depth p = record { path = p.path; found = shown security depth p.found }

-- what `key` shows of the key that a path means, if there is one
abbrev pub shown_of : Tree → List (List ℕ) → ℕ → Bool → Option Place
shown_of root path depth security = option_map (shown_at security depth) (place_of root path)

-- the key at a place without the descriptors in it
abbrev pub bare_at : Place → Place
bare_at p = record { path = p.path; found = bare p.found }
