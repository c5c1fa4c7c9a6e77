-- Which part of a tree is some levels of the key at a path? (This project's own.)
use Rattle.std.specs.Prelude.{◌≡◌, ℕ, zero, suc, List, [], ◌∷◌, find, Option, Some, None, Result, Ok, Err}
use Rattle.nt_bytes.specs.declared.fault.ReadStop.{ReadStop}
use Rattle.nt_bytes.specs.declared.fault.ReadStop.TheVariants as stops
use Rattle.hive_model.specs.Tree.{Head, Tree, Trees, key, none, more, head, children, is_named}

-- what a key of this name has where nothing else of it is asked for
abbrev pub bare : List ℕ → Head
bare name = record { name = name; flags = 0; stamp = 0; class = []; security = []; values = [] }

-- each of these trees changed
abbrev pub each : (Tree → Tree) → Trees → Trees
each change none = none
each change (more t ts) = more (change t) (each change ts)

-- the first n levels of a tree, and of the keys after them the names alone
abbrev pub cut : ℕ → Tree → Tree
cut zero (key h ts) = key (bare h.name) none
cut (suc n) (key h ts) = key h (each (cut n) ts)

-- a key of this name alone, with at most one child
abbrev pub lone : List ℕ → Option Tree → Tree
lone name None = key (bare name) none
lone name (Some t) = key (bare name) (more t none)

-- at most one tree changed
abbrev pub changed : (Tree → Tree) → Option Tree → Option Tree
changed change None = None
changed change (Some t) = Some (change t)

-- the keys that a path leads along, by their names alone, as far as there are any, and n levels of the key at its end
abbrev pub along : List (List ℕ) → ℕ → Tree → Tree
along [] n t = cut n t
along (name ∷ path) n t = lone (head t).name (changed (along path n) (find (is_named name) (children t)))

-- this was read, or there was no memory
abbrev pub Shows : {X : Type 0} → X → Result X ReadStop → Type 0
Shows x (Ok y) = y ≡ x
Shows x (Err stops.Memory) = Unit {0}
Shows x (Err (stops.Fault f)) = ⊥
