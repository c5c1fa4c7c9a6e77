-- Sizes of keys and of cells together (this project's own).
use Rattle.std.specs.Prelude.{◌≡◌, ◌⊎◌, ◌≤◌, ℕ, ◌+◌, List, [], ◌∷◌, Ok}
use Rattle.nt_bytes.specs.declared.version.HiveVersion.{HiveVersion}
use Rattle.hive_model.specs.Tree.{Tree}
use Rattle.hive_model.specs.Size.{size}
use Rattle.hive_model.specs.Edit.{Step, after_step}
use Rattle.hive_model.specs.Footprint.{room_of, needed_sizes}

-- the sizes of keys in sequence, under a key with this descriptor
abbrev pub sizes_of : HiveVersion → List ℕ → List Tree → ℕ
sizes_of version shared [] = 0
sizes_of version shared (t ∷ ts) = size version shared t + sizes_of version shared ts

-- the sizes of cells together
abbrev pub total : List ℕ → ℕ
total [] = 0
total (x ∷ xs) = x + total xs

-- cells of these sizes are some of cells of those, in order
abbrev pub AreSome : List ℕ → List ℕ → Type 0
AreSome [] ys = Unit {0}
AreSome (x ∷ xs) [] = ⊥
AreSome (x ∷ xs) (y ∷ ys) = ((x ≡ y) × AreSome xs ys) ⊎ AreSome (x ∷ xs) ys

-- From bins data of one length to those of another steps are made in order, none refused, from the one tree to the other, and each
-- makes the data longer by at most the room for cells that it may need.
abbrev pub AreGrown : HiveVersion → ℕ → Tree → List Step → ℕ → Tree → Type 0
AreGrown version bytes t [] now u = (now ≤ bytes) × (t ≡ u)
AreGrown version bytes t (step ∷ steps) now u =
    (v : Tree) × (mid : ℕ) × (asked : List ℕ) × (after_step step t ≡ Ok v) × AreSome asked (needed_sizes version t step v)
    × (mid ≤ bytes + room_of asked) × AreGrown version mid v steps now u
