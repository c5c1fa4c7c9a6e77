-- Which places the nodes of a packed tree name as those of their descriptors, and how often.
use Rattle.std.specs.Prelude.{◌≡◌, ◌≤◌, ℕ, ◌+◌, ◌==◌, true, if◌then◌else◌, List, [], ◌∷◌, ◌++◌}
use Rattle.nt_bytes.specs.declared.version.HiveVersion.{HiveVersion}
use Rattle.hive_model.specs.Edit.{most_bulk}
use Rattle.hive_model.specs.Tree.{Tree, Trees, key, none, more, listed}
use Rattle.hive_model.specs.Size.{has_own, count, size, bulk_of}
use Rattle.hive_model.specs.Packed.{Above, top, below, node_of, descriptor_place, children_place, ring, sharers_of_all}

-- the places that the nodes of a key that stands here and of all keys below it name, in order
abbrev mutual
  pub named : HiveVersion → Above → ℕ → Tree → List ℕ
  named version up at (key h ts) =
      (node_of version up at h (listed ts)).security ∷ named_of_all version (below up at h) (children_place version up.security at h (count ts)) ts

  -- the same of keys in sequence from here on
  pub named_of_all : HiveVersion → Above → ℕ → Trees → List ℕ
  named_of_all version up at none = []
  named_of_all version up at (more t ts) = named version up at t ++ named_of_all version up (at + size version up.security t) ts

-- how often a place is among these
abbrev pub times : ℕ → List ℕ → ℕ
times at [] = 0
times at (x ∷ xs) = (if x == at then 1 else 0) + times at xs

-- each security cell of a tree that stands here counts the same number of uses, one for its own key and one for each below that shares
-- it (`head_cells`), as its place is among these
abbrev mutual
  pub AreCounted : HiveVersion → List ℕ → Above → ℕ → Tree → Type 0
  AreCounted version names up at (key h ts) =
      (has_own up.security h.security ≡ true → 1 + sharers_of_all h.security ts ≡ times (descriptor_place at h) names)
      × AllAreCounted version names (below up at h) (children_place version up.security at h (count ts)) ts

  -- the same of trees in sequence from here on
  pub AllAreCounted : HiveVersion → List ℕ → Above → ℕ → Trees → Type 0
  AllAreCounted version names up at none = Unit {0}
  AllAreCounted version names up at (more t ts) =
      AreCounted version names up at t × AllAreCounted version names up (at + size version up.security t) ts

-- Each security cell of a packed tree counts the keys whose nodes name it.
abbrev pub PackedCountsUses : Type 0
PackedCountsUses = (version : HiveVersion) (t : Tree) → bulk_of version t ≤ most_bulk →
    let above = top (ring version [] 32 t) in AreCounted version (named version above 32 t) above 32 t
