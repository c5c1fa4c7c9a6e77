-- How is the first place of a set at hand without a scan? (this project's own)
--
-- By a tree in a list: node 1 is the root, and below node k stand 2k and 2k + 1. With n places the nodes from n on are
-- the leaves, one for each place.
use Rattle.std.specs.Prelude.{◌≡◌, ◌≢◌, ℕ, ◌+◌, ◌*◌, ◌-◌, ◌^◌, ◌<◌, min, Bool, List, length, slice_index, if◌then◌else◌}
use Rattle.start_model.specs.Demand.{member}

-- the place where it is in the set, else a number above all places
abbrev pub leaf_of : Bool → ℕ → ℕ
leaf_of is_in place = if is_in then place else 2 ^ 64 - 1

-- each node but one has the less of what its two children have
abbrev pub AreNodesBut : ℕ → List ℕ → ℕ → Type 0
AreNodesBut but firsts count =
    (k : ℕ) → 0 < k → k < count → k ≢ but → slice_index firsts k ≡ min (slice_index firsts (2 * k)) (slice_index firsts (2 * k + 1))

-- the tree of a set of places
pub record IsTreeOf (set : List Bool) (firsts : List ℕ) : Type 0 where
  pub len : length firsts ≡ 2 * length set
  pub leaves : (p : ℕ) → p < length set → slice_index firsts (length set + p) ≡ leaf_of (member set p) p
  pub nodes : AreNodesBut 0 firsts (length set)
