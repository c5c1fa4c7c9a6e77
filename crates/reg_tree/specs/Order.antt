-- How are the places of values kept, so that one is found without a scan? (this project's own)
use Rattle.std.specs.Prelude.{◌≡◌, ◌<◌, ◌-◌, ◌==◌, ℕ, Bool, true, not, nat_lt, if◌then◌else◌, List, [], length, slice_index_or}
use Rattle.std.specs.List.{All, AllPairs, Contains}
use Rattle.std.specs.Ordering.{is_lt}
use Rattle.nt_bytes.specs.Folding.{folded_order}
use Rattle.hive_model.specs.Tree.{Item}

-- a value without a name
abbrev pub no_item : Item
no_item = record { name = []; kind = 0; bytes = [] }

-- the name of the value at a place, and no units where there is none
abbrev pub name_at : List Item → ℕ → List ℕ
name_at items k = (slice_index_or items k no_item).name

-- each place of the values, by the folded order of their names, of which no two fold to one
pub record IsOrderOf (items : List Item) (order : List ℕ) : Type 0 where
  pub inside : All (λ k. k < length items) order
  pub each : (k : ℕ) → k < length items → Contains order k
  pub rises : AllPairs (λ a b. is_lt (folded_order (name_at items a) (name_at items b)) ≡ true) order

-- a place is not this one
abbrev pub is_other : ℕ → ℕ → Bool
is_other at k = not (k == at)

-- a place once the value at another is gone
abbrev pub lowered : ℕ → ℕ → ℕ
lowered at k = if nat_lt at k then k - 1 else k
