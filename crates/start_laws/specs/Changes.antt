-- What do a beginning and a save make of the sets?
use Rattle.std.specs.Prelude.{◌≡◌, ◌<◌, ◌≤◌, ◌^◌, ℕ, Bool, true, false, List, [], ◌∷◌, Some, None, codes}
use Rattle.std.specs.Option.{is_some}
use Rattle.std.specs.List.{list_any}
use Rattle.nt_bytes.specs.Folding.{folds_same}
use Rattle.hive_model.specs.Tree.{Tree, head, children, find_key, find_item}
use Rattle.hive_model.specs.Valid.{IsValid}
use Rattle.hive_model.specs.Edit.{renamed}
use Rattle.start_model.specs.Sets.{set_name, set_of, select_numbers_of, is_usable, has_number, four_of, taken_number, begun}
use Rattle.start_model.specs.Fits.{SameSet, good_set_of}

-- ---- what is as it was

-- the name is one of the four numbers' of `Select`
abbrev pub names_a_number : List ℕ → Bool
names_a_number name = list_any (folds_same name) (codes "Current" ∷ codes "Default" ∷ codes "Failed" ∷ codes "LastKnownGood" ∷ [])

-- the name is neither `Select` nor that of a set
pub record IsOther (name : List ℕ) : Type 0 where
  pub select : folds_same name (codes "Select") ≡ false
  pub sets : (m : ℕ) → 1 ≤ m → m ≤ 999 → folds_same name (set_name m) ≡ false

-- one key `Select` has what another has, but for the four numbers
pub record SameButNumbers (new old : Tree) : Type 0 where
  pub own : record (head new) { values = [] } ≡ record (head old) { values = [] }
  pub keys : children new ≡ children old
  pub items : (name : List ℕ) → names_a_number name ≡ false → find_item name new ≡ find_item name old

-- What is neither a set nor one of the four numbers is as it was: the root's own name, values and the like; each key on a
-- path that begins with another name than a set's or `Select`; and of `Select` all but the numbers.
pub record KeepsRest (before after : Tree) : Type 0 where
  pub root : head after ≡ head before
  pub paths : (name : List ℕ) (path : List (List ℕ)) → IsOther name → find_key (name ∷ path) after ≡ find_key (name ∷ path) before
  pub select : (old : Tree) → find_key (codes "Select" ∷ []) before ≡ Some old
      → (new : Tree) × ((find_key (codes "Select" ∷ []) after ≡ Some new) × SameButNumbers new old)

-- one of the tree's four numbers is this one
abbrev pub names : Tree → ℕ → Bool
names t m = has_number (four_of (select_numbers_of t)) m

-- the number names no set, and each lower one names one
pub record IsLowestFree (t : Tree) (n : ℕ) : Type 0 where
  pub least : 1 ≤ n
  pub most : n ≤ 999
  pub free : set_of t n ≡ None
  pub lower : (k : ℕ) → 1 ≤ k → k < n → is_some (set_of t k) ≡ true

-- ---- a beginning and a save

-- The start takes the number n, which Current and Default are then; that set is as it was. Where LastKnownGood was that
-- number too it is the lowest free one then, and else as it was; so it is another one, and where it named a set it names
-- one that is equal but for its name. On LastKnownGood a Default that was another one is Failed then (it was read from
-- four bytes). A set that was there and that a number names now is as it was; one that a number named and none names now
-- is gone; one that no number named is as it was, and so is the rest.
pub record Begins (before : Tree) (on_good : Bool) (n : ℕ) (after : Tree) : Type 0 where
  pub taken : n ≡ taken_number (select_numbers_of before) on_good
  pub current : (select_numbers_of after).current ≡ n
  pub default : (select_numbers_of after).default ≡ n
  pub set : set_of after n ≡ set_of before n
  pub apart : (select_numbers_of after).good ≡ n → ⊥
  pub guarded : (select_numbers_of before).good ≡ n → IsLowestFree before (select_numbers_of after).good
  pub unguarded : ((select_numbers_of before).good ≡ n → ⊥) → (select_numbers_of after).good ≡ (select_numbers_of before).good
  pub failed : (select_numbers_of before).default < 2 ^ 32 → (select_numbers_of after).failed ≡ (begun (select_numbers_of before) on_good).failed
  pub kept : (old : Tree) → good_set_of before ≡ Some old → (new : Tree) × ((good_set_of after ≡ Some new) × SameSet new old)
  pub sets : (select_numbers_of before).default < 2 ^ 32
      → (m : ℕ) → is_usable before m ≡ true → names after m ≡ true → set_of after m ≡ set_of before m
  pub retired : IsValid before → (m : ℕ) → is_usable before m ≡ true → names before m ≡ true → names after m ≡ false → set_of after m ≡ None
  pub others : (m : ℕ) → m ≤ 999 → names before m ≡ false → (m ≡ (select_numbers_of after).good → ⊥) → set_of after m ≡ set_of before m
  pub rest : KeepsRest before after

-- The clone is added under the number n, the lowest that named no set, and LastKnownGood is that number; the other
-- numbers, and the sets that they name, are as they were. A set that a number named and none names now is gone, one that
-- no number named is as it was, and so is the rest.
pub record Saves (before clone : Tree) (n : ℕ) (after : Tree) : Type 0 where
  pub lowest : IsLowestFree before n
  pub added : set_of after n ≡ Some (renamed (set_name n) clone)
  pub good : (select_numbers_of after).good ≡ n
  pub named : good_set_of after ≡ Some (renamed (set_name n) clone)
  pub current : (select_numbers_of after).current ≡ (select_numbers_of before).current
  pub default : (select_numbers_of after).default ≡ (select_numbers_of before).default
  pub failed : (select_numbers_of after).failed ≡ (select_numbers_of before).failed
  pub sets : (m : ℕ) → m ≤ 999
      → has_number ((select_numbers_of before).current ∷ (select_numbers_of before).default ∷ (select_numbers_of before).failed ∷ []) m ≡ true
      → (m ≡ n → ⊥) → set_of after m ≡ set_of before m
  pub retired : IsValid before → (m : ℕ) → is_usable before m ≡ true → names before m ≡ true → names after m ≡ false → set_of after m ≡ None
  pub others : (m : ℕ) → m ≤ 999 → names before m ≡ false → (m ≡ n → ⊥) → set_of after m ≡ set_of before m
  pub rest : KeepsRest before after
