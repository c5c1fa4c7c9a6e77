-- How are names kept, so that one is found without a scan? (this project's own)
--
-- In runs, each of them in folded order. As the bits of a number that is counted up, the last runs become one together
-- with each new name, so that n names are in at most log n runs.
use Rattle.std.specs.Prelude.{◌≡◌, ℕ, ◌≤◌, ◌||◌, Bool, false, List, [], ◌∷◌, ◌++◌, length, take, Option}
use Rattle.std.specs.List.{list_any, AllWithin}
use Rattle.std.specs.Option.{option_map_or}
use Rattle.std.specs.List.Sorted.{IsSorted}
use Rattle.std.specs.declared.cmp.Ordering.TheVariants.{Less, Greater}
use Rattle.nt_bytes.specs.Folding.{folds_same, folded_order}
use Rattle.start_model.specs.Ready.{Label, has_name, has_group}

-- the names are in their folded order
abbrev pub AreInOrder : List (List ℕ) → Type 0
AreInOrder names = IsSorted folded_order names

-- a name goes at this place: lower names stand before it, and higher ones from it on
pub record IsGap (names : List (List ℕ)) (name : List ℕ) (at : ℕ) : Type 0 where
  pub in_range : at ≤ length names
  pub lower : AllWithin (λ y. folded_order y name ≡ Less) names 0 at
  pub higher : AllWithin (λ y. folded_order y name ≡ Greater) names at (length names)

-- one of the names is this one
abbrev pub is_among : List (List ℕ) → List ℕ → Bool
is_among names q = list_any (folds_same q) names

-- one of the names in the runs is this one
abbrev pub stands_in : List (List (List ℕ)) → List ℕ → Bool
stands_in runs q = list_any (list_any (folds_same q)) runs

-- the name is there, and is this one
abbrev pub is_that : Option (List ℕ) → List ℕ → Bool
is_that name q = option_map_or (folds_same q) name false

-- beside the runs, the second adds the names that the first adds: where the first stands there, it may be none
abbrev pub AddsAlike : List (List (List ℕ)) → Option (List ℕ) → Option (List ℕ) → Type 0
AddsAlike runs first second = (q : List ℕ) → (stands_in runs q || is_that second q) ≡ (stands_in runs q || is_that first q)

-- that many runs stay, and after them one run has the names of the others and this one, where there is one
abbrev pub AreCarried : List (List (List ℕ)) → Option (List ℕ) → ℕ → List (List ℕ) → Type 0
AreCarried runs name kept run = (q : List ℕ) → stands_in (take kept runs ++ run ∷ []) q ≡ (stands_in runs q || is_that name q)

-- the names are those of the entries that were started, and the groups those of such entries
pub record IsIndexed (started : List Label) (names groups : List (List (List ℕ))) : Type 0 where
  pub by_name : (q : List ℕ) → stands_in names q ≡ has_name started q
  pub by_group : (q : List ℕ) → stands_in groups q ≡ has_group started q
