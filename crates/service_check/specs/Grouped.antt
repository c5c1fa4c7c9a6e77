-- What are the needs of a stage's groups, after some of the entries?
use Rattle.std.specs.Prelude.{◌≡◌, ℕ, ◌<◌, List, [], ◌∷◌, ◌++◌, length, slice_index_or, slice_set, Option, Some, None}
use Rattle.service_check.specs.declared.stage.Stage.{Stage}
use Rattle.service_check.specs.declared.stage.Staged.{Staged}
use Rattle.service_check.specs.Vertices.{members_upto}

pub record AreGrouped (rows : List Staged) (stage : Stage) (groups : List (List ℕ)) (n : ℕ) (ways : List (List ℕ)) : Type 0 where
  pub len : length ways ≡ length groups
  pub each : (k : ℕ) → k < length groups → slice_index_or ways k [] ≡ members_upto rows stage groups n k

-- one place more in one of the lists
abbrev pub with_one : List (List ℕ) → ℕ → ℕ → List (List ℕ)
with_one ways at place = slice_set ways at (slice_index_or ways at [] ++ place ∷ [])

-- a place came to the list at this place, where there is one
abbrev pub PutsMember : Option ℕ → ℕ → List (List ℕ) → List (List ℕ) → Type 0
PutsMember (Some at) place old new = new ≡ with_one old at place
PutsMember None place old new = new ≡ old
