-- How are names kept, so that one that folds alike is found without a scan? (this project's own)
use Rattle.std.specs.Prelude.{◌≡◌, ℕ, Bool, List}
use Rattle.std.specs.List.{list_any}
use Rattle.std.specs.Ordering.{is_eq, nat_cmp}
use Rattle.std.specs.Cmp.Lexicographic.{slice_cmp}
use Rattle.nt_bytes.specs.Folding.{folded, folds_same}

-- the name folds to this key
abbrev pub folds_to : List ℕ → List ℕ → Bool
folds_to name key = is_eq (slice_cmp nat_cmp (folded name) key)

-- the keys are those of the names: each name folds to one of these as to one of those
pub record AreKeysOf (keys : List (List ℕ)) (names : List (List ℕ)) : Type 0 where
  pub each : (name : List ℕ) → list_any (folds_to name) keys ≡ list_any (folds_same name) names
