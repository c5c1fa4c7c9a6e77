-- What a start needs, said of any set of places.
use Rattle.std.specs.Prelude.{◌≡◌, ℕ, Bool, true, false, ◌&&◌, List, map, slice_get}
use Rattle.std.specs.Option.{option_map_or}
use Rattle.std.specs.List.{list_any}
use Rattle.nt_bytes.specs.Folding.{folds_same}
use Rattle.start_model.specs.Demand.{Need, is_taken}
use Rattle.start_model.specs.Ready.{Label}
use Rattle.service_control.specs.Needed.{asks, is_off}
use Rattle.service_control.specs.Leaning.{is_named}

-- the place is among those that a start of this service needs
abbrev pub is_needed : List Need → List Label → List ℕ → ℕ → Bool
is_needed table started name q = is_taken (map (asks started name) table) q

-- the entry at p is not started, and names the one at q in DependOnService
abbrev pub names_one : List Need → List Label → ℕ → ℕ → Bool
names_one table started p q =
    option_map_or (λ a. is_off started a && option_map_or (λ b. list_any (folds_same b.name) a.services) (slice_get table q) false) (slice_get table p) false

-- a set of places has the service and, with each member that is not started, all that it names
pub record HasNeeds (table : List Need) (started : List Label) (name : List ℕ) (set : ℕ → Bool) : Type 0 where
  pub itself : (q : ℕ) → is_named table name q ≡ true → set q ≡ true
  pub named : (p q : ℕ) → set p ≡ true → names_one table started p q ≡ true → set q ≡ true
