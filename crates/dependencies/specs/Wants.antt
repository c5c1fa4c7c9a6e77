-- How many names of an entry are not met? (this project's own)
--
-- A want is a name that an entry depends on. All wants of a kind are in one list, and each knows its owner, the place
-- of the entry that gives the name.
use Rattle.std.specs.Prelude.{◌≡◌, ◌≢◌, ℕ, ◌+◌, ◌==◌, ◌<◌, ◌≤◌, Bool, true, not, ◌&&◌, List, [], ◌∷◌, ◌++◌, length, map, All, count_by, slice_index, slice_index_or, if◌then◌else◌}
use Rattle.std.specs.List.{flat_map}
use Rattle.nt_bytes.specs.Folding.{folds_same}
use Rattle.start_model.specs.Demand.{Need, member}
use Rattle.start_model.specs.Ready.{Label, has_name, has_group}
use Rattle.dependencies.specs.declared.wants.Kind.{Kind}
use Rattle.dependencies.specs.declared.wants.Kind.TheVariants.{Service, Group}

-- the names of a kind that an entry depends on
abbrev pub given : Kind → Need → List (List ℕ)
given Service n = n.services
given Group n = n.groups

-- those who were started meet a name
abbrev pub meets : Kind → List Label → List ℕ → Bool
meets Service started = has_name started
meets Group started = has_group started

-- the owners of the names that entries give, where the first entry has this place
abbrev pub owners_from : Kind → ℕ → List Need → List ℕ
owners_from kind i [] = []
owners_from kind i (n ∷ ns) = map (λ g. i) (given kind n) ++ owners_from kind (i + 1) ns

-- the names that entries give
abbrev pub names_given : Kind → List Need → List (List ℕ)
names_given kind needs = flat_map (given kind) needs

-- the wants of a kind: of how many entries they are, the owner of each, and whether it is met
pub record WantsState : Type 0 where
  pub count : ℕ
  pub owners : List ℕ
  pub met : List Bool

-- how many wants of the entry at a place are not met
abbrev pub unmet_among : List ℕ → List Bool → ℕ → ℕ
unmet_among [] met p = 0
unmet_among (o ∷ os) [] p = 0
unmet_among (o ∷ os) (m ∷ ms) p = (if (o == p) && not m then 1 else 0) + unmet_among os ms p

-- each want of the entry at a place is met
abbrev pub is_free : WantsState → ℕ → Bool
is_free w p = unmet_among w.owners w.met p == 0

-- for each entry stands how many of its wants are not met
pub record AreCounted (owners : List ℕ) (met : List Bool) (unmet : List ℕ) : Type 0 where
  pub len : length met ≡ length owners
  pub owned : All (λ o. o < length unmet) owners
  pub counted : (p : ℕ) → p < length unmet → slice_index unmet p ≡ unmet_among owners met p

-- the same wants, of which the same number of or more are met
pub record IsNearer (old new : WantsState) : Type 0 where
  pub count : new.count ≡ old.count
  pub owners : new.owners ≡ old.owners
  pub len : length new.met ≡ length old.met
  pub fewer : count_by not new.met ≤ count_by not old.met

-- the entry at a place waits, and its names of both kinds are met
abbrev pub is_ready_at : List Bool → WantsState → WantsState → ℕ → Bool
is_ready_at waits a b p = (member waits p && is_free a p) && is_free b p

-- these places, but one that may be wrong, are those of the entries that are ready
pub record AreReadyBut (but : ℕ) (ready waits : List Bool) (a b : WantsState) : Type 0 where
  pub len : length ready ≡ a.count
  pub waits_len : length waits ≡ a.count
  pub other_count : b.count ≡ a.count
  pub each : (p : ℕ) → p < a.count → p ≢ but → member ready p ≡ is_ready_at waits a b p

-- the wants are those of a kind that the entries have, and are met where those who were started meet them
pub record AreWantsOf (kind : Kind) (needs : List Need) (started : List Label) (names : List (List ℕ)) (w : WantsState) : Type 0 where
  pub count : w.count ≡ length needs
  pub owners : w.owners ≡ owners_from kind 0 needs
  pub all_given : names ≡ names_given kind needs
  pub met : w.met ≡ map (meets kind started) names

-- wants of one name are met together
abbrev pub AreMetTogether : List (List ℕ) → List Bool → Type 0
AreMetTogether names met =
    (k l : ℕ) → k < length names → l < length names
    → folds_same (slice_index_or names k []) (slice_index_or names l []) ≡ true → member met k ≡ member met l
