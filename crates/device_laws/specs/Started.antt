-- What does a start take of the drivers of devices? (this project's own)
use Rattle.std.specs.Prelude.{◌≡◌, ◌⊎◌, ℕ, Bool, true, false, List, [], Contains}
use Rattle.std.specs.List.{list_any}
use Rattle.nt_bytes.specs.Folding.{folds_same}
use Rattle.hive_model.specs.Tree.{Tree}
use Rattle.hive_model.specs.Valid.{HoldsKeys}
use Rattle.start_model.specs.Entries.{Entry, Phase, Boot, System, Automatic, services_of}
use Rattle.start_model.specs.Order.{plan_of}
use Rattle.service_check.specs.Stages.{names_taken}
use Rattle.device_rule.specs.declared.lines.DriverState.{DriverState}
use Rattle.device_rule.specs.declared.lines.DriverState.TheVariants as states
use Rattle.device_rule.specs.Drivers.{state_of}

-- the phase of a start of the set in which each attempt goes well takes the entry of this name
abbrev pub is_started : Tree → Phase → List ℕ → Bool
is_started set phase name = list_any (folds_same name) (names_taken set phase)

-- no start takes it
abbrev pub is_never : DriverState → Bool
is_never states.BuiltIn = false
is_never states.NoKey = true
is_never states.NoStart = true
is_never states.Disabled = true
is_never (states.Beyond start) = true
is_never states.NoType = true
is_never (states.Kind kind) = false
is_never (states.Ready start) = false

-- a driver of Start 0 to 2 is taken in the phase of its Start
pub record AreTaken : Type 0 where
  pub boot : (set : Tree) (name : List ℕ) → state_of (services_of set) name ≡ states.Ready 0 → is_started set Boot name ≡ true
  pub system : (set : Tree) (name : List ℕ) → state_of (services_of set) name ≡ states.Ready 1 → is_started set System name ≡ true
  pub automatic : (set : Tree) (name : List ℕ) → state_of (services_of set) name ≡ states.Ready 2 → is_started set Automatic name ≡ true

-- in no other, and one of Start 3 in none but the automatic one
pub record AreTakenThere : Type 0 where
  pub boot : (set : Tree) → HoldsKeys set → (name : List ℕ) (start : ℕ) → state_of (services_of set) name ≡ states.Ready start
      → is_started set Boot name ≡ true → start ≡ 0
  pub system : (set : Tree) → HoldsKeys set → (name : List ℕ) (start : ℕ) → state_of (services_of set) name ≡ states.Ready start
      → is_started set System name ≡ true → start ≡ 1
  pub automatic : (set : Tree) → HoldsKeys set → (name : List ℕ) (start : ℕ) → state_of (services_of set) name ≡ states.Ready start
      → is_started set Automatic name ≡ true → (start ≡ 2) ⊎ (start ≡ 3)

-- an entry that the automatic phase takes has the name among its services
pub record IsDemanded (set : Tree) (name : List ℕ) : Type 0 where
  pub entry : Entry
  pub taken : Contains (plan_of set Automatic []) entry
  pub names : list_any (folds_same name) entry.services ≡ true

-- one of Start 3 is taken there only by demand: an entry that is taken there names it
abbrev pub ThreeIsDemanded : Type 0
ThreeIsDemanded = (set : Tree) → HoldsKeys set → (name : List ℕ) → state_of (services_of set) name ≡ states.Ready 3
    → is_started set Automatic name ≡ true → IsDemanded set name

-- one without a key, a Start up to 3 or a Type is taken in none
pub record OthersAreNot : Type 0 where
  pub boot : (set : Tree) → HoldsKeys set → (name : List ℕ) → is_never (state_of (services_of set) name) ≡ true → is_started set Boot name ≡ false
  pub system : (set : Tree) → HoldsKeys set → (name : List ℕ) → is_never (state_of (services_of set) name) ≡ true → is_started set System name ≡ false
  pub automatic : (set : Tree) → HoldsKeys set → (name : List ℕ) → is_never (state_of (services_of set) name) ≡ true
      → is_started set Automatic name ≡ false
