-- What is a set with the wrong needs taken away from its entries? (this project's own)
use Rattle.std.specs.Prelude.{◌≡◌, ◌↔◌, ℕ, true, not, List, map, filter, slice_get, Some, None, Option, ◌⊎◌}
use Rattle.std.specs.Option.{option_map_or}
use Rattle.hive_model.specs.Tree.{Tree}
use Rattle.hive_model.specs.Valid.{HoldsKeys}
use Rattle.start_model.specs.Entries.{Entry, entries_of}
use Rattle.nt_bytes.specs.Folding.{folds_same}
use Rattle.wait_cycles.specs.Waits.{is_stuck}
use Rattle.service_check.specs.declared.stage.Stage.{Stage}
use Rattle.service_check.specs.declared.stage.Stage.TheVariants.{Demand}
use Rattle.service_control.specs.declared.stop.ControlStop.{ControlStop}
use Rattle.service_control.specs.declared.stop.ControlStop.TheVariants.{Unmet}
use Rattle.service_control.specs.First.{control_of}
use Rattle.service_control.specs.Calls.{start_refusal}
use Rattle.service_check.specs.declared.stage.Staged.{Staged}
use Rattle.service_check.specs.Stages.{rows_of, is_taken}
use Rattle.service_check.specs.Needs.{is_good, is_without, waits_of}
use Rattle.check_laws.specs.Unmet.{SaysUnmet}

-- an entry of this stage with its good needs alone
abbrev pub freed_at : List Staged → Staged → Stage → Entry
freed_at rows r own = record r.entry {
  services = filter (is_good rows own) r.entry.services;
  groups = filter (λ g. not (is_without rows own g)) r.entry.groups;
}

-- an entry with its good needs alone; one without a stage is as it was
abbrev pub freed : List Staged → Staged → Entry
freed rows r = option_map_or (freed_at rows r) r.stage r.entry

abbrev pub freed_row : List Staged → Staged → Staged
freed_row rows r = record { entry = freed rows r; stage = r.stage }

-- the second set has the entries of the first without their wrong needs
abbrev pub IsFreedOf : Tree → Tree → Type 0
IsFreedOf set bare = entries_of bare ≡ map (freed (rows_of set)) (rows_of set)

-- then each entry has the stage that it had
abbrev pub SameAreTaken : Type 0
SameAreTaken =
    (set bare : Tree) → HoldsKeys set → HoldsKeys bare → IsFreedOf set bare → rows_of bare ≡ map (freed_row (rows_of set)) (rows_of set)

-- and exactly the stuck ones of those that are taken are unmet
abbrev pub StuckAreUnmet : Type 0
StuckAreUnmet =
    (set bare : Tree) → HoldsKeys set → HoldsKeys bare → IsFreedOf set bare → (p : ℕ) (r : Staged)
    → slice_get (rows_of set) p ≡ Some r → is_taken r.stage ≡ true
    → SaysUnmet bare r.entry.name ↔ (is_stuck (waits_of (rows_of set)) p ≡ true)

-- of those that are started on demand only stuck ones are refused, and as unmet
abbrev pub OnlyStuckAreRefused : Type 0
OnlyStuckAreRefused =
    (set bare : Tree) → HoldsKeys set → HoldsKeys bare → IsFreedOf set bare → (p : ℕ) (r : Staged)
    → slice_get (rows_of set) p ≡ Some r → r.stage ≡ Some Demand → (name : List ℕ) → folds_same name r.entry.name ≡ true
    → let why : Option ControlStop = start_refusal (control_of bare) name in
    (why ≡ None) ⊎ ((why ≡ Some Unmet) × (is_stuck (waits_of (rows_of set)) p ≡ true))
