-- What may be started on demand after the start of a set? (this project's own)
use Rattle.std.specs.Prelude.{◌≡◌, ℕ, Bool, true, List, Option, Some, None, ◌⊎◌}
use Rattle.std.specs.List.{Contains}
use Rattle.nt_bytes.specs.Folding.{folds_same}
use Rattle.hive_model.specs.Tree.{Tree}
use Rattle.hive_model.specs.Valid.{HoldsKeys}
use Rattle.start_model.specs.Entries.{Entry, entries_of}
use Rattle.service_control.specs.declared.stop.ControlStop.{ControlStop}
use Rattle.service_control.specs.declared.stop.ControlStop.TheVariants.{Running}
use Rattle.service_control.specs.First.{is_controlled, control_of}
use Rattle.service_control.specs.Calls.{start_refusal}
use Rattle.check_laws.specs.Unmet.{HasAbout}

-- there is no reason to refuse a call, or only that the service runs
abbrev pub IsDoneOrRuns : Option ControlStop → Type 0
IsDoneOrRuns why = (why ≡ None) ⊎ (why ≡ Some Running)

-- Where no line is about any name, the start of each driver or service of Start 3, after a start in which each attempt goes well,
-- is done, or it runs.
abbrev pub NoneAboutStartsOnDemand : Type 0
NoneAboutStartsOnDemand =
    (set : Tree) → HoldsKeys set → (in_order : Bool) (number : ℕ) → ((name : List ℕ) → HasAbout in_order number set name → ⊥)
    → (e : Entry) → Contains (entries_of set) e → e.start ≡ 3 → is_controlled e.kind ≡ true → (name : List ℕ)
    → folds_same name e.name ≡ true → IsDoneOrRuns (start_refusal (control_of set) name)
