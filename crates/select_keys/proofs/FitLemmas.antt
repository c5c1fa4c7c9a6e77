-- A plan's steps bring no key along that a hive could not hold.
use Rattle.std.proofs.Common.{ℕ, Bool, true, false, cond, List, [], ◌∷◌, ◌++◌}
use Rattle.std.specs.Prelude.{◌==◌, codes}
use Rattle.std.specs.List.{All}
use Rattle.std.specs.Int.{w32, to_le_bytes}
use Rattle.std.proofs.lemmas.List.Elements.{All-nil, All-cons, All-append, All-map}
use Rattle.hive_model.specs.Edit.{Step, set_value, delete_key}
use Rattle.start_model.specs.Sets.{SelectNumbers, set_name, retired_of, deletions_of, written, writes_of, plan_with}
use Rattle.reg_tree.specs.Fitting.{Fits}

-- sets that are deleted
deletions_fit : (usable : List ℕ) (old new : SelectNumbers) → All Fits (deletions_of usable old new)
deletions_fit usable old new =
    All-map Fits (λ n. delete_key (set_name n ∷ [])) (retired_of usable old new) (λ k d lt. tt)

-- a number that is written, or not
written_fits : (name : List ℕ) (old new : ℕ) → All Fits (written name old new)
written_fits name old new = by_same (old == new)
  where
    by_same : (same : Bool) → All Fits
        (cond same [] (set_value (codes "Select" ∷ []) name 4 (to_le_bytes w32 new) ∷ []))
    by_same true = All-nil Fits
    by_same false = All-cons Fits (set_value (codes "Select" ∷ []) name 4 (to_le_bytes w32 new)) [] tt (All-nil Fits)

-- the four numbers
writes_fit : (old new : SelectNumbers) → All Fits (writes_of old new)
writes_fit old new =
    let current : List Step = written (codes "Current") old.current new.current in
    let default : List Step = written (codes "Default") old.default new.default in
    let failed : List Step = written (codes "Failed") old.failed new.failed in
    let good : List Step = written (codes "LastKnownGood") old.good new.good in
    All-append Fits (current ++ default ++ failed) good
    (All-append Fits (current ++ default) failed
    (All-append Fits current default (written_fits (codes "Current") old.current new.current)
    (written_fits (codes "Default") old.default new.default))
    (written_fits (codes "Failed") old.failed new.failed))
    (written_fits (codes "LastKnownGood") old.good new.good)

-- a plan fits where its first steps do
pub plan_fits : (chosen : ℕ) (usable : List ℕ) (old new : SelectNumbers) (first : List Step) → All Fits first
    → All Fits (plan_with chosen usable old new first).steps
plan_fits chosen usable old new first fits =
    All-append Fits (first ++ deletions_of usable old new) (writes_of old new)
    (All-append Fits first (deletions_of usable old new) fits (deletions_fit usable old new)) (writes_fit old new)
