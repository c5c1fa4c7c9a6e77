-- Which entries are lost in another start, and what is printed of them? (this project's own)
use Rattle.std.specs.Prelude.{ℕ, Bool, true, false, not, ◌&&◌, List, [], ◌∷◌, ◌++◌, map, filter, length, Option, Some, None, if◌then◌else◌}
use Rattle.std.specs.List.{list_any, flat_map}
use Rattle.nt_bytes.specs.Folding.{folds_same}
use Rattle.boot_phases.specs.declared.error_control.outcome.Judgement.{Judgement}
use Rattle.boot_phases.specs.declared.error_control.outcome.Judgement.TheVariants as judgements
use Rattle.failure_effects.specs.declared.lines.EffectLine.{EffectLine}
use Rattle.failure_effects.specs.declared.lines.EffectLine.TheVariants as lines
use Rattle.failure_effects.specs.declared.lost.Other.{Other}
use Rattle.failure_effects.specs.declared.told.Told.{Told}
use Rattle.failure_effects.specs.declared.opening.Taken.{Taken}
use Rattle.failure_effects.specs.Played.{played, is_started, started_in, unmet_in, failure_in}
use Rattle.failure_effects.specs.Switching.{off_set}

-- what counts of another start: who was started, who was never ready, and what follows from its failure
abbrev pub other_of : List Told → Other
other_of told = record { started = started_in told; unmet = unmet_in told; failure = failure_in told }

-- one of the names folds to this one
abbrev pub has_name : List (List ℕ) → List ℕ → Bool
has_name names name = list_any (folds_same name) names

-- an entry other than `name` that the plain start started and the other one doesn't
abbrev pub is_lost : Other → List ℕ → Told → Bool
is_lost other name t = is_started t.fate && not (folds_same name t.name) && not (has_name other.started t.name)

-- the names of the lost, in the order of the plain start
abbrev pub lost_in : List Told → Other → List ℕ → List (List ℕ)
lost_in plain other name = map (λ (t : Told). t.name) (filter (is_lost other name) plain)

-- what is printed of one of the lost: it is never ready there, or no phase takes it
abbrev pub lost_line : Other → List ℕ → EffectLine
lost_line other name = if has_name other.unmet name then lines.Unmet name else lines.Untaken name

abbrev pub lost_lines : Other → List (List ℕ) → List EffectLine
lost_lines other lost = map (lost_line other) lost

-- the start goes on after the failure
abbrev pub goes_on : Judgement → Bool
goes_on judgements.Ignore = true
goes_on judgements.Log = true
goes_on judgements.FallBack = false
goes_on judgements.Stop = false

-- ---- blocks

-- a failure with what follows from it, how many are lost, and the lost where the start goes on
abbrev pub failed_lines : Other → List ℕ → List (List ℕ) → Option Judgement → List EffectLine
failed_lines other name lost None = []
failed_lines other name lost (Some judgement) =
    lines.Fail judgement (length lost) name ∷ (if goes_on judgement then lost_lines other lost else [])

-- the block of an entry that fails, by the start in which it does
abbrev pub fail_block : List Told → Other → List ℕ → List EffectLine
fail_block plain other name = failed_lines other name (lost_in plain other name) other.failure

-- the block of an entry that is off, by the start in which it is
abbrev pub off_block : List Told → Other → List ℕ → List EffectLine
off_block plain other name =
    let lost : List (List ℕ) = lost_in plain other name in lines.Off (length lost) name ∷ lost_lines other lost

-- the blocks of an entry: where the plain start started it, its first attempt fails; and then it is off
abbrev pub blocks_of : Taken → List Told → Told → List EffectLine
blocks_of taken plain t =
    (if is_started t.fate then fail_block plain (other_of (played taken taken.set (Some t.name))) t.name else [])
    ++ off_block plain (other_of (played taken (off_set t.name taken.set) None)) t.name

-- the blocks of the entries that pass, in the order of the plain start
abbrev pub blocks_where : (List ℕ → Bool) → Taken → List Told → List EffectLine
blocks_where passes taken plain = flat_map (λ (t : Told). if passes t.name then blocks_of taken plain t else []) plain
