-- What holds of starts of which one attempt fails, and of starts with an entry off? (this project's own)
use Rattle.std.specs.Prelude.{◌≡◌, ◌↔◌, ℕ, true, false, List, [], ◌∷◌, length, map, Some, None, ◌⊎◌}
use Rattle.std.specs.List.{Contains, list_any, flat_map}
use Rattle.nt_bytes.specs.Folding.{folds_same}
use Rattle.hive_model.specs.Valid.{HoldsKeys}
use Rattle.start_model.specs.Entries.{Entry, entries_of}
use Rattle.boot_phases.specs.declared.error_control.outcome.Judgement.{Judgement}
use Rattle.failure_effects.specs.declared.lines.EffectLine.{EffectLine}
use Rattle.failure_effects.specs.declared.lines.EffectLine.TheVariants as lines
use Rattle.failure_effects.specs.declared.told.Told.{Told}
use Rattle.failure_effects.specs.declared.opening.Taken.{Taken}
use Rattle.failure_effects.specs.Effects.{plain_told}
use Rattle.failure_effects.specs.Lost.{other_of, goes_on, lost_in, fail_block, off_block}
use Rattle.failure_effects.specs.Played.{played, started_in, unmet_in, failure_in}
use Rattle.failure_effects.specs.Switching.{off_set}
use Rattle.whatif_laws.specs.Leaning.{leaning_on}

-- what is reported of the start in which the first attempt of a name fails
abbrev pub fail_told : Taken → List ℕ → List Told
fail_told taken name = played taken taken.set (Some name)

-- what is reported of the start with the entry of a name off
abbrev pub off_told : Taken → List ℕ → List Told
off_told taken name = played taken (off_set name taken.set) None

-- a start with a failure, or with an entry off, starts none that the plain start doesn't
abbrev pub StartsNoOther : Type 0
StartsNoOther =
    (taken : Taken) → HoldsKeys taken.set → (name other : List ℕ)
    → (Contains (started_in (fail_told taken name)) other → Contains (started_in (plain_told taken)) other)
    × (Contains (started_in (off_told taken name)) other → Contains (started_in (plain_told taken)) other)

-- a start with a failure in it goes on
abbrev pub GoesOn : List Told → Type 0
GoesOn told = (j : Judgement) → failure_in told ≡ Some j → goes_on j ≡ true

-- the lost of a start: of those that the plain start started, the others that it doesn't start
abbrev pub lost_of : Taken → List ℕ → List Told → List (List ℕ)
lost_of taken name told = lost_in (plain_told taken) (other_of told) name

-- the lost of a failure after which the start goes on are unmet
abbrev pub LostOfFailIsUnmet : Type 0
LostOfFailIsUnmet =
    (taken : Taken) → HoldsKeys taken.set → (name other : List ℕ) → GoesOn (fail_told taken name)
    → Contains (lost_of taken name (fail_told taken name)) other → Contains (unmet_in (fail_told taken name)) other

-- and each leans on the name
abbrev pub LostOfFailLeans : Type 0
LostOfFailLeans =
    (taken : Taken) → HoldsKeys taken.set → (name other : List ℕ) → GoesOn (fail_told taken name)
    → Contains (lost_of taken name (fail_told taken name)) other
    → (e : Entry) × Contains (leaning_on name (entries_of taken.set)) e × (e.name ≡ other)

-- they are among the lost of the same entry off
abbrev pub OffIsNoBetter : Type 0
OffIsNoBetter =
    (taken : Taken) → HoldsKeys taken.set → (name other : List ℕ) → GoesOn (fail_told taken name)
    → Contains (lost_of taken name (fail_told taken name)) other → Contains (lost_of taken name (off_told taken name)) other

-- ---- lines

-- the name of a line that says that an entry is unmet
abbrev pub unmet_said : EffectLine → List (List ℕ)
unmet_said lines.Start = []
unmet_said (lines.Set number on_good) = []
unmet_said (lines.Verdict verdict) = []
unmet_said (lines.Of state name) = []
unmet_said (lines.Fail judgement lost name) = []
unmet_said (lines.Off lost name) = []
unmet_said (lines.Unmet name) = name ∷ []
unmet_said (lines.Untaken name) = []
unmet_said (lines.Leans steps by state name) = []
unmet_said lines.End = []

-- the block of a name that fails
abbrev pub fail_block_of : Taken → List ℕ → List EffectLine
fail_block_of taken name = fail_block (plain_told taken) (other_of (fail_told taken name)) name

-- the block of a name that is off
abbrev pub off_block_of : Taken → List ℕ → List EffectLine
off_block_of taken name = off_block (plain_told taken) (other_of (off_told taken name)) name

-- the block of a failure after which the start goes on says that each of the lost is unmet
abbrev pub FailBlockSaysUnmet : Type 0
FailBlockSaysUnmet =
    (taken : Taken) → HoldsKeys taken.set → (name : List ℕ) (j : Judgement) → failure_in (fail_told taken name) ≡ Some j → goes_on j ≡ true
    → let lost : List (List ℕ) = lost_of taken name (fail_told taken name) in
    fail_block_of taken name ≡ lines.Fail j (length lost) name ∷ map (λ n. lines.Unmet n) lost

-- no phase takes the name: nothing is reported of it
abbrev pub IsUntold : List Told → List ℕ → Type 0
IsUntold told name = (t : Told) → Contains told t → folds_same name t.name ≡ false

-- each of the lost of an entry that is off is unmet, or no phase takes it
abbrev pub LostOfOffIsUnmetOrUntold : Type 0
LostOfOffIsUnmetOrUntold =
    (taken : Taken) → HoldsKeys taken.set → (name other : List ℕ) → Contains (lost_of taken name (off_told taken name)) other
    → Contains (unmet_in (off_told taken name)) other ⊎ IsUntold (off_told taken name) other

-- these are unmet in the other start, and not in the plain one
abbrev pub IsNewlyUnmet : Taken → List Told → List ℕ → Type 0
IsNewlyUnmet taken told other = Contains (unmet_in told) other × (Contains (unmet_in (plain_told taken)) other → ⊥)

-- the names that the block of a failure says to be unmet, where the plain start starts the entry, and the start goes on
abbrev pub FailBlockIsNew : Type 0
FailBlockIsNew =
    (taken : Taken) → HoldsKeys taken.set → (name : List ℕ) → list_any (folds_same name) (started_in (plain_told taken)) ≡ true
    → (j : Judgement) → failure_in (fail_told taken name) ≡ Some j → goes_on j ≡ true → (other : List ℕ)
    → Contains (flat_map unmet_said (fail_block_of taken name)) other ↔ IsNewlyUnmet taken (fail_told taken name) other

-- the names that the block of an entry that is off says to be unmet
abbrev pub OffBlockIsNew : Type 0
OffBlockIsNew =
    (taken : Taken) → HoldsKeys taken.set → (name other : List ℕ)
    → Contains (flat_map unmet_said (off_block_of taken name)) other ↔ IsNewlyUnmet taken (off_told taken name) other
