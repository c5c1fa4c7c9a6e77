-- What did the plain start make of an entry? (this project's own)
use Rattle.std.specs.Prelude.{ℕ, Bool, false, List, find, Option, if◌then◌else◌}
use Rattle.std.specs.Option.{is_some, option_map_or}
use Rattle.nt_bytes.specs.Folding.{folds_same}
use Rattle.hive_model.specs.Tree.{Tree, head, is_named}
use Rattle.start_model.specs.Entries.{entry_of, services_of}
use Rattle.failure_effects.specs.declared.lines.EntryState.{EntryState}
use Rattle.failure_effects.specs.declared.lines.EntryState.TheVariants as states
use Rattle.failure_effects.specs.declared.told.Fate.{Fate}
use Rattle.failure_effects.specs.declared.told.Fate.TheVariants as fates
use Rattle.failure_effects.specs.declared.told.Told.{Told}

-- an entry that was attempted was started, since no attempt of the plain start fails
abbrev pub state_by : Fate → EntryState
state_by fates.Started = states.Started
state_by (fates.Failed judgement) = states.Started
state_by fates.Unmet = states.Unmet

-- what is reported of a name, if anything is
abbrev pub told_named : List Told → List ℕ → Option Told
told_named plain name = find (λ (t : Told). folds_same name t.name) plain

-- what the plain start made of an entry of the set
abbrev pub state_in : List Told → List ℕ → EntryState
state_in plain name = option_map_or (λ (t : Told). state_by t.fate) (told_named plain name) states.Untaken

-- ---- the name that is asked for

-- the key of the services that has the name
abbrev pub key_named : Tree → List ℕ → Option Tree
key_named set name = find (is_named name) (services_of set)

-- the name as that key spells it, else as it is given
abbrev pub spelled : Tree → List ℕ → List ℕ
spelled set name = option_map_or (λ (t : Tree). (head t).name) (key_named set name) name

-- the key is an entry
abbrev pub has_entry : Tree → List ℕ → Bool
has_entry set name = option_map_or (λ (t : Tree). is_some (entry_of t)) (key_named set name) false

-- what the plain start made of a name
abbrev pub state_of : Tree → List Told → List ℕ → EntryState
state_of set plain name = if has_entry set name then state_in plain name else states.NoEntry
