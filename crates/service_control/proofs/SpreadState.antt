-- What is kept while causes get ready.
use Rattle.std.proofs.Common.{◌≡◌, ℕ, ◌<◌, Bool, true, false, List, [], length, get_or, Some, None}
use Rattle.std.specs.Prelude.{Contains}
use Rattle.start_model.specs.Demand.{Need, member}
use Rattle.start_model.specs.Ready.{Label, has_name, has_group}
use Rattle.dependencies.specs.Waiting.{WaitingState}
use Rattle.service_control.specs.Leaning.{has, has_all, IsClosed}
use Rattle.service_control.specs.Causes.{AreCauses}

abbrev pub none : Need
none = record { name = []; start = 0; group = None; services = []; groups = [] }

-- a cause was ready: its owner leans, and what it makes ready is there
pub record IsDone (w : WaitingState) (taken : List Bool) (owner : ℕ) (cause : Need) : Type 0 where
  pub name : has_name w.started cause.name ≡ true
  pub group : (g : List ℕ) → cause.group ≡ Some g → has_group w.started g ≡ true
  pub owner_taken : member taken owner ≡ true

-- a set has what a label stands for
pub record IsHad (running : List Need) (set : ℕ → Bool) (l : Label) : Type 0 where
  pub name : has running set l.0 ≡ true
  pub group : (g : List ℕ) → l.1 ≡ Some g → has_all running set g ≡ true

pub record IsSpread (running : List Need) (name : List ℕ) (owners : List ℕ) (w : WaitingState)
    (taken : List Bool) : Type 0 where
  pub causes : AreCauses running (length running) w.needs owners
  pub waits_len : length w.waits ≡ length w.needs
  pub len : length taken ≡ length running
  pub seeded : has_name w.started name ≡ true
  pub done : (c : ℕ) → c < length w.needs → member w.waits c ≡ false
      → IsDone w taken (get_or owners c 0) (get_or w.needs c none)
  pub on : (q : ℕ) → q < length running → member taken q ≡ true → has_name w.started (get_or running q none).name ≡ true
  pub sound : (set : ℕ → Bool) → IsClosed running name set → (l : Label) → Contains w.started l → IsHad running set l
  pub least : (set : ℕ → Bool) → IsClosed running name set → (q : ℕ) → member taken q ≡ true → set q ≡ true
