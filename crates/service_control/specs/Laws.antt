-- What holds of the started services, whatever was asked for? (this project's own)
use Rattle.std.specs.Prelude.{◌≡◌, ℕ, ◌<◌, true, List, [], ◌∷◌, ◌++◌, length, take, slice_index_or, Contains}
use Rattle.std.specs.Option.{option_map_or}
use Rattle.std.specs.List.{list_all, list_any}
use Rattle.nt_bytes.specs.Folding.{folds_same}
use Rattle.start_model.specs.Demand.{Need}
use Rattle.start_model.specs.Ready.{has_name, has_group, is_ready}
use Rattle.service_control.specs.State.{ControlState, labels_of}
use Rattle.service_control.specs.Calls.{start_refusal, stop_refusal, off_refusal, started_by, after_start, after_stop, after_stop_all}

-- what may be asked for
pub data Call : Type 0 where
  start : List ℕ → Call
  stop : List ℕ → Call
  stop_all : List ℕ → Call

-- a call that is refused changes nothing
abbrev pub after_call : ControlState → Call → ControlState
after_call c (start name) = option_map_or (λ why. c) (start_refusal c name) (after_start c name)
after_call c (stop name) = option_map_or (λ why. c) (stop_refusal c name) (after_stop c name)
after_call c (stop_all name) = option_map_or (λ why. c) (off_refusal c name) (after_stop_all c name)

-- calls in sequence
abbrev pub after_calls : ControlState → List Call → ControlState
after_calls c [] = c
after_calls c (call ∷ more) = after_calls (after_call c call) more

-- Of each started service, all that it names in DependOnService stands before it, and each group in DependOnGroup has a
-- started service.
pub record AreMet (running : List Need) : Type 0 where
  pub services : (k : ℕ) (d : Need) → k < length running → list_all (has_name (labels_of (take k running))) (slice_index_or running k d).services ≡ true
  pub groups : (k : ℕ) (d : Need) → k < length running → list_all (has_group (labels_of running)) (slice_index_or running k d).groups ≡ true

-- Of the services that lean, in the order of their starts: what one of them names in DependOnService and another one has
-- stands before it. They are answered the other way round, so each one stands after all that name it.
abbrev pub AreStoppedInOrder : List Need → Type 0
AreStoppedInOrder leaning =
    (k : ℕ) (d : Need) (name : List ℕ) → k < length leaning → Contains (slice_index_or leaning k d).services name
    → list_any (λ n. folds_same name n.name) leaning ≡ true → list_any (λ n. folds_same name n.name) (take k leaning) ≡ true

-- ---- what a start takes in

-- entries of one name are one entry
abbrev pub NamesDiffer : List Need → Type 0
NamesDiffer table = (a b : Need) → Contains table a → Contains table b → folds_same a.name b.name ≡ true → a ≡ b

-- entries of the table, each of them ready once the started ones and those before it are started
pub record AreReadyInTurn (table running others : List Need) : Type 0 where
  pub listed : (e : Need) → Contains others e → Contains table e
  pub ready : (k : ℕ) (d : Need) → k < length others → is_ready (labels_of running ++ labels_of (take k others)) (slice_index_or others k d) ≡ true

-- each entry that a start takes in has its name among others that are ready in turn, and after which the service is started too
abbrev pub IsLeast : ControlState → List ℕ → Type 0
IsLeast c name =
    (others : List Need) → AreReadyInTurn c.by_group c.running others → has_name (labels_of c.running ++ labels_of others) name ≡ true
    → (m : Need) → Contains (started_by c name) m → has_name (labels_of others) m.name ≡ true
