-- Which state of the book does the program's run stand for, and what holds of it?
use Rattle.std.specs.Prelude.{◌≡◌, ◌≤◌, ℕ, Bool, true, false, not, List, Option, Some, None, IfSome, Result, Ok, Err}
use Rattle.std.specs.Option.{unwrap_or, option_map_or}
use Rattle.std.specs.List.{All}
use Rattle.hive_model.specs.Tree.{Tree}
use Rattle.hive_model.specs.Edit.{Refusal}
use Rattle.hive_model.specs.Valid.{HoldsKeys, IsValid}
use Rattle.start_model.specs.Events.{Event, Go}
use Rattle.start_model.specs.Machine.{Start, MachineState, is_done, after_phase, with_start}
use Rattle.start_model.specs.Possible.{Possible}
use Rattle.start_model.specs.Sets.{set_of}
use Rattle.start_model.specs.Starter.{no_set}
use Rattle.start_model.specs.Act.{RunState}
use Rattle.quiet_run.specs.declared.last.BegunPhase.{BegunPhase}
use Rattle.quiet_run.specs.declared.play.Play.{Play}
use Rattle.quiet_run.specs.Watch.{Watched}

-- what the disk loads as
abbrev pub disk_in : Play → Possible
disk_in p = record { settled = record { tree = p.settled; sequence = p.sequence; version = p.version }; other = None; dirty = Some p.dirty }

-- the state of the run
abbrev pub state_in : Play → RunState
state_in p = record {
  machine = p.machine;
  live = p.live;
  sequence = p.sequence;
  version = p.version;
  changed = p.changed;
  disk = disk_in p;
  starts = p.starts;
}

-- the same, with what is known of the last start
abbrev pub watched_in : Play → Watched
watched_in p = record { state = state_in p; last = p.last }

-- ---- what holds

-- the number of a set
pub record IsSetNumber (n : ℕ) : Type 0 where
  pub least : 1 ≤ n
  pub most : n ≤ 999

-- a start took a set by its number, and a hive could hold its clone
pub record IsSoundStart (s : Start) : Type 0 where
  pub number : IsSetNumber s.number
  pub clone : IfSome s.clone HoldsKeys

-- a hive could hold the sets that these phases read
abbrev pub AreHeld : List BegunPhase → Type 0
AreHeld phases = All (λ (p : BegunPhase). HoldsKeys p.set) phases

-- a hive could hold the trees and the sets, and what runs is sound
pub record IsSound (p : Play) : Type 0 where
  pub live : IsValid p.live
  pub settled : IsValid p.settled
  pub start : IfSome p.machine.start IsSoundStart
  pub sets : AreHeld p.last.phases

-- ---- sets

-- the set of a number in a tree
abbrev pub set_in : Tree → ℕ → Tree
set_in tree number = unwrap_or (set_of tree number) no_set

-- the running start in its next phase, by the set as it is in the tree
abbrev pub on_next : Tree → MachineState → MachineState
on_next tree m = option_map_or (λ (s : Start). with_start (after_phase (set_in tree s.number) s) m) m.start m

-- ---- steps on a tree

-- they were made, and this is the tree; or they are refused, and it is as it was
abbrev pub Stepped : Bool → Result Tree Refusal → Tree → Tree → Type 0
Stepped true r old new = r ≡ Ok new
Stepped false r old new = ((why : Refusal) × (r ≡ Err why)) × (new ≡ old)

-- ---- phases and events

-- a start runs whose phases are not over
abbrev pub is_under_way : Option Start → Bool
is_under_way o = option_map_or (λ (s : Start). not (is_done s.phase)) o false

-- the event asks for steps of the starter
abbrev pub is_go : Event → Bool
is_go (Go steps) = true
is_go e = false
