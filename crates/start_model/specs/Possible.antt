-- What may the disk load as, what does it wake up with, and how does an operation of it end?
--
-- The order of a start is that of Windows Internals, 4th edition, startup; the stops are this project's own.
use Rattle.std.specs.Prelude.{Bool, false, Option, None, Some}
use Rattle.hive_model.specs.State.{HiveState}

-- The state that the disk loads as: the settled one, or perhaps another where a change was stopped in its course. And
-- whether the log has to be taken for it, where that is certain.
pub record Possible : Type 0 where
  pub settled : HiveState
  pub other : Option HiveState
  pub dirty : Option Bool

-- what the disk loads as when it wakes, and whether the log had to be taken for it
pub record Woken : Type 0 where
  pub state : HiveState
  pub dirty : Bool

-- a load or a commit is done: the disk loads as this state and no other, without its log
abbrev pub settled_at : HiveState → Possible
settled_at state = record { settled = state; other = None; dirty = Some false }

-- a commit is under way: the disk loads as the state before it, which is the settled one, or as the one after it
abbrev pub open_between : HiveState → HiveState → Possible
open_between before after = record { settled = before; other = Some after; dirty = None }

-- the disk was not written to: it loads as it did
abbrev pub loads_as : Woken → Possible
loads_as w = record { settled = w.state; other = None; dirty = Some w.dirty }

-- a load is under way: the disk loads as it did, perhaps without its log now
abbrev pub woken_at : Woken → Possible
woken_at w = record { settled = w.state; other = None; dirty = None }

-- how a disk operation ends: it is done, the power is cut, or a call of the disk fails
pub data Outcome : Type 0 where
  Finished : Outcome
  PowerCut : Outcome
  DeviceFault : Outcome
