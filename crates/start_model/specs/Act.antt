-- What does an event say, ask of the disk and wake?
--
-- The state of a run in its course, and the acts that all events are made of. They are this project's own.
use Rattle.std.specs.Prelude.{ℕ, ◌+◌, ◌%◌, Bool, false, List, [], ◌∷◌}
use Rattle.nt_bytes.specs.declared.version.HiveVersion.{HiveVersion}
use Rattle.hive_model.specs.Image.{Arming}
use Rattle.hive_model.specs.Tree.{Tree}
use Rattle.hive_model.specs.State.{HiveState}
use Rattle.report_words.specs.declared.words.Verdict.{Verdict}
use Rattle.report_words.specs.declared.line.Line.{Line}
use Rattle.report_words.specs.declared.line.Line.TheVariants.{Verdict as VerdictLine}
use Rattle.start_model.specs.Machine.{MachineState, ended}
use Rattle.start_model.specs.Possible.{Possible, Woken, Outcome}

-- the machine; the live tree with the edits of the running start, the sequence number and the version of its hive, and
-- whether it was changed; what the disk may load as; and how many starts there were
pub record RunState : Type 0 where
  pub machine : MachineState
  pub live : Tree
  pub sequence : ℕ
  pub version : HiveVersion
  pub changed : Bool
  pub disk : Possible
  pub starts : ℕ

-- What happens beside the lines. Of a run the notes are its chronicle, in order.
pub data Note : Type 0 where
  -- the disk woke up, when it could load as told
  Woke : Possible → Note
  -- the disk holds a tree: it loads as that, or a commit of it is done
  Held : Tree → Note
  -- the clone of a good start was put into the tree that is committed next
  Saved : Tree → Note
  -- a stop of the disk was ordered
  Ordered : Arming → Note
  -- the power is cut by the script
  Cuts : Note
  -- a disk operation ended
  Ended : Outcome → Note

-- What an event does: it says lines; a disk operation ends, and until then the disk may load as told; the disk wakes up
-- with what it may load as; something else is noted.
pub data Act : Type 0 where
  done : RunState → Act
  say : Line → Act → Act
  ask : Possible → (Outcome → Act) → Act
  wake : Possible → (Woken → Act) → Act
  mark : Note → Act → Act

-- these lines in order, and then what follows
abbrev pub say_all : List Line → Act → Act
say_all [] act = act
say_all (l ∷ ls) act = say l (say_all ls act)

-- the state that a commit of the live tree leads to
abbrev pub next_state : RunState → Tree → HiveState
next_state m tree = record { tree = tree; sequence = (m.sequence + 1) % 4294967296; version = m.version }

-- with the machine changed
abbrev pub with_machine : MachineState → RunState → RunState
with_machine machine m = record m { machine = machine }

-- the start is over; edits that were not committed are lost
abbrev pub start_over : Bool → RunState → RunState
start_over falls_back m = record m { machine = ended falls_back m.machine; changed = false }

-- a start ends with a verdict
abbrev pub end_with : Verdict → Bool → RunState → Act
end_with verdict falls_back m = say (VerdictLine verdict) (done (start_over falls_back m))
