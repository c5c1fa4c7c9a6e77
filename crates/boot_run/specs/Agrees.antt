-- When do a runner, a session and a disk stand for a state of the book's run? (this project's own)
use Rattle.std.specs.Prelude.{◌≡◌, ◌<◌, ◌^◌, true, false, ℕ, [], ◌∷◌, length, Option, Some, None, IfSome}
use Rattle.hive_model.specs.Base.{version_of}
use Rattle.hive_model.specs.Image.{Image}
use Rattle.hive_model.specs.Carries.{Carries}
use Rattle.hive_model.specs.Load.{Loads}
use Rattle.hive_model.specs.Tree.{Tree}
use Rattle.hive_model.specs.Valid.{HoldsKeys}
use Rattle.nt_edge.specs.Disk.{DiskState}
use Rattle.nt_edge.specs.Crash.{EachCrash}
use Rattle.hive_store.specs.Session.{Session}
use Rattle.report_words.specs.declared.words.Verdict.{Verdict}
use Rattle.report_words.specs.declared.line.Line.TheVariants.{Verdict as VerdictLine}
use Rattle.start_model.specs.Sets.{is_usable, select_numbers_of}
use Rattle.start_model.specs.Machine.{Start}
use Rattle.start_model.specs.Fits.{MayLoad, outcomes_in}
use Rattle.start_model.specs.Possible.{Woken, settled_at, woken_at}
use Rattle.start_model.specs.Act.{RunState, Act, done, start_over}
use Rattle.start_model.specs.Commit.{committed_state, opened_state}
use Rattle.start_model.specs.Boot.{woken_state, loaded_state}
use Rattle.boot_machine.specs.boot_machine.Steps.{falls_back}
use Rattle.run_parts.specs.run_parts.Parts.{IsMarked}
use Rattle.boot_run.specs.declared.runner.Runner.{Runner}

-- ---- a disk

-- the image loads as some state
abbrev pub LoadsAny : Image → Type 0
LoadsAny image = (w : Woken) × Loads image w.state w.dirty

-- the disk is off, and whatever it wakes up with loads
pub record IsDown (disk : DiskState) : Type 0 where
  pub off : disk.on ≡ false
  pub loads : EachCrash disk LoadsAny

-- the disk is on, has nothing in flight, carries what the session committed, loads, and counted no less than at its last wake
pub record IsUp (hive : Session) (disk : DiskState) : Type 0 where
  pub on : disk.on ≡ true
  pub still : disk.flight ≡ []
  pub carries : Carries disk.held hive.base hive.bins
  pub loads : LoadsAny disk.held
  pub marked : IsMarked disk

-- ---- a runner

-- the start took a set that is there and is the current one, no more entries wait than a key has children, and a hive could
-- hold its clone
pub record IsOnSet (start : Start) (tree : Tree) : Type 0 where
  pub there : is_usable tree start.number ≡ true
  pub current : (select_numbers_of tree).current ≡ start.number
  pub few : length start.waiting < 2 ^ 32
  pub clone : IfSome start.clone HoldsKeys

abbrev pub IsRunningBy : Option Start → Tree → Type 0
IsRunningBy None tree = ⊥
IsRunningBy (Some start) tree = IsOnSet start tree

-- a start runs exactly where there is a session, and then the disk is on
abbrev pub IsSound : Runner → DiskState → Option Session → Type 0
IsSound r disk None = IsDown disk × (r.machine.start ≡ None)
IsSound r disk (Some hive) = IsUp hive disk × IsRunningBy r.machine.start hive.tree

-- ---- the state of the book that they stand for

-- the runner counts the machine and the starts of the state
pub record Counts (m : RunState) (r : Runner) : Type 0 where
  pub machine : m.machine ≡ r.machine
  pub starts : m.starts ≡ r.starts

-- what the disk carries stands for the state; the live tree is not reported
pub record IsStored (m : RunState) (hive : Session) (disk : DiskState) : Type 0 where
  pub sequence : m.sequence ≡ hive.base.first
  pub version : m.version ≡ version_of hive.base.minor
  pub settled : m.disk ≡ settled_at m.disk.settled
  pub loads : Loads disk.held m.disk.settled false

-- the session and its disk stand for the state
pub record IsLive (m : RunState) (hive : Session) (disk : DiskState) : Type 0 where
  pub live : m.live ≡ hive.tree
  pub changed : m.changed ≡ hive.changed
  pub sequence : m.sequence ≡ hive.base.first
  pub version : m.version ≡ version_of hive.base.minor
  pub settled : m.disk ≡ settled_at m.disk.settled
  pub loads : Loads disk.held m.disk.settled false

abbrev pub AgreesBy : RunState → DiskState → Option Session → Type 0
AgreesBy m disk None = EachCrash disk (MayLoad m.disk)
AgreesBy m disk (Some hive) = IsLive m hive disk

-- the runner, the session and the disk stand for the state
pub record Agrees (m : RunState) (r : Runner) (disk : DiskState) (hive : Option Session) : Type 0 where
  pub counts : Counts m r
  pub by : AgreesBy m disk hive

-- ---- what remains of an act

-- the act came to its end
pub record TurnLeft (r : Runner) (disk : DiskState) (hive : Option Session) (rest : Act) : Type 0 where
  pub after : RunState
  pub is : rest ≡ done after
  pub agrees : Agrees after r disk hive

-- the start is over
abbrev pub OffLeft : Runner → DiskState → Unit {0} → Act → Type 0
OffLeft r disk u rest = TurnLeft r disk None rest

-- the verdict of a start that ends by itself: it reports no outcome, and nothing falls back
pub record IsEnding (word : Verdict) : Type 0 where
  pub falls : falls_back word ≡ false
  pub none : outcomes_in (VerdictLine word ∷ []) ≡ []

-- ---- a commit

-- the runner's machine and starts are as they were
pub record KeepsRunner (old new : Runner) : Type 0 where
  pub machine : new.machine ≡ old.machine
  pub starts : new.starts ≡ old.starts

abbrev pub LeavesUp : Session → Runner → Runner → DiskState → Option Session → Type 0
LeavesUp before r r' disk None = IsDown disk × (r'.machine.start ≡ None)
LeavesUp before r r' disk (Some hive) = IsUp hive disk × ((hive.tree ≡ before.tree) × ((hive.changed ≡ false) × KeepsRunner r r'))

-- the start is over, and the disk may load as before the commit or as after it; or the run goes on after it
abbrev pub CommitLeft : RunState → Tree → (RunState → Act) → Runner → DiskState → Option Session → Act → Type 0
CommitLeft m tree next r' disk None rest =
    (rest ≡ done (start_over false (opened_state m tree)))
    × (Counts (start_over false (opened_state m tree)) r' × EachCrash disk (MayLoad (opened_state m tree).disk))
CommitLeft m tree next r' disk (Some hive) rest =
    (rest ≡ next (committed_state m tree)) × (Counts (committed_state m tree) r' × IsLive (committed_state m tree) hive disk)

-- ---- a load

abbrev pub LoadsUp : Runner → Runner → DiskState → Option Session → Type 0
LoadsUp r r' disk None = IsDown disk × (r'.machine.start ≡ None)
LoadsUp r r' disk (Some hive) = IsUp hive disk × ((hive.changed ≡ false) × KeepsRunner r r')

-- the start is over, and the disk may load as what it woke up with; or the run goes on after the load
abbrev pub LoadLeftAt : Woken → RunState → (RunState → Act) → Runner → DiskState → Option Session → Act → Type 0
LoadLeftAt w m next r' disk None rest =
    (rest ≡ done (start_over false (woken_state m w))) × (Counts (start_over false (woken_state m w)) r' × EachCrash disk (MayLoad (woken_at w)))
LoadLeftAt w m next r' disk (Some hive) rest =
    (rest ≡ next (loaded_state m w)) × (Counts (loaded_state m w) r' × IsLive (loaded_state m w) hive disk)

abbrev pub LoadLeft : RunState → (RunState → Act) → Runner → DiskState → Option Session → Act → Type 0
LoadLeft m next r' disk o rest = (w : Woken) × LoadLeftAt w m next r' disk o rest

-- ---- a part of an event

-- the start is over, and with it the event; or the run goes on from a state that the runner and the session stand for
abbrev pub OnLeft : (RunState → Act) → Runner → DiskState → Option Session → Act → Type 0
OnLeft next r disk None rest = TurnLeft r disk None rest
OnLeft next r disk (Some hive) rest = (after : RunState) × ((rest ≡ next after) × Agrees after r disk (Some hive))

-- a start runs that took the set of this number
abbrev pub RunsOnBy : Option Start → ℕ → Type 0
RunsOnBy None number = ⊥
RunsOnBy (Some start) number = start.number ≡ number

abbrev pub RunsOn : Runner → ℕ → Type 0
RunsOn r number = RunsOnBy r.machine.start number
