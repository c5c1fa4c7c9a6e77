-- What does a commit of a session make? (This project's own.)
use Rattle.std.specs.Prelude.{◌≡◌, Bool, true, false, ℕ, List}
use Rattle.hive_model.specs.Base.{Base, version_of}
use Rattle.hive_model.specs.Carries.{HasLog}
use Rattle.hive_model.specs.Log.{dirty, log_of}
use Rattle.hive_model.specs.State.{HiveState}
use Rattle.hive_model.specs.Load.{Loads, state_of}
use Rattle.nt_edge.specs.Disk.{DiskState}
use Rattle.hive_commit.specs.Commits.{IsCleanWith}
use Rattle.hive_commit.specs.Stages.{next_number, closed_of}
use Rattle.hive_edit.specs.Hive.{settled_as}
use Rattle.hive_store.specs.Session.{Session, next_bins, next_root}

-- the base block that the session's commit closes with; its minor version is the one from before
abbrev pub next_base : Session → Base
next_base s = closed_of s.base (next_bins s) (next_root s)

-- the session after its commit: its cells and their tree stay, settled as the disk carries them now, and nothing is changed any more
abbrev pub committed : Session → Session
committed s = record { base = next_base s; bins = next_bins s; cells = settled_as (next_bins s) s.cells; tree = s.tree; changed = false }

-- what the session's commit leads to: its tree under the next number
abbrev pub committed_state : Session → HiveState
committed_state s = state_of s.tree (next_number s.base.first) (version_of s.base.minor)

-- the log of the session's commit: the sectors in which what it writes differs from what the disk carries
abbrev pub session_log : Session → List ℕ
session_log s = log_of (dirty s.bins (next_bins s)) (next_bins s) (next_base s)

-- The session's commit is done: the answer is the session after it, with its number. The disk is clean with what was written, loads as
-- the session's tree under this number, and its log begins with the file that has the sectors that differ, and no other.
pub record HasCommitted (tells : Bool) (disk : DiskState) (s : Session) (answer : Session × ℕ) : Type 0 where
  pub answered : answer.0 ≡ committed s
  pub number : answer.1 ≡ next_number s.base.first
  pub clean : IsCleanWith tells disk (next_base s) (next_bins s)
  pub loads : tells ≡ true → Loads disk.held (committed_state s) false
  pub logged : tells ≡ true → HasLog disk.held (session_log s)
