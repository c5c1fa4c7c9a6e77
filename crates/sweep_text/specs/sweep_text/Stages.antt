-- Which writes and syncs does an event make, and which state does a cut leave? (docs/format.md, "Commit and recovery")
--
-- A recovery has two stages and a commit four; each writes sectors of one file in order, and ends with its sync. A cut leaves the state
-- before the event up to the sync of the stage `open`. In that sync the log is there already: where nothing of the base block that is in
-- flight is kept the hive is as it was, and where it is kept, or unreadable, the log is taken, which has the state after. From there on
-- each cut leaves that.
use Rattle.std.specs.Prelude.{ℕ, ◌+◌, ◌*◌, true, false, List, [], ◌∷◌, length, codes}
use Rattle.std.specs.List.{range_with_len}
use Rattle.hive_model.specs.Recovery.{one_if}
use Rattle.sweep_text.specs.declared.sweep_text.stages.Leaves.{Leaves}

abbrev pub leaves_before : Leaves
leaves_before = record { written = false; none = false; others = false }

abbrev pub leaves_either : Leaves
leaves_either = record { written = false; none = false; others = true }

abbrev pub leaves_after : Leaves
leaves_after = record { written = true; none = true; others = true }

-- a stage: its word, the file that it writes, the sectors of it in order, and what a cut leaves
pub record Stage : Type 0 where
  pub name : List ℕ
  pub file : List ℕ
  pub sectors : List ℕ
  pub leaves : Leaves

abbrev pub stage : List ℕ → List ℕ → List ℕ → Leaves → Stage
stage name file sectors leaves = record { name = name; file = file; sectors = sectors; leaves = leaves }

-- a recovery that takes these sectors from the log
abbrev pub recovery_stages : List ℕ → List Stage
recovery_stages sectors =
    stage (codes "recover-sectors") (codes "hive") sectors leaves_before
    ∷ stage (codes "recover-close") (codes "hive") (0 ∷ []) leaves_before
    ∷ []

-- a commit that writes these sectors, with that many sectors of bits in its log
abbrev pub commit_stages : ℕ → List ℕ → List Stage
commit_stages bitmap sectors =
    stage (codes "log") (codes "log") (range_with_len 0 (1 + bitmap + length sectors)) leaves_before
    ∷ stage (codes "open") (codes "hive") (0 ∷ []) leaves_either
    ∷ stage (codes "sectors") (codes "hive") sectors leaves_after
    ∷ stage (codes "close") (codes "hive") (0 ∷ []) leaves_after
    ∷ []

-- ---- counts

-- the writes and syncs
abbrev pub calls_in : List Stage → ℕ
calls_in [] = 0
calls_in (s ∷ more) = length s.sectors + 1 + calls_in more

-- how many of the four words of each call are `after`
abbrev pub afters_in : List Stage → ℕ
afters_in [] = 0
afters_in (s ∷ more) =
    4 * (one_if s.leaves.written * length s.sectors) + (one_if s.leaves.none + 3 * one_if s.leaves.others) + afters_in more
