-- What does a run have in common with one that had more to go on?
use Rattle.std.specs.Prelude.{◌≡◌, List, [], ◌++◌, length, Some}
use Rattle.nt_bytes.specs.Front.{IsFront}
use Rattle.start_model.specs.Possible.{Woken, Outcome}
use Rattle.start_model.specs.Act.{RunState}
use Rattle.start_model.specs.Run.{RunResult}
use Rattle.start_model.specs.Fits.{woke_in}
use Rattle.run_laws.specs.run_laws.Told.{ended_in}

-- a run says and notes first what this one did
pub record IsFrontOfRun (first whole : RunResult) : Type 0 where
  pub lines : IsFront whole.lines first.lines
  pub notes : IsFront whole.notes first.notes

-- Of these wakes and outcomes a run took the first ones, in their order, and noted each; the others it left over. With the
-- first ones alone it does the same, and nothing is left over.
pub record TakesInOrder (go : List Woken → List Outcome → RunResult) (wakes : List Woken) (outcomes : List Outcome) (m : RunState)
    (left : List Woken) (over : List Outcome) : Type 0 where
  pub used : List Woken
  pub ended : List Outcome
  pub wakes_are : wakes ≡ used ++ left
  pub outcomes_are : outcomes ≡ ended ++ over
  pub as_many : length (woke_in (go wakes outcomes).notes) ≡ length used
  pub noted : ended_in (go wakes outcomes).notes ≡ ended
  pub alone : go used ended ≡ record (go wakes outcomes) { rest = Some (m, [], []) }
