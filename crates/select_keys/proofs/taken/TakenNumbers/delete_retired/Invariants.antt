use Rattle.std.proofs.Common.{◌≡◌, ◌++◌, map}
use Rattle.reg_tree.specs.Makes.{step_of}
use Rattle.select_keys.proofs.StepLemmas.{deleted_before}
use Rattle.select_keys.proofs.taken.TakenNumbers.delete_retired.Given as goal

abbrev pub invariant-loop-number : goal.invariant-loop-number
invariant-loop-number l =
    map step_of l.steps ≡ map step_of l.initial.steps ++ deleted_before l.marks l.old l.new l.number
