use Rattle.std.proofs.Common.{◌≡◌, ◌++◌, map, length}
use Rattle.reg_tree.specs.Makes.{step_of}
use Rattle.reg_text.specs.Reading.{making}
use Rattle.reg_text.proofs.edits.push_making.Given as goal

abbrev pub invariant-names : goal.invariant-names
invariant-names l = map step_of l.steps ++ making l.above l.rest ≡ map step_of l.fn.steps ++ making l.fn.above l.path

abbrev pub decreases-names : goal.decreases-names
decreases-names l = length l.rest
