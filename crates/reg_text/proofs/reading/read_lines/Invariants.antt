use Rattle.std.proofs.Common.{◌≡◌, map, length}
use Rattle.std.specs.Str.Lines.{lines}
use Rattle.reg_tree.specs.Makes.{step_of}
use Rattle.reg_text.specs.Reading.{with_edits, lines_said, first_state}
use Rattle.reg_text.proofs.reading.read_lines.Given as goal

abbrev pub invariant-loop-rest : goal.invariant-loop-rest
invariant-loop-rest l = with_edits (map step_of l.steps) (lines_said l.state (lines l.rest))
    ≡ lines_said first_state (lines l.body)

abbrev pub decreases-loop-rest : goal.decreases-loop-rest
decreases-loop-rest l = length l.rest
