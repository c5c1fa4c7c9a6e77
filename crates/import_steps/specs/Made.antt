-- What the calls answer, in the words of the definitions.
use Rattle.std.specs.Prelude.{map}
use Rattle.reg_tree.specs.Makes.{step_of}
use Rattle.import_steps.specs.Current.{SetSteps}
use Rattle.import_steps.specs.Left.{LeftSteps}
use Rattle.import_steps.specs.declared.current.SetSteps.{SetSteps as CodeSteps}
use Rattle.import_steps.specs.declared.left.LeftSteps.{LeftSteps as CodeLeft}

-- the steps of the book, with whether a step after them is refused
abbrev pub made_steps : CodeSteps → SetSteps
made_steps made = record { steps = map step_of made.steps; protected = made.protected }

-- the steps of the book, with how many were passed over
abbrev pub left_seen : CodeLeft → LeftSteps
left_seen left = record { steps = map step_of left.steps; passed = left.passed }
