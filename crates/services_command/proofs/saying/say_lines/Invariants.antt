use Rattle.std.proofs.Common.{take}
use Rattle.std.specs.List.{flat_map}
use Rattle.services_command.specs.Says.{Says}
use Rattle.services_command.specs.Lines.{printed}
use Rattle.services_command.proofs.saying.say_lines.Given as goal

abbrev pub invariant-loop-line : goal.invariant-loop-line
invariant-loop-line g l = Says (g.H.Host.state l.fn.host) (g.H.Host.state l.host) (flat_map (printed l.form) (take l.line-index l.lines))
