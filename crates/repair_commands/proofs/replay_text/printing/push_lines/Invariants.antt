use Rattle.std.proofs.Common.{◌≡◌, ◌++◌, take}
use Rattle.std.specs.List.{flat_map}
use Rattle.repair_commands.specs.replay_text.Lines.{printed}
use Rattle.repair_commands.proofs.replay_text.printing.push_lines.Given as goal

abbrev pub invariant-loop-line : goal.invariant-loop-line
invariant-loop-line l = l.out.items ≡ l.fn.out.items ++ flat_map (λ line. printed l.form line) (take l.line-index l.lines)
