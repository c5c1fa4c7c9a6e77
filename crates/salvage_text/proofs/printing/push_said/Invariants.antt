use Rattle.std.proofs.Common.{◌≡◌, ◌++◌, take}
use Rattle.std.specs.List.{flat_map}
use Rattle.salvage_text.specs.Lines.{printed}
use Rattle.salvage_text.specs.Report.{parent_line}
use Rattle.salvage_text.proofs.printing.push_said.Given as goal

abbrev pub invariant-loop-line : goal.invariant-loop-line
invariant-loop-line l = l.out.items ≡ l.fn.out.items ++ flat_map (λ line. printed l.form (parent_line line)) (take l.line-index l.lines)
