use Rattle.std.proofs.Common.{◌≡◌, ◌++◌, length}
use Rattle.start_model.specs.Lines.{name_text}
use Rattle.tree_text.proofs.line.push_name.Given as goal

abbrev pub invariant-fours : goal.invariant-fours
invariant-fours l = l.out.items ++ name_text l.rest ≡ l.fn.out.items ++ name_text l.name

abbrev pub decreases-fours : goal.decreases-fours
decreases-fours l = length l.rest
