use Rattle.std.proofs.Common.{◌≡◌, ◌+◌, ◌≤◌, length}
use Rattle.std.specs.Str.Lines.{lines}
use Rattle.boot_script.specs.quiet_script.Quiet.{first_order}
use Rattle.boot_script.proofs.quiet_script.orders.first_order.Given as goal

abbrev pub invariant-loop-rest : goal.invariant-loop-rest
invariant-loop-rest l = record {
  so_far : first_order l.number (lines l.rest) ≡ first_order 1 (lines l.text);
  numbers : l.number + length l.rest ≤ 65537;
}

abbrev pub decreases-loop-rest : goal.decreases-loop-rest
decreases-loop-rest l = length l.rest
