-- A block has no more findings than lines.
use Rattle.std.proofs.Common.{◌≤◌, Bool, true, false, cond, length, arith}
use Rattle.std.specs.Prelude.{count_by}
use Rattle.std.proofs.lemmas.List.Sums.{count_by-le-length}
use Rattle.device_rule.specs.declared.block.Block.{Block}
use Rattle.device_rule.specs.Devices.{is_fault, block_findings}

pub few_findings : (b : Block) → block_findings b ≤ length b.lines
few_findings b = by b.enabled
  where
    by : (e : Bool) → cond e (count_by is_fault b.lines) 0 ≤ length b.lines
    by true = count_by-le-length is_fault b.lines
    by false = omega arith
