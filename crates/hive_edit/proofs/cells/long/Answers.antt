use Rattle.std.proofs.Common.{length, ap, ◌∙◌, arith}
use Rattle.hive_cells.proofs.Tools.{length_spelled}
use Rattle.hive_edit.proofs.cells.long.Goals as goal

pub overflow_cast-result : goal.overflow_cast-result
overflow_cast-result c =
    omega (
      arith,
      ap length c.bytes.ensures.exact
          ∙ length_spelled 0 c.args.heap.now.bins c.bytes.ensures.sound.each,
      c.bytes.ensures.sound.small,
    )

pub returns-clause-long : goal.returns-clause-long
returns-clause-long c = ap length c.bytes.ensures.exact ∙ length_spelled 0 c.args.heap.now.bins c.bytes.ensures.sound.each
