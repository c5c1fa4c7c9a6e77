use Rattle.std.proofs.Common.{ap, ◌∙◌}
use Rattle.std.specs.Prelude.{length}
use Rattle.hive_model.specs.Bins.{bins_size}
use Rattle.hive_cells.proofs.Tools.{length_spelled}
use Rattle.hive_edit.specs.Hive.{HiveCells}
use Rattle.hive_edit.proofs.hive.HiveBytes.size.Goals as goal

pub returns : goal.returns
returns c =
    ap length c.bytes.ensures.exact ∙ length_spelled 0 c.self.inside.cells.bins c.bytes.ensures.sound.each
    ∙ ap (λ (h : HiveCells). bins_size h.bins) c.self.view_is
