use Rattle.std.proofs.Common.{sym, ◌∙◌}
use Rattle.cell_forms.specs.Views.{value_seen}
use Rattle.hive_cells.specs.Sources.{cells_of}
use Rattle.hive_read.proofs.WeighingLemmas.{held-here}
use Rattle.hive_read.proofs.weighing.judge_data.Goals as goal

pub returns-then-holds_data : goal.returns-then-holds_data
returns-then-holds_data c =
    held-here (cells_of c.args.cells.now) c.args.used.now (value_seen c.args.value.now)
    (sym c.holds_data.ensures ∙ c.if-holds_data.true)
