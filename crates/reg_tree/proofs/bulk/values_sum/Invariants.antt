use Rattle.std.proofs.Common.{◌≡◌, take}
use Rattle.std.specs.Prelude.{sum_by}
use Rattle.hive_model.specs.Size.{item_size}
use Rattle.nt_bytes.specs.Counts.{capped}
use Rattle.reg_tree.proofs.bulk.values_sum.Given as goal

abbrev pub invariant-loop-value : goal.invariant-loop-value
invariant-loop-value l = l.total ≡ capped (sum_by (item_size l.version) (take l.value-index l.values))
