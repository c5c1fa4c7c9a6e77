use Rattle.std.proofs.Common.{◌≡◌, ◌+◌, length}
use Rattle.hive_model.specs.Size.{items_sum, items_size}
use Rattle.hive_pack.proofs.sizes.values_len.Given as goal

abbrev pub invariant-values : goal.invariant-values
invariant-values l = l.total + items_sum l.version l.rest ≡ items_size l.version l.values

abbrev pub decreases-values : goal.decreases-values
decreases-values l = length l.rest
