use Rattle.std.proofs.Common.{◌≡◌, length}
use Rattle.std.specs.Prelude.{max}
use Rattle.hive_model.specs.Tree.{Item}
use Rattle.hive_model.specs.Packed.{greatest}
use Rattle.hive_pack.proofs.forms.greatest_value_size.Given as goal

abbrev pub invariant-values : goal.invariant-values
invariant-values l =
    max l.most (greatest (λ (v : Item). length v.bytes) l.rest) ≡ greatest (λ (v : Item). length v.bytes) l.values

abbrev pub decreases-values : goal.decreases-values
decreases-values l = length l.rest
