use Rattle.std.proofs.Common.{◌≡◌, ◌*◌, length}
use Rattle.std.specs.Prelude.{max}
use Rattle.hive_model.specs.Tree.{Item}
use Rattle.hive_model.specs.Packed.{greatest}
use Rattle.hive_pack.proofs.forms.greatest_value_name.Given as goal

abbrev pub invariant-values : goal.invariant-values
invariant-values l =
    max l.most (greatest (λ (v : Item). 2 * length v.name) l.rest) ≡ greatest (λ (v : Item). 2 * length v.name) l.values

abbrev pub decreases-values : goal.decreases-values
decreases-values l = length l.rest
