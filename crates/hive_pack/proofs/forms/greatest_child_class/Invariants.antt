use Rattle.std.proofs.Common.{◌≡◌, length}
use Rattle.std.specs.Prelude.{max}
use Rattle.hive_model.specs.Tree.{Tree, head}
use Rattle.hive_model.specs.Packed.{greatest}
use Rattle.hive_pack.proofs.forms.greatest_child_class.Given as goal

abbrev pub invariant-keys : goal.invariant-keys
invariant-keys l =
    max l.most (greatest (λ (k : Tree). length (head k).class) l.rest)
    ≡ greatest (λ (k : Tree). length (head k).class) l.keys

abbrev pub decreases-keys : goal.decreases-keys
decreases-keys l = length l.rest
