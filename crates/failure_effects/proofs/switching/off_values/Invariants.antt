use Rattle.std.proofs.Common.{◌≡◌, ◌++◌, drop}
use Rattle.std.specs.Prelude.{codes}
use Rattle.hive_model.specs.Tree.{is_item}
use Rattle.hive_model.specs.Edit.{at_first}
use Rattle.failure_effects.specs.Switching.{as_four}
use Rattle.failure_effects.proofs.SwitchLemmas.{rest_of}
use Rattle.failure_effects.proofs.switching.off_values.Given as goal

abbrev pub invariant-loop-value : goal.invariant-loop-value
invariant-loop-value l =
    l.made ++ rest_of l.found (is_item (codes "Start")) as_four (drop l.value-index l.values)
    ≡ at_first (is_item (codes "Start")) as_four l.values
