use Rattle.std.proofs.Common.{◌≡◌, ◌++◌, drop}
use Rattle.hive_model.specs.Tree.{is_named}
use Rattle.hive_model.specs.Edit.{at_first}
use Rattle.failure_effects.specs.Switching.{off_key}
use Rattle.failure_effects.proofs.SwitchLemmas.{rest_of}
use Rattle.failure_effects.proofs.switching.off_services.Given as goal

abbrev pub invariant-loop-key : goal.invariant-loop-key
invariant-loop-key l =
    l.made ++ rest_of l.found (is_named l.name) off_key (drop l.key-index l.keys) ≡ at_first (is_named l.name) off_key l.keys
