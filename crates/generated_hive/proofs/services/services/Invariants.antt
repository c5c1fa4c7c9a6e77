use Rattle.std.proofs.Common.{◌≡◌}
use Rattle.generated_hive.specs.Generated.{first_services}
use Rattle.generated_hive.proofs.services.services.Given as goal

abbrev pub invariant-loop-i : goal.invariant-loop-i
invariant-loop-i l = l.keys ≡ first_services l.i
