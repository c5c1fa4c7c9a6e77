use Rattle.std.proofs.Common.{sym}
use Rattle.generated_hive.specs.Generated.{generated_service}
use Rattle.generated_hive.proofs.CountLemmas.{one_more}
use Rattle.generated_hive.proofs.services.services.Goals as goal

pub loop-i-preserved : goal.loop-i-preserved
loop-i-preserved c = rw (c.in_ok-push.ensures.ok, c.loop-i.invariant, c.in_ok-service.ensures)
    (sym (one_more generated_service c.loop-i.i))
