use Rattle.std.proofs.Common.{sym}
use Rattle.generated_hive.specs.Generated.{tags_value}
use Rattle.generated_hive.proofs.CountLemmas.{one_more}
use Rattle.generated_hive.proofs.tree.tags_values.Goals as goal

pub loop-k-preserved : goal.loop-k-preserved
loop-k-preserved c = rw (c.in_ok-push.ensures.ok, c.loop-k.invariant, c.in_ok-tags.ensures, c.group.ensures)
    (sym (one_more tags_value c.loop-k.k))
