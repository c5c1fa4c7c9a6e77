use Rattle.std.proofs.Common.{sym, append-nil}
use Rattle.tree_text.specs.TreeObjects.{value_lines}
use Rattle.tree_text.proofs.ObjectLemmas.{more_values}
use Rattle.tree_text.proofs.objects.push_values.Goals as goal

pub loop-value-init : goal.loop-value-init
unfolding value_lines
loop-value-init c = sym (append-nil c.args.out.now.items)

pub loop-value-preserved : goal.loop-value-preserved
loop-value-preserved c =
    more_values c.args.level c.args.values.now c.loop-value.value-index c.value-item.result
    c.args.out.now.items c.loop-value.out.items c.push_value.new.out.items c.loop-value-test.true c.value-item.is
    c.in_ok-push_value.ensures c.loop-value.invariant
