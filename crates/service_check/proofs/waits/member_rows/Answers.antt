use Rattle.std.proofs.Common.{arith}
use Rattle.service_check.proofs.WaitLemmas.{grouped_none, grouped_more, grouped_all}
use Rattle.service_check.proofs.waits.member_rows.Goals as goal

pub loop-place-init : goal.loop-place-init
loop-place-init c =
    grouped_none c.args.rows.now c.args.stage c.args.groups.now c.args.count c.in_ok-ways.ways.items c.requires
    c.in_ok-ways.ensures

pub loop-place-preserved : goal.loop-place-preserved
loop-place-preserved c =
    grouped_more c.args.rows.now c.args.stage c.args.groups.now c.loop-place.place c.index-rows-place.result
    c.loop-place.ways.items c.put_member.new.ways.items c.loop-place-test.true c.index-rows-place.is c.loop-place.invariant
    c.in_ok-put_member.ensures

pub returns : goal.returns
returns c = grouped_all _ _ _ _ _ _ (omega arith) c.loop-place.invariant
