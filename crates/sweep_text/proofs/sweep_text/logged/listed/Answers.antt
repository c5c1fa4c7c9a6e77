use Rattle.std.proofs.Common.{arith}
use Rattle.hive_model.specs.Recovery.{bit}
use Rattle.sweep_text.specs.sweep_text.Logged.{listed}
use Rattle.sweep_text.proofs.LoggedLemmas.{one_more}
use Rattle.sweep_text.proofs.sweep_text.logged.listed.Goals as goal

pub loop-i-preserved : goal.loop-i-preserved
loop-i-preserved c =
    one_more (bit c.args.bits.now) c.loop-i.i c.args.count c.loop-i.sectors c.put.new.sectors (listed (bit c.args.bits.now) 0 c.args.count)
    (omega arith) c.in_ok-put.ensures c.loop-i.invariant
