use Rattle.std.proofs.Common.{sym, ◌∙◌}
use Rattle.nt_edge.specs.declared.disk.DiskCall.TheVariants.{Write}
use Rattle.mem_edge.specs.Seen.{written}
use Rattle.nt_edge.specs.Calls.{Wrote}
use Rattle.mem_edge.proofs.CallLemmas.{makes_one}
use Rattle.mem_edge.proofs.StopLemmas.{stop_cause, does_stop}
use Rattle.mem_edge.proofs.disk.MemDiskDisk.write.Goals as goal

pub returns-in-Some-clause-cause : goal.returns-in-Some-clause-cause
returns-in-Some-clause-cause c =
    stop_cause (Unit {0}) c.args.self.now c.stop.new.self Write c.in-Some.stop c.stop.ensures.seen
    (sym c.stop.ensures.stop ∙ c.in-Some.is)

pub returns-in-Some-clause-does : goal.returns-in-Some-clause-does
returns-in-Some-clause-does c =
    does_stop (Unit {0}) c.args.self.now c.stop.new.self Write c.in-Some.stop c.stop.ensures.seen
    (sym c.stop.ensures.stop ∙ c.in-Some.is) (written (c.args.at, c.args.bytes.now))

pub returns-then-is_err-clause-made : goal.returns-then-is_err-clause-made
returns-then-is_err-clause-made c =
    makes_one c.args.self.now c.stop.new.self (Wrote (c.args.at, c.args.bytes.now)) c.stop.ensures.calls

pub returns-clause-made : goal.returns-clause-made
returns-clause-made c = makes_one c.args.self.now c.stop.new.self (Wrote (c.args.at, c.args.bytes.now))
    c.stop.ensures.calls
