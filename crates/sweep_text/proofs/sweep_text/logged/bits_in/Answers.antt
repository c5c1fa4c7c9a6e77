use Rattle.std.proofs.Common.{sym, arith}
use Rattle.sweep_text.proofs.LoggedLemmas.{none_left}
use Rattle.sweep_text.proofs.sweep_text.logged.bits_in.Goals as goal

pub returns-then-log-lt516 : goal.returns-then-log-lt516
returns-then-log-lt516 c = sym (none_left 516 c.args.log.now (omega (arith, c.if-log-lt516.true)))
