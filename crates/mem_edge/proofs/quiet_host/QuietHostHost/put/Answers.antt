use Rattle.std.proofs.Common.{ap}
use Rattle.mem_edge.proofs.quiet_host.QuietHostHost.put.Goals as goal

pub returns-in-Err-clause-others : goal.returns-in-Err-clause-others
returns-in-Err-clause-others c = λ tells q not. ap (λ files. files q) c.in-Err.ensures.same
