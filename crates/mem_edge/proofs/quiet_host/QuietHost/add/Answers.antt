use Rattle.std.proofs.Common.{arith}
use Rattle.std.proofs.lemmas.Map.Text.{text_keys}
use Rattle.mem_edge.proofs.quiet_host.QuietHost.add.Goals as goal

pub returns-clause-put : goal.returns-clause-put
returns-clause-put c = λ q. grind (arith, text_keys)
