use Rattle.std.proofs.Common.{arith}
use Rattle.std.proofs.lemmas.Map.Text.{text_keys}
use Rattle.mem_edge.proofs.mem_host.MemHost.add.Goals as goal

pub returns-clause-put : goal.returns-clause-put
returns-clause-put c = λ q. grind (arith, text_keys)
