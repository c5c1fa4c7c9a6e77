use Rattle.device_laws.proofs.BareLemmas.{nothing_else, told_alike}
use Rattle.device_laws.proofs.laws.nothing_else_is_read.Goals as goal

pub returns : goal.returns
returns c = record { bare = nothing_else; alike = told_alike }
