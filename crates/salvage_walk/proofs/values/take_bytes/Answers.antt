use Rattle.std.proofs.Common.{ℕ, List}
use Rattle.salvage_walk.specs.Values.{bytes_part}
use Rattle.salvage_walk.proofs.UseLemmas.{takes-tries}
use Rattle.salvage_walk.proofs.values.take_bytes.Goals as goal

pub returns-clause-tried : goal.returns-clause-tried
unfolding bytes_part
returns-clause-tried c = takes-tries (λ (b : List ℕ). b) c.args.used.now c.use_bytes.new.used c.args.at c.use_bytes.result _ c.use_bytes.ensures
