use Rattle.salvage_walk.specs.Values.{bytes_part}
use Rattle.salvage_walk.proofs.UseLemmas.{takes-tries}
use Rattle.salvage_walk.proofs.segments.use_segment.Goals as goal

pub returns : goal.returns
unfolding bytes_part
returns c = takes-tries (λ p. p.now) c.args.used.now c.use_front.new.used c.args.at c.use_front.result _
    c.use_front.ensures
