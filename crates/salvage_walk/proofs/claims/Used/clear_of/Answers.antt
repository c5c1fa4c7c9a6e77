use Rattle.std.proofs.Common.{ap, ◌∙◌, arith}
use Rattle.std.specs.Prelude.{slice_get}
use Rattle.salvage_walk.proofs.LooseLemmas.{placed-before}
use Rattle.salvage_walk.proofs.ClearLemmas.{clear-far}
use Rattle.salvage_walk.proofs.claims.Used.clear_of.Goals as goal

pub returns-clause-clear : goal.returns-clause-clear
returns-clause-clear c = λ i s e full low.
    clear-far c.args.claim s c.near_end.result full c.near_end.ensures.begun c.near_end.ensures.ended (λ from end.
    placed-before c.self.inside.places c.self.inside.claims.items i s c.self.invariant.placed
    (ap (λ cs. slice_get cs i) c.self.view_is ∙ e)
    (λ n there few.
    let least = c.least_number.ensures.least s.at n (omega (arith, from, c.near_from.ensures)) end there in
    absurd (omega (arith, least, few, low))))
