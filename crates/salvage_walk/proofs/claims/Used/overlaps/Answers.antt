use Rattle.std.proofs.Common.{ap, ◌∙◌}
use Rattle.std.specs.Prelude.{nat_lt}
use Rattle.salvage_walk.specs.Uses.{overlaps}
use Rattle.salvage_walk.proofs.LooseLemmas.{ends-none, ends-some}
use Rattle.salvage_walk.proofs.claims.Used.overlaps.Goals as goal

pub returns-in-Some : goal.returns-in-Some
returns-in-Some c =
    ap (λ n. nat_lt n c.in-Some.last) c.from.ensures
    ∙ ends-some c.self.inside.loose c.self.inside.claims.items c.args.at c.args.end (
      c.in-Some.field-0-0,
      c.in-Some.last,
    )
    c.self.invariant.placed.once c.self.invariant.loose c.in-Some.ensures
    ∙ ap (overlaps c.args.at c.args.end) c.self.view_is

pub returns-in-None : goal.returns-in-None
returns-in-None c =
    ends-none c.self.inside.loose c.self.inside.claims.items c.args.at c.args.end c.self.invariant.placed.once
    c.self.invariant.loose
    c.in-None.ensures ∙ ap (overlaps c.args.at c.args.end) c.self.view_is
