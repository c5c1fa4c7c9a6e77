use Rattle.std.proofs.Common.{ℕ, nat_eq, ◌||◌}
use Rattle.start_model.specs.Demand.{member}
use Rattle.graph_rule.proofs.GatherLemmas.{each_more}
use Rattle.graph_rule.proofs.marks.either.Goals as goal

pub loop-at-preserved : goal.loop-at-preserved
loop-at-preserved c =
    each_more (λ (at : ℕ). nat_eq c.args.start at || (member c.args.on.now at || member c.args.to.now at)) c.loop-at.at
    c.loop-at.marks.items c.push.new.self.items c.is_about.result c.loop-at.invariant c.is_about.ensures c.in_ok-push.ensures.items
