use Rattle.std.proofs.Common.{ℕ, List}
use Rattle.std.specs.Option.{option_map}
use Rattle.why_needs.proofs.RangeLemmas.{gathered_more}
use Rattle.why_needs.specs.why_needs.Met.{group_at}
use Rattle.why_needs.proofs.why_needs.met.starts_at.Goals as goal

pub loop-at-preserved : goal.loop-at-preserved
loop-at-preserved c =
    gathered_more (λ k. option_map (λ (group : List ℕ). k) (group_at c.args.run.now k)) c.loop-at.at c.loop-at.row
    c.push_start.new.row c.loop-at.invariant c.in_ok-push_start.ensures
