use Rattle.std.proofs.Common.{ℕ, List, ap, ◌++◌, ◌∙◌}
use Rattle.std.specs.Option.{option_to_list}
use Rattle.why_needs.proofs.RangeLemmas.{gathered_more}
use Rattle.why_needs.specs.why_needs.Met.{group_met, is_met}
use Rattle.why_needs.specs.why_needs.Lacking.{lacking_at}
use Rattle.why_needs.proofs.why_needs.lacking.lacking_groups.Goals as goal

pub loop-at-preserved : goal.loop-at-preserved
loop-at-preserved c =
    gathered_more (lacking_at (λ name. is_met c.args.n (group_met c.args.starts.now name)) c.args.names.now) c.loop-at.at c.loop-at.left
    c.push_group.new.left c.loop-at.invariant
    (c.in_ok-push_group.ensures
    ∙ ap (λ (names : List (List ℕ)). c.loop-at.left ++ option_to_list (lacking_at (λ name. is_met c.args.n (group_met c.args.starts.now name)) names c.loop-at.at)) c.in_ok-places.ensures)
