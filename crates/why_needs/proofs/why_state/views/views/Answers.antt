use Rattle.std.specs.Prelude.{slice_get}
use Rattle.std.specs.Option.{option_map}
use Rattle.why_needs.specs.why_state.Views.{view_of}
use Rattle.why_needs.proofs.RangeLemmas.{gathered_more}
use Rattle.why_needs.proofs.why_state.views.views.Goals as goal

pub loop-at-preserved : goal.loop-at-preserved
loop-at-preserved c =
    gathered_more (λ at. option_map (view_of c.args.start.now at) (slice_get c.args.start.now.phases at)) c.loop-at.at c.loop-at.views
    c.push_view.new.views c.loop-at.invariant c.in_ok-push_view.ensures
