use Rattle.std.proofs.Common.{◌≡◌}
use Rattle.std.specs.Prelude.{slice_get}
use Rattle.std.specs.Option.{option_map}
use Rattle.std.specs.List.{filter_map, range_with_len}
use Rattle.why_needs.specs.why_state.Views.{view_of}
use Rattle.why_needs.proofs.why_state.views.views.Given as goal

abbrev pub invariant-loop-at : goal.invariant-loop-at
invariant-loop-at l = l.views ≡ filter_map (λ at. option_map (view_of l.start at) (slice_get l.start.phases at)) (range_with_len 0 l.at)
