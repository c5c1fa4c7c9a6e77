use Rattle.std.proofs.Common.{◌≡◌}
use Rattle.std.specs.List.{filter_map, range_with_len}
use Rattle.why_answer.specs.why_pulled.Layers.{start_at}
use Rattle.why_answer.proofs.why_pulled.layers.first_layer.Given as goal

abbrev pub invariant-loop-place : goal.invariant-loop-place
invariant-loop-place l = l.out ≡ filter_map (start_at l.view.plan 2) (range_with_len 0 l.place)
