use Rattle.std.proofs.Common.{◌≡◌, take}
use Rattle.std.specs.List.{filter_map}
use Rattle.why_answer.specs.why_pulled.Layers.{demand_place}
use Rattle.why_answer.proofs.why_pulled.layers.demanded.Given as goal

abbrev pub invariant-loop-name : goal.invariant-loop-name
invariant-loop-name l = l.out ≡ filter_map (demand_place l.view) (take l.name-index l.names)
