use Rattle.std.proofs.Common.{◌≡◌, take}
use Rattle.std.specs.List.{filter_map}
use Rattle.graph_rule.specs.Rows.{name_vertex}
use Rattle.graph_rule.proofs.rows.name_vertices.Given as goal

abbrev pub invariant-loop-name : goal.invariant-loop-name
invariant-loop-name l = l.out ≡ filter_map (name_vertex l.parts) (take l.name-index l.names)
