-- Which part of the graph is shown, and how is it numbered? (this project's own)
use Rattle.std.specs.Prelude.{ℕ, ◌+◌, nat_eq, ◌==◌, Bool, true, false, not, ◌&&◌, ◌||◌, List, [], ◌∷◌, map, length, slice_get, slice_index_or, Option, None, Some, if◌then◌else◌}
use Rattle.std.specs.Option.{option_map_or, option_to_list}
use Rattle.std.specs.List.{flat_map, list_any, range_with_len}
use Rattle.answer_lines.specs.declared.graph_lines.graph.NodeKind.{NodeKind}
use Rattle.answer_lines.specs.declared.graph_lines.graph.NodeKind.TheVariants as kinds
use Rattle.answer_lines.specs.declared.graph_lines.graph.GraphNode.{GraphNode}
use Rattle.answer_lines.specs.declared.graph_lines.graph.GraphEdge.{GraphEdge}
use Rattle.answer_lines.specs.declared.graph_lines.graph.Graph.{Graph}
use Rattle.wait_cycles.specs.Waits.{comes_to}
use Rattle.wait_cycles.specs.Graph.{row_at}
use Rattle.why_needs.specs.declared.why_state.views.ViewedRun.{ViewedRun}
use Rattle.graph_rule.specs.declared.whole.WholeGraph.{WholeGraph}
use Rattle.graph_rule.specs.Rows.{is_untaken, whole_of}

-- ---- which vertices are shown

abbrev pub is_entry : NodeKind → Bool
is_entry kinds.Entry = true
is_entry kinds.Missing = false
is_entry kinds.Group = false

abbrev pub is_group : NodeKind → Bool
is_group kinds.Entry = false
is_group kinds.Missing = false
is_group kinds.Group = true

-- the vertex is an entry that is not untaken
abbrev pub is_taken : List GraphNode → ℕ → Bool
is_taken ns v = option_map_or (λ (n : GraphNode). is_entry n.kind && not (is_untaken n.state)) (slice_get ns v) false

-- an edge leads from u to v
abbrev pub leads : List (List ℕ) → ℕ → ℕ → Bool
leads rows u v = list_any (nat_eq v) (row_at rows u)

-- without a name: the entries that are not untaken, and what an edge leads to from one of them
abbrev pub is_shown_of_all : List GraphNode → List (List ℕ) → ℕ → Bool
is_shown_of_all ns rows v = is_taken ns v || list_any (λ u. is_taken ns u && leads rows u v) (range_with_len 0 (length rows))

-- with a name, of this vertex: that, what edges lead to from it, and what they lead to it from
abbrev pub is_shown_about : List (List ℕ) → ℕ → ℕ → Bool
is_shown_about rows s v = nat_eq s v || (comes_to (leads rows) (length rows) s v || comes_to (leads rows) (length rows) v s)

abbrev pub marks_of : WholeGraph → Option ℕ → List Bool
marks_of w None = map (is_shown_of_all w.nodes w.rows) (range_with_len 0 (length w.rows))
marks_of w (Some s) = map (is_shown_about w.rows s) (range_with_len 0 (length w.rows))

-- ---- numbers

abbrev pub number_if : Bool → ℕ → ℕ
number_if shown n = if shown then n else 0

abbrev pub next_if : Bool → ℕ → ℕ
next_if shown n = if shown then n + 1 else n

-- what is shown is numbered on from n, and the rest has 0
abbrev pub numbers_from : ℕ → List Bool → List ℕ
numbers_from n [] = []
numbers_from n (shown ∷ marks) = number_if shown n ∷ numbers_from (next_if shown n) marks

abbrev pub number_at : List ℕ → ℕ → ℕ
number_at numbers v = slice_index_or numbers v 0

-- ---- what is shown

abbrev pub node_at : List GraphNode → List ℕ → ℕ → List GraphNode
node_at ns numbers v = if number_at numbers v == 0 then [] else option_to_list (slice_get ns v)

abbrev pub edge_to : List ℕ → ℕ → Bool → ℕ → List GraphEdge
edge_to numbers from of_group v =
    if number_at numbers v == 0 then [] else record { from = from; to = number_at numbers v; of_group = of_group } ∷ []

abbrev pub is_group_at : List GraphNode → ℕ → Bool
is_group_at ns u = option_map_or (λ (n : GraphNode). is_group n.kind) (slice_get ns u) false

-- the edges from a vertex, where it is shown, to those that are
abbrev pub edges_at : WholeGraph → List ℕ → ℕ → List GraphEdge
edges_at w numbers u =
    if number_at numbers u == 0 then []
    else flat_map (edge_to numbers (number_at numbers u) (is_group_at w.nodes u)) (row_at w.rows u)

abbrev pub drawn_by : WholeGraph → List ℕ → Graph
drawn_by w numbers = record {
  nodes = flat_map (node_at w.nodes numbers) (range_with_len 0 (length numbers));
  edges = flat_map (edges_at w numbers) (range_with_len 0 (length numbers));
}

abbrev pub drawn : WholeGraph → Graph
drawn w = drawn_by w (numbers_from 1 (marks_of w w.start))

abbrev pub no_graph : Graph
no_graph = record { nodes = []; edges = [] }

-- the graph of a start, or of a name in it; nothing is shown of one that came to no phase
unfoldable pub graph_of : ViewedRun → Option (List ℕ) → Graph
graph_of r of = if length r.views == 0 then no_graph else drawn (whole_of r of)
