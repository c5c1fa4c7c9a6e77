-- As which nodes and edges does the text of a graph have its own? (this project's own; DOT is the language of Graphviz)
use Rattle.std.specs.Prelude.{◌≡◌, ℕ, true, Bool, List, [], ◌∷◌, ◌++◌, map, filter, codes, Option, None, Some, if◌then◌else◌}
use Rattle.std.specs.List.{list_any, enumerate_from}
use Rattle.std.specs.Option.{option_map}
use Rattle.std.specs.Fmt.{decimal}
use Rattle.boot_phases.specs.declared.boot_phases.phase.Phase.{Phase}
use Rattle.boot_phases.specs.declared.boot_phases.phase.Phase.TheVariants as phases
use Rattle.report_text.specs.declared.line_text.form.ReportForm.TheVariants as forms
use Rattle.answer_lines.specs.declared.why_lines.lines.WhyLine.{WhyLine}
use Rattle.why_text.specs.why_text.Lines.{phase_word}
use Rattle.answer_lines.specs.declared.graph_lines.graph.NodeKind.{NodeKind}
use Rattle.answer_lines.specs.declared.graph_lines.graph.NodeKind.TheVariants as kinds
use Rattle.answer_lines.specs.declared.graph_lines.graph.NodeState.{NodeState}
use Rattle.answer_lines.specs.declared.graph_lines.graph.NodeState.TheVariants as states
use Rattle.answer_lines.specs.declared.graph_lines.graph.GraphNode.{GraphNode}
use Rattle.answer_lines.specs.declared.graph_lines.graph.GraphEdge.{GraphEdge}
use Rattle.answer_lines.specs.declared.graph_lines.graph.Graph.{Graph}
use Rattle.why_text.specs.graph_text.Dot.{in_quotes, head_text, label_text, stands_in}
use Rattle.why_text.specs.graph_text.Objects.{printed_graph}
use Rattle.graph_laws.specs.dot_laws.Statements.{Attribute, DotNode, DotEdge, Setting, is_dot, dot_nodes, dot_edges, dot_settings}

-- ---- nodes

-- the identifier of the node with a number
abbrev pub node_id : ℕ → List ℕ
node_id n = codes "n" ++ decimal n

-- the subgraph of a phase
abbrev pub cluster_of : Phase → List ℕ
cluster_of phase = codes "cluster_" ++ phase_word phase

abbrev pub shape_attributes : NodeKind → List Attribute
shape_attributes kinds.Entry = []
shape_attributes kinds.Missing = []
shape_attributes kinds.Group = (codes "shape", codes "box") ∷ []

abbrev pub style_attributes : NodeState → List Attribute
style_attributes states.Started = []
style_attributes states.Failed = (codes "color", codes "red") ∷ []
style_attributes states.Unmet = (codes "style", codes "dashed") ∷ []
style_attributes states.NotReached = (codes "style", codes "dotted") ∷ []
style_attributes states.Untaken = (codes "color", codes "gray") ∷ []
style_attributes states.NoEntry = (codes "color", codes "gray") ∷ (codes "style", codes "dashed") ∷ []

-- label, shape and style
abbrev pub node_attributes : GraphNode → List Attribute
node_attributes node = (codes "label", in_quotes (label_text node)) ∷ shape_attributes node.kind ++ style_attributes node.state

-- a node with its number
abbrev pub drawn_node : Option Phase → ℕ × GraphNode → DotNode
drawn_node place n = record { subgraph = option_map cluster_of place; id = node_id n.0; attributes = node_attributes n.1 }

-- the nodes that are in a phase, or in none, with their numbers
abbrev pub placed : Option Phase → List GraphNode → List (ℕ × GraphNode)
placed place nodes = filter (λ (n : ℕ × GraphNode). stands_in place n.1.phase) (enumerate_from 1 nodes)

abbrev pub drawn_in : Option Phase → List GraphNode → List DotNode
drawn_in place nodes = map (drawn_node place) (placed place nodes)

-- phase by phase, and then those in no phase
abbrev pub drawn_nodes : List GraphNode → List DotNode
drawn_nodes nodes =
    drawn_in (Some phases.Boot) nodes ++ drawn_in (Some phases.System) nodes ++ drawn_in (Some phases.Automatic) nodes ++ drawn_in None nodes

-- ---- edges

abbrev pub dotted_attributes : Bool → List Attribute
dotted_attributes of_group = if of_group then (codes "style", codes "dotted") ∷ [] else []

abbrev pub drawn_edge : GraphEdge → DotEdge
drawn_edge edge = record { from = node_id edge.from; to = node_id edge.to; attributes = dotted_attributes edge.of_group }

-- ---- settings

-- the label of a phase in which a node is
abbrev pub phase_settings : Phase → List GraphNode → List Setting
phase_settings phase nodes =
    if list_any (λ (node : GraphNode). stands_in (Some phase) node.phase) nodes
    then (Some (cluster_of phase), (codes "label", phase_word phase)) ∷ [] else []

-- the label of the graph, and those of phases
abbrev pub drawn_settings : List WhyLine → List GraphNode → List Setting
drawn_settings head nodes =
    (None, (codes "label", in_quotes (head_text head)))
    ∷ phase_settings phases.Boot nodes ++ phase_settings phases.System nodes ++ phase_settings phases.Automatic nodes

-- ---- the whole

-- the text is a graph of the language, whose nodes, edges and settings are those
pub record IsDrawn (text : List ℕ) (head : List WhyLine) (graph : Graph) : Type 0 where
  pub dot : is_dot text ≡ true
  pub nodes : dot_nodes text ≡ drawn_nodes graph.nodes
  pub edges : dot_edges text ≡ map drawn_edge graph.edges
  pub settings : dot_settings text ≡ drawn_settings head graph.nodes

abbrev pub TextIsDrawn : Type 0
TextIsDrawn = (head : List WhyLine) (graph : Graph) → IsDrawn (printed_graph forms.Text head graph) head graph
