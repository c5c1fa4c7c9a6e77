-- How is the graph of a start printed in the DOT language? (this project's own; DOT is the language of Graphviz)
use Rattle.std.specs.Prelude.{ℕ, ◌+◌, ◌==◌, Bool, true, false, List, [], ◌∷◌, ◌++◌, codes, Option, None, Some, if◌then◌else◌}
use Rattle.std.specs.List.{flat_map, join_by, list_any}
use Rattle.std.specs.Fmt.{decimal}
use Rattle.start_model.specs.Lines.{name_text}
use Rattle.boot_phases.specs.declared.boot_phases.phase.Phase.{Phase}
use Rattle.boot_phases.specs.declared.boot_phases.phase.Phase.TheVariants as phases
use Rattle.answer_lines.specs.declared.why_lines.lines.WhyLine.{WhyLine}
use Rattle.why_text.specs.why_text.Lines.{phase_word, line_word, line_parts}
use Rattle.answer_lines.specs.declared.graph_lines.graph.NodeKind.{NodeKind}
use Rattle.answer_lines.specs.declared.graph_lines.graph.NodeKind.TheVariants as kinds
use Rattle.answer_lines.specs.declared.graph_lines.graph.NodeState.{NodeState}
use Rattle.answer_lines.specs.declared.graph_lines.graph.NodeState.TheVariants as states
use Rattle.answer_lines.specs.declared.graph_lines.graph.GraphNode.{GraphNode}
use Rattle.answer_lines.specs.declared.graph_lines.graph.GraphEdge.{GraphEdge}
use Rattle.answer_lines.specs.declared.graph_lines.graph.Graph.{Graph}

-- ---- text in quotes

-- a byte, or what stands for it
abbrev pub stand_in : ℕ → List ℕ → ℕ → List ℕ
stand_in byte other c = if c == byte then other else c ∷ []

-- the text with another one for each such byte
abbrev pub replaced : ℕ → List ℕ → List ℕ → List ℕ
replaced byte other text = flat_map (stand_in byte other) text

-- first `&`, then `\`, then `"`, each over the whole text
abbrev pub in_quotes : List ℕ → List ℕ
in_quotes text = replaced 34 (codes "\\\"") (replaced 92 (codes "\\\\") (replaced 38 (codes "&amp;") text))

-- ---- the head

-- a line without its end
abbrev pub head_part : WhyLine → List ℕ
head_part line = line_word line ++ line_parts line

abbrev pub head_text : List WhyLine → List ℕ
head_text head = join_by head_part (codes ", ") head

-- ---- nodes

-- the number of an attempt before the name
abbrev pub number_text : ℕ → List ℕ
number_text number = if number == 0 then [] else decimal number ++ codes " "

abbrev pub label_text : GraphNode → List ℕ
label_text node = number_text node.number ++ name_text node.name

abbrev pub shape_text : NodeKind → List ℕ
shape_text kinds.Entry = []
shape_text kinds.Missing = []
shape_text kinds.Group = codes ",shape=box"

abbrev pub style_text : NodeState → List ℕ
style_text states.Started = []
style_text states.Failed = codes ",color=red"
style_text states.Unmet = codes ",style=dashed"
style_text states.NotReached = codes ",style=dotted"
style_text states.Untaken = codes ",color=gray"
style_text states.NoEntry = codes ",color=gray,style=dashed"

-- the beginning of a node, up to its label
abbrev pub node_front : List ℕ → ℕ → List ℕ
node_front before n = before ++ codes "n" ++ decimal n ++ codes " [label=\""

-- a node by its number, with the spaces before it
unfoldable pub node_text : List ℕ → ℕ → GraphNode → List ℕ
node_text before n node =
    node_front before n ++ in_quotes (label_text node) ++ codes "\""
    ++ shape_text node.kind ++ style_text node.state ++ codes "];\n"

abbrev pub is_phase : Phase → Phase → Bool
is_phase phases.Boot phases.Boot = true
is_phase phases.System phases.System = true
is_phase phases.Automatic phases.Automatic = true
is_phase phases.Done phases.Done = true
is_phase p q = false

-- the node is in this phase, or in none
abbrev pub stands_in : Option Phase → Option Phase → Bool
stands_in None None = true
stands_in None (Some q) = false
stands_in (Some p) None = false
stands_in (Some p) (Some q) = is_phase p q

-- the node, where it is in this phase, or in none
abbrev pub node_where : Option Phase → List ℕ → ℕ → GraphNode → List ℕ
node_where place before n node = if stands_in place node.phase then node_text before n node else []

-- the nodes that are in this phase, or in none, where the first of these has that number
abbrev pub nodes_text : Option Phase → List ℕ → ℕ → List GraphNode → List ℕ
nodes_text place before n [] = []
nodes_text place before n (node ∷ nodes) = node_where place before n node ++ nodes_text place before (n + 1) nodes

-- ---- phases

unfoldable pub cluster_front : Phase → List ℕ
cluster_front phase =
    codes "  subgraph cluster_" ++ phase_word phase ++ codes " {\n    label=\"" ++ phase_word phase ++ codes "\";\n"

unfoldable pub cluster_text : Phase → List GraphNode → List ℕ
cluster_text phase nodes = cluster_front phase ++ nodes_text (Some phase) (codes "    ") 1 nodes ++ codes "  }\n"

-- a phase, where a node is in it
unfoldable pub phase_text : Phase → List GraphNode → List ℕ
phase_text phase nodes =
    if list_any (λ (node : GraphNode). stands_in (Some phase) node.phase) nodes then cluster_text phase nodes else []

-- ---- edges

abbrev pub dotted_text : Bool → List ℕ
dotted_text of_group = if of_group then codes " [style=dotted]" else []

unfoldable pub edge_text : GraphEdge → List ℕ
edge_text edge = codes "  n" ++ decimal edge.from ++ codes " -> n" ++ decimal edge.to ++ dotted_text edge.of_group ++ codes ";\n"

-- ---- the whole

unfoldable pub opening_text : List WhyLine → List ℕ
opening_text head = codes "digraph ntboot {\n  label=\"" ++ in_quotes (head_text head) ++ codes "\";\n"

unfoldable pub all_nodes_text : List GraphNode → List ℕ
all_nodes_text nodes =
    phase_text phases.Boot nodes ++ phase_text phases.System nodes ++ phase_text phases.Automatic nodes ++ nodes_text None (codes "  ") 1 nodes

-- the graph with these first lines about the start
unfoldable pub dot_text : List WhyLine → Graph → List ℕ
dot_text head graph = opening_text head ++ all_nodes_text graph.nodes ++ flat_map edge_text graph.edges ++ codes "}\n"
