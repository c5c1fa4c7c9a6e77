-- How is the graph of a start printed as objects of JSON, and in either form? (this project's own; JSON is RFC 8259)
use Rattle.std.specs.Prelude.{ℕ, ◌+◌, List, [], ◌∷◌, ◌++◌, codes, Option, None, Some}
use Rattle.std.specs.List.{flat_map}
use Rattle.boot_phases.specs.declared.boot_phases.phase.Phase.{Phase}
use Rattle.report_text.specs.declared.line_text.form.ReportForm.{ReportForm}
use Rattle.report_text.specs.declared.line_text.form.ReportForm.TheVariants as forms
use Rattle.report_text.specs.line_text.Objects.{Value, Number, Text, object_text}
use Rattle.answer_lines.specs.declared.why_lines.lines.WhyLine.{WhyLine}
use Rattle.why_text.specs.why_text.Lines.{phase_word, printed_lines}
use Rattle.answer_lines.specs.declared.graph_lines.graph.NodeKind.{NodeKind}
use Rattle.answer_lines.specs.declared.graph_lines.graph.NodeKind.TheVariants as kinds
use Rattle.answer_lines.specs.declared.graph_lines.graph.NodeState.{NodeState}
use Rattle.answer_lines.specs.declared.graph_lines.graph.NodeState.TheVariants as states
use Rattle.answer_lines.specs.declared.graph_lines.graph.GraphNode.{GraphNode}
use Rattle.answer_lines.specs.declared.graph_lines.graph.GraphEdge.{GraphEdge}
use Rattle.answer_lines.specs.declared.graph_lines.graph.Graph.{Graph}
use Rattle.why_text.specs.graph_text.Dot.{dot_text}

-- ---- words

abbrev pub kind_word : NodeKind → List ℕ
kind_word kinds.Entry = codes "entry"
kind_word kinds.Missing = codes "missing"
kind_word kinds.Group = codes "group"

abbrev pub state_word : NodeState → List ℕ
state_word states.Started = codes "started"
state_word states.Failed = codes "failed"
state_word states.Unmet = codes "unmet"
state_word states.NotReached = codes "not-reached"
state_word states.Untaken = codes "untaken"
state_word states.NoEntry = codes "no-entry"

abbrev pub place_word : Option Phase → List ℕ
place_word None = codes "none"
place_word (Some phase) = phase_word phase

-- ---- objects

abbrev pub Fields : Type 0
Fields = List (List ℕ × Value)

abbrev pub node_fields : ℕ → GraphNode → Fields
node_fields n node =
    (codes "node", Number n)
    ∷ (codes "kind", Text (kind_word node.kind))
    ∷ (codes "phase", Text (place_word node.phase))
    ∷ (codes "state", Text (state_word node.state))
    ∷ (codes "number", Number node.number)
    ∷ (codes "name", Text node.name)
    ∷ []

abbrev pub edge_fields : GraphEdge → Fields
edge_fields edge = (codes "from", Number edge.from) ∷ (codes "to", Number edge.to) ∷ []

unfoldable pub node_json : ℕ → GraphNode → List ℕ
node_json n node = object_text (codes "node") (node_fields n node)

-- nodes, of which the first has this number
abbrev pub nodes_json : ℕ → List GraphNode → List ℕ
nodes_json n [] = []
nodes_json n (node ∷ nodes) = node_json n node ++ nodes_json (n + 1) nodes

unfoldable pub edge_json : GraphEdge → List ℕ
edge_json edge = object_text (codes "edge") (edge_fields edge)

-- the first lines about the start, and then the graph
unfoldable pub json_text : List WhyLine → Graph → List ℕ
json_text head graph =
    printed_lines forms.Json head ++ nodes_json 1 graph.nodes ++ flat_map edge_json graph.edges ++ object_text (codes "end") []

-- in a form
abbrev pub printed_graph : ReportForm → List WhyLine → Graph → List ℕ
printed_graph forms.Text head graph = dot_text head graph
printed_graph forms.Json head graph = json_text head graph
