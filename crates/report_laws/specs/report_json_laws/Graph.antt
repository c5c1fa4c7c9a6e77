-- What do the objects of a graph tell? (this project's own)
use Rattle.std.specs.Prelude.{◌≡◌, ℕ, ◌+◌, List, [], ◌∷◌, ◌++◌, map, codes}
use Rattle.report_text.specs.declared.line_text.form.ReportForm.TheVariants as forms
use Rattle.json_laws.specs.Objects.{Object}
use Rattle.answer_lines.specs.declared.why_lines.lines.WhyLine.{WhyLine}
use Rattle.why_text.specs.why_text.Lines.{line_word, line_fields, printed_lines}
use Rattle.answer_lines.specs.declared.graph_lines.graph.GraphNode.{GraphNode}
use Rattle.answer_lines.specs.declared.graph_lines.graph.GraphEdge.{GraphEdge}
use Rattle.answer_lines.specs.declared.graph_lines.graph.Graph.{Graph}
use Rattle.why_text.specs.graph_text.Objects.{node_fields, edge_fields}

-- ---- the objects

abbrev pub head_object : WhyLine → Object
head_object line = record { word = line_word line; fields = line_fields line }

abbrev pub node_object : ℕ → GraphNode → Object
node_object n node = record { word = codes "node"; fields = node_fields n node }

-- nodes, of which the first has this number
abbrev pub nodes_objects : ℕ → List GraphNode → List Object
nodes_objects n [] = []
nodes_objects n (node ∷ more) = node_object n node ∷ nodes_objects (n + 1) more

abbrev pub edge_object : GraphEdge → Object
edge_object edge = record { word = codes "edge"; fields = edge_fields edge }

abbrev pub end_object : Object
end_object = record { word = codes "end"; fields = [] }

-- the first lines about the start, the nodes, the edges, and the end
abbrev pub graph_objects : List WhyLine → Graph → List Object
graph_objects head graph =
    map head_object head ++ (nodes_objects 1 graph.nodes ++ (map edge_object graph.edges ++ end_object ∷ []))

-- ---- what they tell

-- the nodes that an edge joins
abbrev pub joined : GraphEdge → ℕ × ℕ
joined edge = (edge.from, edge.to)

-- the first lines have one text, and the nodes are the same, and what the edges join
pub record AreOneGraph (head top : List WhyLine) (graph other : Graph) : Type 0 where
  pub first : printed_lines forms.Text head ≡ printed_lines forms.Text top
  pub nodes : graph.nodes ≡ other.nodes
  pub edges : map joined graph.edges ≡ map joined other.edges
