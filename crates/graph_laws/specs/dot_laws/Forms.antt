-- Do the text and the objects of a graph say the same? (this project's own)
use Rattle.std.specs.Prelude.{◌≡◌, ℕ, zero, suc, ◌==◌, Bool, true, false, not, List, length, map, slice_get, Option, Some}
use Rattle.std.specs.Option.{option_map_or}
use Rattle.std.specs.List.{AllByRecursion}
use Rattle.start_model.specs.Lines.{name_text}
use Rattle.boot_phases.specs.declared.boot_phases.phase.Phase.{Phase}
use Rattle.boot_phases.specs.declared.boot_phases.phase.Phase.TheVariants as phases
use Rattle.report_text.specs.declared.line_text.form.ReportForm.TheVariants as forms
use Rattle.json_laws.specs.Objects.{AreUnits, IsNumber}
use Rattle.answer_lines.specs.declared.why_lines.lines.WhyLine.{WhyLine}
use Rattle.answer_lines.specs.declared.why_lines.lines.WhyLine.TheVariants as lines
use Rattle.answer_lines.specs.declared.graph_lines.graph.NodeKind.{NodeKind}
use Rattle.answer_lines.specs.declared.graph_lines.graph.NodeKind.TheVariants as kinds
use Rattle.answer_lines.specs.declared.graph_lines.graph.NodeState.{NodeState}
use Rattle.answer_lines.specs.declared.graph_lines.graph.NodeState.TheVariants as states
use Rattle.answer_lines.specs.declared.graph_lines.graph.GraphNode.{GraphNode}
use Rattle.answer_lines.specs.declared.graph_lines.graph.GraphEdge.{GraphEdge}
use Rattle.answer_lines.specs.declared.graph_lines.graph.Graph.{Graph}
use Rattle.why_text.specs.graph_text.Dot.{head_text}
use Rattle.why_text.specs.graph_text.Objects.{printed_graph}

-- ---- what is so of each graph of a start

-- the states of a kind
abbrev pub suits : NodeKind → NodeState → Bool
suits kinds.Entry states.NoEntry = false
suits kinds.Entry state = true
suits kinds.Missing states.NoEntry = true
suits kinds.Missing state = false
suits kinds.Group states.Started = true
suits kinds.Group states.Unmet = true
suits kinds.Group state = false

-- an entry that was attempted has the number of that attempt, and no other node has one
abbrev pub has_number : NodeKind → NodeState → Bool
has_number kinds.Entry states.Started = true
has_number kinds.Entry states.Failed = true
has_number kind state = false

-- one of the three phases, or none
abbrev pub is_drawn_in : Option Phase → Bool
is_drawn_in (Some phases.Done) = false
is_drawn_in place = true

pub record IsStartNode (node : GraphNode) : Type 0 where
  pub suits : suits node.kind node.state ≡ true
  pub phase : is_drawn_in node.phase ≡ true
  pub number : (node.number == 0) ≡ not (has_number node.kind node.state)

abbrev pub is_group : NodeKind → Bool
is_group kinds.Entry = false
is_group kinds.Missing = false
is_group kinds.Group = true

-- the node with a number is a group
abbrev pub is_group_numbered : List GraphNode → ℕ → Bool
is_group_numbered nodes zero = false
is_group_numbered nodes (suc k) = option_map_or (λ (node : GraphNode). is_group node.kind) (slice_get nodes k) false

-- an edge is of a group where it leads from one
abbrev pub IsStartEdge : List GraphNode → GraphEdge → Type 0
IsStartEdge nodes edge = edge.of_group ≡ is_group_numbered nodes edge.from

pub record IsStartGraph (graph : Graph) : Type 0 where
  pub nodes : AllByRecursion IsStartNode graph.nodes
  pub edges : AllByRecursion (IsStartEdge graph.nodes) graph.edges

-- ---- numbers and names

abbrev pub IsInRange : GraphNode → Type 0
IsInRange node = IsNumber node.number × AreUnits node.name

-- numbers are of 64 bits, and names of units, as the types of the code have them
pub record FitsTypes (graph : Graph) : Type 0 where
  pub nodes : AllByRecursion IsInRange graph.nodes
  pub count : IsNumber (length graph.nodes)
  pub from : AllByRecursion (λ (edge : GraphEdge). IsNumber edge.from) graph.edges
  pub to : AllByRecursion (λ (edge : GraphEdge). IsNumber edge.to) graph.edges

-- a line about the start
abbrev pub IsStartLine : WhyLine → Type 0
IsStartLine lines.NoBoot = Unit {0}
IsStartLine (lines.Start number) = IsNumber number
IsStartLine (lines.Set number on_good) = IsNumber number
IsStartLine (lines.Verdict verdict) = Unit {0}
IsStartLine (lines.EndedBy name) = AreUnits name
IsStartLine (lines.Vital name) = AreUnits name
IsStartLine line = ⊥

-- ---- what each form reports

-- the objects tell the lines about the start, and the graph
abbrev pub ObjectsTellGraph : Type 0
ObjectsTellGraph =
    (heads more : List WhyLine) (g f : Graph) → AllByRecursion IsStartLine heads → AllByRecursion IsStartLine more
    → IsStartGraph g → IsStartGraph f → FitsTypes g → FitsTypes f
    → printed_graph forms.Json heads g ≡ printed_graph forms.Json more f → (heads ≡ more) × (g ≡ f)

-- a node with its name as it is printed
abbrev pub as_printed : GraphNode → GraphNode
as_printed node = record node { name = name_text node.name }

-- the text reports the lines about the start as one text, the nodes but for names that are printed alike, and the edges
pub record SameDrawing (heads more : List WhyLine) (g f : Graph) : Type 0 where
  pub head : head_text heads ≡ head_text more
  pub nodes : map as_printed g.nodes ≡ map as_printed f.nodes
  pub edges : g.edges ≡ f.edges

abbrev pub TextTellsGraph : Type 0
TextTellsGraph =
    (heads more : List WhyLine) (g f : Graph) → IsStartGraph g → IsStartGraph f → FitsTypes g → FitsTypes f
    → printed_graph forms.Text heads g ≡ printed_graph forms.Text more f → SameDrawing heads more g f

-- so graphs with the same objects have the same text
abbrev pub ObjectsTellText : Type 0
ObjectsTellText =
    (heads more : List WhyLine) (g f : Graph) → AllByRecursion IsStartLine heads → AllByRecursion IsStartLine more
    → IsStartGraph g → IsStartGraph f → FitsTypes g → FitsTypes f
    → printed_graph forms.Json heads g ≡ printed_graph forms.Json more f → printed_graph forms.Text heads g ≡ printed_graph forms.Text more f
