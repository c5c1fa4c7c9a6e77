-- What does the graph of a start say of an entry? (this project's own)
use Rattle.std.specs.Prelude.{ℕ, List, slice_get, Option, None, Some}
use Rattle.std.specs.Option.{option_map, option_map_or}
use Rattle.start_model.specs.Entries.{Entry}
use Rattle.boot_phases.specs.declared.boot_phases.phase.Phase.{Phase}
use Rattle.answer_lines.specs.declared.why_lines.lines.NameState.{NameState}
use Rattle.answer_lines.specs.declared.why_lines.lines.NameState.TheVariants as states
use Rattle.why_needs.specs.declared.why_state.views.PhaseView.{PhaseView}
use Rattle.why_needs.specs.declared.why_state.views.ViewedRun.{ViewedRun}
use Rattle.why_needs.specs.why_state.States.{placed_of, state_of}
use Rattle.answer_lines.specs.declared.graph_lines.graph.NodeKind.TheVariants as kinds
use Rattle.answer_lines.specs.declared.graph_lines.graph.NodeState.{NodeState}
use Rattle.answer_lines.specs.declared.graph_lines.graph.NodeState.TheVariants as nodes
use Rattle.answer_lines.specs.declared.graph_lines.graph.GraphNode.{GraphNode}

-- an entry that no phase takes is untaken, also where an edit made it so too late
abbrev pub node_state : NameState → NodeState
node_state states.NoPhase = nodes.Untaken
node_state (states.Started number) = nodes.Started
node_state (states.Failed number judgement) = nodes.Failed
node_state states.Unmet = nodes.Unmet
node_state (states.NotReached phase) = nodes.NotReached
node_state states.Late = nodes.Untaken
node_state (states.NotTaken reason) = nodes.Untaken

-- the number of its attempt
abbrev pub node_number : NameState → ℕ
node_number states.NoPhase = 0
node_number (states.Started number) = number
node_number (states.Failed number judgement) = number
node_number states.Unmet = 0
node_number (states.NotReached phase) = 0
node_number states.Late = 0
node_number (states.NotTaken reason) = 0

-- the phase that is to take it
abbrev pub coming_phase : NameState → Option Phase
coming_phase states.NoPhase = None
coming_phase (states.Started number) = None
coming_phase (states.Failed number judgement) = None
coming_phase states.Unmet = None
coming_phase (states.NotReached phase) = Some phase
coming_phase states.Late = None
coming_phase (states.NotTaken reason) = None

-- the phase of the last plan that has the name, else the one that is to take it
abbrev pub node_phase : ViewedRun → List ℕ → NameState → Option Phase
node_phase r name state =
    option_map_or (λ (place : ℕ × ℕ). option_map (λ (v : PhaseView). v.phase) (slice_get r.views place.0)) (placed_of r name) (coming_phase state)

abbrev pub named_node : ViewedRun → List ℕ → NameState → GraphNode
named_node r name state = record {
  kind = kinds.Entry;
  phase = node_phase r name state;
  state = node_state state;
  number = node_number state;
  name = name;
}

abbrev pub entry_node : ViewedRun → Entry → GraphNode
entry_node r e = named_node r e.name (state_of r e.name)

-- a name without an entry
abbrev pub missing_node : List ℕ → GraphNode
missing_node name = record { kind = kinds.Missing; phase = None; state = nodes.NoEntry; number = 0; name = name }

-- a group by its state
abbrev pub group_node : NodeState → List ℕ → GraphNode
group_node state name = record { kind = kinds.Group; phase = None; state = state; number = 0; name = name }
