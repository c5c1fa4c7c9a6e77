-- What does the number of a node in the graph of a start say? (this project's own)
use Rattle.std.specs.Prelude.{◌≡◌, ℕ, ◌+◌, true, List, Option, Some, Contains}
use Rattle.report_words.specs.declared.words.TryWord.{TryWord}
use Rattle.report_words.specs.declared.words.TryWord.TheVariants as tries
use Rattle.report_words.specs.declared.line.Line.{Line}
use Rattle.start_model.specs.Events.{Event}
use Rattle.start_model.specs.Possible.{Woken}
use Rattle.start_model.specs.Boot.{Choice}
use Rattle.start_model.specs.Quiet as book
use Rattle.why_laws.specs.why_laws.Reports.{last_start_in}
use Rattle.why_laws.specs.why_laws.States.{TriedAt, view_from}
use Rattle.answer_lines.specs.declared.graph_lines.graph.NodeState.{NodeState}
use Rattle.answer_lines.specs.declared.graph_lines.graph.NodeState.TheVariants as states
use Rattle.answer_lines.specs.declared.graph_lines.graph.GraphNode.{GraphNode}
use Rattle.graph_rule.specs.Shown.{is_entry, graph_of}

-- what became of an entry, by how its attempt went
abbrev pub state_after : TryWord → NodeState
state_after tries.Ok = states.Started
state_after tries.Ignored = states.Failed
state_after tries.Logged = states.Failed
state_after tries.FallBack = states.Failed
state_after tries.Stop = states.Failed

-- the node is of an entry, whose first `try` line is that of this place, counted from 0, and says how the node is
pub record IsAttempt (lines : List Line) (node : GraphNode) (k : ℕ) : Type 0 where
  pub entry : is_entry node.kind ≡ true
  pub word : TryWord
  pub tried : TriedAt lines node.name k word
  pub state : node.state ≡ state_after word

-- a node with the number N reports the N-th `try` line of the last start, whether a name is asked for or not
abbrev pub NumberIsAttempt : Type 0
NumberIsAttempt =
    (choice : Option ℕ → Choice) (script : List Event) (placed : Woken) (last : ℕ × List Line)
    → last_start_in (book.quiet_run_of choice script placed).lines ≡ Some last
    → (of : Option (List ℕ)) (node : GraphNode) → Contains (graph_of (view_from choice script placed) of).nodes node
    → (k : ℕ) → node.number ≡ k + 1 → IsAttempt last.1 node k

-- an entry's node that says how an attempt went has a number
abbrev pub AttemptHasNumber : Type 0
AttemptHasNumber =
    (choice : Option ℕ → Choice) (script : List Event) (placed : Woken) (last : ℕ × List Line)
    → last_start_in (book.quiet_run_of choice script placed).lines ≡ Some last
    → (of : Option (List ℕ)) (node : GraphNode) → Contains (graph_of (view_from choice script placed) of).nodes node
    → is_entry node.kind ≡ true → (word : TryWord) → node.state ≡ state_after word → (k : ℕ) × (node.number ≡ k + 1)
