-- Which node has the attempt of a `try` line? (this project's own)
use Rattle.std.specs.Prelude.{◌≡◌, ℕ, ◌+◌, true, List, slice_get, Option, None, Some}
use Rattle.nt_bytes.specs.Folding.{folds_same}
use Rattle.start_model.specs.Boot.{Choice}
use Rattle.start_model.specs.Events.{Event}
use Rattle.report_words.specs.declared.line.Line.{Line}
use Rattle.start_model.specs.Possible.{Woken}
use Rattle.start_model.specs.Quiet as book
use Rattle.quiet_run.specs.declared.last.Attempt.{Attempt}
use Rattle.why_laws.specs.why_laws.Reports.{last_start_in}
use Rattle.why_laws.specs.why_laws.States.{tries_in, view_from}
use Rattle.answer_lines.specs.declared.graph_lines.graph.GraphNode.{GraphNode}
use Rattle.graph_rule.specs.Shown.{is_entry, graph_of}
use Rattle.graph_laws.specs.graph_laws.Attempts.{state_after}
use Rattle.state_laws.specs.state_laws.Tries.{SetsAreHeld}

-- one of the nodes is of the attempt at this place, counted from 0, and no other node has its number
pub record HasOneNode (nodes : List GraphNode) (k : ℕ) (a : Attempt) : Type 0 where
  pub place : ℕ
  pub node : GraphNode
  pub here : slice_get nodes place ≡ Some node
  pub entry : is_entry node.kind ≡ true
  pub named : folds_same a.name node.name ≡ true
  pub number : node.number ≡ k + 1
  pub state : node.state ≡ state_after a.outcome
  pub one : (other : ℕ) (n : GraphNode) → slice_get nodes other ≡ Some n → n.number ≡ k + 1 → other ≡ place

-- without a name, each `try` line of the last start has one node
abbrev pub EachTryHasOneNode : Type 0
EachTryHasOneNode =
    (choice : Option ℕ → Choice) (script : List Event) (placed : Woken) (last : ℕ × List Line)
    → last_start_in (book.quiet_run_of choice script placed).lines ≡ Some last → SetsAreHeld choice script placed
    → (k : ℕ) (a : Attempt) → slice_get (tries_in last.1) k ≡ Some a
    → HasOneNode (graph_of (view_from choice script placed) None).nodes k a
