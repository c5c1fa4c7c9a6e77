-- What do the edges of the graph of a start have to do with needs? (this project's own)
--
-- It is said of all its vertices, before those are chosen and numbered that are shown.
use Rattle.std.specs.Prelude.{◌≡◌, ℕ, Bool, true, false, List, slice_get, Option, Some, Contains}
use Rattle.nt_bytes.specs.Folding.{folds_same}
use Rattle.start_model.specs.Entries.{Entry}
use Rattle.wait_cycles.specs.Graph.{HasEdge}
use Rattle.why_needs.specs.declared.why_state.views.ViewedRun.{ViewedRun}
use Rattle.answer_lines.specs.declared.graph_lines.graph.GraphNode.{GraphNode}
use Rattle.graph_rule.specs.Entries.{entries_in}
use Rattle.graph_rule.specs.Nodes.{entry_node}
use Rattle.graph_rule.specs.Rows.{whole_of}
use Rattle.graph_rule.specs.Shown.{is_group}

-- the vertex stands for this name, as it folds: for the entry of that name or for the missing name, or else for the group
pub record StandsFor (nodes : List GraphNode) (v : ℕ) (of_group : Bool) (name : List ℕ) : Type 0 where
  pub node : GraphNode
  pub at : slice_get nodes v ≡ Some node
  pub kind : is_group node.kind ≡ of_group
  pub same : folds_same name node.name ≡ true

-- edges lead from a vertex to those of its needs of a kind, and to no others of that kind
pub record LeadsToNeeds (nodes : List GraphNode) (rows : List (List ℕ)) (u : ℕ) (of_group : Bool) (needs : List (List ℕ)) : Type 0 where
  pub each : (name : List ℕ) → Contains needs name → (v : ℕ) × HasEdge rows u v × StandsFor nodes v of_group name
  pub only : (v : ℕ) (node : GraphNode) → HasEdge rows u v → slice_get nodes v ≡ Some node → is_group node.kind ≡ of_group
      → (name : List ℕ) × Contains needs name × (folds_same name node.name ≡ true)

-- the vertex of an entry: edges lead from it to vertices, which are those of its needs
pub record IsEntryVertex (nodes : List GraphNode) (rows : List (List ℕ)) (u : ℕ) (r : ViewedRun) (e : Entry) : Type 0 where
  pub node : slice_get nodes u ≡ Some (entry_node r e)
  pub ends : (v : ℕ) → HasEdge rows u v → (node : GraphNode) × (slice_get nodes v ≡ Some node)
  pub services : LeadsToNeeds nodes rows u false e.services
  pub groups : LeadsToNeeds nodes rows u true e.groups

abbrev pub NeedsAreEdges : Type 0
NeedsAreEdges =
    (r : ViewedRun) (of : Option (List ℕ)) (u : ℕ) (e : Entry) → slice_get (entries_in r) u ≡ Some e
    → IsEntryVertex (whole_of r of).nodes (whole_of r of).rows u r e
