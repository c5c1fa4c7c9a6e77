-- Which edges does a start's graph have, and how often? (this project's own)
use Rattle.std.specs.Prelude.{◌≡◌, ◌⊎◌, ◌↔◌, ℕ, ◌==◌, true, false, not, ◌&&◌, ◌||◌, List, AllPairs, slice_get, Contains, Option, None, Some}
use Rattle.nt_bytes.specs.Folding.{folds_same}
use Rattle.start_model.specs.Entries.{Entry}
use Rattle.wait_cycles.specs.Graph.{HasEdge}
use Rattle.why_needs.specs.declared.why_state.views.ViewedRun.{ViewedRun}
use Rattle.answer_lines.specs.declared.graph_lines.graph.GraphNode.{GraphNode}
use Rattle.answer_lines.specs.declared.graph_lines.graph.GraphEdge.{GraphEdge}
use Rattle.graph_rule.specs.Entries.{entries_in}
use Rattle.graph_rule.specs.Nodes.{entry_node, missing_node}
use Rattle.graph_rule.specs.Rows.{is_untaken, is_asked, whole_of}
use Rattle.graph_rule.specs.Shown.{is_group, graph_of}

-- ---- how often

-- no two edges join the same two nodes
abbrev pub EdgesStandOnce : Type 0
EdgesStandOnce =
    (r : ViewedRun) (of : Option (List ℕ))
    → AllPairs (λ (a b : GraphEdge). (a.from == b.from && a.to == b.to) ≡ false) (graph_of r of).edges

-- ---- from groups

-- the vertex is of an entry that has the group, and the entry is not untaken, or its name is asked for
pub record IsMember (r : ViewedRun) (of : Option (List ℕ)) (group : List ℕ) (v : ℕ) : Type 0 where
  pub entry : Entry
  pub at : slice_get (entries_in r) v ≡ Some entry
  pub own : List ℕ
  pub has : entry.group ≡ Some own
  pub same : folds_same group own ≡ true
  pub drawn : (not (is_untaken (entry_node r entry).state) || is_asked of entry.name) ≡ true

-- edges lead from a group's vertex to those of its members, and nowhere else
abbrev pub GroupsLeadToMembers : Type 0
GroupsLeadToMembers =
    (r : ViewedRun) (of : Option (List ℕ)) (u : ℕ) (node : GraphNode) → slice_get (whole_of r of).nodes u ≡ Some node
    → is_group node.kind ≡ true
    → (v : ℕ) → HasEdge (whole_of r of).rows u v ↔ IsMember r of node.name v

-- ---- nodes of a part

-- with a name, each node that is shown is one of the whole graph of the start, or the name as a missing one
abbrev pub PartIsOfWhole : Type 0
PartIsOfWhole =
    (r : ViewedRun) (name : List ℕ) (node : GraphNode) → Contains (graph_of r (Some name)).nodes node
    → Contains (whole_of r None).nodes node ⊎ (node ≡ missing_node name)
