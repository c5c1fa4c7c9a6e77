-- What has the part of a start's graph that is of a name to do with the whole? (this project's own)
--
-- The vertices and edges of both are compared before those are chosen and numbered that are shown, and then the edges that are shown.
use Rattle.std.specs.Prelude.{◌≡◌, ◌⊎◌, ◌↔◌, ◌<◌, ℕ, ◌+◌, Bool, true, false, ◌&&◌, List, length, slice_get, Contains, None, Some, if◌then◌else◌}
use Rattle.nt_bytes.specs.Folding.{folds_same}
use Rattle.wait_cycles.specs.Graph.{HasEdge}
use Rattle.why_needs.specs.declared.why_state.views.ViewedRun.{ViewedRun}
use Rattle.answer_lines.specs.declared.graph_lines.graph.NodeKind.{NodeKind}
use Rattle.answer_lines.specs.declared.graph_lines.graph.NodeKind.TheVariants as kinds
use Rattle.answer_lines.specs.declared.graph_lines.graph.GraphNode.{GraphNode}
use Rattle.answer_lines.specs.declared.graph_lines.graph.GraphEdge.{GraphEdge}
use Rattle.graph_rule.specs.Nodes.{entry_node, missing_node}
use Rattle.graph_rule.specs.Rows.{is_untaken, whole_of}
use Rattle.graph_rule.specs.Shown.{is_entry, is_group, is_group_at, graph_of}
use Rattle.graph_laws.specs.graph_laws.Shown.{shown_in}
use Rattle.graph_laws.specs.node_laws.Edges.{IsMember}

-- ---- vertices

abbrev pub is_missing : NodeKind → Bool
is_missing kinds.Entry = false
is_missing kinds.Missing = true
is_missing kinds.Group = false

-- a node where a name is asked for: the same, but that the missing name is spelled as it is asked for
abbrev pub as_asked : List ℕ → GraphNode → GraphNode
as_asked name node = if is_missing node.kind && folds_same name node.name then missing_node name else node

-- a vertex of the whole and one of the part, by the nodes of both, are the same one; an entry has the same place in both
pub record IsSameVertex (whole part : List GraphNode) (name : List ℕ) (u v : ℕ) : Type 0 where
  pub node : GraphNode
  pub in_whole : slice_get whole u ≡ Some node
  pub in_part : slice_get part v ≡ Some (as_asked name node)
  pub place : is_entry node.kind ≡ true → u ≡ v

abbrev pub IsSame : ViewedRun → List ℕ → ℕ → ℕ → Type 0
IsSame r name = IsSameVertex (whole_of r None).nodes (whole_of r (Some name)).nodes name

-- a vertex of the part that the whole has not: the name, as a missing one that no edge leads to or from
pub record IsNew (r : ViewedRun) (name : List ℕ) (v : ℕ) : Type 0 where
  pub node : slice_get (whole_of r (Some name)).nodes v ≡ Some (missing_node name)
  pub new : (u : ℕ) (n : GraphNode) → slice_get (whole_of r None).nodes u ≡ Some n → is_missing n.kind ≡ true
      → folds_same name n.name ≡ false
  pub to : (u : ℕ) → HasEdge (whole_of r (Some name)).rows u v → ⊥
  pub from : (w : ℕ) → HasEdge (whole_of r (Some name)).rows v w → ⊥

-- each vertex of the whole is one of the part, and each of the part is one of the whole, or new
pub record SharesVertices (r : ViewedRun) (name : List ℕ) : Type 0 where
  pub each : (u : ℕ) → u < length (whole_of r None).nodes → (v : ℕ) × IsSame r name u v
  pub only : (v : ℕ) → v < length (whole_of r (Some name)).nodes → ((u : ℕ) × IsSame r name u v) ⊎ IsNew r name v
  pub one_in_part : (u v w : ℕ) → IsSame r name u v → IsSame r name u w → v ≡ w
  pub one_in_whole : (u v w : ℕ) → IsSame r name u w → IsSame r name v w → u ≡ v

abbrev pub VerticesAreShared : Type 0
VerticesAreShared = (r : ViewedRun) (name : List ℕ) → SharesVertices r name

-- ---- edges

-- the one edge that the part has besides: from the group of an entry to this, which is untaken and whose name is asked for
pub record IsToAsked (r : ViewedRun) (name : List ℕ) (u v : ℕ) : Type 0 where
  pub node : GraphNode
  pub at : slice_get (whole_of r None).nodes u ≡ Some node
  pub group : is_group node.kind ≡ true
  pub member : IsMember r (Some name) node.name v
  pub untaken : is_untaken (entry_node r member.entry).state ≡ true
  pub asked : folds_same name member.entry.name ≡ true

abbrev pub IsEdge : ViewedRun → List ℕ → ℕ → ℕ → Type 0
IsEdge r name u v = HasEdge (whole_of r None).rows u v ⊎ IsToAsked r name u v

-- between vertices that both have, the part has the edges of the whole, and the one besides
abbrev pub EdgesAreShared : Type 0
EdgesAreShared =
    (r : ViewedRun) (name : List ℕ) (u v s t : ℕ) → IsSame r name u s → IsSame r name v t
    → HasEdge (whole_of r (Some name)).rows s t ↔ IsEdge r name u v

-- ---- what is shown

-- the vertex of the whole is shown with the name, as the node with this number
pub record IsShownAs (r : ViewedRun) (name : List ℕ) (u number : ℕ) : Type 0 where
  pub k : ℕ
  pub is : number ≡ k + 1
  pub v : ℕ
  pub shown : slice_get (shown_in r (Some name)) k ≡ Some v
  pub same : IsSame r name u v
  pub told : slice_get (graph_of r (Some name)).nodes k ≡ Some (as_asked name same.node)

-- an edge of the whole, or the one besides, by the numbers of its ends
pub record IsEdgeOfWhole (r : ViewedRun) (name : List ℕ) (e : GraphEdge) : Type 0 where
  pub u : ℕ
  pub v : ℕ
  pub first : IsShownAs r name u e.from
  pub second : IsShownAs r name v e.to
  pub edge : IsEdge r name u v
  pub of_group : e.of_group ≡ is_group_at (whole_of r None).nodes u

-- with a name those edges of the whole are shown, and the one besides, of which both ends are
abbrev pub ShownEdgesAreOfWhole : Type 0
ShownEdgesAreOfWhole =
    (r : ViewedRun) (name : List ℕ) (e : GraphEdge) → Contains (graph_of r (Some name)).edges e ↔ IsEdgeOfWhole r name e
