-- Which vertices of a start's graph are shown, and as which nodes and edges? (this project's own)
use Rattle.std.specs.Prelude.{◌≡◌, ◌⊎◌, ◌↔◌, ℕ, zero, suc, ◌+◌, true, false, List, map, filter, length, slice_get, Option, None, Some, Contains}
use Rattle.std.specs.List.{range_with_len}
use Rattle.start_model.specs.Demand.{member}
use Rattle.wait_cycles.specs.Graph.{HasEdge}
use Rattle.why_needs.specs.declared.why_state.views.ViewedRun.{ViewedRun}
use Rattle.answer_lines.specs.declared.graph_lines.graph.GraphNode.{GraphNode}
use Rattle.answer_lines.specs.declared.graph_lines.graph.GraphEdge.{GraphEdge}
use Rattle.graph_rule.specs.Rows.{whole_of}
use Rattle.graph_rule.specs.Shown.{is_taken, is_group_at, marks_of, drawn}
use Rattle.graph_laws.specs.graph_laws.Needs.{StandsFor}

-- ---- which are shown

-- the vertex is shown of a start, or of a name in it
abbrev pub IsShown : ViewedRun → Option (List ℕ) → ℕ → Type 0
IsShown r of v = member (marks_of (whole_of r of) (whole_of r of).start) v ≡ true

-- that many edges lead from u to v, each from where the one before it leads
abbrev pub AreLed : List (List ℕ) → ℕ → ℕ → ℕ → Type 0
AreLed rows zero u v = u ≡ v
AreLed rows (suc n) u v = (w : ℕ) × AreLed rows n u w × HasEdge rows w v

-- v is u, or edges lead from u to v, over any vertices
abbrev pub Reaches : List (List ℕ) → ℕ → ℕ → Type 0
Reaches rows u v = (n : ℕ) × AreLed rows n u v

-- a name that is asked for has a vertex, as an entry or as a missing name
abbrev pub NameHasVertex : Type 0
NameHasVertex =
    (r : ViewedRun) (name : List ℕ)
    → (s : ℕ) × ((whole_of r (Some name)).start ≡ Some s) × StandsFor (whole_of r (Some name)).nodes s false name

-- with a name all those are shown that its vertex reaches, and all that reach it
abbrev pub NameShowsReach : Type 0
NameShowsReach =
    (r : ViewedRun) (name : List ℕ) (s : ℕ) → (whole_of r (Some name)).start ≡ Some s → (v : ℕ)
    → IsShown r (Some name) v ↔ (Reaches (whole_of r (Some name)).rows s v ⊎ Reaches (whole_of r (Some name)).rows v s)

-- the vertex is an entry that is not untaken
abbrev pub IsTaken : ViewedRun → ℕ → Type 0
IsTaken r v = is_taken (whole_of r None).nodes v ≡ true

-- without a name those entries are shown, and all to which an edge leads from one of them
abbrev pub AllShowsTaken : Type 0
AllShowsTaken =
    (r : ViewedRun) (v : ℕ) → IsShown r None v ↔ (IsTaken r v ⊎ ((u : ℕ) × IsTaken r u × HasEdge (whole_of r None).rows u v))

-- ---- as what

-- the vertices that are shown, in their order
abbrev pub shown_in : ViewedRun → Option (List ℕ) → List ℕ
shown_in r of = filter (member (marks_of (whole_of r of) (whole_of r of).start)) (range_with_len 0 (length (whole_of r of).rows))

-- the nodes are those of the vertices that are shown: the node with the number k + 1 is that of the vertex at place k
abbrev pub NodesAreShown : Type 0
NodesAreShown =
    (r : ViewedRun) (of : Option (List ℕ))
    → map (λ (node : GraphNode). Some node) (drawn (whole_of r of)).nodes ≡ map (slice_get (whole_of r of).nodes) (shown_in r of)

-- an edge between two vertices that are shown, by their numbers
pub record IsShownEdge (r : ViewedRun) (of : Option (List ℕ)) (e : GraphEdge) : Type 0 where
  pub i : ℕ
  pub j : ℕ
  pub u : ℕ
  pub v : ℕ
  pub first : slice_get (shown_in r of) i ≡ Some u
  pub second : slice_get (shown_in r of) j ≡ Some v
  pub edge : HasEdge (whole_of r of).rows u v
  pub is : e ≡ record { from = i + 1; to = j + 1; of_group = is_group_at (whole_of r of).nodes u }

-- the edges are those between vertices that are shown
abbrev pub EdgesAreShown : Type 0
EdgesAreShown =
    (r : ViewedRun) (of : Option (List ℕ)) (e : GraphEdge) → Contains (drawn (whole_of r of)).edges e ↔ IsShownEdge r of e
