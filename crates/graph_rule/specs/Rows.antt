-- Which edges has the graph of a start, shown or not? (this project's own)
--
-- Its vertices are the entries, then the missing names, then the groups, numbered from 0.
use Rattle.std.specs.Prelude.{ℕ, ◌+◌, Bool, true, false, not, ◌||◌, List, [], ◌++◌, map, filter, length, slice_get, Option, if◌then◌else◌}
use Rattle.std.specs.Option.{is_some, option_map, option_map_or, option_and_then, option_or, option_to_list}
use Rattle.std.specs.List.{filter_map, flat_map, list_any, range_with_len}
use Rattle.nt_bytes.specs.Folding.{folds_same}
use Rattle.nt_names.specs.name_places.Places.{places_named}
use Rattle.start_model.specs.Entries.{Entry}
use Rattle.start_model.specs.Order.{first_names}
use Rattle.why_needs.specs.declared.why_state.views.ViewedRun.{ViewedRun}
use Rattle.why_needs.specs.why_state.Views.{names_of}
use Rattle.why_needs.specs.why_state.States.{place_in}
use Rattle.answer_lines.specs.declared.graph_lines.graph.NodeState.{NodeState}
use Rattle.answer_lines.specs.declared.graph_lines.graph.NodeState.TheVariants as nodes
use Rattle.answer_lines.specs.declared.graph_lines.graph.GraphNode.{GraphNode}
use Rattle.graph_rule.specs.declared.parts.GroupEntries.{GroupEntries}
use Rattle.graph_rule.specs.declared.parts.GraphParts.{GraphParts}
use Rattle.graph_rule.specs.declared.whole.WholeGraph.{WholeGraph}
use Rattle.graph_rule.specs.Entries.{entries_in}
use Rattle.graph_rule.specs.Nodes.{entry_node, missing_node, group_node}

-- ---- names

-- the names that have no entry among those with these names: the one that is asked for, and then those that entries need
abbrev pub missing_names : List Entry → List (List ℕ) → Option (List ℕ) → List (List ℕ)
missing_names es names of =
    first_names (filter (λ name. not (is_some (place_in names name))) (option_to_list of ++ flat_map (λ (e : Entry). e.services) es))

-- the groups that entries need
abbrev pub group_names : List Entry → List (List ℕ)
group_names es = first_names (flat_map (λ (e : Entry). e.groups) es)

-- the place of an entry that has a group
abbrev pub grouped_at : List Entry → ℕ → Option ℕ
grouped_at es k = option_map (λ (group : List ℕ). k) (option_and_then (λ (e : Entry). e.group) (slice_get es k))

-- the entries that have a group, by their places, and their groups
abbrev pub members_of : List Entry → GroupEntries
members_of es = record {
  at = filter_map (grouped_at es) (range_with_len 0 (length es));
  groups = filter_map (λ (e : Entry). e.group) es;
}

-- the entries of a group
abbrev pub members_in : GroupEntries → List ℕ → List ℕ
members_in m group = filter_map (slice_get m.at) (places_named group m.groups)

-- ---- vertices

-- the parts of a start's graph where these are its entries
abbrev pub parts_by : ViewedRun → Option (List ℕ) → List Entry → GraphParts
parts_by r of es = record {
  nodes = map (entry_node r) es;
  names = names_of es;
  missing = missing_names es (names_of es) of;
  groups = group_names es;
  members = members_of es;
  entries = es;
}

-- the vertex of a name
abbrev pub name_vertex : GraphParts → List ℕ → Option ℕ
name_vertex p name = option_or (place_in p.names name) (option_map (λ k. length p.names + k) (place_in p.missing name))

-- the vertex of a group
abbrev pub group_vertex : GraphParts → List ℕ → Option ℕ
group_vertex p name = option_map (λ k. length p.names + length p.missing + k) (place_in p.groups name)

-- ---- edges

-- an entry leads to each name that it needs, and then to each group
abbrev pub entry_row : GraphParts → Entry → List ℕ
entry_row p e = filter_map (name_vertex p) (first_names e.services) ++ filter_map (group_vertex p) (first_names e.groups)

abbrev pub is_untaken : NodeState → Bool
is_untaken nodes.Started = false
is_untaken nodes.Failed = false
is_untaken nodes.Unmet = false
is_untaken nodes.NotReached = false
is_untaken nodes.Untaken = true
is_untaken nodes.NoEntry = false

-- the name is the one that is asked for
abbrev pub is_asked : Option (List ℕ) → List ℕ → Bool
is_asked of name = option_map_or (λ asked. folds_same asked name) of false

-- an edge leads from its group to the entry at a place
abbrev pub is_drawn : GraphParts → Option (List ℕ) → ℕ → Bool
is_drawn p of k = option_map_or (λ (n : GraphNode). not (is_untaken n.state) || is_asked of n.name) (slice_get p.nodes k) false

-- a group leads to its entries, but for those that are untaken and not asked for
abbrev pub group_row : GraphParts → Option (List ℕ) → List ℕ → List ℕ
group_row p of group = filter (is_drawn p of) (members_in p.members group)

abbrev pub rows_of : GraphParts → Option (List ℕ) → List (List ℕ)
rows_of p of = map (entry_row p) p.entries ++ map (λ name. []) p.missing ++ map (group_row p of) p.groups

-- ---- nodes

abbrev pub is_started : NodeState → Bool
is_started nodes.Started = true
is_started nodes.Failed = false
is_started nodes.Unmet = false
is_started nodes.NotReached = false
is_started nodes.Untaken = false
is_started nodes.NoEntry = false

-- the entry at a place was started
abbrev pub is_started_at : List GraphNode → ℕ → Bool
is_started_at ns k = option_map_or (λ (n : GraphNode). is_started n.state) (slice_get ns k) false

-- a group is started where one of its entries is
abbrev pub group_state : GraphParts → List ℕ → NodeState
group_state p group = if list_any (is_started_at p.nodes) (members_in p.members group) then nodes.Started else nodes.Unmet

abbrev pub nodes_of : GraphParts → List GraphNode
nodes_of p = p.nodes ++ map missing_node p.missing ++ map (λ group. group_node (group_state p group) group) p.groups

-- ---- the whole

-- nodes and edges, and the vertex of the name that is asked for
abbrev pub whole_by : GraphParts → Option (List ℕ) → WholeGraph
whole_by p of = record { nodes = nodes_of p; rows = rows_of p of; start = option_and_then (name_vertex p) of }

unfoldable pub whole_of : ViewedRun → Option (List ℕ) → WholeGraph
whole_of r of = whole_by (parts_by r of (entries_in r)) of
