-- The nodes of a part of the graph are those of the whole.
use Rattle.std.proofs.Common.{◌≡◌, ◌⊎◌, ℕ, Bool, true, false, ◌&&◌, cond, List, slice_get, Some, None, refl, sym, ap, subst, ◌∙◌, inl, inr}
use Rattle.std.specs.Prelude.{Contains}
use Rattle.std.proofs.lemmas.Option.{same_Some, slice_get_within}
use Rattle.nt_bytes.specs.Folding.{folds_same}
use Rattle.wait_cycles.proofs.InverseLemmas.{none_in}
use Rattle.check_laws.proofs.TakenLemmas.{item_here, item_place}
use Rattle.why_needs.specs.declared.why_state.views.ViewedRun.{ViewedRun}
use Rattle.answer_lines.specs.declared.graph_lines.graph.GraphNode.{GraphNode}
use Rattle.answer_lines.specs.declared.graph_lines.graph.Graph.{Graph}
use Rattle.graph_rule.specs.Nodes.{missing_node}
use Rattle.graph_rule.specs.Rows.{whole_of}
use Rattle.graph_rule.specs.Shown.{drawn}
use Rattle.graph_laws.specs.node_laws.Edges.{PartIsOfWhole}
use Rattle.graph_laws.specs.node_laws.Parts.{is_missing, as_asked, IsSame, IsNew}
use Rattle.graph_laws.proofs.NodeLemmas.{node_vertex}
use Rattle.graph_laws.proofs.SharedLemmas.{shares_vertices, graph_cases}

asked_cases : (name : List ℕ) (n : GraphNode) → (as_asked name n ≡ n) ⊎ (as_asked name n ≡ missing_node name)
asked_cases name n = by (is_missing n.kind && folds_same name n.name)
  where
    by : (b : Bool) → (cond b (missing_node name) n ≡ n) ⊎ (cond b (missing_node name) n ≡ missing_node name)
    by true = inr refl
    by false = inl refl

module _ (r : ViewedRun) (name : List ℕ) (node : GraphNode) where
  abbrev Told : Type 0
  Told = Contains (whole_of r None).nodes node ⊎ (node ≡ missing_node name)

  -- a node of any vertex
  told : (v : ℕ) → slice_get (whole_of r (Some name)).nodes v ≡ Some node → ((u : ℕ) × IsSame r name u v) ⊎ IsNew r name v → Told
  told v at (inl u) =
      let one : as_asked name u.1.node ≡ node = same_Some (as_asked name u.1.node) node (sym u.1.in_part ∙ at) in
      elim (asked_cases name u.1.node) [
        | inl same ↦ inl (item_here (whole_of r None).nodes u.0 node
            (u.1.in_whole ∙ ap (λ (n : GraphNode). Some n) (sym same ∙ one)))
        | inr asked ↦ inr (sym one ∙ asked)
      ]
  told v at (inr new) = inr (same_Some node (missing_node name) (sym at ∙ new.node))

  drawn_told : Contains (drawn (whole_of r (Some name))).nodes node → Told
  drawn_told c =
      let i = item_place (drawn (whole_of r (Some name))).nodes node c in
      let v = node_vertex r (Some name) i.0 node i.1 in
      told v.0 v.2 ((shares_vertices r name).only v.0 (slice_get_within (whole_of r (Some name)).nodes v.0 node v.2))

pub part_is_of_whole : PartIsOfWhole
part_is_of_whole r name node c = elim (graph_cases r name) [
  | inl none ↦ absurd (none_in node (subst (λ (g : Graph). Contains g.nodes node) none c))
  | inr is ↦ drawn_told r name node (subst (λ (g : Graph). Contains g.nodes node) is c)
]
