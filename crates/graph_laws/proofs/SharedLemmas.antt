-- The vertices and the edges of a part of the graph are those of the whole.
use Rattle.std.proofs.Common.{◌≡◌, ◌⊎◌, ◌<◌, ℕ, ◌+◌, ◌==◌, Bool, true, false, not, ◌&&◌, ◌||◌, cond, List, [], length, get_or, slice_get, Option, Some, None, refl, sym, ap, subst, ◌∙◌, inl, inr, arith}
use Rattle.std.specs.Prelude.{Contains}
use Rattle.std.specs.Option.{option_map_or}
use Rattle.std.proofs.lemmas.Bool.{false≢true, cases_Bool}
use Rattle.std.proofs.lemmas.Option.{same_Some, slice_get-get_or}
use Rattle.nt_bytes.specs.Folding.{folds_same}
use Rattle.dependencies.proofs.MeetLemmas.{names_flip}
use Rattle.start_model.specs.Entries.{Entry}
use Rattle.wait_cycles.specs.Graph.{HasEdge}
use Rattle.wait_cycles.proofs.InverseLemmas.{none_in, edge_from}
use Rattle.check_laws.proofs.TakenLemmas.{item_here}
use Rattle.why_needs.specs.declared.why_state.views.ViewedRun.{ViewedRun}
use Rattle.answer_lines.specs.declared.graph_lines.graph.NodeKind.{NodeKind}
use Rattle.answer_lines.specs.declared.graph_lines.graph.NodeKind.TheVariants as kinds
use Rattle.answer_lines.specs.declared.graph_lines.graph.GraphNode.{GraphNode}
use Rattle.answer_lines.specs.declared.graph_lines.graph.GraphEdge.{GraphEdge}
use Rattle.answer_lines.specs.declared.graph_lines.graph.Graph.{Graph}
use Rattle.graph_rule.specs.Entries.{entries_in}
use Rattle.graph_rule.specs.Nodes.{entry_node, missing_node}
use Rattle.graph_rule.specs.Rows.{is_untaken, whole_of}
use Rattle.graph_rule.specs.Shown.{is_entry, is_group, is_group_at, no_graph, drawn, graph_of}
use Rattle.graph_laws.specs.graph_laws.Shown.{shown_in, IsShownEdge}
use Rattle.graph_laws.proofs.NumberLemmas.{edges_are_shown}
use Rattle.graph_laws.proofs.ReachLemmas.{same_count}
use Rattle.graph_laws.specs.node_laws.Edges.{IsMember}
use Rattle.graph_laws.specs.node_laws.Parts.{is_missing, as_asked, IsSame, IsNew, SharesVertices, VerticesAreShared, IsEdge, EdgesAreShared, IsShownAs, IsEdgeOfWhole, ShownEdgesAreOfWhole}
use Rattle.graph_laws.proofs.GroupLemmas.{groups_lead}
use Rattle.graph_laws.proofs.NodeLemmas.{vertex_node, entry_vertex}
use Rattle.graph_laws.proofs.SameLemmas as same
use Rattle.graph_laws.proofs.SameLemmas.{asked_like, IsAdded}
use Rattle.graph_laws.proofs.VertexLemmas.{Stands, stands, entry_row_is, missing_row_is}

-- ---- nodes

kind_cases : (k : NodeKind) → (is_entry k ≡ true) ⊎ ((is_missing k ≡ true) ⊎ (is_group k ≡ true))
kind_cases kinds.Entry = inl refl
kind_cases kinds.Missing = inr (inl refl)
kind_cases kinds.Group = inr (inr refl)

group_kind : (k : NodeKind) → is_group k ≡ true → kinds.Group ≡ k
group_kind kinds.Entry is = absurd (false≢true is)
group_kind kinds.Missing is = absurd (false≢true is)
group_kind kinds.Group is = refl

asked_group : (name : List ℕ) (n : GraphNode) → is_group n.kind ≡ true → as_asked name n ≡ n
asked_group name n is =
    ap (λ (k : NodeKind). cond (is_missing k && folds_same name n.name) (missing_node name) n) (sym (group_kind n.kind is))

weaker : (a b : Bool) → (a || false) ≡ true → (a || b) ≡ true
weaker true b is = refl
weaker false b is = absurd (false≢true is)

-- ---- one graph

-- no edge leads from a missing name
missing_leads : (r : ViewedRun) (of : Option (List ℕ)) (u : ℕ) (n : GraphNode) → slice_get (whole_of r of).nodes u ≡ Some n
    → is_missing n.kind ≡ true → (v : ℕ) → HasEdge (whole_of r of).rows u v → ⊥
unfolding whole_of
missing_leads r of u n at missing v edge = by (stands r of (entries_in r) u n at)
  where
    by : Stands r of (entries_in r) u n → ⊥
    by (inl x) = false≢true (ap (λ (z : GraphNode). is_missing z.kind) x.2 ∙ missing)
    by (inr (inl x)) =
        none_in v (subst (λ (vs : List ℕ). Contains vs v) (missing_row_is r of (entries_in r) x.k x.x x.at)
        (subst (λ (z : ℕ). HasEdge (whole_of r of).rows z v) (sym x.place) edge))
    by (inr (inr x)) = false≢true (ap (λ (z : GraphNode). is_missing z.kind) x.is ∙ missing)

module _ (r : ViewedRun) (name : List ℕ) where
  abbrev whole : List (List ℕ)
  whole = (whole_of r None).rows

  abbrev part : List (List ℕ)
  part = (whole_of r (Some name)).rows

  -- ---- the same vertices

  same_entry : (v : ℕ) (e : Entry) → slice_get (entries_in r) v ≡ Some e → IsSame r name v v
  unfolding whole_of
  same_entry v e at = same.same_entry r name (entries_in r) v e at

  each : (u : ℕ) → u < length (whole_of r None).nodes → (v : ℕ) × IsSame r name u v
  unfolding whole_of
  each u lt = same.each r name (entries_in r) u lt

  only : (v : ℕ) → v < length (whole_of r (Some name)).nodes
      → ((u : ℕ) × IsSame r name u v) ⊎ IsAdded r name (entries_in r) v
  unfolding whole_of
  only v lt = same.only r name (entries_in r) v lt

  one_in_part : (u v w : ℕ) → IsSame r name u v → IsSame r name u w → v ≡ w
  unfolding whole_of
  one_in_part u v w a b = same.one_in_part r name (entries_in r) u v w a b

  one_in_whole : (u v w : ℕ) → IsSame r name u w → IsSame r name v w → u ≡ v
  unfolding whole_of
  one_in_whole u v w a b = same.one_in_whole r name (entries_in r) u v w a b

  -- ---- the edges of an entry

  entry_led : (u : ℕ) (e : Entry) → slice_get (entries_in r) u ≡ Some e → (v : ℕ) → HasEdge whole u v
      → (t : ℕ) × HasEdge part u t × IsSame r name v t
  unfolding whole_of
  entry_led u e at v edge =
      let t = same.entry_led r name (entries_in r) e v
      (subst (λ (vs : List ℕ). Contains vs v) (entry_row_is r None (entries_in r) u e at) edge) in
      (t.0, subst (λ (vs : List ℕ). Contains vs t.0) (sym (entry_row_is r (Some name) (entries_in r) u e at)) t.1, t.2)

  entry_back : (u : ℕ) (e : Entry) → slice_get (entries_in r) u ≡ Some e → (t : ℕ) → HasEdge part u t
      → (v : ℕ) × HasEdge whole u v × IsSame r name v t
  unfolding whole_of
  entry_back u e at t edge =
      let v = same.entry_back r name (entries_in r) e (item_here (entries_in r) u e at) t
      (subst (λ (vs : List ℕ). Contains vs t) (entry_row_is r (Some name) (entries_in r) u e at) edge) in
      (v.0, subst (λ (vs : List ℕ). Contains vs v.0) (sym (entry_row_is r None (entries_in r) u e at)) v.1, v.2)

  -- an edge of the part leads to a vertex that the whole has
  led : (s t : ℕ) → HasEdge part s t → (v : ℕ) × IsSame r name v t
  led s t edge = by (kind_cases n.kind)
    where
      n : GraphNode
      n = get_or (whole_of r (Some name)).nodes s (missing_node name)

      at : slice_get (whole_of r (Some name)).nodes s ≡ Some n
      at =
          slice_get-get_or (whole_of r (Some name)).nodes s (missing_node name)
          (omega (arith, edge_from part s t edge, same_count r (Some name)))

      by : (is_entry n.kind ≡ true) ⊎ ((is_missing n.kind ≡ true) ⊎ (is_group n.kind ≡ true)) → (v : ℕ) × IsSame r name v t
      by (inl is) =
          let e = entry_vertex r (Some name) s n at is in let v = entry_back s e.0 e.1 t edge in (v.0, v.2)
      by (inr (inl is)) = absurd (missing_leads r (Some name) s n at is t edge)
      by (inr (inr is)) = let m = (groups_lead r (Some name) s n at is t).0 edge in (t, same_entry t m.entry m.at)

  added_is_new : (v : ℕ) → IsAdded r name (entries_in r) v → IsNew r name v
  unfolding whole_of
  added_is_new v a = record {
    node = a.node;
    new = a.new;
    to = λ s edge.
        let u = led s v edge in
        let like = asked_like name u.1.node in
        let one : as_asked name u.1.node ≡ missing_node name =
        same_Some (as_asked name u.1.node) (missing_node name) (sym u.1.in_part ∙ a.node) in
        let missing : is_missing u.1.node.kind ≡ true =
        ap is_missing (sym like.0) ∙ ap (λ (z : GraphNode). is_missing z.kind) one in
        false≢true (sym (a.new u.0 u.1.node u.1.in_whole missing) ∙ names_flip name u.1.node.name
        ∙ ap (λ (z : GraphNode). folds_same u.1.node.name z.name) (sym one) ∙ like.1);
    from = λ w edge. missing_leads r (Some name) v (missing_node name) a.node refl w edge;
  }

  pub shares_vertices : SharesVertices r name
  shares_vertices = record {
    each = each;
    only = λ v lt. elim (only v lt) [ inl u ↦ inl u | inr a ↦ inr (added_is_new v a) ];
    one_in_part = one_in_part;
    one_in_whole = one_in_whole;
  }

  -- ---- the same edges

  -- an edge that leads from the same group in both
  module _ (u s : ℕ) (n : GraphNode) (at : slice_get (whole_of r None).nodes u ≡ Some n)
      (to : slice_get (whole_of r (Some name)).nodes s ≡ Some n) (is : is_group n.kind ≡ true) where
    group_forth : (v t : ℕ) → IsSame r name v t → HasEdge part s t → IsEdge r name u v
    group_forth v t b edge =
        let first = (groups_lead r (Some name) s n to is t).0 edge in
        let place : t ≡ v = one_in_whole t v t (same_entry t first.entry first.at) b in
        let m = (groups_lead r (Some name) s n to is v).0 (subst (λ (z : ℕ). HasEdge part s z) place edge) in
        elim (cases_Bool (is_untaken (entry_node r m.entry).state)) [
          | inl on ↦ inr (record {
            node = n;
            at = at;
            group = is;
            member = m;
            untaken = on;
            asked = ap (λ (b : Bool). not b || folds_same name m.entry.name) (sym on) ∙ m.drawn;
          })
          | inr off ↦ inl ((groups_lead r None u n at is v).1 (record {
            entry = m.entry;
            at = m.at;
            own = m.own;
            has = m.has;
            same = m.same;
            drawn = ap (λ (b : Bool). not b || false) off;
          }))
        ]

    member_back : (v t : ℕ) → IsSame r name v t → IsMember r (Some name) n.name v → HasEdge part s t
    member_back v t b m =
        subst (λ (z : ℕ). HasEdge part s z) (one_in_part v v t (same_entry v m.entry m.at) b)
        ((groups_lead r (Some name) s n to is v).1 m)

    group_back : (v t : ℕ) → IsSame r name v t → HasEdge whole u v → HasEdge part s t
    group_back v t b edge =
        let m = (groups_lead r None u n at is v).0 edge in
        member_back v t b (record {
          entry = m.entry;
          at = m.at;
          own = m.own;
          has = m.has;
          same = m.same;
          drawn = weaker (not (is_untaken (entry_node r m.entry).state)) (folds_same name m.entry.name) m.drawn;
        })

  module _ (u v s t : ℕ) (a : IsSame r name u s) (b : IsSame r name v t) where
    -- the node of a group
    group_node_at : (n : GraphNode) → slice_get (whole_of r None).nodes u ≡ Some n → is_group n.kind ≡ true
        → slice_get (whole_of r (Some name)).nodes s ≡ Some n
    group_node_at n at is =
        a.in_part ∙ ap (λ (z : GraphNode). Some (as_asked name z)) (same_Some a.node n (sym a.in_whole ∙ at))
        ∙ ap (λ (z : GraphNode). Some z) (asked_group name n is)

    forth : HasEdge part s t → IsEdge r name u v
    forth edge = by (kind_cases a.node.kind)
      where
        by : (is_entry a.node.kind ≡ true) ⊎ ((is_missing a.node.kind ≡ true) ⊎ (is_group a.node.kind ≡ true)) → IsEdge r name u v
        by (inl is) =
            let e = entry_vertex r None u a.node a.in_whole is in
            let o = entry_back u e.0 e.1 t (subst (λ (z : ℕ). HasEdge part z t) (sym (a.place is)) edge) in
            inl (subst (λ (z : ℕ). HasEdge whole u z) (one_in_whole o.0 v t o.2 b) o.1)
        by (inr (inl is)) =
            absurd (missing_leads r (Some name) s (as_asked name a.node) a.in_part (ap is_missing (asked_like name a.node).0 ∙ is) t edge)
        by (inr (inr is)) = group_forth u s a.node a.in_whole (group_node_at a.node a.in_whole is) is v t b edge

    back_old : HasEdge whole u v → HasEdge part s t
    back_old edge = by (kind_cases a.node.kind)
      where
        by : (is_entry a.node.kind ≡ true) ⊎ ((is_missing a.node.kind ≡ true) ⊎ (is_group a.node.kind ≡ true)) → HasEdge part s t
        by (inl is) =
            let e = entry_vertex r None u a.node a.in_whole is in
            let o = entry_led u e.0 e.1 v edge in
            subst (λ (z : ℕ). HasEdge part z t) (a.place is)
            (subst (λ (z : ℕ). HasEdge part u z) (one_in_part v o.0 t o.2 b) o.1)
        by (inr (inl is)) = absurd (missing_leads r None u a.node a.in_whole is v edge)
        by (inr (inr is)) = group_back u s a.node a.in_whole (group_node_at a.node a.in_whole is) is v t b edge

    back : IsEdge r name u v → HasEdge part s t
    back (inl edge) = back_old edge
    back (inr x) = member_back u s x.node x.at (group_node_at x.node x.at x.group) x.group v t b x.member

  -- ---- the edges that are shown

  group_alike : (u s : ℕ) → IsSame r name u s → is_group_at (whole_of r (Some name)).nodes s ≡ is_group_at (whole_of r None).nodes u
  group_alike u s a =
      ap (λ (o : Option GraphNode). option_map_or (λ (z : GraphNode). is_group z.kind) o false) a.in_part
      ∙ ap is_group (asked_like name a.node).0
      ∙ ap (λ (o : Option GraphNode). option_map_or (λ (z : GraphNode). is_group z.kind) o false) (sym a.in_whole)

  module _ (e : GraphEdge) (is : graph_of r (Some name) ≡ drawn (whole_of r (Some name))) where
    shown_as : (u s i number : ℕ) → number ≡ i + 1 → slice_get (shown_in r (Some name)) i ≡ Some s → IsSame r name u s
        → IsShownAs r name u number
    shown_as u s i number one there a = record {
      k = i;
      is = one;
      v = s;
      shown = there;
      same = a;
      told = ap (λ (g : Graph). slice_get g.nodes i) is ∙ vertex_node r (Some name) i s (as_asked name a.node) there a.in_part;
    }

    edge_of_whole : IsShownEdge r (Some name) e → IsEdgeOfWhole r name e
    edge_of_whole x = by (shares_vertices.only x.u (omega (arith, edge_from part x.u x.v x.edge, same_count r (Some name))))
      where
        by : ((u : ℕ) × IsSame r name u x.u) ⊎ IsNew r name x.u → IsEdgeOfWhole r name e
        by (inl u) =
            let v = led x.u x.v x.edge in
            record {
              u = u.0;
              v = v.0;
              first = shown_as u.0 x.u x.i e.from (ap (λ (z : GraphEdge). z.from) x.is) x.first u.1;
              second = shown_as v.0 x.v x.j e.to (ap (λ (z : GraphEdge). z.to) x.is) x.second v.1;
              edge = forth u.0 v.0 x.u x.v u.1 v.1 x.edge;
              of_group = ap (λ (z : GraphEdge). z.of_group) x.is ∙ group_alike u.0 x.u u.1;
            }
        by (inr new) = absurd (new.from x.v x.edge)

    edge_in_part : IsEdgeOfWhole r name e → IsShownEdge r (Some name) e
    edge_in_part x =
        let group = x.of_group ∙ sym (group_alike x.u x.first.v x.first.same) in
        record {
          i = x.first.k;
          j = x.second.k;
          u = x.first.v;
          v = x.second.v;
          first = x.first.shown;
          second = x.second.shown;
          edge = back x.u x.v x.first.v x.second.v x.first.same x.second.same x.edge;
          is = λ k. record { from = x.first.is k; to = x.second.is k; of_group = group k };
        }

    edges_of_whole : (Contains (graph_of r (Some name)).edges e → IsEdgeOfWhole r name e)
        × (IsEdgeOfWhole r name e → Contains (graph_of r (Some name)).edges e)
    edges_of_whole = (
      λ c. edge_of_whole ((edges_are_shown r (Some name) e).0 (subst (λ (g : Graph). Contains g.edges e) is c)),
      λ x. subst (λ (g : Graph). Contains g.edges e) (sym is) ((edges_are_shown r (Some name) e).1 (edge_in_part x)),
    )

  -- of a start that came to no phase nothing is shown
  pub graph_cases : (graph_of r (Some name) ≡ no_graph) ⊎ (graph_of r (Some name) ≡ drawn (whole_of r (Some name)))
  unfolding graph_of
  graph_cases = by (length r.views == 0)
    where
      by : (b : Bool) → (cond b no_graph (drawn (whole_of r (Some name))) ≡ no_graph)
          ⊎ (cond b no_graph (drawn (whole_of r (Some name))) ≡ drawn (whole_of r (Some name)))
      by true = inl refl
      by false = inr refl

pub vertices_are_shared : VerticesAreShared
vertices_are_shared r name = shares_vertices r name

pub edges_are_shared : EdgesAreShared
edges_are_shared r name u v s t a b = (forth r name u v s t a b, back r name u v s t a b)

pub shown_edges_are_of_whole : ShownEdgesAreOfWhole
shown_edges_are_of_whole r name e = elim (graph_cases r name) [
  | inl none ↦ (
    λ c. absurd (none_in e (subst (λ (g : Graph). Contains g.edges e) none c)),
    λ x. absurd (nothing x.first.k (as_asked name x.first.same.node) (ap (λ (g : Graph). slice_get g.nodes x.first.k) (sym none) ∙ x.first.told)),
  )
  | inr is ↦ edges_of_whole r name e is
]
  where
    nothing : (k : ℕ) (n : GraphNode) → slice_get [] k ≡ Some n → ⊥
    nothing k n is = absurd cc
