-- Edges are needs.
use Rattle.std.proofs.Common.{◌≡◌, ℕ, zero, suc, ◌+◌, Bool, true, false, not, List, [], ◌∷◌, ◌++◌, length, map, slice_get, Option, Some, None, refl, sym, ap, subst, ◌∙◌, ◌⊎◌, inl, inr, arith}
use Rattle.std.specs.Prelude.{Contains, filter}
use Rattle.std.specs.Option.{is_some, option_map, option_or, option_to_list}
use Rattle.std.specs.List.{filter_map, flat_map}
use Rattle.std.proofs.lemmas.Bool.{false≢true}
use Rattle.std.proofs.lemmas.List.{length-append, length-map}
use Rattle.std.proofs.lemmas.List.Elements.{Contains-append_left, Contains-append_right, Contains-append_cases}
use Rattle.std.proofs.lemmas.List.Quantifiers.{position-Some}
use Rattle.std.proofs.lemmas.Option.{same_Some, slice_get-get_or, slice_get-map, get_or_from_slice_get}
use Rattle.nt_bytes.specs.Folding.{folds_same}
use Rattle.nt_names.proofs.FoldLemmas.{alike}
use Rattle.start_model.specs.Entries.{Entry}
use Rattle.start_model.specs.Order.{first_names}
use Rattle.boot_phases.proofs.TriedLemmas.{some_place}
use Rattle.dependencies.proofs.MeetLemmas.{names_flip}
use Rattle.wait_cycles.specs.Graph.{row_at, HasEdge}
use Rattle.wait_cycles.proofs.MetLemmas.{any_from, first_in}
use Rattle.wait_cycles.proofs.CycleLemmas.{filter_in}
use Rattle.check_laws.proofs.CycleLaws.{flat_in}
use Rattle.check_laws.proofs.RowLemmas.{first_sub, first_for}
use Rattle.check_laws.proofs.TakenLemmas.{item_here, mapped_on}
use Rattle.service_control.proofs.LeastLemmas.{from}
use Rattle.why_needs.specs.declared.why_state.views.ViewedRun.{ViewedRun}
use Rattle.why_needs.specs.why_state.States.{place_in}
use Rattle.answer_lines.specs.declared.graph_lines.graph.GraphNode.{GraphNode}
use Rattle.graph_rule.specs.Entries.{entries_in}
use Rattle.graph_rule.specs.Nodes.{entry_node, missing_node, group_node}
use Rattle.graph_rule.specs.Rows.{parts_by, name_vertex, group_vertex, entry_row, group_row, rows_of, group_state, nodes_of, whole_of}
use Rattle.graph_rule.specs.Shown.{is_group}
use Rattle.graph_laws.specs.graph_laws.Needs.{StandsFor, LeadsToNeeds, IsEntryVertex, NeedsAreEdges}
use Rattle.graph_laws.specs.graph_laws.Shown.{NameHasVertex}

-- ---- places

at_left : {X : Type 0} (xs ys : List X) (k : ℕ) (x : X) → slice_get xs k ≡ Some x → slice_get (xs ++ ys) k ≡ Some x
at_left [] ys k x is = absurd cc
at_left (z ∷ xs) ys zero x is = is
at_left (z ∷ xs) ys (suc k) x is = at_left xs ys k x is

at_right : {X : Type 0} (xs ys : List X) (n k : ℕ) → n ≡ length xs + k → slice_get (xs ++ ys) n ≡ slice_get ys k
at_right [] ys n k is = ap (slice_get ys) (omega (arith, is))
at_right (x ∷ xs) ys zero k is = absurd (omega (arith, is))
at_right (x ∷ xs) ys (suc n) k is = at_right xs ys n k (omega (arith, is))

-- what a list that was mapped has at a place
mapped : {X Y : Type 0} (f : X → Y) (xs : List X) (k : ℕ) (y : Y) → slice_get (map f xs) k ≡ Some y
    → (x : X) × (slice_get xs k ≡ Some x) × (f x ≡ y)
mapped f [] k y is = absurd cc
mapped f (x ∷ xs) zero y is = (x, refl, same_Some (f x) y is)
mapped f (x ∷ xs) (suc k) y is = mapped f xs k y is

map_at : {X Y : Type 0} (f : X → Y) (xs : List X) (k : ℕ) (x : X) → slice_get xs k ≡ Some x → slice_get (map f xs) k
    ≡ Some (f x)
map_at f xs k x is = slice_get-map f xs k ∙ ap (option_map f) is

-- ---- places of names

place_is : (names : List (List ℕ)) (name : List ℕ) (k : ℕ) → place_in names name ≡ Some k
    → (found : List ℕ) × (slice_get names k ≡ Some found) × (folds_same name found ≡ true)
place_is names name k is =
    let at = position-Some (folds_same name) names k [] is in
    (_, slice_get-get_or names k [] at.0, at.1)

some_is : {X : Type 0} (o : Option X) → is_some o ≡ true → (x : X) × (o ≡ Some x)
some_is None is = absurd (false≢true is)
some_is (Some x) is = (x, refl)

-- a name that folds as one of the list has a place there
placed : (names : List (List ℕ)) (name other : List ℕ) → Contains names other → folds_same other name ≡ true
    → (k : ℕ) × (place_in names name ≡ Some k)
placed names name other c same =
    some_is (place_in names name)
    (some_place (folds_same name) names ∙ any_from (folds_same name) names other c (names_flip name other ∙ same))

first_placed : (names : List (List ℕ)) (name : List ℕ) → Contains names name
    → (k : ℕ) × (place_in (first_names names) name ≡ Some k)
first_placed names name c = let first = first_for names name c in placed
    (first_names names) name first.0 first.1 first.2

-- ---- the needs of a kind

module _ (nodes : List GraphNode) (rows : List (List ℕ)) (u : ℕ) (of_group : Bool) (vertex : List ℕ → Option ℕ)
    (needs : List (List ℕ))
    (stands : (name : List ℕ) (v : ℕ) → vertex name ≡ Some v → StandsFor nodes v of_group name)
    (found : (name : List ℕ) → Contains needs name → (v : ℕ) × (vertex name ≡ Some v))
    (leads : (v : ℕ) → Contains (filter_map vertex (first_names needs)) v → HasEdge rows u v)
    (led : (v : ℕ) → HasEdge rows u v → Contains (filter_map vertex (first_names needs)) v ⊎
    ((name : List ℕ) × StandsFor nodes v (not of_group) name)) where
  each_need : (name : List ℕ) → Contains needs name → (v : ℕ) × HasEdge rows u v × StandsFor nodes v of_group name
  each_need name c =
      let first = first_for needs name c in
      let v = found first.0 (first_sub needs first.0 first.1) in
      let s = stands first.0 v.0 v.1 in (
        v.0,
        leads v.0 (mapped_on vertex (first_names needs) first.0 v.0 first.1 v.1),
        record {
          node = s.node;
          at = s.at;
          kind = s.kind;
          same = sym (alike first.0 name first.2 s.node.name) ∙ s.same;
        },
      )

  only_need : (v : ℕ) (node : GraphNode) → HasEdge rows u v → slice_get nodes v ≡ Some node → is_group node.kind
      ≡ of_group
      → (name : List ℕ) × Contains needs name × (folds_same name node.name ≡ true)
  only_need v node edge at kind = elim (led v edge) [
    | inl c ↦ (let f = from vertex (first_names needs) v c in
        let s = stands f.item v f.is in
        let same = same_Some s.node node (sym s.at ∙ at) in
        (f.item, first_sub needs f.item f.there, ap (λ (n : GraphNode). folds_same f.item n.name) (sym same) ∙ s.same))
    | inr o ↦ (let same = same_Some o.1.node node (sym o.1.at ∙ at) in
        absurd (differ of_group (sym kind ∙ ap (λ (n : GraphNode). is_group n.kind) (sym same) ∙ o.1.kind)))
  ]
    where
      differ : (b : Bool) → b ≡ not b → ⊥
      differ true h = false≢true (sym h)
      differ false h = false≢true h

  needs_led : LeadsToNeeds nodes rows u of_group needs
  needs_led = record { each = each_need; only = only_need }

-- ---- the vertices of a graph

module _ (r : ViewedRun) (of : Option (List ℕ)) (es : List Entry) where
  abbrev entries : List GraphNode
  entries = map (entry_node r) es

  abbrev missing : List GraphNode
  missing = map missing_node (parts_by r of es).missing

  abbrev groups : List GraphNode
  groups = map (λ (group : List ℕ). group_node (group_state (parts_by r of es) group) group) (parts_by r of es).groups

  counts : length (parts_by r of es).names ≡ length entries
  counts = length-map es (λ (e : Entry). e.name) ∙ sym (length-map es (entry_node r))

  name_stands : (name : List ℕ) (v : ℕ) → name_vertex (parts_by r of es) name ≡ Some v
      → StandsFor (nodes_of (parts_by r of es)) v false name
  name_stands name v is = by (place_in (parts_by r of es).names name)
      (place_in (parts_by r of es).missing name) refl refl is
    where
      by : (o q : Option ℕ) → place_in (parts_by r of es).names name ≡ o → place_in (parts_by r of es).missing name ≡ q
          → option_or o (option_map (λ k. length (parts_by r of es).names + k) q) ≡ Some v
          → StandsFor (nodes_of (parts_by r of es)) v false name
      by None None a b is = absurd cc
      by None (Some k) a b is =
          let p = place_is (parts_by r of es).missing name k b in
          let at : v ≡ length entries + k = sym (same_Some (length (parts_by r of es).names + k) v is)
          ∙ ap (λ (n : ℕ). n + k) counts in
          record {
            node = missing_node p.0;
            at = at_left (entries ++ missing) groups v (missing_node p.0)
                (at_right entries missing v k at ∙ map_at missing_node (parts_by r of es).missing k p.0 p.1);
            kind = refl;
            same = p.2;
          }
      by (Some k) q a b is =
          let p = place_is (parts_by r of es).names name k a in
          let m = mapped (λ (e : Entry). e.name) es k p.0 p.1 in
          record {
            node = entry_node r m.0;
            at = ap (slice_get (nodes_of (parts_by r of es))) (sym (same_Some k v is))
                ∙ at_left (entries ++ missing) groups k (entry_node r m.0)
                (at_left entries missing k (entry_node r m.0) (map_at (entry_node r) es k m.0 m.1));
            kind = refl;
            same = ap (folds_same name) m.2 ∙ p.2;
          }

  group_stands : (name : List ℕ) (v : ℕ) → group_vertex (parts_by r of es) name ≡ Some v
      → StandsFor (nodes_of (parts_by r of es)) v true name
  group_stands name v is = by (place_in (parts_by r of es).groups name) refl is
    where
      by : (o : Option ℕ) → place_in (parts_by r of es).groups name ≡ o
          → option_map (λ k. length (parts_by r of es).names + length (parts_by r of es).missing + k) o ≡ Some v
          → StandsFor (nodes_of (parts_by r of es)) v true name
      by None a is = absurd cc
      by (Some k) a is =
          let p = place_is (parts_by r of es).groups name k a in
          let at : v ≡ length (entries ++ missing) + k =
          omega (
            arith,
            same_Some (length (parts_by r of es).names + length (parts_by r of es).missing + k) v is,
            counts,
            length-append entries missing,
            length-map (parts_by r of es).missing missing_node,
          ) in
          record {
            node = group_node (group_state (parts_by r of es) p.0) p.0;
            at = at_right (entries ++ missing) groups v k at
                ∙ map_at (λ (group : List ℕ). group_node (group_state (parts_by r of es) group) group)
                (parts_by r of es).groups k p.0 p.1;
            kind = refl;
            same = p.2;
          }

  -- each need of an entry has a vertex
  name_found : (e : Entry) → Contains es e → (name : List ℕ) → Contains e.services name
      → (v : ℕ) × (name_vertex (parts_by r of es) name ≡ Some v)
  name_found e c name need = by (place_in (parts_by r of es).names name) refl
    where
      among : List (List ℕ)
      among = option_to_list of ++ flat_map (λ (x : Entry). x.services) es

      by : (o : Option ℕ) → place_in (parts_by r of es).names name ≡ o
          → (v : ℕ) × (option_or (place_in (parts_by r of es).names name)
          (option_map (λ k. length (parts_by r of es).names + k) (place_in (parts_by r of es).missing name))
          ≡ Some v)
      by (Some k) a = (
        k,
        ap (λ (o : Option ℕ). option_or o
            (option_map (λ k. length (parts_by r of es).names + k) (place_in (parts_by r of es).missing name))) a,
      )
      by None a =
          let lacks : List ℕ → Bool = λ n. not (is_some (place_in (parts_by r of es).names n)) in
          let all : Contains among name =
          Contains-append_right (option_to_list of) (flat_map (λ (x : Entry). x.services) es) name
          (flat_in (λ (x : Entry). x.services) es e name c need) in
          let k = first_placed (filter lacks among) name
          (filter_in lacks among name all (ap (λ (o : Option ℕ). not (is_some o)) a)) in (
            length (parts_by r of es).names + k.0,
            λ i. option_or (a i)
                (option_map (λ k. length (parts_by r of es).names + k) (k.1 i)),
          )

  group_found : (e : Entry) → Contains es e → (name : List ℕ) → Contains e.groups name
      → (v : ℕ) × (group_vertex (parts_by r of es) name ≡ Some v)
  group_found e c name need =
      let k = first_placed (flat_map (λ (x : Entry). x.groups) es) name
      (flat_in (λ (x : Entry). x.groups) es e name c need) in (
        length (parts_by r of es).names + length (parts_by r of es).missing + k.0,
        ap
            (option_map (λ k. length (parts_by r of es).names + length (parts_by r of es).missing + k)) k.1,
      )

  -- ---- the edges of an entry

  module _ (u : ℕ) (e : Entry) (is : slice_get es u ≡ Some e) where
    abbrev nodes : List GraphNode
    nodes = nodes_of (parts_by r of es)

    abbrev rows : List (List ℕ)
    rows = rows_of (parts_by r of es) of

    abbrev services : List ℕ
    services = filter_map (name_vertex (parts_by r of es)) (first_names e.services)

    abbrev others : List ℕ
    others = filter_map (group_vertex (parts_by r of es)) (first_names e.groups)

    row : services ++ others ≡ row_at rows u
    row =
        let a = map (entry_row (parts_by r of es)) es in
        let b : List (List ℕ) = map (λ name. []) (parts_by r of es).missing in
        let g = map (group_row (parts_by r of es) of) (parts_by r of es).groups in
        sym (get_or_from_slice_get (a ++ b ++ g) u (entry_row (parts_by r of es) e) []
        (at_left (a ++ b) g u (entry_row (parts_by r of es) e)
        (at_left a b u (entry_row (parts_by r of es) e) (map_at (entry_row (parts_by r of es)) es u e is))))

    in_row : (v : ℕ) → Contains (services ++ others) v → HasEdge rows u v
    in_row v c = subst (λ (vs : List ℕ). Contains vs v) row c

    of_row : (v : ℕ) → HasEdge rows u v → Contains services v ⊎ Contains others v
    of_row v edge = Contains-append_cases services others v (subst (λ (vs : List ℕ). Contains vs v) (sym row) edge)

    to_services : LeadsToNeeds nodes rows u false e.services
    to_services =
        needs_led nodes rows u false (name_vertex (parts_by r of es)) e.services name_stands
        (name_found e (item_here es u e is))
        (λ v c. in_row v (Contains-append_left services others v c)) (λ v edge. elim (of_row v edge) [
          | inl c ↦ inl c
          | inr c ↦ (let f = from (group_vertex (parts_by r of es)) (first_names e.groups) v c in inr
              (f.item, group_stands f.item v f.is))
        ])

    to_groups : LeadsToNeeds nodes rows u true e.groups
    to_groups =
        needs_led nodes rows u true (group_vertex (parts_by r of es)) e.groups group_stands
        (group_found e (item_here es u e is))
        (λ v c. in_row v (Contains-append_right services others v c)) (λ v edge. elim (of_row v edge) [
          | inr c ↦ inl c
          | inl c ↦ (let f = from (name_vertex (parts_by r of es)) (first_names e.services) v c in inr
              (f.item, name_stands f.item v f.is))
        ])

    entry_vertex : IsEntryVertex nodes rows u r e
    entry_vertex = record {
      node = at_left (entries ++ missing) groups u (entry_node r e)
          (at_left entries missing u (entry_node r e) (map_at (entry_node r) es u e is));
      ends = λ v edge. elim (of_row v edge) [
        | inl c ↦ (let f = from (name_vertex (parts_by r of es)) (first_names e.services) v c in
            let s = name_stands f.item v f.is in
            (s.node, s.at))
        | inr c ↦ (let f = from (group_vertex (parts_by r of es)) (first_names e.groups) v c in
            let s = group_stands f.item v f.is in
            (s.node, s.at))
      ];
      services = to_services;
      groups = to_groups;
    }

pub are_needs : NeedsAreEdges
unfolding whole_of
are_needs r of u e is = entry_vertex r of (entries_in r) u e is

-- ---- the name that is asked for

-- a name that is asked for and has no entry is a missing name
asked_found : (r : ViewedRun) (es : List Entry) (name : List ℕ)
    → (v : ℕ) × (name_vertex (parts_by r (Some name) es) name ≡ Some v)
asked_found r es name = by (place_in names name) refl
  where
    names : List (List ℕ)
    names = (parts_by r (Some name) es).names

    missing : List (List ℕ)
    missing = (parts_by r (Some name) es).missing

    by : (o : Option ℕ) → place_in names name ≡ o
        → (v : ℕ) × (option_or (place_in names name) (option_map (λ k. length names + k) (place_in missing name))
        ≡ Some v)
    by (Some k) a = (
      k,
      ap (λ (o : Option ℕ). option_or o
          (option_map (λ k. length names + k) (place_in missing name))) a,
    )
    by None a =
        let lacks : List ℕ → Bool = λ n. not (is_some (place_in names n)) in
        let others = flat_map (λ (x : Entry). x.services) es in
        let k = first_placed (filter lacks (name ∷ others)) name
        (filter_in lacks (name ∷ others) name (first_in name others) (ap (λ (o : Option ℕ). not (is_some o)) a)) in
        (length names + k.0, λ i. option_or (a i) (option_map (λ k. length names + k) (k.1 i)))

pub has_vertex : NameHasVertex
unfolding whole_of
has_vertex r name =
    let v = asked_found r (entries_in r) name in
    (v.0, v.1, name_stands r (Some name) (entries_in r) name v.0 v.1)
