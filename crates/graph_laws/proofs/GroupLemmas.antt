-- Edges lead from a group to its members.
use Rattle.std.proofs.Common.{◌≡◌, ℕ, zero, suc, ◌+◌, true, false, not, ◌||◌, List, [], ◌∷◌, ◌++◌, length, map, get_or, slice_get, Option, Some, None, refl, sym, ap, subst, ◌∙◌, inl, inr, arith}
use Rattle.std.specs.Prelude.{Contains}
use Rattle.std.specs.Option.{option_map, option_map_or, option_and_then}
use Rattle.std.specs.List.{filter_map, cons_option, range_with_len}
use Rattle.std.proofs.lemmas.Bool.{false≢true}
use Rattle.std.proofs.lemmas.List.{length-append, length-map}
use Rattle.std.proofs.lemmas.Option.{same_Some, slice_get-map, slice_get_within, get_or_from_slice_get}
use Rattle.nt_bytes.specs.Folding.{folds_same}
use Rattle.nt_names.specs.name_places.Places.{places_named}
use Rattle.start_model.specs.Entries.{Entry}
use Rattle.wait_cycles.specs.Graph.{row_at}
use Rattle.wait_cycles.proofs.CycleLemmas.{filter_in, filter_out}
use Rattle.wait_cycles.proofs.MetLemmas.{in_range}
use Rattle.service_control.proofs.LeastLemmas.{from}
use Rattle.check_laws.proofs.TakenLemmas.{mapped_on}
use Rattle.why_needs.specs.declared.why_state.views.ViewedRun.{ViewedRun}
use Rattle.why_laws.proofs.PastLemmas.{slice_cases, slice_right}
use Rattle.answer_lines.specs.declared.graph_lines.graph.GraphNode.{GraphNode}
use Rattle.graph_rule.specs.Entries.{entries_in}
use Rattle.graph_rule.specs.Nodes.{entry_node, missing_node, group_node}
use Rattle.graph_rule.specs.Rows.{grouped_at, members_of, members_in, parts_by, entry_row, is_untaken, is_asked, is_drawn, group_row, rows_of, group_state, nodes_of, whole_of}
use Rattle.graph_rule.specs.Shown.{is_group}
use Rattle.graph_laws.specs.node_laws.Edges.{GroupsLeadToMembers}

pub mapped : {X Y : Type 0} (f : X → Y) (xs : List X) (k : ℕ) (y : Y) → slice_get (map f xs) k ≡ Some y
    → (x : X) × (slice_get xs k ≡ Some x) × (f x ≡ y)
mapped f [] k y is = absurd cc
mapped f (x ∷ xs) zero y is = (x, refl, same_Some (f x) y is)
mapped f (x ∷ xs) (suc k) y is = mapped f xs k y is

pub map_at : {X Y : Type 0} (f : X → Y) (xs : List X) (k : ℕ) (x : X) → slice_get xs k ≡ Some x → slice_get (map f xs) k
    ≡ Some (f x)
map_at f xs k x is = slice_get-map f xs k ∙ ap (option_map f) is

-- ---- the members of groups

-- the entry at a place, with its group at the same place of another list
record IsGrouped (es : List Entry) (groups : List (List ℕ)) (k v : ℕ) : Type 0 where
  entry : Entry
  at : slice_get es v ≡ Some entry
  own : List ℕ
  has : entry.group ≡ Some own
  there : slice_get groups k ≡ Some own

abbrev own_group : Entry → Option (List ℕ)
own_group e = e.group

-- the places and the groups of those that have one go together
grouped : (es xs : List Entry) (a : ℕ) → ((i : ℕ) → slice_get es (a + i) ≡ slice_get xs i) → (k v : ℕ)
    → slice_get (filter_map (grouped_at es) (range_with_len a (length xs))) k ≡ Some v
    → IsGrouped es (filter_map own_group xs) k v
grouped es [] a same k v is = absurd cc
grouped es (x ∷ xs) a same k v is =
    by (own_group x) refl k (subst (λ (o : Option Entry). slice_get (cons_option (option_map (λ (group : List ℕ). a)
    (option_and_then own_group o)) rest) k ≡ Some v) here is)
    (grouped es xs (a + 1) (λ i. let on : (a + 1) + i ≡ a + suc i = omega arith in ap (slice_get es) on ∙ same (suc i)))
  where
    rest : List ℕ
    rest = filter_map (grouped_at es) (range_with_len (a + 1) (length xs))

    here : slice_get es a ≡ Some x
    here = let first : a ≡ a + 0 = omega arith in ap (slice_get es) first ∙ same 0

    by : (o : Option (List ℕ)) → own_group x ≡ o → (k : ℕ)
        → slice_get (cons_option (option_map (λ (group : List ℕ). a) (own_group x)) rest) k ≡ Some v
        → ((k v : ℕ) → slice_get rest k ≡ Some v → IsGrouped es (filter_map own_group xs) k v)
        → IsGrouped es (cons_option (own_group x) (filter_map own_group xs)) k v
    by None at k is deep =
        let r = deep k v (ap (λ (o : Option (List ℕ)). slice_get (cons_option (option_map (λ (group : List ℕ). a) o) rest) k) (sym at) ∙ is) in
        record {
          entry = r.entry;
          at = r.at;
          own = r.own;
          has = r.has;
          there = ap (λ (o : Option (List ℕ)). slice_get (cons_option o (filter_map own_group xs)) k) at ∙ r.there;
        }
    by (Some g) at zero is deep =
        let one : a ≡ v = same_Some a v
        (ap (λ (o : Option (List ℕ)). slice_get (cons_option (option_map (λ (group : List ℕ). a) o) rest) 0) (sym at) ∙ is) in
        record {
          entry = x;
          at = ap (slice_get es) (sym one) ∙ here;
          own = g;
          has = at;
          there = ap (λ (o : Option (List ℕ)). slice_get (cons_option o (filter_map own_group xs)) 0) at;
        }
    by (Some g) at (suc k) is deep =
        let r = deep k v
        (ap (λ (o : Option (List ℕ)). slice_get (cons_option (option_map (λ (group : List ℕ). a) o) rest) (suc k)) (sym at) ∙ is) in
        record {
          entry = r.entry;
          at = r.at;
          own = r.own;
          has = r.has;
          there = ap (λ (o : Option (List ℕ)). slice_get (cons_option o (filter_map own_group xs)) (suc k)) at ∙ r.there;
        }

-- and each that has one has a place
placed : (es xs : List Entry) (a : ℕ) → ((i : ℕ) → slice_get es (a + i) ≡ slice_get xs i) → (i : ℕ) (e : Entry) (g : List ℕ)
    → slice_get xs i ≡ Some e → e.group ≡ Some g
    → (k : ℕ) × (slice_get (filter_map (grouped_at es) (range_with_len a (length xs))) k ≡ Some (a + i))
    × (slice_get (filter_map own_group xs) k ≡ Some g)
placed es [] a same i e g at has = absurd cc
placed es (x ∷ xs) a same i e g at has =
    by i (own_group x) refl at (placed es xs (a + 1) (λ i. let on : (a + 1) + i ≡ a + suc i = omega arith in
    ap (slice_get es) on ∙ same (suc i)))
  where
    rest : List ℕ
    rest = filter_map (grouped_at es) (range_with_len (a + 1) (length xs))

    mine : (o : Option (List ℕ)) → own_group x ≡ o → grouped_at es a ≡ option_map (λ (group : List ℕ). a) o
    mine o is =
        let first : a ≡ a + 0 = omega arith in
        ap (λ (y : Option Entry). option_map (λ (group : List ℕ). a) (option_and_then own_group y))
        (ap (slice_get es) first ∙ same 0)
        ∙ ap (option_map (λ (group : List ℕ). a)) is

    Found : ℕ → Type 0
    Found i =
        (k : ℕ) × (slice_get (cons_option (grouped_at es a) rest) k ≡ Some (a + i))
        × (slice_get (cons_option (own_group x) (filter_map own_group xs)) k ≡ Some g)

    later : (i : ℕ) (o : Option (List ℕ)) → own_group x ≡ o
        → (k : ℕ) × (slice_get rest k ≡ Some ((a + 1) + i)) × (slice_get (filter_map own_group xs) k ≡ Some g) → Found (suc i)
    later i None is f =
        let on : (a + 1) + i ≡ a + suc i = omega arith in (
          f.0,
          ap (λ (o : Option ℕ). slice_get (cons_option o rest) f.0) (mine None is) ∙ f.1 ∙ ap (λ (n : ℕ). Some n) on,
          ap (λ (o : Option (List ℕ)). slice_get (cons_option o (filter_map own_group xs)) f.0) is ∙ f.2,
        )
    later i (Some h) is f =
        let on : (a + 1) + i ≡ a + suc i = omega arith in (
          suc f.0,
          ap (λ (o : Option ℕ). slice_get (cons_option o rest) (suc f.0)) (mine (Some h) is) ∙ f.1 ∙ ap (λ (n : ℕ). Some n) on,
          ap (λ (o : Option (List ℕ)). slice_get (cons_option o (filter_map own_group xs)) (suc f.0)) is ∙ f.2,
        )

    by : (i : ℕ) (o : Option (List ℕ)) → own_group x ≡ o → slice_get (x ∷ xs) i ≡ Some e
        → ((i : ℕ) (e : Entry) (g : List ℕ) → slice_get xs i ≡ Some e → e.group ≡ Some g
        → (k : ℕ) × (slice_get rest k ≡ Some ((a + 1) + i)) × (slice_get (filter_map own_group xs) k ≡ Some g)) → Found i
    by zero o is at deep =
        let here : own_group x ≡ Some g = ap own_group (same_Some x e at) ∙ has in
        let first : a ≡ a + 0 = omega arith in (
          0,
          ap (λ (o : Option ℕ). slice_get (cons_option o rest) 0) (mine (Some g) here) ∙ ap (λ (n : ℕ). Some n) first,
          ap (λ (o : Option (List ℕ)). slice_get (cons_option o (filter_map own_group xs)) 0) here,
        )
    by (suc i) o is at deep = later i o is (deep i e g at has)

from_start : (es : List Entry) (i : ℕ) → slice_get es (0 + i) ≡ slice_get es i
from_start es i = let none : 0 + i ≡ i = omega arith in ap (slice_get es) none

-- ---- the row of a group

module _ (r : ViewedRun) (of : Option (List ℕ)) (es : List Entry) where
  abbrev Member : List ℕ → ℕ → Type 0
  Member group v =
      (e : Entry) × (own : List ℕ) × (slice_get es v ≡ Some e) × (e.group ≡ Some own) × (folds_same group own ≡ true)
      × ((not (is_untaken (entry_node r e).state) || is_asked of e.name) ≡ true)

  drawn_is : (v : ℕ) (e : Entry) → slice_get es v ≡ Some e
      → is_drawn (parts_by r of es) of v ≡ (not (is_untaken (entry_node r e).state) || is_asked of e.name)
  drawn_is v e at =
      ap (λ (o : Option GraphNode). option_map_or (λ (n : GraphNode). not (is_untaken n.state) || is_asked of n.name) o false)
      (map_at (entry_node r) es v e at)

  member_from : (group : List ℕ) (v : ℕ) → Contains (group_row (parts_by r of es) of group) v → Member group v
  member_from group v c =
      let f = filter_out (is_drawn (parts_by r of es) of) (members_in (members_of es) group) v c in
      let k = from (slice_get (members_of es).at) (places_named group (members_of es).groups) v f.0 in
      let t = filter_out (λ k. folds_same group (get_or (members_of es).groups k [])) (range_with_len 0 (length (members_of es).groups)) k.item k.there in
      let g = grouped es es 0 (from_start es) k.item v k.is in
      let same : folds_same group g.own ≡ true =
      ap (folds_same group) (sym (get_or_from_slice_get (members_of es).groups k.item g.own [] g.there)) ∙ t.1 in
      (g.entry, g.own, g.at, g.has, same, sym (drawn_is v g.entry g.at) ∙ f.1)

  member_in : (group : List ℕ) (v : ℕ) (e : Entry) (own : List ℕ) → slice_get es v ≡ Some e → e.group ≡ Some own
      → folds_same group own ≡ true → (not (is_untaken (entry_node r e).state) || is_asked of e.name) ≡ true
      → Contains (group_row (parts_by r of es) of group) v
  member_in group v e own at has same on =
      let k = placed es es 0 (from_start es) v e own at has in
      let none : 0 + v ≡ v = omega arith in
      let within = slice_get_within (members_of es).groups k.0 own k.2 in
      let test : folds_same group (get_or (members_of es).groups k.0 []) ≡ true =
      ap (folds_same group) (get_or_from_slice_get (members_of es).groups k.0 own [] k.2) ∙ same in
      let there : Contains (places_named group (members_of es).groups) k.0 =
      filter_in (λ k. folds_same group (get_or (members_of es).groups k [])) (range_with_len 0 (length (members_of es).groups)) k.0
      (in_range (length (members_of es).groups) k.0 within) test in
      filter_in (is_drawn (parts_by r of es) of) (members_in (members_of es) group) v
      (mapped_on (slice_get (members_of es).at) (places_named group (members_of es).groups) k.0 v there (k.1 ∙ ap (λ (n : ℕ). Some n) none))
      (drawn_is v e at ∙ on)

  -- the vertex of a group has the row of its name
  group_row_is : (u : ℕ) (node : GraphNode) → slice_get (nodes_of (parts_by r of es)) u ≡ Some node → is_group node.kind ≡ true
      → row_at (rows_of (parts_by r of es) of) u ≡ group_row (parts_by r of es) of node.name
  group_row_is u node at kind =
      let a = map (entry_node r) es in
      let b = map missing_node (parts_by r of es).missing in
      let g = map (λ (name : List ℕ). group_node (group_state (parts_by r of es) name) name) (parts_by r of es).groups in
      let none : List ℕ → List ℕ = λ name. [] in
      let x = map (entry_row (parts_by r of es)) es in
      let y = map none (parts_by r of es).missing in
      let z = map (group_row (parts_by r of es) of) (parts_by r of es).groups in
      elim (slice_cases (a ++ b) g u node at) [
        | inl front ↦ elim (slice_cases a b u node front) [
          | inl i ↦ (let n = mapped (entry_node r) es u node i in
              absurd (false≢true (ap (λ (n : GraphNode). is_group n.kind) n.2 ∙ kind)))
          | inr i ↦ (let n = mapped missing_node (parts_by r of es).missing i.0 node i.2 in
              absurd (false≢true (ap (λ (n : GraphNode). is_group n.kind) n.2 ∙ kind)))
        ]
        | inr i ↦ (let n = mapped (λ (name : List ℕ). group_node (group_state (parts_by r of es) name) name) (parts_by r of es).groups i.0 node i.2 in
            let place : length (x ++ y) + i.0 ≡ u =
            omega (
              arith,
              i.1,
              length-append a b,
              length-append x y,
              length-map es (entry_node r),
              length-map es (entry_row (parts_by r of es)),
              length-map (parts_by r of es).missing missing_node,
              length-map (parts_by r of es).missing none,
            ) in
            let there : slice_get (x ++ y ++ z) u ≡ Some (group_row (parts_by r of es) of n.0) =
            ap (slice_get (x ++ y ++ z)) (sym place)
            ∙ slice_right (x ++ y) z i.0 (group_row (parts_by r of es) of n.0) (map_at (group_row (parts_by r of es) of) (parts_by r of es).groups i.0 n.0 n.1) in
            get_or_from_slice_get (x ++ y ++ z) u (group_row (parts_by r of es) of n.0) [] there
            ∙ ap (λ (n : GraphNode). group_row (parts_by r of es) of n.name) n.2)
      ]

pub groups_lead : GroupsLeadToMembers
unfolding whole_of
groups_lead r of u node at kind v =
    let es : List Entry = entries_in r in
    let row = group_row_is r of es u node at kind in (
      λ edge.
          let f = member_from r of es node.name v (subst (λ (vs : List ℕ). Contains vs v) row edge) in
          record { entry = f.0; at = f.2; own = f.1; has = f.3; same = f.4; drawn = f.5 },
      λ is. subst (λ (vs : List ℕ). Contains vs v) (sym row)
          (member_in r of es node.name v is.entry is.own is.at is.has is.same is.drawn),
    )
