-- Each attempt has one node.
use Rattle.std.proofs.Common.{◌≡◌, ℕ, zero, suc, ◌+◌, nat_eq, Bool, true, false, not, ◌&&◌, cond, List, [], ◌∷◌, ◌++◌, length, map, slice_get, Option, Some, None, refl, sym, ap, subst, ◌∙◌, inl, inr, arith}
use Rattle.std.specs.Prelude.{Contains, filter}
use Rattle.std.specs.Option.{option_map, option_map_or, option_and_then, option_or}
use Rattle.std.specs.List.{flat_map, range_with_len}
use Rattle.std.proofs.lemmas.Bool.{false≢true, eq-eqb}
use Rattle.std.proofs.lemmas.Bool.Decides.{nat_tests}
use Rattle.std.proofs.lemmas.List.Elements.{Contains-append_left}
use Rattle.std.proofs.lemmas.List.Quantifiers.{position-Some}
use Rattle.std.proofs.lemmas.Option.{same_Some, slice_get-map, slice_get_within, get_or_from_slice_get}
use Rattle.nt_bytes.specs.Folding.{folds_same}
use Rattle.nt_names.proofs.FoldLemmas.{alike}
use Rattle.dependencies.proofs.MeetLemmas.{names_flip}
use Rattle.report_words.specs.declared.words.TryWord.{TryWord}
use Rattle.report_words.specs.declared.words.TryWord.TheVariants as tries
use Rattle.boot_phases.specs.declared.error_control.outcome.Judgement.{Judgement}
use Rattle.boot_phases.specs.declared.error_control.outcome.Judgement.TheVariants as judgements
use Rattle.start_model.specs.Boot.{Choice}
use Rattle.start_model.specs.Demand.{member}
use Rattle.start_model.specs.Entries.{Entry, entries_of}
use Rattle.start_model.specs.Events.{Event}
use Rattle.report_words.specs.declared.line.Line.{Line}
use Rattle.start_model.specs.Order.{first_names}
use Rattle.start_model.specs.Possible.{Woken}
use Rattle.start_model.specs.Quiet as book
use Rattle.quiet_run.specs.declared.last.Attempt.{Attempt}
use Rattle.quiet_run.specs.declared.last.QuietRun.{QuietRun}
use Rattle.quiet_run.specs.Watch.{quiet_run_of}
use Rattle.wait_cycles.proofs.CycleLemmas.{filter_in}
use Rattle.wait_cycles.proofs.MetLemmas.{in_range}
use Rattle.service_control.proofs.LeanLemmas.{folds_itself}
use Rattle.check_laws.proofs.CycleLaws.{flat_in}
use Rattle.check_laws.proofs.RowLemmas.{first_for}
use Rattle.check_laws.proofs.TakenLemmas.{mapped_on, item_here, item_place}
use Rattle.answer_lines.specs.declared.why_lines.lines.NameState.{NameState}
use Rattle.answer_lines.specs.declared.why_lines.lines.NameState.TheVariants as names
use Rattle.why_needs.specs.declared.why_state.views.PhaseView.{PhaseView}
use Rattle.why_needs.specs.declared.why_state.views.ViewedRun.{ViewedRun}
use Rattle.why_needs.specs.why_state.Views.{names_of, names_tried}
use Rattle.why_needs.specs.why_state.States.{place_in, state_of}
use Rattle.why_needs.specs.why_needs.Met.{entry_at}
use Rattle.why_laws.specs.why_laws.Reports.{last_start_in}
use Rattle.why_laws.specs.why_laws.States.{failed_as, attempt_in, tries_in, view_from}
use Rattle.why_laws.proofs.MadeLemmas.{Made, attempt_as}
use Rattle.why_laws.proofs.ActLemmas.{hear}
use Rattle.why_laws.proofs.PastLemmas.{slice_cases}
use Rattle.why_laws.proofs.PlacedLemmas.{placed_known}
use Rattle.why_laws.proofs.StandsLemmas.{stands_at, tried_at, tried_is}
use Rattle.why_laws.proofs.MetLemmas.{Placed, placed_in, made_placed, names_are, entry_named}
use Rattle.answer_lines.specs.declared.graph_lines.graph.NodeState.{NodeState}
use Rattle.answer_lines.specs.declared.graph_lines.graph.NodeState.TheVariants as states
use Rattle.answer_lines.specs.declared.graph_lines.graph.GraphNode.{GraphNode}
use Rattle.answer_lines.specs.declared.graph_lines.graph.Graph.{Graph}
use Rattle.graph_rule.specs.Entries as rule
use Rattle.graph_rule.specs.Entries.{is_placed_at, begun_names, begun_at, coming_names, all_names, in_plan, in_set, entries_in}
use Rattle.graph_rule.specs.Nodes.{node_state, node_number, entry_node, missing_node, group_node}
use Rattle.graph_rule.specs.Rows.{parts_by, group_state, is_untaken, whole_of}
use Rattle.graph_rule.specs.Shown.{is_entry, is_taken, marks_of, no_graph, drawn, graph_of}
use Rattle.graph_laws.specs.graph_laws.Attempts.{state_after}
use Rattle.graph_laws.specs.graph_laws.Shown.{shown_in, IsShown}
use Rattle.graph_laws.proofs.AttemptLemmas.{numbers_are}
use Rattle.graph_laws.proofs.NeedLemmas.{are_needs}
use Rattle.graph_laws.proofs.NumberLemmas.{nodes_are_shown}
use Rattle.graph_laws.proofs.ReachLemmas.{same_count, all_shows}
use Rattle.state_laws.specs.state_laws.Tries.{SetsAreHeld}
use Rattle.state_laws.proofs.TryLemmas.{made_of, tries_are_states}
use Rattle.graph_laws.specs.node_laws.Attempts.{HasOneNode, EachTryHasOneNode}
use Rattle.graph_laws.proofs.EntryLemmas.{AreNamed, entry_is_named, entries_own, rising_once, shown_rises}

-- ---- the state of who was attempted

record IsTold (s : NameState) (n : ℕ) (w : TryWord) : Type 0 where
  number : node_number s ≡ n
  state : node_state s ≡ state_after w

failed_after : (j : Judgement) → states.Failed ≡ state_after (failed_as j)
failed_after judgements.Ignore = refl
failed_after judgements.Log = refl
failed_after judgements.FallBack = refl
failed_after judgements.Stop = refl

told_as : (n m : ℕ) (s : NodeState) (v w : TryWord) → s ≡ state_after v
    → ◌≡◌ {A = Option (ℕ × TryWord)} (Some (m, v)) (Some (n, w)) → (m ≡ n) × (s ≡ state_after w)
told_as n m s v w after is =
    let pair : ◌≡◌ {A = ℕ × TryWord} (m, v) (n, w) = same_Some (m, v) (n, w) is in
    (λ i. (pair i).0, after ∙ (λ i. state_after (pair i).1))

told : (s : NameState) (n : ℕ) (w : TryWord) → attempt_in s ≡ Some (n, w) → IsTold s n w
told names.NoPhase n w is = absurd cc
told (names.Started m) n w is =
    let t = told_as n m states.Started tries.Ok w refl is in record { number = t.0; state = t.1 }
told (names.Failed m j) n w is =
    let t = told_as n m states.Failed (failed_as j) w (failed_after j) is in record { number = t.0; state = t.1 }
told names.Unmet n w is = absurd cc
told (names.NotReached phase) n w is = absurd cc
told names.Late n w is = absurd cc
told (names.NotTaken reason) n w is = absurd cc

taken_after : (w : TryWord) → not (is_untaken (state_after w)) ≡ true
taken_after tries.Ok = refl
taken_after tries.Ignored = refl
taken_after tries.Logged = refl
taken_after tries.FallBack = refl
taken_after tries.Stop = refl

-- ---- nodes and vertices

mapped : {X Y : Type 0} (f : X → Y) (xs : List X) (k : ℕ) (y : Y) → slice_get (map f xs) k ≡ Some y
    → (x : X) × (slice_get xs k ≡ Some x) × (f x ≡ y)
mapped f [] k y is = absurd cc
mapped f (x ∷ xs) zero y is = (x, refl, same_Some (f x) y is)
mapped f (x ∷ xs) (suc k) y is = mapped f xs k y is

some_view : (vs : List PhaseView) (k : ℕ) (v : PhaseView) → slice_get vs k ≡ Some v → nat_eq (length vs) 0 ≡ false
some_view [] k v is = absurd cc
some_view (w ∷ ws) k v is = grind (arith, nat_tests)

module _ (r : ViewedRun) (of : Option (List ℕ)) where
  -- the node at a place is that of the vertex that is shown there
  pub node_vertex : (i : ℕ) (node : GraphNode) → slice_get (drawn (whole_of r of)).nodes i ≡ Some node
      → (u : ℕ) × (slice_get (shown_in r of) i ≡ Some u) × (slice_get (whole_of r of).nodes u ≡ Some node)
  node_vertex i node is =
      let some : slice_get (map (λ (n : GraphNode). Some n) (drawn (whole_of r of)).nodes) i ≡ Some (Some node) =
      slice_get-map (λ (n : GraphNode). Some n) (drawn (whole_of r of)).nodes i ∙ ap (option_map (λ (n : GraphNode). Some n)) is in
      mapped (slice_get (whole_of r of).nodes) (shown_in r of) i (Some node)
      (ap (λ (os : List (Option GraphNode)). slice_get os i) (sym (nodes_are_shown r of)) ∙ some)

  -- and the other way
  pub vertex_node : (i u : ℕ) (node : GraphNode) → slice_get (shown_in r of) i ≡ Some u
      → slice_get (whole_of r of).nodes u ≡ Some node → slice_get (drawn (whole_of r of)).nodes i ≡ Some node
  vertex_node i u node at is =
      let some : slice_get (map (slice_get (whole_of r of).nodes) (shown_in r of)) i ≡ Some (Some node) =
      slice_get-map (slice_get (whole_of r of).nodes) (shown_in r of) i
      ∙ ap (option_map (slice_get (whole_of r of).nodes)) at ∙ ap (λ (o : Option GraphNode). Some o) is in
      let m = mapped (λ (n : GraphNode). Some n) (drawn (whole_of r of)).nodes i (Some node)
      (ap (λ (os : List (Option GraphNode)). slice_get os i) (nodes_are_shown r of) ∙ some) in
      m.1 ∙ m.2

  -- the vertex of a node of an entry is that of the entry
  pub entry_vertex : (u : ℕ) (node : GraphNode) → slice_get (whole_of r of).nodes u ≡ Some node → is_entry node.kind ≡ true
      → (e : Entry) × (slice_get (entries_in r) u ≡ Some e) × (entry_node r e ≡ node)
  unfolding whole_of
  entry_vertex u node is entry =
      let p = parts_by r of (entries_in r) in
      let a = map (entry_node r) (entries_in r) in
      let b = map missing_node p.missing in
      let g = map (λ (name : List ℕ). group_node (group_state p name) name) p.groups in
      elim (slice_cases (a ++ b) g u node is) [
        | inl front ↦ elim (slice_cases a b u node front) [
          | inl i ↦ mapped (entry_node r) (entries_in r) u node i
          | inr i ↦ (let m = mapped missing_node p.missing i.0 node i.2 in
              absurd (false≢true (ap (λ (n : GraphNode). is_entry n.kind) m.2 ∙ entry)))
        ]
        | inr i ↦ (let m = mapped (λ (name : List ℕ). group_node (group_state p name) name) p.groups i.0 node i.2 in
            absurd (false≢true (ap (λ (n : GraphNode). is_entry n.kind) m.2 ∙ entry)))
      ]

-- ---- a run

module _ (choice : Option ℕ → Choice) (script : List Event) (placed : Woken) (last : ℕ × List Line)
    (is_last : last_start_in (book.quiet_run_of choice script placed).lines ≡ Some last)
    (held : SetsAreHeld choice script placed) where
  abbrev run : QuietRun
  run = quiet_run_of choice script placed.state.version placed.state.tree

  abbrev heard : List (List ℕ)
  heard = hear [] (book.quiet_run_of choice script placed).lines

  abbrev r : ViewedRun
  r = view_from choice script placed

  are_named : AreNamed r
  are_named at v is =
      let known = placed_known choice script placed in
      names_are run heard known at v (stands_at run heard known at v is)

  module _ (k : ℕ) (a : Attempt) (is : slice_get (tries_in last.1) k ≡ Some a) where
    abbrev made : (t : Made) × (slice_get (placed_known choice script placed).made k ≡ Some t) × (attempt_as t ≡ a)
    made = made_of choice script placed last is_last held k a is

    abbrev at_phase : Placed run heard (placed_known choice script placed) k made.0
    at_phase = placed_in run heard (placed_known choice script placed) k made.0 made.1

    alike_made : (name : List ℕ) → folds_same name a.name ≡ true → folds_same name made.0.0.name ≡ true
    alike_made name one = ap (λ (x : Attempt). folds_same name x.name) made.2 ∙ one

    -- a name that folds so has the entry of its phase
    has_entry : (name : List ℕ) → folds_same name a.name ≡ true → (e : Entry) × (in_plan r name ≡ Some e)
    has_entry name one =
        let known = placed_known choice script placed in
        let x = at_phase in
        let p = made_placed run heard known k made.0 made.1 name (alike_made name one) x in
        let e = entry_named x.view.plan p.0 name (ap (λ (ns : List (List ℕ)). place_in ns name)
        (sym (names_are run heard known x.at x.view x.stands)) ∙ p.1) in (
          e.0,
          ap (option_and_then (entry_at r)) p.2
              ∙ ap (option_and_then (λ (v : PhaseView). slice_get v.plan p.0)) x.there ∙ e.1,
        )

    -- the attempt's name is among those of its phase
    among : Contains (all_names r (entries_of r.run.set)) a.name
    among =
        let known = placed_known choice script placed in
        let x = at_phase in
        let p = made_placed run heard known k made.0 made.1 a.name (alike_made a.name (folds_itself a.name)) x in
        let test : is_placed_at r x.at a.name ≡ true =
        ap (λ (o : Option (ℕ × ℕ)). option_map_or (λ (place : ℕ × ℕ). nat_eq place.0 x.at) o false) p.2 ∙ eq-eqb x.at x.at refl in
        let tried : Contains r.tried a.name =
        item_here r.tried k a.name
        (ap (λ (ns : List (List ℕ)). slice_get ns k) (tried_is run ∙ ap names_tried known.attempts)
        ∙ tried_at known.made k made.0 made.1 ∙ ap (λ (y : Attempt). Some y.name) made.2) in
        let here : Contains (begun_names r x.at x.view) a.name =
        Contains-append_left (filter (is_placed_at r x.at) r.tried) (filter (is_placed_at r x.at) x.view.names) a.name
        (filter_in (is_placed_at r x.at) r.tried a.name tried test) in
        let begun : Contains (begun_at r x.at) a.name =
        subst (λ (o : Option PhaseView). Contains (option_map_or (begun_names r x.at) o []) a.name) (sym x.there) here in
        Contains-append_left (flat_map (begun_at r) (range_with_len 0 (length r.views)) ++ coming_names r)
        (names_of (entries_of r.run.set)) a.name
        (Contains-append_left (flat_map (begun_at r) (range_with_len 0 (length r.views))) (coming_names r) a.name
        (flat_in (begun_at r) (range_with_len 0 (length r.views)) x.at a.name
        (in_range (length r.views) x.at (slice_get_within r.views x.at x.view x.there)) begun))

    -- the entry of the graph that has the name
    abbrev HasVertex : Type 0
    HasVertex = (u : ℕ) × (e : Entry) × (slice_get (entries_in r) u ≡ Some e) × (folds_same e.name a.name ≡ true)

    vertex : HasVertex
    vertex =
        let es = entries_of r.run.set in
        let first = first_for (all_names r es) a.name among in
        let e = has_entry first.0 first.2 in
        let named : rule.entry_named r es (names_of es) first.0 ≡ Some e.0 =
        ap (λ (o : Option Entry). option_or o (in_set es (names_of es) first.0)) e.1 in
        let same = entry_is_named r are_named es first.0 e.0 named in
        let p = item_place (entries_in r) e.0
        (mapped_on (rule.entry_named r es (names_of es)) (first_names (all_names r es)) first.0 e.0 first.1 named) in
        (p.0, e.0, p.1, sym (alike first.0 e.0.name same a.name) ∙ first.2)

    -- its node reports the attempt
    node_told : (e : Entry) → folds_same e.name a.name ≡ true → IsTold (state_of r e.name) (k + 1) a.outcome
    node_told e same =
        told (state_of r e.name) (k + 1) a.outcome (tries_are_states choice script placed last is_last held k a is e.name same)

    shown_vertex : (u : ℕ) (e : Entry) → slice_get (entries_in r) u ≡ Some e → folds_same e.name a.name ≡ true
        → (i : ℕ) × (slice_get (shown_in r None) i ≡ Some u)
    shown_vertex u e at same =
        let node = (are_needs r None u e at).node in
        let state = (node_told e same).state in
        let taken : is_taken (whole_of r None).nodes u ≡ true =
        ap (λ (o : Option GraphNode). option_map_or (λ (n : GraphNode). is_entry n.kind && not (is_untaken n.state)) o false) node
        ∙ ap (λ (s : NodeState). not (is_untaken s)) state ∙ taken_after a.outcome in
        let shown : IsShown r None u = (all_shows r u).1 (inl taken) in
        let within = slice_get_within (whole_of r None).nodes u (entry_node r e) node in
        item_place (shown_in r None) u
        (filter_in (member (marks_of (whole_of r None) (whole_of r None).start)) (range_with_len 0 (length (whole_of r None).rows)) u
        (in_range (length (whole_of r None).rows) u (omega (arith, within, same_count r None))) shown)

    whole_is : graph_of r None ≡ drawn (whole_of r None)
    unfolding graph_of
    whole_is =
        ap (λ (b : Bool). cond b no_graph (drawn (whole_of r None))) (some_view r.views at_phase.at at_phase.view at_phase.there)

    -- another node with the number is of an entry of the name
    other_named : (j : ℕ) (n : GraphNode) → slice_get (graph_of r None).nodes j ≡ Some n → n.number ≡ k + 1
        → (is_entry n.kind ≡ true) × (folds_same n.name a.name ≡ true)
    other_named j n at number =
        let t = numbers_are choice script placed last is_last None n (item_here (graph_of r None).nodes j n at) k number in
        let all = names_tried (tries_in last.1) in
        let p = position-Some (folds_same n.name) all k [] t.tried.first in
        let named : slice_get all k ≡ Some a.name =
        slice_get-map (λ (x : Attempt). x.name) (tries_in last.1) k ∙ ap (option_map (λ (x : Attempt). x.name)) is in
        (t.entry, ap (folds_same n.name) (sym (get_or_from_slice_get all k a.name [] named)) ∙ p.1)

    one_node : HasOneNode (graph_of r None).nodes k a
    one_node =
        let v = vertex in
        let i = shown_vertex v.0 v.1 v.2 v.3 in
        let node = (are_needs r None v.0 v.1 v.2).node in
        let t = node_told v.1 v.3 in
        record {
          place = i.0;
          node = entry_node r v.1;
          here = ap (λ (g : Graph). slice_get g.nodes i.0) whole_is ∙ vertex_node r None i.0 v.0 (entry_node r v.1) i.1 node;
          entry = refl;
          named = names_flip a.name v.1.name ∙ v.3;
          number = t.number;
          state = t.state;
          one = λ j n at number.
              let o = other_named j n at number in
              let u = node_vertex r None j n (ap (λ (g : Graph). slice_get g.nodes j) (sym whole_is) ∙ at) in
              let e = entry_vertex r None u.0 n u.2 o.0 in
              let named : folds_same e.0.name a.name ≡ true = ap (λ (x : GraphNode). folds_same x.name a.name) e.2 ∙ o.1 in
              let same : folds_same e.0.name v.1.name ≡ true =
              alike e.0.name a.name named v.1.name ∙ names_flip a.name v.1.name ∙ v.3 in
              let vertices : u.0 ≡ v.0 = entries_own r are_named u.0 v.0 e.0 v.1 e.1 v.2 same in
              rising_once (shown_in r None) (shown_rises r None) j i.0 v.0 (u.1 ∙ ap (λ (x : ℕ). Some x) vertices) i.1;
        }

pub each_try_has_one_node : EachTryHasOneNode
each_try_has_one_node choice script placed last is_last held k a is = one_node choice script placed last is_last held k a is
