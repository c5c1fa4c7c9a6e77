-- The graph of a start is one that its text reports.
use Rattle.std.proofs.Common.{◌≡◌, ℕ, suc, ◌+◌, ◌==◌, not, Bool, true, false, cond, List, [], ◌∷◌, length, slice_get, Option, Some, None, refl, sym, ap, subst, ◌∙◌, arith}
use Rattle.std.specs.Prelude.{Contains, nat_lt}
use Rattle.std.specs.Option.{option_map, option_map_or, is_some}
use Rattle.std.specs.List.{AllByRecursion}
use Rattle.std.proofs.lemmas.Bool.{ne_eqb}
use Rattle.std.proofs.lemmas.Option.{same_Some, slice_get-map}
use Rattle.boot_phases.specs.declared.boot_phases.phase.Phase.{Phase}
use Rattle.boot_phases.specs.declared.boot_phases.phase.Phase.TheVariants as phases
use Rattle.report_words.specs.declared.words.TryWord.{TryWord}
use Rattle.report_words.specs.declared.words.TryWord.TheVariants as tries
use Rattle.wait_cycles.proofs.MetLemmas.{first_in, later_in}
use Rattle.answer_lines.specs.declared.why_lines.lines.NameState.{NameState}
use Rattle.answer_lines.specs.declared.why_lines.lines.NameState.TheVariants as names
use Rattle.why_needs.specs.declared.why_state.views.PhaseView.{PhaseView}
use Rattle.why_needs.specs.declared.why_state.views.ViewedRun.{ViewedRun}
use Rattle.boot_phases.specs.boot_phases.Phases.{phase_in}
use Rattle.boot_machine.specs.boot_machine.Codes.{phase_number}
use Rattle.why_needs.specs.why_state.States.{reason_of, place_in, first_coming, placed_of, attempt_upto, outcome_at, tried_as, waited, placed_state, coming_state, unplaced_state, state_by, state_of}
use Rattle.why_laws.specs.why_laws.States.{view_from}
use Rattle.answer_lines.specs.declared.graph_lines.graph.NodeKind.{NodeKind}
use Rattle.answer_lines.specs.declared.graph_lines.graph.NodeKind.TheVariants as kinds
use Rattle.answer_lines.specs.declared.graph_lines.graph.NodeState.TheVariants as states
use Rattle.answer_lines.specs.declared.graph_lines.graph.GraphNode.{GraphNode}
use Rattle.answer_lines.specs.declared.graph_lines.graph.GraphEdge.{GraphEdge}
use Rattle.graph_rule.specs.Nodes.{node_state, node_number, coming_phase, node_phase, group_node}
use Rattle.graph_rule.specs.Rows.{whole_of}
use Rattle.graph_rule.specs.Shown.{is_group, drawn, no_graph, graph_of}
use Rattle.graph_laws.specs.dot_laws.Forms.{suits, has_number, is_drawn_in, IsStartNode, is_group as is_group_kind, is_group_numbered, IsStartEdge}
use Rattle.graph_laws.specs.graph_laws.Shown.{shown_in}
use Rattle.graph_laws.specs.graph_laws.Told.{GraphIsOfStart}
use Rattle.graph_laws.proofs.AttemptLemmas.{each_node}
use Rattle.graph_laws.proofs.NumberLemmas.{nodes_are_shown, edges_are_shown}
use Rattle.graph_laws.proofs.BegunLemmas.{views_begun}

-- ---- states

-- the number is there exactly where the state reports an attempt
record IsNumbered (s : NameState) : Type 0 where
  number : (node_number s == 0) ≡ not (has_number kinds.Entry (node_state s))

either_of : {X Y : Type 0} (P : Y → Type 0) (f : X → Y) (d : Y) → ((x : X) → P (f x)) → P d → (o : Option X)
    → P (option_map_or f o d)
either_of P f d some none None = none
either_of P f d some none (Some x) = some x

one_of : {X : Type 0} (P : X → Type 0) (x y : X) → P x → P y → (b : Bool) → P (cond b x y)
one_of P x y a b true = a
one_of P x y a b false = b

unplaced_numbered : (r : ViewedRun) (name : List ℕ) → IsNumbered (unplaced_state r name)
unplaced_numbered r name =
    either_of IsNumbered (coming_state r) (names.NotTaken (reason_of r.run.set name))
    (λ phase. one_of IsNumbered names.Late (names.NotReached phase) (record { number = refl })
    (record { number = refl })
    (nat_lt (phase_number (phase_in phase)) (length r.views)))
    (record { number = refl }) (first_coming r.coming name)

waited_numbered : (v : PhaseView) → IsNumbered (waited v)
waited_numbered v = one_of IsNumbered names.Unmet (names.NotReached v.phase) (record { number = refl })
    (record { number = refl }) v.ended

some_number : (k : ℕ) → (k + 1 == 0) ≡ false
some_number k = ne_eqb (k + 1) 0 (λ e. omega (arith, e))

tried_numbered : (k : ℕ) (word : TryWord) → IsNumbered (tried_as (k + 1) word)
tried_numbered k tries.Ok = record { number = some_number k }
tried_numbered k tries.Ignored = record { number = some_number k }
tried_numbered k tries.Logged = record { number = some_number k }
tried_numbered k tries.FallBack = record { number = some_number k }
tried_numbered k tries.Stop = record { number = some_number k }

placed_numbered : (r : ViewedRun) (v : PhaseView) (name : List ℕ) → IsNumbered (placed_state r v name)
placed_numbered r v name =
    either_of IsNumbered (λ k. option_map_or (tried_as (k + 1)) (outcome_at r k) (waited v)) (waited v)
    (λ k. either_of IsNumbered (tried_as (k + 1)) (waited v) (tried_numbered k) (waited_numbered v) (outcome_at r k))
    (waited_numbered v)
    (attempt_upto r v.end name)

by_numbered : (r : ViewedRun) (name : List ℕ) (o : Option (ℕ × ℕ)) → IsNumbered (state_by r name o)
by_numbered r name None = unplaced_numbered r name
by_numbered r name (Some place) =
    either_of IsNumbered (λ v. placed_state r v name) (unplaced_state r name) (λ v. placed_numbered r v name)
    (unplaced_numbered r name)
    (slice_get r.views place.0)

numbered : (r : ViewedRun) (name : List ℕ) → IsNumbered (state_of r name)
numbered r name =
    one_of IsNumbered names.NoPhase (state_by r name (placed_of r name)) (record { number = refl })
    (by_numbered r name (placed_of r name))
    (length r.views == 0)

suits_entry : (s : NameState) → suits kinds.Entry (node_state s) ≡ true
suits_entry names.NoPhase = refl
suits_entry (names.Started number) = refl
suits_entry (names.Failed number judgement) = refl
suits_entry names.Unmet = refl
suits_entry (names.NotReached phase) = refl
suits_entry names.Late = refl
suits_entry (names.NotTaken reason) = refl

-- ---- phases

-- the phase that is to take a name is one of the three
abbrev IsComing : NameState → Type 0
IsComing s = is_drawn_in (coming_phase s) ≡ true

first_drawn : (a b c : Bool) → is_drawn_in
    (cond a (Some phases.Boot) (cond b (Some phases.System) (cond c (Some phases.Automatic) None))) ≡ true
first_drawn true b c = refl
first_drawn false true c = refl
first_drawn false false true = refl
first_drawn false false false = refl

unplaced_coming : (r : ViewedRun) (name : List ℕ) → IsComing (unplaced_state r name)
unplaced_coming r name =
    by (first_coming r.coming name)
    (first_drawn (is_some (place_in r.coming.boot name)) (is_some (place_in r.coming.system name))
    (is_some (place_in r.coming.automatic name)))
  where
    by : (o : Option Phase) → is_drawn_in o ≡ true
        → IsComing (option_map_or (coming_state r) o (names.NotTaken (reason_of r.run.set name)))
    by None is = refl
    by (Some phase) is =
        one_of IsComing names.Late (names.NotReached phase) refl is
        (nat_lt (phase_number (phase_in phase)) (length r.views))

module _ (r : ViewedRun) (begun : (at : ℕ) (v : PhaseView) → slice_get r.views at ≡ Some v → is_drawn_in (Some v.phase)
    ≡ true) where
  phase_drawn : (name : List ℕ) → is_drawn_in (node_phase r name (state_of r name)) ≡ true
  phase_drawn name = by (placed_of r name) refl
    where
      of_view : (at : ℕ) (o : Option PhaseView) → slice_get r.views at ≡ o
          → is_drawn_in (option_map (λ (v : PhaseView). v.phase) o) ≡ true
      of_view at None is = refl
      of_view at (Some v) is = begun at v is

      by : (o : Option (ℕ × ℕ)) → placed_of r name ≡ o
          → is_drawn_in (option_map_or (λ (place : ℕ × ℕ). option_map (λ (v : PhaseView). v.phase)
          (slice_get r.views place.0)) o
          (coming_phase (state_of r name))) ≡ true
      by None is =
          one_of IsComing names.NoPhase (state_by r name (placed_of r name)) refl
          (subst (λ (o : Option (ℕ × ℕ)). IsComing (state_by r name o)) (sym is) (unplaced_coming r name))
          (length r.views == 0)
      by (Some place) is = of_view place.0 (slice_get r.views place.0) refl

  -- ---- nodes

  group_is : (b : Bool) (name : List ℕ) → IsStartNode (group_node (cond b states.Started states.Unmet) name)
  group_is true name = record { suits = refl; phase = refl; number = refl }
  group_is false name = record { suits = refl; phase = refl; number = refl }

  node_is : (of : Option (List ℕ)) (node : GraphNode) → Contains (graph_of r of).nodes node → IsStartNode node
  node_is of =
      each_node IsStartNode r of
      (λ e. record {
        suits = suits_entry (state_of r e.name);
        phase = phase_drawn e.name;
        number = (numbered r e.name).number;
      })
      (λ name. record { suits = refl; phase = refl; number = refl }) group_is

-- ---- edges

all_from : {X : Type 0} (P : X → Type 0) (xs : List X) → ((x : X) → Contains xs x → P x) → AllByRecursion P xs
all_from P [] f = tt
all_from P (x ∷ xs) f = (f x (first_in x xs), all_from P xs (λ y i. f y (later_in x xs y i)))

same_group : (kind : NodeKind) → is_group kind ≡ is_group_kind kind
same_group kinds.Entry = refl
same_group kinds.Missing = refl
same_group kinds.Group = refl

-- where the node at a place is that of a vertex
same_node : (o q : Option GraphNode) → option_map (λ (node : GraphNode). Some node) o ≡ Some q → o ≡ q
same_node None q is = absurd cc
same_node (Some node) q is = same_Some (Some node) q is

group_same : (o : Option GraphNode) → option_map_or (λ (n : GraphNode). is_group n.kind) o false
    ≡ option_map_or (λ (n : GraphNode). is_group_kind n.kind) o false
group_same None = refl
group_same (Some n) = same_group n.kind

edge_is : (r : ViewedRun) (of : Option (List ℕ)) (e : GraphEdge) → Contains (drawn (whole_of r of)).edges e
    → IsStartEdge (drawn (whole_of r of)).nodes e
edge_is r of e c =
    let nodes : List GraphNode = (drawn (whole_of r of)).nodes in
    let all : List GraphNode = (whole_of r of).nodes in
    let s = (edges_are_shown r of e).0 c in
    let at : option_map (λ (node : GraphNode). Some node) (slice_get nodes s.i) ≡ Some (slice_get all s.u) =
    sym (slice_get-map (λ (node : GraphNode). Some node) nodes s.i)
    ∙ ap (λ (os : List (Option GraphNode)). slice_get os s.i) (nodes_are_shown r of)
    ∙ slice_get-map (slice_get all) (shown_in r of) s.i ∙ ap (option_map (slice_get all)) s.first in
    let node = same_node (slice_get nodes s.i) (slice_get all s.u) at in
    let next : s.i + 1 ≡ suc s.i = omega arith in
    ap (λ (x : GraphEdge). x.of_group) s.is ∙ group_same (slice_get all s.u)
    ∙ ap (λ (o : Option GraphNode). option_map_or (λ (n : GraphNode). is_group_kind n.kind) o false) (sym node)
    ∙ ap (is_group_numbered nodes) (sym next) ∙ ap (λ (x : GraphEdge). is_group_numbered nodes x.from) (sym s.is)

edges_are : (r : ViewedRun) (of : Option (List ℕ))
    → AllByRecursion (IsStartEdge (graph_of r of).nodes) (graph_of r of).edges
unfolding graph_of
edges_are r of = by (length r.views == 0)
  where
    by : (b : Bool) → AllByRecursion (IsStartEdge (cond b no_graph (drawn (whole_of r of))).nodes)
        (cond b no_graph (drawn (whole_of r of))).edges
    by true = tt
    by false = all_from (IsStartEdge (drawn (whole_of r of)).nodes) (drawn (whole_of r of)).edges (edge_is r of)

pub is_of_start : GraphIsOfStart
is_of_start choice script placed of =
    let r = view_from choice script placed in
    record {
      nodes = all_from IsStartNode (graph_of r of).nodes (node_is r (views_begun choice script placed) of);
      edges = edges_are r of;
    }
