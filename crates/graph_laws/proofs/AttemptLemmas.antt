-- The numbers of nodes are those of attempts.
use Rattle.std.proofs.Common.{◌≡◌, ℕ, ◌+◌, ◌==◌, Bool, true, false, cond, List, [], ◌++◌, length, map, slice_get, Option, Some, None, refl, sym, ap, subst, ◌∙◌, ◌⊎◌, inl, inr, arith}
use Rattle.std.specs.Prelude.{Contains}
use Rattle.std.specs.Option.{option_to_list}
use Rattle.std.specs.List.{list_any, range_with_len}
use Rattle.std.proofs.lemmas.Bool.{false≢true}
use Rattle.std.proofs.lemmas.List.Elements.{Contains-append_cases}
use Rattle.report_words.specs.declared.words.TryWord.{TryWord}
use Rattle.report_words.specs.declared.words.TryWord.TheVariants as tries
use Rattle.boot_phases.specs.declared.error_control.outcome.Judgement.{Judgement}
use Rattle.boot_phases.specs.declared.error_control.outcome.Judgement.TheVariants as judgements
use Rattle.report_words.specs.declared.line.Line.{Line}
use Rattle.start_model.specs.Events.{Event}
use Rattle.start_model.specs.Possible.{Woken}
use Rattle.start_model.specs.Boot.{Choice}
use Rattle.start_model.specs.Quiet as book
use Rattle.wait_cycles.proofs.InverseLemmas.{none_in}
use Rattle.check_laws.proofs.ProperLaws.{only_in, flat_from}
use Rattle.check_laws.proofs.TakenLemmas.{item_here}
use Rattle.service_control.proofs.LeanLemmas.{mapped_from}
use Rattle.answer_lines.specs.declared.why_lines.lines.NameState.{NameState}
use Rattle.answer_lines.specs.declared.why_lines.lines.NameState.TheVariants as names
use Rattle.why_needs.specs.declared.why_state.views.ViewedRun.{ViewedRun}
use Rattle.why_needs.specs.why_state.States.{state_of}
use Rattle.why_laws.specs.why_laws.Reports.{last_start_in}
use Rattle.why_laws.specs.why_laws.States.{failed_as, attempt_in, TriedAt, view_from}
use Rattle.why_laws.proofs.StateLemmas.{attempt_reported}
use Rattle.answer_lines.specs.declared.graph_lines.graph.NodeState.{NodeState}
use Rattle.answer_lines.specs.declared.graph_lines.graph.NodeState.TheVariants as states
use Rattle.answer_lines.specs.declared.graph_lines.graph.GraphNode.{GraphNode}
use Rattle.start_model.specs.Entries.{Entry}
use Rattle.graph_rule.specs.Entries.{entries_in}
use Rattle.graph_rule.specs.Nodes.{node_state, node_number, entry_node, missing_node, group_node}
use Rattle.graph_rule.specs.Rows.{members_in, is_started_at, parts_by, group_state, whole_of}
use Rattle.graph_rule.specs.Shown.{is_entry, marks_of, numbers_from, number_at, node_at, drawn, graph_of}
use Rattle.graph_laws.specs.graph_laws.Attempts.{state_after, IsAttempt, NumberIsAttempt, AttemptHasNumber}

-- ---- the nodes that are shown

node_from : (ns : List GraphNode) (numbers : List ℕ) (v : ℕ) (node : GraphNode) → Contains (node_at ns numbers v) node
    → Contains ns node
node_from ns numbers v node c = by (number_at numbers v == 0) (slice_get ns v) refl c
  where
    by : (b : Bool) (o : Option GraphNode) → slice_get ns v ≡ o → Contains (cond b [] (option_to_list o)) node
        → Contains ns node
    by true o at c = absurd (none_in node c)
    by false None at c = absurd (none_in node c)
    by false (Some n) at c = subst (λ (x : GraphNode). Contains ns x) (only_in n node c) (item_here ns v n at)

shown_from : (r : ViewedRun) (of : Option (List ℕ)) (node : GraphNode) → Contains (graph_of r of).nodes node
    → Contains (whole_of r of).nodes node
unfolding graph_of
shown_from r of node c = by (length r.views == 0) c
  where
    numbers : List ℕ
    numbers = numbers_from 1 (marks_of (whole_of r of) (whole_of r of).start)

    by : (b : Bool) → Contains (cond b (record { nodes = []; edges = [] }) (drawn (whole_of r of))).nodes node
        → Contains (whole_of r of).nodes node
    by true c = absurd (none_in node c)
    by false c =
        let from = flat_from (node_at (whole_of r of).nodes numbers) (range_with_len 0 (length numbers)) node c in
        node_from (whole_of r of).nodes numbers from.0 node from.2

-- ---- each kind of node

-- of an entry, a missing name or a group
pub each_node : (P : GraphNode → Type 0) (r : ViewedRun) (of : Option (List ℕ)) → ((e : Entry) → P (entry_node r e))
    → ((name : List ℕ) → P (missing_node name))
    → ((b : Bool) (name : List ℕ) → P (group_node (cond b states.Started states.Unmet) name))
    → (node : GraphNode) → Contains (graph_of r of).nodes node → P node
unfolding whole_of
each_node P r of entry missing group node c =
    let p = parts_by r of (entries_in r) in
    let a = map (entry_node r) (entries_in r) in
    let b = map missing_node p.missing in
    let g = map (λ (name : List ℕ). group_node (group_state p name) name) p.groups in
    elim (Contains-append_cases (a ++ b) g node (shown_from r of node c)) [
      | inl front ↦ elim (Contains-append_cases a b node front) [
        | inl i ↦ (let e = mapped_from (entry_node r) (entries_in r) node i in subst P e.is (entry e.item))
        | inr i ↦ (let m = mapped_from missing_node p.missing node i in subst P m.is (missing m.item))
      ]
      | inr i ↦ (let m = mapped_from (λ (name : List ℕ). group_node (group_state p name) name) p.groups node i in
          subst P m.is (group (list_any (is_started_at p.nodes) (members_in p.members m.item)) m.item))
    ]

by_kind : (P : GraphNode → Type 0) (r : ViewedRun) (of : Option (List ℕ))
    → ((name : List ℕ) (s : NameState) → state_of r name ≡ s
    → (node : GraphNode) → is_entry node.kind ≡ true → node.name ≡ name → node.number ≡ node_number s → node.state
    ≡ node_state s → P node)
    → ((node : GraphNode) → is_entry node.kind ≡ false → node.number ≡ 0 → P node)
    → (node : GraphNode) → Contains (graph_of r of).nodes node → P node
by_kind P r of entry other node c =
    each_node P r of (λ e. entry e.name (state_of r e.name) refl (entry_node r e) refl refl refl refl)
    (λ name. other (missing_node name) refl refl)
    (λ b name. other (group_node (cond b states.Started states.Unmet) name) refl refl) node c

-- ---- attempts

failed_after : (judgement : Judgement) → states.Failed ≡ state_after (failed_as judgement)
failed_after judgements.Ignore = refl
failed_after judgements.Log = refl
failed_after judgements.FallBack = refl
failed_after judgements.Stop = refl

abbrev was_attempted : NodeState → Bool
was_attempted states.Started = true
was_attempted states.Failed = true
was_attempted states.Unmet = false
was_attempted states.NotReached = false
was_attempted states.Untaken = false
was_attempted states.NoEntry = false

attempted_after : (word : TryWord) → was_attempted (state_after word) ≡ true
attempted_after tries.Ok = refl
attempted_after tries.Ignored = refl
attempted_after tries.Logged = refl
attempted_after tries.FallBack = refl
attempted_after tries.Stop = refl

module _ (choice : Option ℕ → Choice) (script : List Event) (placed : Woken) (last : ℕ × List Line)
    (is_last : last_start_in (book.quiet_run_of choice script placed).lines ≡ Some last) where
  -- the state reports the attempt at a place
  record IsTold (name : List ℕ) (s : NameState) : Type 0 where
    place : ℕ
    number : node_number s ≡ place + 1
    word : TryWord
    tried : TriedAt last.1 name place word
    state : node_state s ≡ state_after word

  -- or of none
  abbrev Untold : NameState → Type 0
  Untold s = (node_number s ≡ 0) × (was_attempted (node_state s) ≡ false)

  told_or_not : (name : List ℕ) (s : NameState) → state_of (view_from choice script placed) name ≡ s
      → IsTold name s ⊎ Untold s
  told_or_not name names.NoPhase is = inr (refl, refl)
  told_or_not name (names.Started number) is =
      let t = attempt_reported choice script placed last is_last name number tries.Ok (ap attempt_in is) in
      inl (record { place = t.0; number = t.1; word = tries.Ok; tried = t.2; state = refl })
  told_or_not name (names.Failed number judgement) is =
      let t = attempt_reported choice script placed last is_last name number (failed_as judgement) (ap attempt_in is) in
      inl (record { place = t.0; number = t.1; word = failed_as judgement; tried = t.2; state = failed_after judgement })
  told_or_not name names.Unmet is = inr (refl, refl)
  told_or_not name (names.NotReached phase) is = inr (refl, refl)
  told_or_not name names.Late is = inr (refl, refl)
  told_or_not name (names.NotTaken reason) is = inr (refl, refl)

pub numbers_are : NumberIsAttempt
numbers_are choice script placed last is_last of node c =
    by_kind (λ (n : GraphNode). (k : ℕ) → n.number ≡ k + 1 → IsAttempt last.1 n k) (view_from choice script placed) of
    (λ name s is n entry named number state k at. elim (told_or_not choice script placed last is_last name s is) [
      | inl t ↦ (let same : t.place ≡ k = omega (arith, t.number, number, at) in record {
        entry = entry;
        word = t.word;
        tried = subst (λ (x : List ℕ). TriedAt last.1 x k t.word) (sym named)
            (subst (λ (j : ℕ). TriedAt last.1 name j t.word) same t.tried);
        state = state ∙ t.state;
      })
      | inr none ↦ absurd (omega (arith, none.0, number, at))
    ])
    (λ n other none k at. absurd (omega (arith, none, at))) node c

pub attempts_are : AttemptHasNumber
attempts_are choice script placed last is_last of node c =
    by_kind (λ (n : GraphNode). is_entry n.kind ≡ true → (word : TryWord) → n.state ≡ state_after word
    → (k : ℕ) × (n.number ≡ k + 1))
    (view_from choice script placed) of
    (λ name s is n entry named number state _ word after. elim
    (told_or_not choice script placed last is_last name s is) [
      | inl t ↦ (t.place, number ∙ t.number)
      | inr none ↦ absurd (false≢true (sym none.1 ∙ ap was_attempted (sym state ∙ after) ∙ attempted_after word))
    ])
    (λ n other none entry word after. absurd (false≢true (sym other ∙ entry))) node c
