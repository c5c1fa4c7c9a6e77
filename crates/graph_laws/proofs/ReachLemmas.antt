-- What is shown of a name is what it reaches, and what reaches it.
use Rattle.std.proofs.Common.{◌≡◌, ℕ, zero, suc, ◌+◌, ◌<◌, Bool, true, false, not, nat_eq, ◌&&◌, ◌||◌, List, [], ◌++◌, length, map, set, slice_get, Option, Some, None, refl, sym, ap, subst, ◌∙◌, ◌⊎◌, inl, inr, arith}
use Rattle.std.specs.Prelude.{count_by, replicate, IfSome}
use Rattle.std.specs.Option.{option_map_or}
use Rattle.std.specs.List.{list_any, list_all, range_with_len}
use Rattle.std.proofs.lemmas.Bool.{false≢true, cases_Bool, and_parts, and_from, or_cases, or_left, or_right, eqb-true, eq-eqb}
use Rattle.std.proofs.lemmas.Cmp.{nat_eq_equiv}
use Rattle.std.proofs.lemmas.List.{length-append, length-map, length-set, length-replicate}
use Rattle.std.proofs.lemmas.List.FromFn.{length-map-range_with_len}
use Rattle.std.proofs.lemmas.Map.Views.{Contains-from_any, list_any-from_Contains}
use Rattle.std.proofs.lemmas.Option.{slice_get_within}
use Rattle.start_model.specs.Demand.{member, all_sets}
use Rattle.dependencies.proofs.PulledLemmas.{then_gives, sets_have, listed_member, any_below}
use Rattle.dependencies.proofs.KeptLemmas.{within_waits}
use Rattle.wait_cycles.specs.Waits.{is_next, is_closed_from, comes_to}
use Rattle.wait_cycles.specs.Graph.{row_at, HasEdge, AreEdges}
use Rattle.wait_cycles.proofs.InverseLemmas.{edge_from}
use Rattle.wait_cycles.proofs.ReachLemmas.{member_none, one_fewer, set_mark}
use Rattle.wait_cycles.proofs.MetLemmas.{any_gives, range_in}
use Rattle.wait_cycles.proofs.CycleLemmas.{IsClosedBy, comes_from, not_all}
use Rattle.why_needs.specs.declared.why_state.views.ViewedRun.{ViewedRun}
use Rattle.graph_rule.specs.Entries.{entries_in}
use Rattle.graph_rule.specs.Nodes.{entry_node, missing_node, group_node}
use Rattle.graph_rule.specs.Rows.{parts_by, entry_row, is_untaken, group_row, group_state, whole_by, whole_of}
use Rattle.answer_lines.specs.declared.graph_lines.graph.GraphNode.{GraphNode}
use Rattle.graph_rule.specs.Shown.{is_entry, is_taken, leads, is_shown_of_all, is_shown_about, marks_of}
use Rattle.graph_rule.proofs.EdgeLemmas.{edges_whole, start_whole}
use Rattle.graph_laws.specs.graph_laws.Shown.{AreLed, Reaches, NameShowsReach, AllShowsTaken}

leads_edge : (rows : List (List ℕ)) (u v : ℕ) → leads rows u v ≡ true → HasEdge rows u v
leads_edge rows u v h = Contains-from_any eqb-true v (row_at rows u) h

edge_leads : (rows : List (List ℕ)) (u v : ℕ) → HasEdge rows u v → leads rows u v ≡ true
edge_leads rows u v edge = list_any-from_Contains nat_eq_equiv v (row_at rows u) edge

not_then : (a b : Bool) → (not a || b) ≡ false → (a ≡ true) × (b ≡ false)
not_then true b is = (refl, is)
not_then false b is = absurd (false≢true (sym is))

-- ---- a closed set that has no more than edges lead to

module _ (rows : List (List ℕ)) (s : ℕ) where
  -- edges lead to it, one at least
  abbrev IsLed : ℕ → Type 0
  IsLed v = (k : ℕ) × AreLed rows (suc k) s v

  record IsHonest (marks : List Bool) : Type 0 where
    len : length marks ≡ length rows
    led : (v : ℕ) → member marks v ≡ true → IsLed v

  next_led : (marks : List Bool) → IsHonest marks → (q : ℕ) → is_next (leads rows) (length rows) s (member marks) q
      ≡ true → IsLed q
  next_led marks honest q next =
      let on : ℕ → Bool = λ m. member marks m && leads rows m q in
      elim (or_cases (leads rows s q) (list_any on (range_with_len 0 (length rows))) next) [
        | inl st ↦ (0, (s, refl, leads_edge rows s q st))
        | inr any ↦ (let m = any_gives on (range_with_len 0 (length rows)) any in
            let both = and_parts (member marks m.0) (leads rows m.0 q) m.2 in
            let far = honest.led m.0 both.0 in
            (suc far.0, (m.0, far.1, leads_edge rows m.0 q both.1)))
      ]

  -- with one more mark
  more_honest : (marks : List Bool) → IsHonest marks → (q : ℕ) → IsLed q → IsHonest (set marks q true)
  more_honest marks honest q led = record {
    len = length-set marks q true ∙ honest.len;
    led = λ v on. elim (set_mark marks q v on) [
      | inl old ↦ honest.led v old
      | inr e ↦ subst IsLed (sym e) led
    ];
  }

  abbrev Closed : Type 0
  Closed = (marks : List Bool) × IsHonest marks × (is_closed_from (leads rows) (length rows) s (member marks) ≡ true)

  closing : (k : ℕ) (marks : List Bool) → IsHonest marks → count_by not marks < k → Closed
  closing zero marks honest lt = absurd (omega (arith, lt))
  closing (suc k) marks honest lt = elim (cases_Bool (is_closed_from (leads rows) (length rows) s (member marks))) [
    | inl on ↦ (marks, honest, on)
    | inr off ↦ (let kept : ℕ → Bool = λ q. not
        (is_next (leads rows) (length rows) s (member marks) q) || member marks q in
        let q = not_all kept (range_with_len 0 (length rows)) off in
        let both = not_then (is_next (leads rows) (length rows) s (member marks) q.0) (member marks q.0) q.2 in
        let within : q.0 < length marks = omega (arith, range_in (length rows) q.0 q.1, honest.len) in
        closing k (set marks q.0 true) (more_honest marks honest q.0 (next_led marks honest q.0 both.0))
        (omega (arith, one_fewer marks q.0 within both.1, lt)))
  ]

  closed : Closed
  closed =
      let none = replicate (length rows) false in
      closing (count_by not none + 1) none (record {
        len = length-replicate {A = Bool} (length rows) false;
        led = λ v on. absurd (false≢true (sym (member_none (length rows) v) ∙ on));
      }) (omega arith)

  comes_led : (v : ℕ) → comes_to (leads rows) (length rows) s v ≡ true → IsLed v
  unfolding comes_to
  comes_led v comes =
      let test : List Bool → Bool = λ marks. not
      (is_closed_from (leads rows) (length rows) s (member marks)) || member marks v in
      let all = ap (λ (n : ℕ). list_all test (all_sets n)) closed.1.len ∙ comes in
      closed.1.led v (then_gives (is_closed_from (leads rows) (length rows) s (member closed.0)) (member closed.0 v)
      (sets_have test closed.0 all) closed.2)

  led_comes : AreEdges rows → (k v : ℕ) → AreLed rows (suc k) s v → comes_to (leads rows) (length rows) s v ≡ true
  led_comes edges k v led = comes_from (leads rows) (length rows) s v (λ marks by. inside marks by k v led)
    where
      inside : (marks : List Bool) → IsClosedBy (leads rows) (length rows) s (member marks) → (k v : ℕ)
          → AreLed rows (suc k) s v
          → member marks v ≡ true
      inside marks by zero v (w, e, edge) =
          by.begun v (edges w v edge) (ap (λ (u : ℕ). leads rows u v) e ∙ edge_leads rows w v edge)
      inside marks by (suc k) v (w, led, edge) =
          by.closed w v (edge_from rows w v edge) (edges w v edge) (inside marks by k w led) (edge_leads rows w v edge)

-- ---- what is shown of a name

led_within : (rows : List (List ℕ)) → AreEdges rows → (k u v : ℕ) → AreLed rows (suc k) u v → v < length rows
led_within rows edges k u v led = edges led.0 v led.2

led_from : (rows : List (List ℕ)) (k u v : ℕ) → AreLed rows (suc k) u v → u < length rows
led_from rows zero u v (w, e, edge) = edge_from rows u v (subst (λ (x : ℕ). HasEdge rows x v) (sym e) edge)
led_from rows (suc k) u v (w, led, edge) = led_from rows k u w led

marked_below : (test : ℕ → Bool) (n v : ℕ) → member (map test (range_with_len 0 n)) v ≡ true → v < n
marked_below test n v on =
    omega (arith, within_waits (map test (range_with_len 0 n)) v on, length-map-range_with_len test 0 n)

module _ (rows : List (List ℕ)) (edges : AreEdges rows) (s : ℕ) (within : s < length rows) where
  abbrev Shown : ℕ → Type 0
  Shown v = member (map (is_shown_about rows s) (range_with_len 0 (length rows))) v ≡ true

  shown_reaches : (v : ℕ) → Shown v → Reaches rows s v ⊎ Reaches rows v s
  shown_reaches v on =
      let lt = marked_below (is_shown_about rows s) (length rows) v on in
      let is : is_shown_about rows s v ≡ true = sym (listed_member (is_shown_about rows s) (length rows) v lt) ∙ on in
      let forth = comes_to (leads rows) (length rows) s v in
      let back = comes_to (leads rows) (length rows) v s in
      elim (or_cases (nat_eq s v) (forth || back) is) [
        | inl e ↦ inl (0, eqb-true s v e)
        | inr either ↦ elim (or_cases forth back either) [
          | inl h ↦ (let led = comes_led rows s v h in inl (suc led.0, led.1))
          | inr h ↦ (let led = comes_led rows v s h in inr (suc led.0, led.1))
        ]
      ]

  mark_of : (v : ℕ) → v < length rows → is_shown_about rows s v ≡ true → Shown v
  mark_of v lt is = listed_member (is_shown_about rows s) (length rows) v lt ∙ is

  itself : (v : ℕ) → s ≡ v → Shown v
  itself v e =
      mark_of v (omega (arith, within, e))
      (or_left (nat_eq s v) (comes_to (leads rows) (length rows) s v || comes_to (leads rows) (length rows) v s)
      (eq-eqb s v e))

  reaching_shown : (v : ℕ) → Reaches rows s v ⊎ Reaches rows v s → Shown v
  reaching_shown v (inl (zero, e)) = itself v e
  reaching_shown v (inl (suc k, led)) =
      let forth = comes_to (leads rows) (length rows) s v in
      let back = comes_to (leads rows) (length rows) v s in
      mark_of v (led_within rows edges k s v led)
      (or_right (nat_eq s v) (forth || back) (or_left forth back (led_comes rows s edges k v led)))
  reaching_shown v (inr (zero, e)) = itself v (sym e)
  reaching_shown v (inr (suc k, led)) =
      let forth = comes_to (leads rows) (length rows) s v in
      let back = comes_to (leads rows) (length rows) v s in
      mark_of v (led_from rows k v s led)
      (or_right (nat_eq s v) (forth || back) (or_right forth back (led_comes rows v edges k s led)))

-- ---- graphs of starts

edges_are : (r : ViewedRun) (of : Option (List ℕ)) → AreEdges (whole_of r of).rows
unfolding whole_of
edges_are r of = edges_whole r of (entries_in r) (whole_by (parts_by r of (entries_in r)) of) refl

start_within : (r : ViewedRun) (of : Option (List ℕ)) (s : ℕ) → (whole_of r of).start ≡ Some s
    → s < length (whole_of r of).rows
unfolding whole_of
start_within r of s is =
    let w = whole_by (parts_by r of (entries_in r)) of in
    subst (λ (o : Option ℕ). IfSome o (λ v. v < length w.rows)) is (start_whole r of (entries_in r) w refl)

pub name_shows : NameShowsReach
name_shows r name s is v =
    let w = whole_of r (Some name) in
    let marks = ap (λ (o : Option ℕ). marks_of w o) is in
    let edges = edges_are r (Some name) in
    let within = start_within r (Some name) s is in (
      λ on. shown_reaches w.rows edges s within v (sym (ap (λ (m : List Bool). member m v) marks) ∙ on),
      λ reach. ap (λ (m : List Bool). member m v) marks ∙ reaching_shown w.rows edges s within v reach,
    )

-- ---- without a name

-- each vertex has a node and a row
pub same_count : (r : ViewedRun) (of : Option (List ℕ)) → length (whole_of r of).nodes ≡ length (whole_of r of).rows
unfolding whole_of
same_count r of =
    let es = entries_in r in
    let p = parts_by r of es in
    let group : List ℕ → GraphNode = λ name. group_node (group_state p name) name in
    let none : List ℕ → List ℕ = λ name. [] in
    let a = map (entry_node r) es in
    let b = map missing_node p.missing in
    let x = map (entry_row p) es in
    let y = map none p.missing in
    omega (
      arith,
      length-append (a ++ b) (map group p.groups),
      length-append a b,
      length-map es (entry_node r),
      length-map p.missing missing_node,
      length-map p.groups group,
      length-append (x ++ y) (map (group_row p of) p.groups),
      length-append x y,
      length-map es (entry_row p),
      length-map p.missing none,
      length-map p.groups (group_row p of),
    )

taken_within : (nodes : List GraphNode) (v : ℕ) → is_taken nodes v ≡ true → v < length nodes
taken_within nodes v on = by (slice_get nodes v) refl on
  where
    by : (o : Option GraphNode) → slice_get nodes v ≡ o
        → option_map_or (λ (n : GraphNode). is_entry n.kind && not (is_untaken n.state)) o false ≡ true
        → v < length nodes
    by None is on = absurd (false≢true on)
    by (Some n) is on = slice_get_within nodes v n is

no_start : (r : ViewedRun) → (whole_of r None).start ≡ None
unfolding whole_of
no_start r = refl

pub all_shows : AllShowsTaken
all_shows r v =
    let w = whole_of r None in
    let test : ℕ → Bool = is_shown_of_all w.nodes w.rows in
    let by : ℕ → Bool = λ u. is_taken w.nodes u && leads w.rows u v in
    let marks = ap (λ (o : Option ℕ). member (marks_of w o) v) (no_start r) in (
      λ on.
          let marked : member (map test (range_with_len 0 (length w.rows))) v ≡ true = sym marks ∙ on in
          let lt = marked_below test (length w.rows) v marked in
          let is : test v ≡ true = sym (listed_member test (length w.rows) v lt) ∙ marked in
          elim (or_cases (is_taken w.nodes v) (list_any by (range_with_len 0 (length w.rows))) is) [
            | inl taken ↦ inl taken
            | inr any ↦ (let u = any_gives by (range_with_len 0 (length w.rows)) any in
                let both = and_parts (is_taken w.nodes u.0) (leads w.rows u.0 v) u.2 in
                inr (u.0, both.0, leads_edge w.rows u.0 v both.1))
          ],
      λ either. marks ∙ elim either [
        | inl taken ↦ listed_member test (length w.rows) v
            (omega (arith, taken_within w.nodes v taken, same_count r None))
            ∙ or_left (is_taken w.nodes v) (list_any by (range_with_len 0 (length w.rows))) taken
        | inr u ↦ listed_member test (length w.rows) v (edges_are r None u.0 v u.2)
            ∙ or_right (is_taken w.nodes v) (list_any by (range_with_len 0 (length w.rows)))
            (any_below by (length w.rows) u.0 (edge_from w.rows u.0 v u.2)
            (and_from (is_taken w.nodes u.0) (leads w.rows u.0 v) u.1 (edge_leads w.rows u.0 v u.2)))
      ],
    )
