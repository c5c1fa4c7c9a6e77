-- The class of one vertex more.
use Rattle.std.proofs.Common.{◌≡◌, ℕ, ◌+◌, ◌<◌, Bool, true, false, not, ◌&&◌, ◌||◌, nat_eq, List, length, filter, get_or, set, refl, sym, ap, ◌∙◌, ◌⊎◌, inl, inr, subst, arith}
use Rattle.std.specs.Prelude.{replicate, nat_lt, ◌≢◌}
use Rattle.std.proofs.lemmas.Bool.{cases_eq, cases_lt, cases_Bool, and_parts, and_from, both_ways, ltb-true, lt-ltb, eqb-true, eq-eqb, false_from_ne_true}
use Rattle.std.proofs.lemmas.List.{get_or-set_same, get_or-set_other, get_or-replicate, length-set, length-map, length-replicate}
use Rattle.start_model.specs.Demand.{member}
use Rattle.dependencies.proofs.PulledLemmas.{then_true, then_gives, same_bool}
use Rattle.wait_cycles.specs.Graph.{AreEdges, IsInverse, IsClosedFrom}
use Rattle.wait_cycles.specs.Classes.{leads_on, are_mutual, which, IsWalked, AreClasses, AddsClass, SayMutual}
use Rattle.wait_cycles.proofs.InverseLemmas.{edge_from}
use Rattle.wait_cycles.proofs.LeadLemmas.{on_one, on_more, on_both, on_least, on_least_back}
use Rattle.wait_cycles.proofs.WalkLemmas.{which_from, which_gives, which_within, kept_gives, kept_from}

pub edges_back : (rows back : List (List ℕ)) → IsInverse rows back → AreEdges back
edges_back rows back inv u v edge = omega (arith, edge_from rows v u (inv.only v u edge), inv.len)

pub classes_none : (rows : List (List ℕ)) (before classes : List ℕ) → before ≡ replicate (length rows) (length rows)
    → classes ≡ replicate (length rows) (length rows) → AreClasses rows before classes
classes_none rows before classes eb ec = record {
  len_before = ap length eb ∙ length-replicate (length rows) (length rows);
  len = ap length ec ∙ length-replicate (length rows) (length rows);
  linked = λ u v lu lv small e. absurd (omega (arith, small, at classes ec u lu));
  same = λ u v lu lv done m. absurd (done (at classes ec u lu));
  rooted = λ u lu small. absurd (omega (arith, small, at classes ec u lu));
  rooted_before = λ u lu small. absurd (omega (arith, small, at before eb u lu));
}
  where
    at : (xs : List ℕ) → xs ≡ replicate (length rows) (length rows) → (u : ℕ) → u < length rows
        → get_or xs u 0 ≡ length rows
    at xs e u lu = ap (λ (ys : List ℕ). get_or ys u 0) e ∙ get_or-replicate (length rows) u (length rows) 0 lu

-- each vertex below one more was looked at
pub done_more : (rows : List (List ℕ)) (root : ℕ) (old before new : List ℕ) → root < length rows
    → ((u : ℕ) → u < root → get_or old u 0 ≢ length rows) → AddsClass rows root old before new
    → (u : ℕ) → u < root + 1 → get_or new u 0 ≢ length rows
done_more rows root old before new lr below is u lt = elim (cases_lt u root) [
  | inl less ↦ is.kept u (omega (arith, less, lr)) (below u less)
  | inr ge ↦ (let e : root ≡ u = omega (arith, lt, ge) in
      subst (λ (k : ℕ). get_or new k 0 ≢ length rows) e (is.done lr))
]

-- where each vertex was looked at
pub say_mutual : (rows : List (List ℕ)) (before classes : List ℕ) → AreClasses rows before classes
    → ((u : ℕ) → u < length rows → get_or classes u 0 ≢ length rows) → SayMutual rows classes
say_mutual rows before classes is done = record {
  len = is.len;
  together = λ u v lu lv.
      (let below : Bool = nat_lt (get_or classes u 0) (length classes) in
      let equal : Bool = nat_eq (get_or classes u 0) (get_or classes v 0) in
      same_bool (below && equal) (are_mutual rows u v)
      (λ h. is.linked u v lu lv
      (omega (arith, ltb-true (get_or classes u 0) (length classes) (and_parts below equal h).0, is.len))
      (eqb-true (get_or classes u 0) (get_or classes v 0) (and_parts below equal h).1))
      (λ m. (let both = is.same u v lu lv (done u lu) m in
      and_from below equal (lt-ltb (get_or classes u 0) (length classes) (omega (arith, both.0, is.len)))
      (eq-eqb (get_or classes u 0) (get_or classes v 0) both.1))));
}

-- ---- one class

module _ (rows back : List (List ℕ)) (before classes : List ℕ) (root : ℕ) (edges : AreEdges rows)
    (inv : IsInverse rows back) (is : AreClasses rows before classes) (lr : root < length rows)
    (free : get_or classes root 0 ≡ length rows) where
  -- no vertex has the number of the root before
  pub before_unused : (v : ℕ) → member (which root before) v ≡ false
  before_unused v = false_from_ne_true (member (which root before) v) (λ on.
      (let lv : v < length rows = omega (arith, which_within root before v on, is.len_before) in
      let e : get_or before v 0 ≡ root = which_gives root before v on in
      is.rooted_before v lv (omega (arith, e, lr)) (ap (λ k. get_or classes k 0) e ∙ free)))

  -- the classes where the root is marked as on no cycle
  abbrev pub marked : List ℕ
  marked = set classes root (length rows + 1)

  pub classes_unused : (v : ℕ) → member (which root marked) v ≡ false
  classes_unused v = false_from_ne_true (member (which root marked) v) (λ on.
      (let lv : v < length rows = omega (
        arith,
        which_within root marked v on,
        length-set classes root (length rows + 1),
        is.len,
      ) in
      let e : get_or marked v 0 ≡ root = which_gives root marked v on in
      elim (cases_eq v root) [
        | inl here ↦ omega (
          arith,
          e,
          lr,
          ap (λ k. get_or marked k 0) here,
          get_or-set_same classes root (length rows + 1) 0 (omega (arith, lr, is.len)),
        )
        | inr there ↦ (let e' : get_or classes v 0 ≡ root =
            sym (get_or-set_other classes root v (length rows + 1) 0 there) ∙ e in
            is.rooted v lv (omega (arith, e', lr)) (ap (λ k. get_or classes k 0) e' ∙ free))
      ]))

  -- what is of one class with the root has none
  mutual_free : (v : ℕ) → v < length rows → leads_on rows root v ≡ true → leads_on rows v root ≡ true
      → member (which (length rows) classes) v ≡ true
  mutual_free v lv forth back' = which_from (length rows) classes v (omega (arith, lv, is.len)) (
      elim (cases_eq (get_or classes v 0) (length rows)) [
        | inl e ↦ e
        | inr ne ↦ (let both = is.same v root lv lr ne
            (and_from (leads_on rows v root) (leads_on rows root v) back' forth) in
            absurd (omega (arith, both.0, both.1, free)))
      ])

  module _ (before' classes' : List ℕ) (b : IsWalked back root (which (length rows) classes) before before')
      (f : IsWalked rows root (which root before') marked classes') where
    abbrev leading : ℕ → Bool
    leading = member (which root before')

    abbrev found : ℕ → Bool
    found = member (which root classes')

    leading_leads : (v : ℕ) → leading v ≡ true → leads_on rows v root ≡ true
    leading_leads v h = b.reach.least (λ x. leads_on rows x root) (record {
      begun = λ q e. on_one rows q root lr (inv.only q root (kept_gives (which (length rows) classes) back root q e).0);
      closed = λ m q in' e. (let e' = inv.only q m (kept_gives (which (length rows) classes) back m q e).0 in
          on_both rows q m root edges (edges q m e') lr (on_one rows q m (edges q m e') e') in');
    }) v h

    leading_all : (v : ℕ) → v < length rows → leads_on rows root v ≡ true → leads_on rows v root ≡ true
        → leading v ≡ true
    leading_all v lv forth back' = then_gives (leads_on rows root v) (leading v)
        (on_least_back rows back root v (λ x. not (leads_on rows root x) || leading x) inv lr lv back' closed) forth
      where
        closed : IsClosedFrom back root (λ x. not (leads_on rows root x) || leading x)
        closed = record {
          begun = λ q e. then_true (leads_on rows root q) (leading q) (λ to.
              (let e' = inv.only q root e in
              b.reach.closed.begun q (kept_from (which (length rows) classes) back root q e
              (mutual_free q (edge_from rows q root e') to (on_one rows q root lr e')))));
          closed = λ m q in' e. then_true (leads_on rows root q) (leading q) (λ to.
              (let e' = inv.only q m e in
              let lm = edges q m e' in
              let lq = edge_from rows q m e' in
              let here = then_gives (leads_on rows root m) (leading m) in' (on_more rows root q m lq lm to e') in
              b.reach.closed.closed m q here (kept_from (which (length rows) classes) back m q e
              (mutual_free q lq to
              (on_both rows q m root edges lm lr (on_one rows q m lm e') (leading_leads m here))))));
        }

    found_led : (v : ℕ) → found v ≡ true → leads_on rows root v ≡ true
    found_led v h = f.reach.least (leads_on rows root) (record {
      begun = λ q e. (let e' = (kept_gives (which root before') rows root q e).0 in
          on_one rows root q (edges root q e') e');
      closed = λ m q in' e. (let e' = (kept_gives (which root before') rows m q e).0 in
          on_more rows root m q (edge_from rows m q e') (edges m q e') in' e');
    }) v h

    found_leading : (v : ℕ) → found v ≡ true → leading v ≡ true
    found_leading v h = f.reach.least leading (record {
      begun = λ q e. (kept_gives (which root before') rows root q e).1;
      closed = λ m q in' e. (kept_gives (which root before') rows m q e).1;
    }) v h

    found_all : (v : ℕ) → v < length rows → leads_on rows root v ≡ true → leads_on rows v root ≡ true → found v ≡ true
    found_all v lv forth back' = then_gives (leads_on rows v root) (found v)
        (on_least rows root v (λ x. not (leads_on rows x root) || found x) lv forth closed) back'
      where
        closed : IsClosedFrom rows root (λ x. not (leads_on rows x root) || found x)
        closed = record {
          begun = λ q e. then_true (leads_on rows q root) (found q) (λ to.
              (let lq = edges root q e in
              f.reach.closed.begun q (kept_from (which root before') rows root q e
              (leading_all q lq (on_one rows root q lq e) to))));
          closed = λ m q in' e. then_true (leads_on rows q root) (found q) (λ to.
              (let lm = edge_from rows m q e in
              let lq = edges m q e in
              let here = then_gives (leads_on rows m root) (found m) in'
              (on_both rows m q root edges lq lr (on_one rows m q lq e) to) in
              f.reach.closed.closed m q here (kept_from (which root before') rows m q e
              (leading_all q lq (on_more rows root m q lm lq (found_led m here) e) to))));
        }

    found_leads : (v : ℕ) → found v ≡ true → leads_on rows v root ≡ true
    found_leads v h = leading_leads v (found_leading v h)

    len : length classes' ≡ length rows
    len = sym (length-map classes' (nat_eq root)) ∙ f.reach.len ∙ length-map rows (filter (member (which root before')))

    len_before : length before' ≡ length rows
    len_before = sym (length-map before' (nat_eq root)) ∙ b.reach.len
        ∙ length-map back (filter (member (which (length rows) classes))) ∙ inv.len

    unmarked : (v : ℕ) → v < length rows → found v ≡ false → get_or classes' v 0 ≡ get_or marked v 0
    unmarked v lv off = elim (f.puts v) [
      | inl e ↦ absurd (both_ways (found v) off (which_from root classes' v (omega (arith, lv, len)) e))
      | inr e ↦ e
    ]

    -- a vertex of the class, or the root where it is of none, or another vertex
    kind : (v : ℕ) → v < length rows → ((found v ≡ true) × (get_or classes' v 0 ≡ root))
        ⊎ (((found v ≡ false) × (v ≡ root) × (get_or classes' v 0 ≡ length rows + 1))
        ⊎ ((found v ≡ false) × (v ≢ root) × (get_or classes' v 0 ≡ get_or classes v 0)))
    kind v lv = elim (cases_Bool (found v)) [
      | inl on ↦ inl (on, which_gives root classes' v on)
      | inr off ↦ (elim (cases_eq v root) [
        | inl here ↦ inr (inl (
          off,
          here,
          unmarked v lv off ∙ ap (λ k. get_or marked k 0) here
              ∙ get_or-set_same classes root (length rows + 1) 0 (omega (arith, lr, is.len)),
        ))
        | inr there ↦ inr (inr (
          off,
          there,
          unmarked v lv off
              ∙ get_or-set_other classes root v (length rows + 1) 0 there,
        ))
      ])
    ]

    kept : (v : ℕ) → v < length rows → get_or classes v 0 ≢ length rows → get_or classes' v 0 ≢ length rows
    kept v lv done e = elim (kind v lv) [
      | inl a ↦ omega (arith, a.1, lr, e)
      | inr other ↦ (elim other [
        | inl h ↦ omega (arith, h.2, e)
        | inr t ↦ done (sym t.2 ∙ e)
      ])
    ]

    root_done : get_or classes' root 0 ≢ length rows
    root_done e = elim (kind root lr) [
      | inl a ↦ omega (arith, a.1, lr, e)
      | inr other ↦ (elim other [
        | inl h ↦ omega (arith, h.2, e)
        | inr t ↦ t.1 refl
      ])
    ]

    -- what isn't found doesn't lead to the root and back
    outside : (u : ℕ) → u < length rows → found u ≡ false → leads_on rows root u ≡ true → leads_on rows u root ≡ true → ⊥
    outside u lu off forth back' = both_ways (found u) off (found_all u lu forth back')

    outside_root : (u v : ℕ) → u < length rows → found u ≡ false → v ≡ root → leads_on rows v u ≡ true
        → leads_on rows u v ≡ true → ⊥
    outside_root u v lu off e forth back' = outside u lu off (subst (λ (k : ℕ). leads_on rows k u ≡ true) e forth)
        (subst (λ (k : ℕ). leads_on rows u k ≡ true) e back')

    linked : (u v : ℕ) → u < length rows → v < length rows → get_or classes' u 0 < length rows
        → get_or classes' u 0 ≡ get_or classes' v 0 → are_mutual rows u v ≡ true
    linked u v lu lv small e = elim (kind u lu) [
      | inl a ↦ (let on : found v ≡ true = which_from root classes' v (omega (arith, lv, len)) (sym e ∙ a.1) in
          and_from (leads_on rows u v) (leads_on rows v u)
          (on_both rows u root v edges lr lv (found_leads u a.0) (found_led v on))
          (on_both rows v root u edges lr lu (found_leads v on) (found_led u a.0)))
      | inr other ↦ (elim other [
        | inl h ↦ absurd (omega (arith, h.2, small))
        | inr t ↦ (elim (kind v lv) [
          | inl a ↦ absurd (is.rooted u lu (omega (arith, t.2, small))
              (ap (λ k. get_or classes k 0) (sym t.2 ∙ e ∙ a.1) ∙ free))
          | inr other' ↦ (elim other' [
            | inl h ↦ absurd (omega (arith, h.2, small, e))
            | inr t' ↦ is.linked u v lu lv (omega (arith, t.2, small)) (sym t.2 ∙ e ∙ t'.2)
          ])
        ])
      ])
    ]

    same : (u v : ℕ) → u < length rows → v < length rows → get_or classes' u 0 ≢ length rows → are_mutual rows u v ≡ true
        → (get_or classes' u 0 < length rows) × (get_or classes' u 0 ≡ get_or classes' v 0)
    same u v lu lv done m =
        let both = and_parts (leads_on rows u v) (leads_on rows v u) m in
        elim (kind u lu) [
          | inl a ↦ (let on : found v ≡ true = found_all v lv
              (on_both rows root u v edges lu lv (found_led u a.0) both.0)
              (on_both rows v u root edges lu lr both.1 (found_leads u a.0)) in
              (omega (arith, a.1, lr), a.1 ∙ sym (which_gives root classes' v on)))
          | inr other ↦ (elim other [
            | inl h ↦ (let loop : leads_on rows u u ≡ true = on_both rows u v u edges lv lu both.0 both.1 in
                absurd (outside_root u u lu h.0 h.1 loop loop))
            | inr t ↦ (let old = is.same u v lu lv (λ e. done (t.2 ∙ e)) m in
                elim (kind v lv) [
                  | inl a ↦ absurd (outside u lu t.0 (on_both rows root v u edges lv lu (found_led v a.0) both.1)
                      (on_both rows u v root edges lv lr both.0 (found_leads v a.0)))
                  | inr other' ↦ (elim other' [
                    | inl h ↦ absurd (outside_root u v lu t.0 h.1 both.1 both.0)
                    | inr t' ↦ (omega (arith, t.2, old.0), t.2 ∙ old.1 ∙ sym t'.2)
                  ])
                ])
          ])
        ]

    rooted : (u : ℕ) → u < length rows → get_or classes' u 0 < length rows
        → get_or classes' (get_or classes' u 0) 0 ≢ length rows
    rooted u lu small e = elim (kind u lu) [
      | inl a ↦ root_done (sym (ap (λ k. get_or classes' k 0) a.1) ∙ e)
      | inr other ↦ (elim other [
        | inl h ↦ omega (arith, h.2, small)
        | inr t ↦ kept (get_or classes u 0) (omega (arith, t.2, small)) (is.rooted u lu (omega (arith, t.2, small)))
            (sym (ap (λ k. get_or classes' k 0) t.2) ∙ e)
      ])
    ]

    rooted_before : (u : ℕ) → u < length rows → get_or before' u 0 < length rows
        → get_or classes' (get_or before' u 0) 0 ≢ length rows
    rooted_before u lu small e = elim (b.puts u) [
      | inl a ↦ root_done (sym (ap (λ k. get_or classes' k 0) a) ∙ e)
      | inr o ↦ kept (get_or before u 0) (omega (arith, o, small)) (is.rooted_before u lu (omega (arith, o, small)))
          (sym (ap (λ k. get_or classes' k 0) o) ∙ e)
    ]

    pub adds_class : AddsClass rows root classes before' classes'
    adds_class = record {
      classes = record {
        len_before = len_before;
        len = len;
        linked = linked;
        same = same;
        rooted = rooted;
        rooted_before = rooted_before;
      };
      kept = kept;
      done = λ within. root_done;
    }
