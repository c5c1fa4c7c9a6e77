-- The places that aren't met are the stuck ones, and what is left of the edges leads as they do.
use Rattle.std.proofs.Common.{◌≡◌, ℕ, zero, suc, ◌<◌, ◌≤◌, Bool, true, false, not, nat_eq, ◌&&◌, ◌||◌, List, [], ◌∷◌, length, take, map, filter, get_or, cond, refl, sym, ap, ◌∙◌, inl, inr, subst, arith}
use Rattle.std.specs.Prelude.{Contains, nat_lt}
use Rattle.std.specs.List.{list_any, list_all, range_with_len}
use Rattle.std.proofs.lemmas.Bool.{false≢true, cases_lt, cases_Bool, and_parts, and_from, eqb-true, lt-ltb, le-ltb, not-true}
use Rattle.std.proofs.lemmas.Cmp.{nat_eq_equiv}
use Rattle.std.proofs.lemmas.Map.Views.{Contains-from_any, list_any-from_Contains}
use Rattle.std.proofs.lemmas.List.{get_or-take, length-map, length-take-le}
use Rattle.std.proofs.lemmas.List.FromFn.{length-map-range_with_len}
use Rattle.start_model.specs.Demand.{member, all_sets}
use Rattle.dependencies.proofs.PulledLemmas.{then_true, then_gives, same_bool, all_below, listed_member}
use Rattle.wait_cycles.specs.Waits.{needs_at, is_held, holds_itself, is_stuck}
use Rattle.wait_cycles.specs.Graph.{row_at, HasEdge, AreWaits, waits_in, is_ripe, IsMetBy, IsMet, left_rows, AreLeads}
use Rattle.wait_cycles.proofs.MetLemmas.{all_from, all_gives, any_gives, any_from, range_in, ripe_by_all, ripe_by_one, ripe_all, ripe_one, ripe_weaker}
use Rattle.wait_cycles.proofs.CycleLemmas.{any_map, not_all, some_set, filter_in, filter_out}

-- ---- what the needs of a place are

length-waits_in : (rows : List (List ℕ)) (places : ℕ) → places ≤ length rows → length (waits_in places rows) ≡ places
length-waits_in rows places fits =
    length-map (take places rows) (λ needs. map (row_at rows) needs) ∙ length-take-le places rows fits

mapped_at : {X Y : Type 0} (f : X → Y) (xs : List X) (i : ℕ) (d : X) (e : Y) → i < length xs
    → get_or (map f xs) i e ≡ f (get_or xs i d)
mapped_at f [] i d e lt = absurd (omega (arith, lt))
mapped_at f (x ∷ xs) zero d e lt = refl
mapped_at f (x ∷ xs) (suc i) d e lt = mapped_at f xs i d e (omega (arith, lt))

needs_are : (rows : List (List ℕ)) (places p : ℕ) → places ≤ length rows → p < places
    → needs_at (waits_in places rows) p ≡ map (row_at rows) (row_at rows p)
needs_are rows places p fits lt =
    mapped_at (λ needs. map (row_at rows) needs) (take places rows) p [] []
    (omega (arith, lt, length-take-le places rows fits))
    ∙ ap (map (row_at rows)) (get_or-take places rows p [] lt)

-- a test on the needs of a place
any_need : (rows : List (List ℕ)) (places p : ℕ) (test : List ℕ → Bool) → places ≤ length rows → p < places
    → list_any test (needs_at (waits_in places rows) p) ≡ list_any (λ v. test (row_at rows v)) (row_at rows p)
any_need rows places p test fits lt =
    ap (list_any test) (needs_are rows places p fits lt) ∙ any_map test (row_at rows) (row_at rows p)

held_gives : (rows : List (List ℕ)) (places p : ℕ) (set : ℕ → Bool) → places ≤ length rows → p < places
    → is_held (waits_in places rows) set p ≡ true
    → (v : ℕ) × HasEdge rows p v × ((q : ℕ) → HasEdge rows v q → set q ≡ true)
held_gives rows places p set fits lt h =
    let r = any_gives (λ v. list_all set (row_at rows v)) (row_at rows p)
    (sym (any_need rows places p (λ ways. list_all set ways) fits lt) ∙ h) in
    (r.0, r.1, λ q edge. all_gives set (row_at rows r.0) q r.2 edge)

held_from : (rows : List (List ℕ)) (places p v : ℕ) (set : ℕ → Bool) → places ≤ length rows → p < places
    → HasEdge rows p v → ((q : ℕ) → HasEdge rows v q → set q ≡ true) → is_held (waits_in places rows) set p ≡ true
held_from rows places p v set fits lt edge f =
    any_need rows places p (λ ways. list_all set ways) fits lt
    ∙ any_from (λ v. list_all set (row_at rows v)) (row_at rows p) v edge (all_from set (row_at rows v) f)

-- ---- what is met

-- the places outside of a set, and the needs that have a way there
covered : List (List ℕ) → ℕ → List Bool → ℕ → Bool
covered rows places s v = cond (nat_lt v places) (not (member s v)) (list_any (λ q. not (member s q)) (row_at rows v))

covered_place : (rows : List (List ℕ)) (places : ℕ) (s : List Bool) (v : ℕ) → v < places
    → covered rows places s v ≡ not (member s v)
unfolding covered
covered_place rows places s v lt =
    ap (λ b. cond b (not (member s v)) (list_any (λ q. not (member s q)) (row_at rows v))) (lt-ltb v places lt)

covered_need : (rows : List (List ℕ)) (places : ℕ) (s : List Bool) (v : ℕ) → places ≤ v
    → covered rows places s v ≡ list_any (λ q. not (member s q)) (row_at rows v)
unfolding covered
covered_need rows places s v ge =
    ap (λ b. cond b (not (member s v)) (list_any (λ q. not (member s q)) (row_at rows v))) (le-ltb v places ge)

module _ (rows : List (List ℕ)) (places : ℕ) (marks : List Bool) (waits : AreWaits places rows) (met : IsMet rows places marks) where
  -- what is marked is met by what is marked
  met_ripe : (u : ℕ) → member marks u ≡ true → is_ripe rows places (member marks) u ≡ true
  met_ripe u on = (and_parts (member marks u) (is_ripe rows places (member marks) u)
      (met.least (λ x. member marks x && is_ripe rows places (member marks) x) (λ x lt ripe.
      (let ripe' : is_ripe rows places (member marks) x ≡ true =
      ripe_weaker rows places (λ x. member marks x && is_ripe rows places (member marks) x) (member marks) x
      (λ v edge both. (and_parts (member marks v) (is_ripe rows places (member marks) v) both).0) ripe in
      and_from (member marks x) (is_ripe rows places (member marks) x) (met.closed x lt ripe') ripe')) u on)).1

  -- the ways of a need that isn't met aren't met
  unmet_ways : (v q : ℕ) → places ≤ v → v < length rows → member marks v ≡ false → HasEdge rows v q
      → member marks q ≡ false
  unmet_ways v q ge lt off edge = elim (cases_Bool (member marks q)) [
    | inl on ↦ absurd (false≢true (sym off ∙ met.closed v lt (ripe_by_one rows places (member marks) v q ge edge on)))
    | inr off ↦ off
  ]

  -- a need none of whose ways is met isn't met
  unmet_need : (v : ℕ) → places ≤ v → ((q : ℕ) → HasEdge rows v q → member marks q ≡ false) → member marks v ≡ false
  unmet_need v ge f = elim (cases_Bool (member marks v)) [
    | inl on ↦ (let r = ripe_one rows places (member marks) v ge (met_ripe v on) in
        absurd (false≢true (sym (f r.0 r.1) ∙ r.2)))
    | inr off ↦ off
  ]

  -- no place of a set that holds itself is met
  held_unmet : (s : List Bool) → holds_itself (waits_in places rows) (member s) ≡ true → (p : ℕ) → p < places
      → member s p ≡ true → member marks p ≡ false
  held_unmet s holds p lp in' = elim (cases_Bool (member marks p)) [
    | inl on ↦ absurd (false≢true (sym (ap not in') ∙ sym (cover_place p lp) ∙ met.least (covered rows places s) by p on))
    | inr off ↦ off
  ]
    where
      cover_place : (v : ℕ) → v < places → covered rows places s v ≡ not (member s v)
      cover_place = covered_place rows places s

      cover_need : (v : ℕ) → places ≤ v → covered rows places s v ≡ list_any (λ q. not (member s q)) (row_at rows v)
      cover_need = covered_need rows places s

      held : (u : ℕ) → u < places → member s u ≡ true → is_held (waits_in places rows) (member s) u ≡ true
      held u lt on =
          then_gives (member s u) (is_held (waits_in places rows) (member s) u)
          (all_below (λ p. not (member s p) || is_held (waits_in places rows) (member s) p)
          (length (waits_in places rows)) u (omega (arith, lt, length-waits_in rows places waits.fits)) holds) on

      by : IsMetBy rows places (covered rows places s)
      by u lt ripe = elim (cases_lt u places) [
        | inl small ↦ cover_place u small ∙ (elim (cases_Bool (member s u)) [
          | inl on ↦ (let r = held_gives rows places u (member s) waits.fits small (held u small on) in
              let ge = (waits.needs u r.0 small r.1).0 in
              let some = any_gives (λ q. not (member s q)) (row_at rows r.0)
              (sym (cover_need r.0 ge) ∙ ripe_all rows places (covered rows places s) u r.0 small ripe r.1) in
              absurd (false≢true (sym (ap not (r.2 some.0 some.1)) ∙ some.2)))
          | inr off ↦ ap not off
        ])
        | inr ge ↦ (let r = ripe_one rows places (covered rows places s) u ge ripe in
            cover_need u ge ∙ any_from (λ q. not (member s q)) (row_at rows u) r.0 r.1
            (sym (cover_place r.0 (waits.ways u r.0 ge r.1)) ∙ r.2))
      ]

  -- the places that aren't met
  unmet : List Bool
  unmet = map (λ q. not (member marks q)) (range_with_len 0 places)

  unmet_is : (q : ℕ) → q < places → member unmet q ≡ not (member marks q)
  unfolding unmet
  unmet_is q lt = listed_member (λ q. not (member marks q)) places q lt

  unmet_held : holds_itself (waits_in places rows) (member unmet) ≡ true
  unmet_held =
      all_from (λ p. not (member unmet p) || is_held (waits_in places rows) (member unmet) p)
      (range_with_len 0 (length (waits_in places rows))) (λ p i.
      (let lp : p < places = omega (arith, range_in (length (waits_in places rows)) p i, length-waits_in rows places waits.fits) in
      then_true (member unmet p) (is_held (waits_in places rows) (member unmet) p) (λ on.
      (let off : member marks p ≡ false = not-true (member marks p) (sym (unmet_is p lp) ∙ on) in
      let fits : p < length rows = omega (arith, lp, waits.fits) in
      let unripe : list_all (member marks) (row_at rows p) ≡ false = elim (cases_Bool (list_all (member marks) (row_at rows p))) [
        | inl all ↦ absurd (false≢true (sym off ∙ met.closed p fits
            (ripe_by_all rows places (member marks) p lp (λ v edge. all_gives (member marks) (row_at rows p) v all edge))))
        | inr none ↦ none
      ] in
      let r = not_all (member marks) (row_at rows p) unripe in
      let needs = waits.needs p r.0 lp r.1 in
      held_from rows places p r.0 (member unmet) waits.fits lp r.1 (λ q edge.
      unmet_is q (waits.ways r.0 q needs.0 edge)
      ∙ ap not (unmet_ways r.0 q needs.0 needs.1 r.2 edge))))))

  -- the stuck places are those that aren't met
  pub stuck_is : (p : ℕ) → p < places → is_stuck (waits_in places rows) p ≡ not (member marks p)
  unfolding is_stuck unmet
  stuck_is p lp =
      same_bool (is_stuck (waits_in places rows) p) (not (member marks p))
      (λ h. (let r = any_gives (λ s. holds_itself (waits_in places rows) (member s) && member s p)
      (all_sets (length (waits_in places rows))) h in
      let both = and_parts (holds_itself (waits_in places rows) (member r.0)) (member r.0 p) r.2 in
      ap not (held_unmet r.0 both.0 p lp both.1)))
      (λ off. (let len : length unmet ≡ length (waits_in places rows) =
      length_unmet ∙ sym (length-waits_in rows places waits.fits) in
      let test : List Bool → Bool = λ s. holds_itself (waits_in places rows) (member s) && member s p in
      subst (λ (k : ℕ). list_any test (all_sets k) ≡ true) len
      (some_set test unmet (and_from (holds_itself (waits_in places rows) (member unmet)) (member unmet p) unmet_held
      (unmet_is p lp ∙ off)))))
    where
      length_unmet : length unmet ≡ places
      length_unmet = length-map-range_with_len (λ q. not (member marks q)) 0 places

-- ---- what is left of the edges

pub row_left : (p : ℕ → Bool) (rows : List (List ℕ)) (u : ℕ) → get_or (map (filter p) rows) u [] ≡ filter p (get_or rows u [])
row_left p [] u = refl
row_left p (r ∷ rs) zero = refl
row_left p (r ∷ rs) (suc u) = row_left p rs u

pub left_gives : (marks : List Bool) (rows : List (List ℕ)) (u v : ℕ) → HasEdge (left_rows marks rows) u v
    → HasEdge rows u v × (member marks v ≡ false)
left_gives marks rows u v edge =
    let r = filter_out (λ v. not (member marks v)) (row_at rows u) v
    (subst (λ (xs : List ℕ). Contains xs v) (row_left (λ v. not (member marks v)) rows u) edge) in
    (r.0, not-true (member marks v) r.1)

left_from : (marks : List Bool) (rows : List (List ℕ)) (u v : ℕ) → HasEdge rows u v → member marks v ≡ false
    → HasEdge (left_rows marks rows) u v
left_from marks rows u v edge off =
    subst (λ (xs : List ℕ). Contains xs v) (sym (row_left (λ v. not (member marks v)) rows u))
    (filter_in (λ v. not (member marks v)) (row_at rows u) v edge (ap not off))

pub waits_left : (marks : List Bool) (rows : List (List ℕ)) (places : ℕ) → AreWaits places rows
    → AreWaits places (left_rows marks rows)
waits_left marks rows places waits = record {
  fits = omega (arith, waits.fits, len);
  needs = λ u v lt edge.
      (let r = waits.needs u v lt (left_gives marks rows u v edge).0 in (r.0, omega (arith, r.1, len)));
  ways = λ u v ge edge. waits.ways u v ge (left_gives marks rows u v edge).0;
}
  where
    len : length (left_rows marks rows) ≡ length rows
    len = length-map rows (filter (λ v. not (member marks v)))

pub leads_left : (rows : List (List ℕ)) (places : ℕ) (marks : List Bool) → AreWaits places rows → IsMet rows places marks
    → AreLeads (waits_in places rows) places (left_rows marks rows)
leads_left rows places marks waits met = record {
  count = length-waits_in rows places waits.fits;
  edges = record {
    made = λ p q lp lq h.
        (let r = any_gives (λ v. test q (row_at rows v)) (row_at rows p)
        (sym (any_need rows places p (test q) waits.fits lp) ∙ h) in
        let both = and_parts (list_all stuck (row_at rows r.0)) (list_any (nat_eq q) (row_at rows r.0)) r.2 in
        let ge = (waits.needs p r.0 lp r.1).0 in
        let way : HasEdge rows r.0 q = Contains-from_any eqb-true q (row_at rows r.0) both.1 in
        let unmet' : (q : ℕ) → HasEdge rows r.0 q → member marks q ≡ false =
        λ q edge. not-true (member marks q) (sym (stuck_is rows places marks waits met q (waits.ways r.0 q ge edge))
        ∙ all_gives stuck (row_at rows r.0) q both.0 edge) in (
          r.0,
          left_from marks rows p r.0 r.1 (unmet_need rows places marks waits met r.0 ge unmet'),
          left_from marks rows r.0 q way (unmet' q way),
        ));
    only = λ p v q lp one other.
        (let need = left_gives marks rows p v one in
        let way = left_gives marks rows v q other in
        let fit = waits.needs p v lp need.0 in
        any_need rows places p (test q) waits.fits lp
        ∙ any_from (λ v. test q (row_at rows v)) (row_at rows p) v need.0
        (and_from (list_all stuck (row_at rows v)) (list_any (nat_eq q) (row_at rows v))
        (all_from stuck (row_at rows v) (λ q' edge.
        stuck_is rows places marks waits met q' (waits.ways v q' fit.0 edge)
        ∙ ap not (unmet_ways rows places marks waits met v q' fit.0 fit.1 need.1 edge)))
        (list_any-from_Contains nat_eq_equiv q (row_at rows v) way.0)));
  };
}
  where
    stuck : ℕ → Bool
    stuck = is_stuck (waits_in places rows)

    test : ℕ → List ℕ → Bool
    test q ways = list_all (is_stuck (waits_in places rows)) ways && list_any (nat_eq q) ways
