-- There is a cycle exactly where an entry is stuck.
use Rattle.std.proofs.Common.{◌≡◌, ℕ, zero, suc, ◌+◌, ◌<◌, ◌≤◌, Bool, true, false, nat_eq, ◌&&◌, ◌||◌, List, [], ◌∷◌, ◌++◌, length, cond, refl, sym, ap, ◌∙◌, inl, inr, subst, arith}
use Rattle.std.specs.Prelude.{Contains, count_by}
use Rattle.std.specs.List.{list_any, list_all, flat_map, range_with_len}
use Rattle.std.proofs.lemmas.Bool.{false≢true, cases_Bool, and_parts, and_from, or_cases, or_left, or_right, eqb-true, eq-eqb}
use Rattle.std.proofs.lemmas.Cmp.{nat_eq_equiv}
use Rattle.std.proofs.lemmas.List.Sums.{sum_by-cons}
use Rattle.std.proofs.lemmas.Map.Views.{list_any-from_Contains}
use Rattle.std.proofs.lemmas.List.Elements.{Contains-append_left, Contains-append_right}
use Rattle.dependencies.proofs.PulledLemmas.{same_bool}
use Rattle.wait_cycles.specs.Waits.{needs_at, is_held, is_stuck, leads, comes_to, are_in_cycle, cycle_of, begins_with, cycle_from, cycles_of}
use Rattle.wait_cycles.proofs.InverseLemmas.{none_in}
use Rattle.wait_cycles.proofs.MetLemmas.{first_in, later_in, all_gives, any_from, any_gives, in_range, range_in}
use Rattle.wait_cycles.proofs.CycleLemmas.{comes_gives, filter_in, filter_out, filter_same}
use Rattle.service_check.specs.Needs.{waits_of}
use Rattle.check_laws.specs.Laws.{AreProper, NoCycleNoneStuck}
use Rattle.check_laws.proofs.StuckLaws.{held_wider, stuck_holds, stuck_greatest}
use Rattle.check_laws.proofs.ProperLaws.{good_proper, flat_from as flat_back, only_in}
use Rattle.check_laws.proofs.StepLaws.{step_comes, comes_through, nowhere}

-- ---- counts

one_more : (p : ℕ → Bool) (x : ℕ) (xs : List ℕ) → count_by p (x ∷ xs) ≡ cond (p x) 1 0 + count_by p xs
one_more p x xs = sum_by-cons (λ (y : ℕ). cond (p y) 1 0) x xs

counted : (p : ℕ → Bool) (x : ℕ) (xs : List ℕ) → p x ≡ true → count_by p (x ∷ xs) ≡ 1 + count_by p xs
counted p x xs on = one_more p x xs ∙ ap (λ b. cond b 1 0 + count_by p xs) on

uncounted : (p : ℕ → Bool) (x : ℕ) (xs : List ℕ) → p x ≡ false → count_by p (x ∷ xs) ≡ 0 + count_by p xs
uncounted p x xs off = one_more p x xs ∙ ap (λ b. cond b 1 0 + count_by p xs) off

at_most_one : (p : ℕ → Bool) (x : ℕ) (xs : List ℕ) → count_by p xs ≤ count_by p (x ∷ xs)
at_most_one p x xs = elim (cases_Bool (p x)) [
  | inl on ↦ omega (arith, counted p x xs on)
  | inr off ↦ omega (arith, uncounted p x xs off)
]

at_most : (p q : ℕ → Bool) (xs : List ℕ) → ((x : ℕ) → Contains xs x → p x ≡ true → q x ≡ true)
    → count_by p xs ≤ count_by q xs
at_most p q [] f = omega arith
at_most p q (x ∷ xs) f =
    let rest = at_most p q xs (λ z j. f z (later_in x xs z j)) in
    elim (cases_Bool (p x)) [
      | inl on ↦ omega (arith, counted p x xs on, counted q x xs (f x (first_in x xs) on), rest)
      | inr off ↦ omega (arith, uncounted p x xs off, at_most_one q x xs, rest)
    ]

-- where the second test passes all that the first does, and one more, it counts more
fewer : (p q : ℕ → Bool) (xs : List ℕ) (y : ℕ) → ((x : ℕ) → Contains xs x → p x ≡ true → q x ≡ true) → Contains xs y
    → p y ≡ false → q y ≡ true → count_by p xs < count_by q xs
fewer p q [] y f i off on = absurd (none_in y i)
fewer p q (x ∷ xs) y f (zero, lt, e) off on =
    omega (arith, uncounted p x xs (ap p e ∙ off), counted q x xs (ap q e ∙ on), at_most p q xs (λ z j. f z (later_in x xs z j)))
fewer p q (x ∷ xs) y f (suc k, lt, e) off on =
    let rest = fewer p q xs y (λ z j. f z (later_in x xs z j)) (k, omega (arith, lt), e) off on in
    elim (cases_Bool (p x)) [
      | inl here ↦ omega (arith, counted p x xs here, counted q x xs (f x (first_in x xs) here), rest)
      | inr none ↦ omega (arith, uncounted p x xs none, at_most_one q x xs, rest)
    ]

pub flat_in : {X Y : Type 0} (f : X → List Y) (xs : List X) (x : X) (y : Y) → Contains xs x → Contains (f x) y
    → Contains (flat_map f xs) y
flat_in f [] x y i j = absurd (none_in x i)
flat_in {X} {Y} f (z ∷ zs) x y (zero, lt, e) j =
    Contains-append_left (f z) (flat_map f zs) y (subst (λ (w : X). Contains (f w) y) (sym e) j)
flat_in f (z ∷ zs) x y (suc k, lt, e) j =
    Contains-append_right (f z) (flat_map f zs) y (flat_in f zs x y (k, omega (arith, lt), e) j)

-- ---- from a stuck place on

module _ (waits : List (List (List ℕ))) (proper : AreProper waits) where
  -- a place that leads on is stuck
  pub leading_stuck : (p q : ℕ) → p < length waits → leads waits p q ≡ true → is_stuck waits p ≡ true
  leading_stuck p q lp h =
      let r = any_gives (λ ways. list_all (is_stuck waits) ways && list_any (nat_eq q) ways) (needs_at waits p) h in
      let both = and_parts (list_all (is_stuck waits) r.0) (list_any (nat_eq q) r.0) r.2 in
      let held : is_held waits (is_stuck waits) p ≡ true =
      any_from (λ ways. list_all (is_stuck waits) ways) (needs_at waits p) r.0 r.1 both.0 in
      stuck_greatest waits (λ x. is_stuck waits x || nat_eq x p) proper (λ x lx on.
      held_wider waits (is_stuck waits) (λ x. is_stuck waits x || nat_eq x p) x
      (λ ways y i j st. or_left (is_stuck waits y) (nat_eq y p) st)
      (elim (or_cases (is_stuck waits x) (nat_eq x p) on) [
        | inl st ↦ stuck_holds waits x lx st
        | inr e ↦ ap (is_held waits (is_stuck waits)) (eqb-true x p e) ∙ held
      ])) p lp (or_right (is_stuck waits p) (nat_eq p p) (eq-eqb p p refl))

  -- a stuck place leads to a stuck one
  leads_on : (p : ℕ) → p < length waits → is_stuck waits p ≡ true
      → (q : ℕ) × (q < length waits) × (leads waits p q ≡ true) × (is_stuck waits q ≡ true)
  leads_on p lp st =
      let r = any_gives (λ ways. list_all (is_stuck waits) ways) (needs_at waits p) (stuck_holds waits p lp st) in
      let w = proper.some p r.0 r.1 in (
        w.0,
        proper.within p r.0 w.0 r.1 w.1,
        any_from (λ ways. list_all (is_stuck waits) ways && list_any (nat_eq w.0) ways) (needs_at waits p) r.0 r.1
            (and_from (list_all (is_stuck waits) r.0) (list_any (nat_eq w.0) r.0) r.2
            (list_any-from_Contains nat_eq_equiv w.0 r.0 w.1)),
        all_gives (is_stuck waits) r.0 w.0 r.2 w.1,
      )

  -- what a place that leads on keeps for those to which it leads
  abbrev pub GoesOn : (ℕ → Bool) → Type 0
  GoesOn g = (p q : ℕ) → p < length waits → q < length waits → g p ≡ true → leads waits p q ≡ true → g q ≡ true

  -- where none of these leads to itself, each step leads to fewer places
  none_stuck : (g : ℕ → Bool) → GoesOn g
      → ((q : ℕ) → q < length waits → g q ≡ true → comes_to (leads waits) (length waits) q q ≡ false) → (k p : ℕ)
      → p < length waits → g p ≡ true → is_stuck waits p ≡ true
      → count_by (comes_to (leads waits) (length waits) p) (range_with_len 0 (length waits)) < k → ⊥
  none_stuck g on none zero p lp gp st lt = omega (arith, lt)
  none_stuck g on none (suc k) p lp gp st lt =
      let r = leads_on p lp st in
      let gr = on p r.0 lp r.1 gp r.2 in
      let less = fewer (comes_to (leads waits) (length waits) r.0) (comes_to (leads waits) (length waits) p)
      (range_with_len 0 (length waits)) r.0
      (λ x i h. comes_through (leads waits) (length waits) p r.0 x r.1
      (step_comes (leads waits) (length waits) p r.0 r.1 r.2) (range_in (length waits) x i) h)
      (in_range (length waits) r.0 r.1) (none r.0 r.1 gr) (step_comes (leads waits) (length waits) p r.0 r.1 r.2) in
      none_stuck g on none k r.0 r.1 gr r.3 (omega (arith, less, lt))

  -- so one of them leads to itself
  pub one_round : (g : ℕ → Bool) → GoesOn g → (p : ℕ) → p < length waits → g p ≡ true → is_stuck waits p ≡ true
      → (q : ℕ) × (q < length waits) × (comes_to (leads waits) (length waits) q q ≡ true) × (g q ≡ true)
  one_round g on p lp gp st = elim (cases_Bool (list_any (λ q. comes_to (leads waits) (length waits) q q && g q) (range_with_len 0 (length waits)))) [
    | inl some ↦ (let r = any_gives (λ q. comes_to (leads waits) (length waits) q q && g q) (range_with_len 0 (length waits)) some in
        let b = and_parts (comes_to (leads waits) (length waits) r.0 r.0) (g r.0) r.2 in
        (r.0, range_in (length waits) r.0 r.1, b.0, b.1))
    | inr none ↦ absurd (none_stuck g on (λ q lq gq. elim (cases_Bool (comes_to (leads waits) (length waits) q q)) [
      | inl here ↦ absurd (false≢true (sym none
          ∙ any_from (λ q. comes_to (leads waits) (length waits) q q && g q) (range_with_len 0 (length waits)) q
          (in_range (length waits) q lq) (and_from (comes_to (leads waits) (length waits) q q) (g q) here gq)))
      | inr off ↦ off
    ])
        (suc (count_by (comes_to (leads waits) (length waits) p) (range_with_len 0 (length waits)))) p lp gp st (omega arith))
  ]

  -- two places of one cycle have the same cycle
  same_cycle : (p q : ℕ) → p < length waits → q < length waits → are_in_cycle waits p q ≡ true
      → cycle_of waits q ≡ cycle_of waits p
  same_cycle p q lp lq h =
      filter_same (are_in_cycle waits q) (are_in_cycle waits p) (range_with_len 0 (length waits)) (λ x i.
      (let lx = range_in (length waits) x i in
      same_bool (are_in_cycle waits q x) (are_in_cycle waits p x)
      (λ on. (let b = and_parts (comes_to (leads waits) (length waits) q x) (comes_to (leads waits) (length waits) x q) on in
      and_from (comes_to (leads waits) (length waits) p x) (comes_to (leads waits) (length waits) x p)
      (comes_through (leads waits) (length waits) p q x lq both.0 lx b.0)
      (comes_through (leads waits) (length waits) x q p lq b.1 lp both.1)))
      (λ on. (let b = and_parts (comes_to (leads waits) (length waits) p x) (comes_to (leads waits) (length waits) x p) on in
      and_from (comes_to (leads waits) (length waits) q x) (comes_to (leads waits) (length waits) x q)
      (comes_through (leads waits) (length waits) q p x lp both.1 lx b.0)
      (comes_through (leads waits) (length waits) x p q lp b.1 lq both.0)))))
    where
      both : (comes_to (leads waits) (length waits) p q ≡ true) × (comes_to (leads waits) (length waits) q p ≡ true)
      both = and_parts (comes_to (leads waits) (length waits) p q) (comes_to (leads waits) (length waits) q p) h

  -- a place that leads to itself is in a cycle
  pub round_found : (q : ℕ) → q < length waits → comes_to (leads waits) (length waits) q q ≡ true
      → (c : List ℕ) × Contains (cycles_of waits) c × Contains c q
  unfolding cycles_of
  round_found q lq h = by (cycle_of waits q) refl
    where
      in' : Contains (cycle_of waits q) q
      in' = filter_in (are_in_cycle waits q) (range_with_len 0 (length waits)) q (in_range (length waits) q lq)
          (and_from (comes_to (leads waits) (length waits) q q) (comes_to (leads waits) (length waits) q q) h h)

      by : (c : List ℕ) → cycle_of waits q ≡ c
          → (c : List ℕ) × Contains (flat_map (cycle_from waits) (range_with_len 0 (length waits))) c × Contains c q
      by [] e = absurd (none_in q (subst (λ (xs : List ℕ). Contains xs q) e in'))
      by (f ∷ fs) e =
          let mine : Contains (cycle_of waits q) f = subst (λ (xs : List ℕ). Contains xs f) (sym e) (first_in f fs) in
          let out = filter_out (are_in_cycle waits q) (range_with_len 0 (length waits)) f mine in
          let lf = range_in (length waits) f out.0 in
          let one : cycle_of waits f ≡ cycle_of waits q = same_cycle q f lq lf out.1 in
          let same : cycle_of waits f ≡ f ∷ fs = one ∙ e in
          let from : cycle_from waits f ≡ cycle_of waits f ∷ [] =
          ap (λ (b : Bool). cond b (cycle_of waits f ∷ []) []) (ap (begins_with f) same ∙ eq-eqb f f refl) in (
            cycle_of waits f,
            flat_in (cycle_from waits) (range_with_len 0 (length waits)) f (cycle_of waits f) (in_range (length waits) f lf)
                (subst (λ (cs : List (List ℕ)). Contains cs (cycle_of waits f)) (sym from) (first_in (cycle_of waits f) [])),
            subst (λ (xs : List ℕ). Contains xs q) (sym one) in',
          )

  round_cycle : (q : ℕ) → q < length waits → comes_to (leads waits) (length waits) q q ≡ true → cycles_of waits ≡ [] → ⊥
  round_cycle q lq h empty =
      let r = round_found q lq h in none_in r.0 (subst (λ (cs : List (List ℕ)). Contains cs r.0) empty r.1)

  -- a place that reaches one leads on
  leads_some : (q f : ℕ) → q < length waits → f < length waits → comes_to (leads waits) (length waits) q f ≡ true
      → is_stuck waits q ≡ true
  leads_some q f lq lf h = elim (cases_Bool (is_stuck waits q)) [
    | inl on ↦ on
    | inr off ↦ absurd (false≢true (comes_gives (leads waits) (length waits) q f h (λ _. false) (record {
      begun = λ x lx st. sym off ∙ leading_stuck q x lq st;
      closed = λ m x lm lx on st. on;
    }) lf))
  ]

  -- a place in a cycle is stuck
  pub in_cycle_stuck : (c : List ℕ) (q : ℕ) → Contains (cycles_of waits) c → Contains c q
      → (q < length waits) × (is_stuck waits q ≡ true)
  unfolding cycles_of
  in_cycle_stuck c q there on =
      let f = flat_back (cycle_from waits) (range_with_len 0 (length waits)) c there in
      let same : c ≡ cycle_of waits f.0 = cycle_is f.0 c (begins_with f.0 (cycle_of waits f.0)) f.2 in
      let out = filter_out (are_in_cycle waits f.0) (range_with_len 0 (length waits)) q
      (subst (λ (xs : List ℕ). Contains xs q) same on) in
      let lq = range_in (length waits) q out.0 in (
        lq,
        leads_some q f.0 lq (range_in (length waits) f.0 f.1)
            (and_parts (comes_to (leads waits) (length waits) f.0 q) (comes_to (leads waits) (length waits) q f.0) out.1).1,
      )
    where
      cycle_is : (f : ℕ) (c : List ℕ) (b : Bool) → Contains (cond b (cycle_of waits f ∷ []) []) c → c ≡ cycle_of waits f
      cycle_is f c true i = sym (only_in (cycle_of waits f) c i)
      cycle_is f c false i = absurd (none_in c i)

  -- where no place is stuck none leads anywhere
  no_round : ((p : ℕ) → p < length waits → is_stuck waits p ≡ false) → (p : ℕ) → p < length waits → cycle_from waits p ≡ []
  no_round free p lp = nowhere waits p (λ q lq. elim (cases_Bool (leads waits p q)) [
    | inl on ↦ absurd (false≢true (sym (free p lp) ∙ leading_stuck p q lp on))
    | inr off ↦ off
  ])

flat_none : {X : Type 0} (f : ℕ → List X) (xs : List ℕ) → ((x : ℕ) → Contains xs x → f x ≡ []) → flat_map f xs ≡ []
flat_none f [] e = refl
flat_none f (x ∷ xs) e = (λ j. e x (first_in x xs) j ++ flat_map f xs) ∙ flat_none f xs (λ y i. e y (later_in x xs y i))

pub cycle_where_stuck : NoCycleNoneStuck
unfolding cycles_of
cycle_where_stuck rows = (there, back)
  where
    waits : List (List (List ℕ))
    waits = waits_of rows

    there : cycles_of (waits_of rows) ≡ [] → (p : ℕ) → p < length (waits_of rows) → is_stuck (waits_of rows) p ≡ false
    there empty p lp = elim (cases_Bool (is_stuck (waits_of rows) p)) [
      | inl on ↦ (let r = one_round (waits_of rows) (good_proper rows) (λ _. true) (λ _ _ _ _ _ _. refl) p lp refl on in
          absurd (round_cycle (waits_of rows) (good_proper rows) r.0 r.1 r.2 empty))
      | inr off ↦ off
    ]

    back : ((p : ℕ) → p < length (waits_of rows) → is_stuck (waits_of rows) p ≡ false) → cycles_of (waits_of rows) ≡ []
    back free =
        flat_none (cycle_from (waits_of rows)) (range_with_len 0 (length (waits_of rows)))
        (λ p i. no_round (waits_of rows) (good_proper rows) free p (range_in (length (waits_of rows)) p i))
