-- From the places without needs to all that is met.
use Rattle.std.proofs.Common.{◌≡◌, ℕ, zero, suc, ◌+◌, ◌<◌, ◌≤◌, Bool, true, false, not, nat_eq, List, [], ◌∷◌, ◌++◌, length, take, get_or, set, cond, refl, sym, ap, ◌∙◌, inl, inr, subst, arith}
use Rattle.std.specs.Prelude.{All, Contains, replicate}
use Rattle.std.specs.List.{list_any, list_all, range_with_len}
use Rattle.std.proofs.lemmas.Bool.{false≢true, cases_lt, cases_Bool, and_parts, and_from, or_cases, or_left, or_right, eqb-true, lt-ltb, le-ltb}
use Rattle.std.proofs.lemmas.Cmp.{nat_eq_equiv}
use Rattle.std.proofs.lemmas.Map.Views.{Contains-from_any, list_any-from_Contains}
use Rattle.std.proofs.lemmas.List.{get_or-set_same, length-set, length-replicate, length_push, take_more}
use Rattle.std.proofs.lemmas.List.FromFn.{get_or-range_with_len, length-range_with_len}
use Rattle.std.proofs.lemmas.List.Elements.{Contains-get_or, Contains-push, Contains-push_cases, Contains-append_left, Contains-append_cases}
use Rattle.start_model.specs.Demand.{member}
use Rattle.wait_cycles.specs.Graph.{row_at, HasEdge, AreWaits, IsInverse, is_ripe, Settles}
use Rattle.wait_cycles.specs.Working.{is_done, IsSettling, AreFirsts}
use Rattle.wait_cycles.proofs.InverseLemmas.{none_in, edge_from}
use Rattle.least_set.proofs.MarkLemmas.{member_none, one_fewer, set_mark, still_set}

-- ---- tests on lists

pub first_in : {X : Type 0} (x : X) (xs : List X) → Contains (x ∷ xs) x
first_in x xs = (zero, omega arith, refl)

pub later_in : {X : Type 0} (x : X) (xs : List X) (y : X) → Contains xs y → Contains (x ∷ xs) y
later_in x xs y (k, lt, e) = (suc k, omega (arith, lt), e)

pub all_weaker : {X : Type 0} (p q : X → Bool) (xs : List X) → ((x : X) → Contains xs x → p x ≡ true → q x ≡ true)
    → list_all p xs ≡ true → list_all q xs ≡ true
all_weaker p q [] f h = refl
all_weaker p q (x ∷ xs) f h =
    let both = and_parts (p x) (list_all p xs) h in
    and_from (q x) (list_all q xs) (f x (first_in x xs) both.0)
    (all_weaker p q xs (λ y i. f y (later_in x xs y i)) both.1)

pub any_weaker : {X : Type 0} (p q : X → Bool) (xs : List X) → ((x : X) → Contains xs x → p x ≡ true → q x ≡ true)
    → list_any p xs ≡ true → list_any q xs ≡ true
any_weaker p q [] f h = h
any_weaker p q (x ∷ xs) f h = elim (or_cases (p x) (list_any p xs) h) [
  | inl here ↦ or_left (q x) (list_any q xs) (f x (first_in x xs) here)
  | inr there ↦ or_right (q x) (list_any q xs) (any_weaker p q xs (λ y i. f y (later_in x xs y i)) there)
]

pub all_from : {X : Type 0} (p : X → Bool) (xs : List X) → ((x : X) → Contains xs x → p x ≡ true) → list_all p xs ≡ true
all_from p [] f = refl
all_from p (x ∷ xs) f =
    and_from (p x) (list_all p xs) (f x (first_in x xs)) (all_from p xs (λ y i. f y (later_in x xs y i)))

pub all_gives : {X : Type 0} (p : X → Bool) (xs : List X) (x : X) → list_all p xs ≡ true → Contains xs x → p x ≡ true
all_gives p [] x h i = absurd (none_in x i)
all_gives p (y ∷ ys) x h (zero, lt, e) = ap p (sym e) ∙ (and_parts (p y) (list_all p ys) h).0
all_gives p (y ∷ ys) x h (suc k, lt, e) =
    all_gives p ys x (and_parts (p y) (list_all p ys) h).1 (k, omega (arith, lt), e)

pub any_gives : {X : Type 0} (p : X → Bool) (xs : List X) → list_any p xs ≡ true → (x : X) × Contains xs x × (p x ≡ true)
any_gives p [] h = absurd (false≢true h)
any_gives p (x ∷ xs) h = elim (or_cases (p x) (list_any p xs) h) [
  | inl here ↦ (x, first_in x xs, here)
  | inr there ↦ (let r = any_gives p xs there in (r.0, later_in x xs r.0 r.1, r.2))
]

pub any_from : {X : Type 0} (p : X → Bool) (xs : List X) (x : X) → Contains xs x → p x ≡ true → list_any p xs ≡ true
any_from p [] x i h = absurd (none_in x i)
any_from p (y ∷ ys) x (zero, lt, e) h = or_left (p y) (list_any p ys) (ap p e ∙ h)
any_from p (y ∷ ys) x (suc k, lt, e) h =
    or_right (p y) (list_any p ys) (any_from p ys x (k, omega (arith, lt), e) h)

pub in_range : (n k : ℕ) → k < n → Contains (range_with_len 0 n) k
in_range n k lt =
    let at : get_or (range_with_len 0 n) k 0 ≡ k = omega (arith, get_or-range_with_len 0 n k 0 lt) in
    subst (λ (x : ℕ). Contains (range_with_len 0 n) x) at
    (Contains-get_or (range_with_len 0 n) k 0 (omega (arith, length-range_with_len 0 n, lt)))

pub range_in : (n k : ℕ) → Contains (range_with_len 0 n) k → k < n
range_in n k (i, lt, e) =
    let small : i < n = omega (arith, lt, length-range_with_len 0 n) in
    omega (arith, e, get_or-range_with_len 0 n i k small)

-- ---- what is ripe

ripe_place : (rows : List (List ℕ)) (places : ℕ) (set : ℕ → Bool) (u : ℕ) → u < places
    → is_ripe rows places set u ≡ list_all set (row_at rows u)
ripe_place rows places set u lt = ap (λ b. cond b (list_all set (row_at rows u)) (list_any set (row_at rows u))) (lt-ltb u places lt)

ripe_need : (rows : List (List ℕ)) (places : ℕ) (set : ℕ → Bool) (u : ℕ) → places ≤ u
    → is_ripe rows places set u ≡ list_any set (row_at rows u)
ripe_need rows places set u ge = ap (λ b. cond b (list_all set (row_at rows u)) (list_any set (row_at rows u))) (le-ltb u places ge)

pub ripe_by_all : (rows : List (List ℕ)) (places : ℕ) (set : ℕ → Bool) (u : ℕ) → u < places
    → ((v : ℕ) → HasEdge rows u v → set v ≡ true) → is_ripe rows places set u ≡ true
ripe_by_all rows places set u lt f = ripe_place rows places set u lt ∙ all_from set (row_at rows u) f

pub ripe_by_one : (rows : List (List ℕ)) (places : ℕ) (set : ℕ → Bool) (u v : ℕ) → places ≤ u
    → HasEdge rows u v → set v ≡ true → is_ripe rows places set u ≡ true
ripe_by_one rows places set u v ge edge h = ripe_need rows places set u ge ∙ any_from set (row_at rows u) v edge h

pub ripe_all : (rows : List (List ℕ)) (places : ℕ) (set : ℕ → Bool) (u v : ℕ) → u < places
    → is_ripe rows places set u ≡ true → HasEdge rows u v → set v ≡ true
ripe_all rows places set u v lt h edge =
    all_gives set (row_at rows u) v (sym (ripe_place rows places set u lt) ∙ h) edge

pub ripe_one : (rows : List (List ℕ)) (places : ℕ) (set : ℕ → Bool) (u : ℕ) → places ≤ u
    → is_ripe rows places set u ≡ true → (v : ℕ) × HasEdge rows u v × (set v ≡ true)
ripe_one rows places set u ge h = any_gives set (row_at rows u) (sym (ripe_need rows places set u ge) ∙ h)

-- what is ripe by a set is ripe by another that has as much of what the vertex leads to
pub ripe_weaker : (rows : List (List ℕ)) (places : ℕ) (set other : ℕ → Bool) (u : ℕ)
    → ((v : ℕ) → HasEdge rows u v → set v ≡ true → other v ≡ true)
    → is_ripe rows places set u ≡ true → is_ripe rows places other u ≡ true
ripe_weaker rows places set other u f h = elim (cases_lt u places) [
  | inl lt ↦ ripe_place rows places other u lt
      ∙ all_weaker set other (row_at rows u) f (sym (ripe_place rows places set u lt) ∙ h)
  | inr ge ↦ ripe_need rows places other u ge
      ∙ any_weaker set other (row_at rows u) f (sym (ripe_need rows places set u ge) ∙ h)
]

-- ---- steps

-- one that is marked now
pub settles_new : (rows : List (List ℕ)) (places at : ℕ) (marks : List Bool) (work : List ℕ) → length marks ≡ length rows
    → at < length rows → member marks at ≡ false → is_ripe rows places (member marks) at ≡ true
    → Settles rows places (at ∷ []) marks work (set marks at true) (work ++ at ∷ [])
settles_new rows places at marks work len lt off ripe = record {
  len = length-set marks at true;
  settled = λ u h r. elim (Contains-push_cases [] at u h) [
    | inl none ↦ absurd (none_in u none)
    | inr e ↦ ap (member (set marks at true)) (sym e) ∙ here
  ];
  kept_marks = still_set marks at;
  only = λ k h. elim (set_mark marks at k h) [
    | inl old ↦ inl old
    | inr e ↦ inr (subst (λ (k : ℕ). Contains (work ++ at ∷ []) k) (sym e) (Contains-push work at))
  ];
  kept = λ k h. Contains-append_left work (at ∷ []) k h;
  noted = λ k h. elim (Contains-push_cases work at k h) [
    | inl old ↦ inl old
    | inr e ↦ inr (ap (member (set marks at true)) (sym e) ∙ here)
  ];
  least = λ wider by sub k h. elim (set_mark marks at k h) [
    | inl old ↦ sub k old
    | inr e ↦ ap wider e ∙ by at lt (ripe_weaker rows places (member marks) wider at (λ v edge on. sub v on) ripe)
  ];
  nearer = omega (arith, length_push work at, one_fewer marks at within off);
}
  where
    within : at < length marks
    within = omega (arith, len, lt)

    here : member (set marks at true) at ≡ true
    here = get_or-set_same marks at true false within

pub settles_both : (rows : List (List ℕ)) (places : ℕ) (xs ys : List ℕ) (m0 : List Bool) (w0 : List ℕ) (m1 : List Bool)
    (w1 : List ℕ) (m2 : List Bool) (w2 : List ℕ) → Settles rows places xs m0 w0 m1 w1 → Settles rows places ys m1 w1 m2 w2
    → Settles rows places (xs ++ ys) m0 w0 m2 w2
settles_both rows places xs ys m0 w0 m1 w1 m2 w2 one two = record {
  len = two.len ∙ one.len;
  settled = λ u h r. elim (Contains-append_cases xs ys u h) [
    | inl a ↦ two.kept_marks u (one.settled u a r)
    | inr b ↦ two.settled u b (ripe_weaker rows places (member m0) (member m1) u (λ v edge on. one.kept_marks v on) r)
  ];
  kept_marks = λ k h. two.kept_marks k (one.kept_marks k h);
  only = λ k h. elim (two.only k h) [
    | inl before ↦ (elim (one.only k before) [
      | inl old ↦ inl old
      | inr a ↦ inr (two.kept k a)
    ])
    | inr b ↦ inr b
  ];
  kept = λ k h. two.kept k (one.kept k h);
  noted = λ k h. elim (two.noted k h) [
    | inl before ↦ (elim (one.noted k before) [
      | inl old ↦ inl old
      | inr a ↦ inr (two.kept_marks k a)
    ])
    | inr b ↦ inr b
  ];
  least = λ set by sub. two.least set by (one.least set by sub);
  nearer = omega (arith, one.nearer, two.nearer);
}

pub settles_more : (rows : List (List ℕ)) (places : ℕ) (us : List ℕ) (i d : ℕ) (m0 : List Bool) (w0 : List ℕ)
    (m1 : List Bool) (w1 : List ℕ) (m2 : List Bool) (w2 : List ℕ) → i < length us
    → Settles rows places (take i us) m0 w0 m1 w1 → Settles rows places (get_or us i d ∷ []) m1 w1 m2 w2
    → Settles rows places (take (i + 1) us) m0 w0 m2 w2
settles_more rows places us i d m0 w0 m1 w1 m2 w2 lt one two =
    subst (λ (xs : List ℕ). Settles rows places xs m0 w0 m2 w2) (sym (take_more us i d lt))
    (settles_both rows places (take i us) (get_or us i d ∷ []) m0 w0 m1 w1 m2 w2 one two)

-- ---- the whole

not_in : (k : ℕ) (work : List ℕ) → not (list_any (nat_eq k) work) ≡ true → Contains work k → ⊥
not_in k work h i = false≢true (sym (ap not (list_any-from_Contains nat_eq_equiv k work i)) ∙ h)

in_not : (k : ℕ) (work : List ℕ) → (Contains work k → ⊥) → not (list_any (nat_eq k) work) ≡ true
in_not k work f = elim (cases_Bool (list_any (nat_eq k) work)) [
  | inl on ↦ absurd (f (Contains-from_any eqb-true k work on))
  | inr off ↦ ap not off
]

done_parts : (marks : List Bool) (work : List ℕ) (k : ℕ) → is_done marks work k ≡ true
    → (member marks k ≡ true) × (Contains work k → ⊥)
done_parts marks work k h =
    let both = and_parts (member marks k) (not (list_any (nat_eq k) work)) h in (both.0, not_in k work both.1)

done_from : (marks : List Bool) (work : List ℕ) (k : ℕ) → member marks k ≡ true → (Contains work k → ⊥)
    → is_done marks work k ≡ true
done_from marks work k on out = and_from (member marks k) (not (list_any (nat_eq k) work)) on (in_not k work out)

pub settling_start : (rows : List (List ℕ)) (places n : ℕ) (marks : List Bool) (work us : List ℕ) → n ≡ length rows
    → us ≡ range_with_len 0 places → Settles rows places us (replicate n false) [] marks work
    → IsSettling rows places marks work
settling_start rows places n marks work us e all is = record {
  len = is.len ∙ length-replicate n false ∙ e;
  honest = λ k h. elim (is.noted k h) [
    | inl none ↦ absurd (none_in k none)
    | inr on ↦ on
  ];
  settled = λ u within r. elim (cases_lt u places) [
    | inl lt ↦ is.settled u (subst (λ (xs : List ℕ). Contains xs u) (sym all) (in_range places u lt))
        (ripe_weaker rows places (is_done marks work) (member (replicate n false)) u (λ v edge d. absurd (none_done v d)) r)
    | inr ge ↦ (let one = ripe_one rows places (is_done marks work) u ge r in absurd (none_done one.0 one.2))
  ];
  least = λ set by. is.least set by (λ k h. absurd (false≢true (sym (member_none n k) ∙ h)));
}
  where
    none_done : (k : ℕ) → is_done marks work k ≡ true → ⊥
    none_done k d =
        let parts = done_parts marks work k d in
        elim (is.only k parts.0) [
          | inl old ↦ false≢true (sym (member_none n k) ∙ old)
          | inr new ↦ parts.1 new
        ]

pub settling_more : (rows back : List (List ℕ)) (places : ℕ) (marks : List Bool) (work rest : List ℕ) (at : ℕ)
    (marks' : List Bool) (work' : List ℕ) → IsInverse rows back → work ≡ rest ++ at ∷ [] → IsSettling rows places marks work
    → Settles rows places (row_at back at) marks rest marks' work' → IsSettling rows places marks' work'
settling_more rows back places marks work rest at marks' work' turned e is step = record {
  len = step.len ∙ is.len;
  honest = λ k h. elim (step.noted k h) [
    | inl old ↦ step.kept_marks k (is.honest k (in_work k old))
    | inr on ↦ on
  ];
  settled = λ u within r. elim (cases_Bool (list_any (nat_eq at) (row_at rows u))) [
    | inl leads ↦ step.settled u (turned.turned u at (Contains-from_any eqb-true at (row_at rows u) leads))
        (ripe_weaker rows places (is_done marks' work') (member marks) u (λ v edge d. marked_before v d) r)
    | inr apart ↦ step.kept_marks u (is.settled u within
        (ripe_weaker rows places (is_done marks' work') (is_done marks work) u
        (λ v edge d. done_before v d (λ this. false≢true (sym apart
        ∙ list_any-from_Contains nat_eq_equiv at (row_at rows u) (subst (λ (k : ℕ). HasEdge rows u k) this edge)))) r))
  ];
  least = λ set by. step.least set by (is.least set by);
}
  where
    in_work : (k : ℕ) → Contains rest k → Contains work k
    in_work k h = subst (λ (xs : List ℕ). Contains xs k) (sym e) (Contains-append_left rest (at ∷ []) k h)

    marked_before : (k : ℕ) → is_done marks' work' k ≡ true → member marks k ≡ true
    marked_before k d =
        let parts = done_parts marks' work' k d in
        elim (step.only k parts.0) [
          | inl old ↦ old
          | inr new ↦ absurd (parts.1 new)
        ]

    done_before : (k : ℕ) → is_done marks' work' k ≡ true → (k ≡ at → ⊥) → is_done marks work k ≡ true
    done_before k d other =
        done_from marks work k (marked_before k d) (λ waits.
        elim (Contains-push_cases rest at k (subst (λ (xs : List ℕ). Contains xs k) e waits)) [
          | inl still ↦ (done_parts marks' work' k d).1 (step.kept k still)
          | inr this ↦ other (sym this)
        ])

-- where nothing was marked before
pub settling_begun : (rows : List (List ℕ)) (places : ℕ) (us : List ℕ) (m0 : List Bool) (w0 : List ℕ) (marks : List Bool)
    (work : List ℕ) → us ≡ range_with_len 0 places → m0 ≡ replicate (length rows) false → w0 ≡ []
    → Settles rows places us m0 w0 marks work → IsSettling rows places marks work
settling_begun rows places us m0 w0 marks work all em ew is =
    settling_start rows places (length rows) marks work us refl all
    (subst (λ (w : List ℕ). Settles rows places us (replicate (length rows) false) w marks work) ew
    (subst (λ (m : List Bool). Settles rows places us m w0 marks work) em is))

-- all places are vertices
pub places_within : (rows : List (List ℕ)) (places : ℕ) (us : List ℕ) → us ≡ range_with_len 0 places
    → AreWaits places rows → All (λ u. u < length rows) us
places_within rows places us all waits k d lt =
    let small : Contains (range_with_len 0 places) (get_or us k d) =
    subst (λ (xs : List ℕ). Contains xs (get_or us k d)) all (Contains-get_or us k d lt) in
    omega (arith, waits.fits, range_in places (get_or us k d) small)

-- what is turned round comes from a vertex
pub back_within : (rows back : List (List ℕ)) (at : ℕ) (us : List ℕ) → us ≡ row_at back at → IsInverse rows back
    → All (λ u. u < length rows) us
back_within rows back at us e turned k d lt =
    edge_from rows (get_or us k d) at
    (turned.only (get_or us k d) at (subst (λ (xs : List ℕ). Contains xs (get_or us k d)) e (Contains-get_or us k d lt)))

-- what is marked at the front of each list stays so
pub firsts_kept : (rows : List (List ℕ)) (marks marks' : List Bool) (firsts : List ℕ)
    → ((k : ℕ) → member marks k ≡ true → member marks' k ≡ true) → AreFirsts rows marks firsts → AreFirsts rows marks' firsts
firsts_kept rows marks marks' firsts kept is = record {
  len = is.len;
  marked = λ u.
      all_weaker (member marks) (member marks') (take (get_or firsts u 0) (row_at rows u)) (λ x i. kept x) (is.marked u);
}
