-- What the marks and the edges have to do with stuck places and with cycles.
use Rattle.std.proofs.Common.{◌≡◌, ℕ, zero, suc, ◌+◌, ◌<◌, ◌≤◌, Bool, true, false, not, nat_eq, ◌&&◌, ◌||◌, List, [], ◌∷◌, ◌++◌, length, map, filter, cond, refl, sym, ap, ◌∙◌, ◌⊎◌, inl, inr, subst, arith}
use Rattle.std.specs.Prelude.{Contains, nat_lt}
use Rattle.std.specs.List.{list_any, list_all, flat_map, range_with_len}
use Rattle.std.proofs.lemmas.Bool.{false≢true, cases_lt, cases_Bool, and_parts, and_from, or_cases, or_left, or_right, eqb-true, eq-eqb, lt-ltb, le-ltb}
use Rattle.std.proofs.lemmas.List.{append-nil, append_assoc}
use Rattle.std.proofs.lemmas.List.FromFn.{length-map-range_with_len}
use Rattle.start_model.specs.Demand.{member, all_sets}
use Rattle.dependencies.proofs.PulledLemmas.{then_true, then_gives, same_bool, all_true, all_below, any_below, sets_have, listed_member}
use Rattle.dependencies.proofs.KeptLemmas.{range_push}
use Rattle.wait_cycles.specs.Waits.{leads, is_next, is_closed_from, comes_to, cycle_of}
use Rattle.wait_cycles.specs.Graph.{row_at, AreEdges, AreWaits, IsInverse, IsClosedFrom, IsReach, IsTwoEdges, AreLeads}
use Rattle.wait_cycles.proofs.InverseLemmas.{none_in, edge_from}
use Rattle.wait_cycles.proofs.MetLemmas.{first_in, later_in, all_from, all_gives, any_gives, range_in}

-- ---- lists

pub any_map : {X Y : Type 0} (p : Y → Bool) (f : X → Y) (xs : List X) → list_any p (map f xs) ≡ list_any (λ x. p (f x)) xs
any_map p f [] = refl
any_map p f (x ∷ xs) = ap (λ b. p (f x) || b) (any_map p f xs)

-- a list of which no element passes has none but such that don't
pub none_pass : {X : Type 0} (p : X → Bool) (xs : List X) → list_any p xs ≡ false → list_all (λ x. not (p x)) xs ≡ true
none_pass p [] h = refl
none_pass p (x ∷ xs) h = elim (cases_Bool (p x)) [
  | inl on ↦ absurd (false≢true (sym h ∙ or_left (p x) (list_any p xs) on))
  | inr off ↦ and_from (not (p x)) (list_all (λ x. not (p x)) xs) (ap not off)
      (none_pass p xs (sym (ap (λ b. b || list_any p xs) off) ∙ h))
]

-- an element that doesn't pass
pub not_all : {X : Type 0} (p : X → Bool) (xs : List X) → list_all p xs ≡ false → (x : X) × Contains xs x × (p x ≡ false)
not_all p [] h = absurd (false≢true (sym h))
not_all p (x ∷ xs) h = elim (cases_Bool (p x)) [
  | inl on ↦ (let r = not_all p xs (sym (ap (λ b. b && list_all p xs) on) ∙ h) in (r.0, later_in x xs r.0 r.1, r.2))
  | inr off ↦ (x, first_in x xs, off)
]

-- each set of the places below n is among all sets
pub some_set : (p : List Bool → Bool) (t : List Bool) → p t ≡ true → list_any p (all_sets (length t)) ≡ true
some_set p t h = elim (cases_Bool (list_any p (all_sets (length t)))) [
  | inl on ↦ on
  | inr off ↦ absurd (false≢true (sym (ap not h) ∙ sets_have (λ s. not (p s)) t (none_pass p (all_sets (length t)) off)))
]

pub filter_in : {X : Type 0} (p : X → Bool) (xs : List X) (x : X) → Contains xs x → p x ≡ true → Contains (filter p xs) x
filter_in p [] x i h = absurd (none_in x i)
filter_in {X} p (y ∷ ys) x (zero, lt, e) h =
    let on : p y ≡ true = ap p e ∙ h in
    let here : Contains (y ∷ filter p ys) x = subst (λ (z : X). Contains (y ∷ filter p ys) z) e (first_in y (filter p ys)) in
    subst (λ (zs : List X). Contains zs x) (sym (ap (λ b. cond b (y ∷ filter p ys) (filter p ys)) on)) here
filter_in {X} p (y ∷ ys) x (suc k, lt, e) h =
    let rest : Contains (filter p ys) x = filter_in p ys x (k, omega (arith, lt), e) h in
    elim (cases_Bool (p y)) [
      | inl on ↦ subst (λ (zs : List X). Contains zs x) (sym (ap (λ b. cond b (y ∷ filter p ys) (filter p ys)) on))
          (later_in y (filter p ys) x rest)
      | inr off ↦ subst (λ (zs : List X). Contains zs x) (sym (ap (λ b. cond b (y ∷ filter p ys) (filter p ys)) off)) rest
    ]

pub in_cons : {X : Type 0} (y : X) (ys : List X) (x : X) → Contains (y ∷ ys) x → (y ≡ x) ⊎ Contains ys x
in_cons y ys x (zero, lt, e) = inl e
in_cons y ys x (suc k, lt, e) = inr (k, omega (arith, lt), e)

pub filter_out : {X : Type 0} (p : X → Bool) (xs : List X) (x : X) → Contains (filter p xs) x → Contains xs x × (p x ≡ true)
filter_out p [] x i = absurd (none_in x i)
filter_out {X} p (y ∷ ys) x i = elim (cases_Bool (p y)) [
  | inl on ↦ (let i' : Contains (y ∷ filter p ys) x =
      subst (λ (zs : List X). Contains zs x) (ap (λ b. cond b (y ∷ filter p ys) (filter p ys)) on) i in
      elim (in_cons y (filter p ys) x i') [
        | inl e ↦ (subst (λ (z : X). Contains (y ∷ ys) z) e (first_in y ys), ap p (sym e) ∙ on)
        | inr there ↦ (let r = filter_out p ys x there in (later_in y ys x r.0, r.1))
      ])
  | inr off ↦ (let r = filter_out p ys x
      (subst (λ (zs : List X). Contains zs x) (ap (λ b. cond b (y ∷ filter p ys) (filter p ys)) off) i) in
      (later_in y ys x r.0, r.1))
]

pub filter_same : {X : Type 0} (p q : X → Bool) (xs : List X) → ((x : X) → Contains xs x → p x ≡ q x) → filter p xs ≡ filter q xs
filter_same p q [] f = refl
filter_same p q (x ∷ xs) f =
    let rest : filter p xs ≡ filter q xs = filter_same p q xs (λ y i. f y (later_in x xs y i)) in
    λ j. cond (f x (first_in x xs) j) (x ∷ rest j) (rest j)

pub filter_none : {X : Type 0} (p : X → Bool) (xs : List X) → ((x : X) → Contains xs x → p x ≡ false) → filter p xs ≡ []
filter_none p [] f = refl
filter_none p (x ∷ xs) f =
    ap (λ b. cond b (x ∷ filter p xs) (filter p xs)) (f x (first_in x xs)) ∙ filter_none p xs (λ y i. f y (later_in x xs y i))

-- ---- steps

-- a closed set as a fact
pub record IsClosedBy (step : ℕ → ℕ → Bool) (n p : ℕ) (set : ℕ → Bool) : Type 0 where
  pub begun : (q : ℕ) → q < n → step p q ≡ true → set q ≡ true
  pub closed : (m q : ℕ) → m < n → q < n → set m ≡ true → step m q ≡ true → set q ≡ true

test_closed : (step : ℕ → ℕ → Bool) (n p : ℕ) (set : ℕ → Bool) → is_closed_from step n p set ≡ true
    → IsClosedBy step n p set
test_closed step n p set h = record {
  begun = λ q lt s. then_gives (is_next step n p set q) (set q)
      (all_below (λ q. not (is_next step n p set q) || set q) n q lt h)
      (or_left (step p q) (list_any (λ m. set m && step m q) (range_with_len 0 n)) s);
  closed = λ m q lm lq on s. then_gives (is_next step n p set q) (set q)
      (all_below (λ q. not (is_next step n p set q) || set q) n q lq h)
      (or_right (step p q) (list_any (λ m. set m && step m q) (range_with_len 0 n))
      (any_below (λ m. set m && step m q) n m lm (and_from (set m) (step m q) on s)));
}

closed_test : (step : ℕ → ℕ → Bool) (n p : ℕ) (set : ℕ → Bool) → IsClosedBy step n p set
    → is_closed_from step n p set ≡ true
closed_test step n p set by =
    all_from (λ q. not (is_next step n p set q) || set q) (range_with_len 0 n) (λ q i.
    then_true (is_next step n p set q) (set q) (λ next.
    elim (or_cases (step p q) (list_any (λ m. set m && step m q) (range_with_len 0 n)) next) [
      | inl s ↦ by.begun q (range_in n q i) s
      | inr any ↦ (let r = any_gives (λ m. set m && step m q) (range_with_len 0 n) any in
          let both = and_parts (set r.0) (step r.0 q) r.2 in
          by.closed r.0 q (range_in n r.0 r.1) (range_in n q i) both.0 both.1)
    ]))

pub comes_from : (step : ℕ → ℕ → Bool) (n p q : ℕ)
    → ((set : List Bool) → IsClosedBy step n p (member set) → member set q ≡ true) → comes_to step n p q ≡ true
unfolding comes_to
comes_from step n p q f =
    all_true (λ s. not (is_closed_from step n p (member s)) || member s q) (all_sets n)
    (λ s. then_true (is_closed_from step n p (member s)) (member s q) (λ t. f s (test_closed step n p (member s) t)))

pub comes_gives : (step : ℕ → ℕ → Bool) (n p q : ℕ) → comes_to step n p q ≡ true → (set : ℕ → Bool)
    → IsClosedBy step n p set → q < n → set q ≡ true
unfolding comes_to
comes_gives step n p q h set by lt =
    let s : List Bool = map set (range_with_len 0 n) in
    let len : length s ≡ n = length-map-range_with_len set 0 n in
    let test : List Bool → Bool = λ s. not (is_closed_from step n p (member s)) || member s q in
    let all : list_all test (all_sets (length s)) ≡ true = ap (λ k. list_all test (all_sets k)) len ∙ h in
    let is : IsClosedBy step n p (member s) = record {
      begun = λ q lq st. listed_member set n q lq ∙ by.begun q lq st;
      closed = λ m q lm lq on st.
          listed_member set n q lq ∙ by.closed m q lm lq (sym (listed_member set n m lm) ∙ on) st;
    } in
    sym (listed_member set n q lt)
    ∙ then_gives (is_closed_from step n p (member s)) (member s q) (sets_have test s all)
    (closed_test step n p (member s) is)

-- ---- steps turned round

or_not : (a b : Bool) → not (a || b) ≡ true → (a ≡ false) × (b ≡ false)
or_not true b h = absurd (false≢true h)
or_not false true h = absurd (false≢true h)
or_not false false h = (refl, refl)

not_or : (a b : Bool) → (a ≡ true → ⊥) → (b ≡ true → ⊥) → not (a || b) ≡ true
not_or true b f g = absurd (f refl)
not_or false true f g = absurd (g refl)
not_or false false f g = refl

turned_half : (step : ℕ → ℕ → Bool) (n p q : ℕ) → p < n → q < n → comes_to (λ a b. step b a) n p q ≡ true
    → comes_to step n q p ≡ true
turned_half step n p q lp lq h = comes_from step n q p inside
  where
    inside : (s : List Bool) → IsClosedBy step n q (member s) → member s p ≡ true
    inside s by = elim (cases_Bool (member s p)) [
      | inl on ↦ on
      | inr off ↦ (
          let out : ℕ → Bool = λ x. not (member s x || nat_eq x q) in
          let free : (x m : ℕ) → x < n → m < n → member s m ≡ false → step x m ≡ true → out x ≡ true =
          λ x m lx lm none st. not_or (member s x) (nat_eq x q)
          (λ on. false≢true (sym none ∙ by.closed x m lx lm on st))
          (λ e. false≢true (sym none ∙ by.begun m lm (ap (λ k. step k m) (sym (eqb-true x q e)) ∙ st))) in
          let is : IsClosedBy (λ a b. step b a) n p out = record {
            begun = λ x lx st. free x p lx lp off st;
            closed = λ m x lm lx on st. free x m lx lm (or_not (member s m) (nat_eq m q) on).0 st;
          } in
          let at : out q ≡ true = comes_gives (λ a b. step b a) n p q h out is lq in
          absurd (false≢true (sym (or_not (member s q) (nat_eq q q) at).1 ∙ eq-eqb q q refl)))
    ]

pub turned : (step : ℕ → ℕ → Bool) (n p q : ℕ) → p < n → q < n
    → comes_to (λ a b. step b a) n p q ≡ comes_to step n q p
turned step n p q lp lq =
    same_bool (comes_to (λ a b. step b a) n p q) (comes_to step n q p)
    (turned_half step n p q lp lq) (turned_half (λ a b. step b a) n q p lq lp)

-- ---- what edges lead to

-- a set of places, and the needs all of whose ways it has
wider : List (List ℕ) → ℕ → (ℕ → Bool) → ℕ → Bool
wider rows places set v = cond (nat_lt v places) (set v) (list_all set (row_at rows v))

wider_place : (rows : List (List ℕ)) (places : ℕ) (set : ℕ → Bool) (v : ℕ) → v < places → wider rows places set v ≡ set v
unfolding wider
wider_place rows places set v lt = ap (λ b. cond b (set v) (list_all set (row_at rows v))) (lt-ltb v places lt)

wider_need : (rows : List (List ℕ)) (places : ℕ) (set : ℕ → Bool) (v : ℕ) → places ≤ v
    → wider rows places set v ≡ list_all set (row_at rows v)
unfolding wider
wider_need rows places set v ge = ap (λ b. cond b (set v) (list_all set (row_at rows v))) (le-ltb v places ge)

wider_closed : (rows : List (List ℕ)) (places : ℕ) (step : ℕ → ℕ → Bool) (p : ℕ) (set : ℕ → Bool) → AreWaits places rows
    → IsTwoEdges rows places step → p < places → IsClosedBy step places p set → IsClosedFrom rows p (wider rows places set)
wider_closed rows places step p set waits two lp by = record {
  begun = λ v edge.
      (let ge = (waits.needs p v lp edge).0 in
      wider_need rows places set v ge
      ∙ all_from set (row_at rows v) (λ q i. by.begun q (waits.ways v q ge i) (two.only p v q lp edge i)));
  closed = λ u v on edge. elim (cases_lt u places) [
    | inl lt ↦ (let ge = (waits.needs u v lt edge).0 in
        wider_need rows places set v ge
        ∙ all_from set (row_at rows v) (λ q i. by.closed u q lt (waits.ways v q ge i)
        (sym (wider_place rows places set u lt) ∙ on) (two.only u v q lt edge i)))
    | inr ge ↦ wider_place rows places set v (waits.ways u v ge edge)
        ∙ all_gives set (row_at rows u) v (sym (wider_need rows places set u ge) ∙ on) edge
  ];
}

pub reach_is : (rows : List (List ℕ)) (places : ℕ) (step : ℕ → ℕ → Bool) (p : ℕ) (marks : List Bool) → AreWaits places rows
    → IsTwoEdges rows places step → p < places → IsReach rows p marks → (q : ℕ) → q < places
    → member marks q ≡ comes_to step places p q
reach_is rows places step p marks waits two lp is q lq =
    same_bool (member marks q) (comes_to step places p q)
    (λ on. comes_from step places p q (λ s by.
    sym (wider_place rows places (member s) q lq)
    ∙ is.least (wider rows places (member s)) (wider_closed rows places step p (member s) waits two lp by) q on))
    (λ h. comes_gives step places p q h (member marks) (record {
      begun = λ q lq s. (let r = two.made p q lp lq s in is.closed.closed r.0 q (is.closed.begun r.0 r.1) r.2);
      closed = λ m q lm lq on s.
          (let r = two.made m q lm lq s in is.closed.closed r.0 q (is.closed.closed m r.0 on r.1) r.2);
    }) lq)

-- ---- edges

pub edges_of : (rows : List (List ℕ)) (places : ℕ) → AreWaits places rows → AreEdges rows
edges_of rows places waits u v edge = elim (cases_lt u places) [
  | inl lt ↦ (waits.needs u v lt edge).1
  | inr ge ↦ omega (arith, waits.ways u v ge edge, waits.fits)
]

pub waits_back : (rows back : List (List ℕ)) (places : ℕ) → AreWaits places rows → IsInverse rows back → AreWaits places back
waits_back rows back places waits turned = record {
  fits = omega (arith, waits.fits, turned.len);
  needs = λ u v lt edge.
      (let e = turned.only v u edge in (
        elim (cases_lt v places) [
          | inl small ↦ absurd (omega (arith, (waits.needs v u small e).0, lt))
          | inr ge ↦ ge
        ],
        omega (arith, edge_from rows v u e, turned.len),
      ));
  ways = λ u v ge edge.
      (let e = turned.only v u edge in
      elim (cases_lt v places) [
        | inl small ↦ small
        | inr past ↦ absurd (omega (arith, waits.ways v u past e, ge))
      ]);
}

pub two_back : (rows back : List (List ℕ)) (places : ℕ) (step : ℕ → ℕ → Bool) → AreWaits places rows → IsInverse rows back
    → IsTwoEdges rows places step → IsTwoEdges back places (λ a b. step b a)
two_back rows back places step waits turned two = record {
  made = λ p q lp lq s. (let r = two.made q p lq lp s in (r.0, turned.turned r.0 p r.2, turned.turned q r.0 r.1));
  only = λ p v q lp one other.
      (let ge = ((waits_back rows back places waits turned).needs p v lp one).0 in
      two.only q v p ((waits_back rows back places waits turned).ways v q ge other)
      (turned.only q v other) (turned.only v p one));
}

-- ---- cycles

pub cycle_is : (rows back : List (List ℕ)) (places p : ℕ) (on to : List Bool) (cycle : List ℕ) → AreWaits places rows
    → IsInverse rows back → p < places → IsReach rows p on → IsReach back p to
    → cycle ≡ filter (λ q. member on q && member to q) (range_with_len 0 places)
    → (waits : List (List (List ℕ))) → AreLeads waits places rows → cycle ≡ cycle_of waits p
cycle_is rows back places p on to cycle are turned' lp forth back' is waits lead =
    is ∙ filter_same (λ q. member on q && member to q) (are_in_cycle' places) (range_with_len 0 places) (λ q i.
    (let lq = range_in places q i in
    λ j. reach_is rows places (leads waits) p on are lead.edges lp forth q lq j
    && (reach_is back places (λ a b. leads waits b a) p to (waits_back rows back places are turned')
    (two_back rows back places (leads waits) are turned' lead.edges) lp back' q lq
    ∙ turned (leads waits) places p q lp lq) j))
    ∙ ap (λ n. filter (are_in_cycle' n) (range_with_len 0 n)) (sym lead.count)
  where
    are_in_cycle' : ℕ → ℕ → Bool
    are_in_cycle' n q = comes_to (leads waits) n p q && comes_to (leads waits) n q p

pub flat_push : {X : Type 0} (f : ℕ → List X) (xs : List ℕ) (x : ℕ) → flat_map f (xs ++ x ∷ []) ≡ flat_map f xs ++ f x
flat_push f [] x = append-nil (f x)
flat_push f (y ∷ ys) x =
    ap (λ zs. f y ++ zs) (flat_push f ys x) ∙ sym (append_assoc (f y) (flat_map f ys) (f x))

pub flat_more : {X : Type 0} (f : ℕ → List X) (p : ℕ) (xs ys : List X) → xs ≡ flat_map f (range_with_len 0 p)
    → ys ≡ xs ++ f p → ys ≡ flat_map f (range_with_len 0 (p + 1))
flat_more {X} f p xs ys before now =
    now ∙ ap (λ (zs : List X). zs ++ f p) before ∙ sym (flat_push f (range_with_len 0 p) p)
    ∙ ap (flat_map f) (sym (range_push p))
