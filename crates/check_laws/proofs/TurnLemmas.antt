-- Who starts of a plan as the turns come, and who is left.
use Rattle.std.proofs.Common.{◌≡◌, ℕ, zero, suc, ◌+◌, ◌<◌, ◌≤◌, Bool, true, false, ◌||◌, List, [], ◌∷◌, ◌++◌, length, map, get_or, Option, Some, None, refl, sym, ap, ◌∙◌, ◌⊎◌, inl, inr, subst, arith, append_assoc}
use Rattle.std.specs.Prelude.{Contains, slice_get, remove}
use Rattle.std.specs.Option.{is_some, option_map, option_map_or}
use Rattle.std.specs.List.{list_any, list_all}
use Rattle.std.proofs.lemmas.Bool.{false≢true, cases_Bool, and_parts, and_from}
use Rattle.std.proofs.lemmas.List.{map-append, append-nil, length-map, get_or-map}
use Rattle.std.proofs.lemmas.List.Elements.{Contains-append_left, Contains-append_cases}
use Rattle.std.proofs.lemmas.List.Quantifiers.{position-Some}
use Rattle.std.proofs.lemmas.Option.{get_or_from_slice_get, same_Some}
use Rattle.nt_bytes.specs.Folding.{folded, folds_same}
use Rattle.start_model.specs.Demand.{Need}
use Rattle.start_model.specs.Ready.{Label, has_name, has_group, is_ready, next_of}
use Rattle.dependencies.specs.Waiting.{label_of}
use Rattle.boot_phases.proofs.TriedLemmas.{some_place}
use Rattle.service_control.specs.State.{labels_of}
use Rattle.service_control.proofs.SpreadState.{none}
use Rattle.service_control.proofs.LeanLemmas.{folded_last, mapped_from, mapped_to, alone_from}
use Rattle.service_control.proofs.MetLemmas.{named_any}
use Rattle.wait_cycles.proofs.InverseLemmas.{none_in}
use Rattle.wait_cycles.proofs.MetLemmas.{first_in, later_in, any_from, any_gives, all_weaker}
use Rattle.wait_cycles.proofs.CycleLemmas.{in_cons}
use Rattle.check_laws.proofs.TakenLemmas.{item_here}

-- ---- what those that were started meet

pub named_in : (r : List Need) (d : List ℕ) (m : Need) → Contains r m → folds_same d m.name ≡ true
    → has_name (labels_of r) d ≡ true
named_in r d m c h = named_any r d ∙ any_from (λ (n : Need). folds_same d n.name) r m c h

pub named_from : (r : List Need) (d : List ℕ) → has_name (labels_of r) d ≡ true
    → (m : Need) × Contains r m × (folds_same d m.name ≡ true)
named_from r d h = any_gives (λ (n : Need). folds_same d n.name) r (sym (named_any r d) ∙ h)

-- the entry is of the group
abbrev pub is_member : List ℕ → Need → Bool
is_member g n = option_map_or (folds_same g) n.group false

group_one : (g : List ℕ) (o : Option (List ℕ))
    → option_map_or (folds_same g) (option_map folded o) false ≡ option_map_or (folds_same g) o false
group_one g None = refl
group_one g (Some h) = folded_last g h

member_any : (r : List Need) (g : List ℕ) → has_group (labels_of r) g ≡ list_any (is_member g) r
member_any [] g = refl
member_any (x ∷ xs) g = λ i. group_one g x.group i || member_any xs g i

pub member_in : (r : List Need) (g : List ℕ) (m : Need) → Contains r m → is_member g m ≡ true
    → has_group (labels_of r) g ≡ true
member_in r g m c h = member_any r g ∙ any_from (is_member g) r m c h

pub member_from : (r : List Need) (g : List ℕ) → has_group (labels_of r) g ≡ true
    → (m : Need) × Contains r m × (is_member g m ≡ true)
member_from r g h = any_gives (is_member g) r (sym (member_any r g) ∙ h)

-- what is ready stays ready where more are started
pub ready_wider : (r t : List Need) (n : Need) → ((m : Need) → Contains r m → Contains t m)
    → is_ready (labels_of r) n ≡ true → is_ready (labels_of t) n ≡ true
ready_wider r t n f h =
    let b = and_parts (list_all (has_name (labels_of r)) n.services) (list_all (has_group (labels_of r)) n.groups) h in
    and_from (list_all (has_name (labels_of t)) n.services) (list_all (has_group (labels_of t)) n.groups)
    (all_weaker (has_name (labels_of r)) (has_name (labels_of t)) n.services
    (λ d i h. (let m = named_from r d h in named_in t d m.0 (f m.0 m.1) m.2)) b.0)
    (all_weaker (has_group (labels_of r)) (has_group (labels_of t)) n.groups
    (λ g i h. (let m = member_from r g h in member_in t g m.0 (f m.0 m.1) m.2)) b.1)

-- ---- turns

-- each of these is of the plan, and ready once those before it are started too
abbrev pub InTurn : (Need → Type 0) → List Need → List Need → Type 0
InTurn Plan pre [] = Unit {0}
InTurn Plan pre (n ∷ ns) = Plan n × (is_ready (labels_of pre) n ≡ true) × InTurn Plan (pre ++ n ∷ []) ns

pub turn_as : (P Q : Need → Type 0) → ((n : Need) → P n → Q n) → (pre new : List Need) → InTurn P pre new
    → InTurn Q pre new
turn_as P Q f pre [] t = tt
turn_as P Q f pre (n ∷ ns) t = (f n t.0, t.1, turn_as P Q f (pre ++ n ∷ []) ns t.2)

-- each is of the plan, and ready in the end
pub turned_each : (Plan : Need → Type 0) (pre new : List Need) → InTurn Plan pre new → (n : Need) → Contains new n
    → Plan n × (is_ready (labels_of (pre ++ new)) n ≡ true)
turned_each Plan pre [] t n c = absurd (none_in n c)
turned_each Plan pre (m ∷ ms) t n c = elim (in_cons m ms n c) [
  | inl e ↦ subst (λ (x : Need). Plan x × (is_ready (labels_of (pre ++ m ∷ ms)) x ≡ true)) e (
    t.0,
    ready_wider pre (pre ++ m ∷ ms) m (λ x i. Contains-append_left pre (m ∷ ms) x i) t.1,
  )
  | inr i ↦ (let d = turned_each Plan (pre ++ m ∷ []) ms t.2 n i in
      (d.0, ap (λ (r : List Need). is_ready (labels_of r) n) (sym (append_assoc pre (m ∷ []) ms)) ∙ d.1))
]

-- what goes over from those that are started to the next one holds of all
pub turn_ind : (Plan Q : Need → Type 0)
    → ((pre : List Need) (n : Need) → ((m : Need) → Contains pre m → Q m) → Plan n → is_ready (labels_of pre) n ≡ true → Q n)
    → (pre new : List Need) → ((m : Need) → Contains pre m → Q m) → InTurn Plan pre new → (n : Need)
    → Contains (pre ++ new) n → Q n
turn_ind Plan Q step pre [] all t n c = elim (Contains-append_cases pre [] n c) [
  | inl i ↦ all n i
  | inr i ↦ absurd (none_in n i)
]
turn_ind Plan Q step pre (m ∷ ms) all t n c =
    turn_ind Plan Q step (pre ++ m ∷ []) ms (λ x i. elim (Contains-append_cases pre (m ∷ []) x i) [
      | inl j ↦ all x j
      | inr j ↦ subst Q (alone_from m x j) (step pre m all t.0 t.1)
    ]) t.2 n (subst (λ (l : List Need). Contains l n) (sym (append_assoc pre (m ∷ []) ms)) c)

-- of a plan those start in turn, and what remains of it is not ready
pub record IsPhase (Plan : Need → Type 0) (pre new left : List Need) : Type 0 where
  pub turn : InTurn Plan pre new
  pub each : (n : Need) → Plan n → Contains new n ⊎ Contains left n
  pub only : (n : Need) → Contains left n → Plan n
  pub unready : (n : Need) → Contains left n → is_ready (labels_of (pre ++ new)) n ≡ false

pub phase_as : (P Q : Need → Type 0) → ((n : Need) → P n → Q n) → ((n : Need) → Q n → P n) → (pre new left : List Need)
    → IsPhase P pre new left → IsPhase Q pre new left
phase_as P Q f g pre new left h = record {
  turn = turn_as P Q f pre new h.turn;
  each = λ n q. h.each n (g n q);
  only = λ n c. f n (h.only n c);
  unready = h.unready;
}

-- ---- turns, played

-- who starts, and who is left
pub record Ran (X : Type 0) : Type 0 where
  pub new : List X
  pub left : List X

abbrev pub none_ran : {X : Type 0} → List X → Ran X
none_ran xs = record { new = []; left = xs }

abbrev pub with_new : {X : Type 0} → X → Ran X → Ran X
with_new x r = record { new = x ∷ r.new; left = r.left }

-- at most that many turns: the first that is ready starts
unfoldable pub run : {X : Type 0} → (X → Need) → ℕ → List Label → List X → Ran X
run f zero started xs = none_ran xs
run f (suc n) started xs =
    option_map_or (λ k. option_map_or (λ x. with_new x (run f n (started ++ label_of (f x) ∷ []) (remove xs k))) (slice_get xs k) (none_ran xs))
    (next_of started (map f xs)) (none_ran xs)

-- ---- what is removed

pub removed_from : {X : Type 0} (xs : List X) (k : ℕ) (x : X) → Contains (remove xs k) x → Contains xs x
removed_from [] zero x c = absurd (none_in x c)
removed_from [] (suc k) x c = absurd (none_in x c)
removed_from (y ∷ ys) zero x c = later_in y ys x c
removed_from {X} (y ∷ ys) (suc k) x c = elim (in_cons y (remove ys k) x c) [
  | inl e ↦ subst (λ (z : X). Contains (y ∷ ys) z) e (first_in y ys)
  | inr i ↦ later_in y ys x (removed_from ys k x i)
]

pub removed_or : {X : Type 0} (xs : List X) (k : ℕ) (z : X) → slice_get xs k ≡ Some z → (x : X) → Contains xs x
    → (z ≡ x) ⊎ Contains (remove xs k) x
removed_or [] k z is x c = absurd (none_in x c)
removed_or (y ∷ ys) zero z is x c = elim (in_cons y ys x c) [
  | inl e ↦ inl (sym (same_Some y z is) ∙ e)
  | inr i ↦ inr i
]
removed_or {X} (y ∷ ys) (suc k) z is x c = elim (in_cons y ys x c) [
  | inl e ↦ inr (subst (λ (w : X). Contains (y ∷ remove ys k) w) e (first_in y (remove ys k)))
  | inr i ↦ elim (removed_or ys k z is x i) [ inl e ↦ inl e | inr j ↦ inr (later_in y (remove ys k) x j) ]
]

pub one_removed : {X : Type 0} (xs : List X) (k : ℕ) (z : X) → slice_get xs k ≡ Some z
    → length xs ≡ suc (length (remove xs k))
one_removed [] k z is = absurd cc
one_removed (y ∷ ys) zero z is = refl
one_removed (y ∷ ys) (suc k) z is = ap suc (one_removed ys k z is)

pub past : {X : Type 0} (xs : List X) (k : ℕ) → k < length xs → slice_get xs k ≡ None → ⊥
past [] k lt is = omega (arith, lt)
past (y ∷ ys) zero lt is = cc
past (y ∷ ys) (suc k) lt is = past ys k (omega (arith, lt)) is

-- ---- a run is a phase

-- these start of the list, in turn, and the others are left and not ready
pub record IsRan {X : Type 0} (f : X → Need) (pre : List Need) (xs new left : List X) : Type 0 where
  pub turn : InTurn (Contains (map f xs)) pre (map f new)
  pub each : (x : X) → Contains xs x → Contains new x ⊎ Contains left x
  pub from : (x : X) → Contains new x → Contains xs x
  pub only : (x : X) → Contains left x → Contains xs x
  pub unready : (x : X) → Contains left x → is_ready (labels_of (pre ++ map f new)) (f x) ≡ false
  pub count : length new + length left ≡ length xs

module _ {X : Type 0} (f : X → Need) where
  ran_none : (pre : List Need) (xs : List X) → ((x : X) → Contains xs x → is_ready (labels_of pre) (f x) ≡ false)
      → IsRan f pre xs [] xs
  ran_none pre xs unready = record {
    turn = tt;
    each = λ x c. inr c;
    from = λ x c. absurd (none_in x c);
    only = λ x c. c;
    unready = λ x c. ap (λ (r : List Need). is_ready (labels_of r) (f x)) (append-nil pre) ∙ unready x c;
    count = omega arith;
  }

  mapped_less : (xs : List X) (k : ℕ) (n : Need) → Contains (map f (remove xs k)) n → Contains (map f xs) n
  mapped_less xs k n c =
      let m = mapped_from f (remove xs k) n c in
      subst (λ (n : Need). Contains (map f xs) n) m.is (mapped_to f xs m.item (removed_from xs k m.item m.there))

  ran_more : (pre : List Need) (xs : List X) (k : ℕ) (z : X) (new left : List X) → slice_get xs k ≡ Some z
      → Contains xs z → is_ready (labels_of pre) (f z) ≡ true → IsRan f (pre ++ f z ∷ []) (remove xs k) new left
      → IsRan f pre xs (z ∷ new) left
  ran_more pre xs k z new left is there ready r = record {
    turn = (
      mapped_to f xs z there,
      ready,
      turn_as (Contains (map f (remove xs k))) (Contains (map f xs)) (mapped_less xs k) (pre ++ f z ∷ []) (map f new) r.turn,
    );
    each = λ x c. elim (removed_or xs k z is x c) [
      | inl e ↦ inl (subst (λ (w : X). Contains (z ∷ new) w) e (first_in z new))
      | inr i ↦ elim (r.each x i) [ inl j ↦ inl (later_in z new x j) | inr j ↦ inr j ]
    ];
    from = λ x c. elim (in_cons z new x c) [
      | inl e ↦ subst (Contains xs) e there
      | inr i ↦ removed_from xs k x (r.from x i)
    ];
    only = λ x c. removed_from xs k x (r.only x c);
    unready = λ x c. ap (λ (l : List Need). is_ready (labels_of l) (f x)) (sym (append_assoc pre (f z ∷ []) (map f new)))
        ∙ r.unready x c;
    count = omega (arith, r.count, one_removed xs k z is);
  }

  abbrev Goes : ℕ → Type 0
  Goes n = (s : List Label) (pre : List Need) (xs : List X) → s ≡ labels_of pre → length xs ≤ n
      → IsRan f pre xs (run f n s xs).new (run f n s xs).left

  ran_at : (n : ℕ) → Goes n → (s : List Label) (pre : List Need) (xs : List X) (k : ℕ) (o : Option X)
      → s ≡ labels_of pre → length xs ≤ suc n → next_of s (map f xs) ≡ Some k → slice_get xs k ≡ o
      → let r : Ran X = option_map_or (λ x. with_new x (run f n (s ++ label_of (f x) ∷ []) (remove xs k))) o (none_ran xs) in
      IsRan f pre xs r.new r.left
  ran_at n rest s pre xs k None are few next is =
      absurd (past xs k (omega (arith, length-map xs f, (position-Some (is_ready s) (map f xs) k none next).0)) is)
  ran_at n rest s pre xs k (Some z) are few next is =
      let found = position-Some (is_ready s) (map f xs) k (f z) next in
      let at : get_or (map f xs) k (f z) ≡ f z =
      get_or-map f xs k z (f z) (omega (arith, length-map xs f, found.0)) ∙ ap f (get_or_from_slice_get xs k z z is) in
      let ready : is_ready (labels_of pre) (f z) ≡ true =
      ap (λ l. is_ready l (f z)) (sym are) ∙ ap (is_ready s) (sym at) ∙ found.1 in
      let labels : s ++ label_of (f z) ∷ [] ≡ labels_of (pre ++ f z ∷ []) =
      ap (λ (l : List Label). l ++ label_of (f z) ∷ []) are ∙ sym (map-append label_of pre (f z ∷ [])) in
      let more = rest (s ++ label_of (f z) ∷ []) (pre ++ f z ∷ []) (remove xs k) labels
      (omega (arith, few, one_removed xs k z is)) in
      ran_more pre xs k z (run f n (s ++ label_of (f z) ∷ []) (remove xs k)).new
      (run f n (s ++ label_of (f z) ∷ []) (remove xs k)).left is (item_here xs k z is) ready more

  ran_by : (n : ℕ) → Goes n → (s : List Label) (pre : List Need) (xs : List X) (o : Option ℕ) → s ≡ labels_of pre
      → length xs ≤ suc n → next_of s (map f xs) ≡ o
      → let r : Ran X = option_map_or (λ k. option_map_or (λ x. with_new x (run f n (s ++ label_of (f x) ∷ []) (remove xs k))) (slice_get xs k) (none_ran xs)) o (none_ran xs) in
      IsRan f pre xs r.new r.left
  ran_by n rest s pre xs None are few next =
      ran_none pre xs (λ x c. ap (λ l. is_ready l (f x)) (sym are) ∙ elim (cases_Bool (is_ready s (f x))) [
        | inl on ↦ absurd (false≢true (sym (ap is_some next) ∙ some_place (is_ready s) (map f xs)
            ∙ any_from (is_ready s) (map f xs) (f x) (mapped_to f xs x c) on))
        | inr off ↦ off
      ])
  ran_by n rest s pre xs (Some k) are few next = ran_at n rest s pre xs k (slice_get xs k) are few next refl

  pub ran : (n : ℕ) → Goes n
  unfolding run
  ran zero s pre [] are few = ran_none pre [] (λ x c. absurd (none_in x c))
  ran zero s pre (x ∷ xs) are few = absurd (omega (arith, few))
  ran (suc n) s pre xs are few = ran_by n (ran n) s pre xs (next_of s (map f xs)) are few refl

  -- so it is a phase
  pub ran_phase : (pre : List Need) (xs new left : List X) → IsRan f pre xs new left
      → IsPhase (Contains (map f xs)) pre (map f new) (map f left)
  ran_phase pre xs new left r = record {
    turn = r.turn;
    each = λ n c. (let m = mapped_from f xs n c in
        elim (r.each m.item m.there) [
          | inl i ↦ inl (subst (Contains (map f new)) m.is (mapped_to f new m.item i))
          | inr i ↦ inr (subst (Contains (map f left)) m.is (mapped_to f left m.item i))
        ]);
    only = λ n c. (let m = mapped_from f left n c in
        subst (Contains (map f xs)) m.is (mapped_to f xs m.item (r.only m.item m.there)));
    unready = λ n c. (let m = mapped_from f left n c in
        ap (is_ready (labels_of (pre ++ map f new))) (sym m.is) ∙ r.unready m.item m.there);
  }
