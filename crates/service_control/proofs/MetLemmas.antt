-- The needs of each started service are met, whatever was asked for.
use Rattle.std.proofs.Common.{◌≡◌, ℕ, zero, suc, ◌+◌, ◌<◌, Bool, true, false, not, ltb, ◌||◌, cond, List, [], ◌∷◌, ◌++◌, length, get_or, take, map, filter, Option, Some, None, refl, sym, ap, ◌∙◌, subst, inl, inr, arith, zero-add}
use Rattle.std.specs.Prelude.{slice_get, Contains, position, option_and_then}
use Rattle.std.specs.List.{list_any, list_all, filter_map, cons_option, items_where_true, position_or_len}
use Rattle.std.specs.Option.{option_map, option_map_or, option_or, option_to_list}
use Rattle.std.proofs.lemmas.Bool.{false≢true, and_parts, and_from, cases_Bool, cases_lt, or_left, or_right, not-false}
use Rattle.std.proofs.lemmas.List.{append-nil, append_assoc, map-append, length-map, length-take, length_push, take_at, take-append-le, get_or_append_left, get_or_push, get_or_default, get_or-take, get_or-map}
use Rattle.std.proofs.lemmas.List.Folds.{Any-from_list_any, list_any-append}
use Rattle.std.proofs.lemmas.List.Quantifiers.{position-Some}
use Rattle.std.proofs.lemmas.List.Sums.{AllPass-from_list_all}
use Rattle.nt_names.proofs.FoldLemmas.{alike}
use Rattle.std.proofs.lemmas.List.FromFn.{get_or-map-range_with_len, length-map-range_with_len}
use Rattle.std.proofs.lemmas.Option.{slice_get-get_or}
use Rattle.nt_bytes.specs.Folding.{folded, folds_same}
use Rattle.hive_model.specs.Tree.{Tree}
use Rattle.start_model.specs.Entries.{Phase, Boot, System, Automatic, need_of}
use Rattle.start_model.specs.Order.{plan_of}
use Rattle.start_model.specs.Demand.{Need, member}
use Rattle.start_model.specs.Ready.{Label, has_name, has_group, is_ready}
use Rattle.dependencies.specs.Waiting.{WaitingState, label_of, next_place_in, after_trying}
use Rattle.dependencies.specs.Work.{names_of}
use Rattle.dependencies.proofs.PulledLemmas.{same_bool}
use Rattle.boot_phases.proofs.TriedLemmas.{within}
use Rattle.service_control.specs.declared.stop.ControlStop.{ControlStop}
use Rattle.service_control.specs.declared.stop.ControlStop.TheVariants.{InUse}
use Rattle.service_control.specs.State.{ControlState, labels_of, named}
use Rattle.service_control.specs.Turns.{turns, starts_of}
use Rattle.dependencies.specs.Attempts.{all_waiting}
use Rattle.service_control.specs.Needed.{members_of}
use Rattle.service_control.specs.Leaning.{is_of_group, has, has_all, leans, is_leaning, leaning_of, leaning_in, in_use_by}
use Rattle.service_control.specs.Calls.{start_refusal, stop_refusal, off_refusal, started_by, after_start, after_stop, after_stop_all}
use Rattle.service_control.specs.First.{after_phase, first_running, control_of}
use Rattle.service_control.specs.Laws.{Call, start, stop, stop_all, after_call, after_calls, AreMet, AreStoppedInOrder}
use Rattle.service_control.proofs.SpreadState.{none}
use Rattle.service_control.proofs.WaitLemmas.{next_ready, no_place, none_passes}
use Rattle.service_control.proofs.LeanLemmas.{folds_itself, folded_last, any_of_label, group_at, has_by, has_all_by, due_is, lean_seed, lean_name, lean_service, lean_group}
use Rattle.service_control.proofs.LeaningLaws.{leaning_closed}

all_more : {X : Type 0} (p q : X → Bool) (xs : List X) → ((x : X) → p x ≡ true → q x ≡ true) → list_all p xs ≡ true
    → list_all q xs ≡ true
all_more p q [] f h = refl
all_more p q (x ∷ xs) f h = let b = and_parts (p x) (list_all p xs) h in
    and_from (q x) (list_all q xs) (f x b.0) (all_more p q xs f b.1)

all_but : {X : Type 0} (p q : X → Bool) (xs : List X) → ((x : X) → Contains xs x → p x ≡ true → q x ≡ true)
    → list_all p xs ≡ true → list_all q xs ≡ true
all_but p q [] f h = refl
all_but p q (x ∷ xs) f h =
    let b = and_parts (p x) (list_all p xs) h in
    and_from (q x) (list_all q xs) (f x (0, omega arith, refl) b.0)
    (all_but p q xs (λ y c. f y (suc c.0, omega (arith, c.1), c.2)) b.1)

-- ---- one more that is ready

group_push : (pre : List Need) (x : Need) (g : List ℕ) → has_group (labels_of pre) g ≡ true
    → has_group (labels_of (pre ++ x ∷ [])) g ≡ true
group_push pre x g h =
    ap (λ l. has_group l g) (map-append label_of pre (x ∷ []))
    ∙ list_any-append (λ (s : Label). option_map_or (folds_same g) s.1 false) (labels_of pre) (label_of x ∷ [])
    ∙ or_left (has_group (labels_of pre) g) _ h

met_push : (pre : List Need) (x : Need) → AreMet pre → is_ready (labels_of pre) x ≡ true → AreMet (pre ++ x ∷ [])
met_push pre x met ready =
    let r = and_parts (list_all (has_name (labels_of pre)) x.services) (list_all (has_group (labels_of pre)) x.groups)
    ready in
    record {
      services = λ k d lt. elim (cases_lt k (length pre)) [
        | inl before ↦
            (λ i. list_all (has_name (labels_of (take-append-le k pre (x ∷ []) (omega (arith, before)) i)))
            (get_or_append_left pre (x ∷ []) d k before i).services)
            ∙ met.services k d before
        | inr from ↦
            (let last : k ≡ length pre = omega (arith, from, lt, length_push pre x) in
            (λ i. list_all (has_name (labels_of (take_at pre (x ∷ []) k (sym last) i)))
            (get_or_push pre x d k (sym last) i).services) ∙ r.0)
      ];
      groups = λ k d lt. elim (cases_lt k (length pre)) [
        | inl before ↦
            ap (λ (n : Need). list_all (has_group (labels_of (pre ++ x ∷ []))) n.groups)
            (get_or_append_left pre (x ∷ []) d k before)
            ∙ all_more (has_group (labels_of pre)) (has_group (labels_of (pre ++ x ∷ []))) (get_or pre k d).groups
            (group_push pre x) (met.groups k d before)
        | inr from ↦
            (let last : k ≡ length pre = omega (arith, from, lt, length_push pre x) in
            ap (λ (n : Need). list_all (has_group (labels_of (pre ++ x ∷ []))) n.groups)
            (get_or_push pre x d k (sym last))
            ∙ all_more (has_group (labels_of pre)) (has_group (labels_of (pre ++ x ∷ []))) x.groups (group_push pre x)
            r.1)
      ];
    }

met_turns : (n : ℕ) (w : WaitingState) (pre : List Need) → w.started ≡ labels_of pre → AreMet pre
    → AreMet (pre ++ filter_map (slice_get w.needs) (turns n w))
unfolding turns
met_turns zero w pre is met = let e = append-nil pre in let P : List Need → Type 0 = AreMet in subst P (sym e) met
met_turns (suc n) w pre is met = by (next_place_in w) refl (λ v front are front_met. met_turns n v front are front_met)
  where
    by : (o : Option ℕ) → next_place_in w ≡ o
        → ((v : WaitingState) (front : List Need) → v.started ≡ labels_of front → AreMet front
        → AreMet (front ++ filter_map (slice_get v.needs) (turns n v)))
        → AreMet (pre ++ filter_map (slice_get w.needs)
        (option_map_or (λ at. at ∷ turns n (after_trying w at true)) o []))
    by None e further = let P : List Need → Type 0 = AreMet in subst P (sym (append-nil pre)) met
    by (Some at) e further =
        let next = next_ready w at (sym e) in
        let x = get_or w.needs at none in
        let found : slice_get w.needs at ≡ Some x = slice_get-get_or w.needs at none next.inside in
        let one : AreMet (pre ++ x ∷ []) = met_push pre x met (ap (λ l. is_ready l x) (sym is) ∙ next.ready) in
        let labels : (after_trying w at true).started ≡ labels_of (pre ++ x ∷ []) =
        ap (λ o. w.started ++ option_to_list (option_map label_of o)) found ∙ ap (λ l. l ++ label_of x ∷ []) is
        ∙ sym (map-append label_of pre (x ∷ [])) in
        let rest : List Need = filter_map (slice_get w.needs) (turns n (after_trying w at true)) in
        let whole : AreMet ((pre ++ x ∷ []) ++ rest) = further (after_trying w at true) (pre ++ x ∷ []) labels one in
        let P : List Need → Type 0 = AreMet in
        subst P (append_assoc pre (x ∷ []) rest ∙ ap (λ o. pre ++ cons_option o rest) (sym found)) whole

met_starts : (needs pre : List Need) → AreMet pre → AreMet (pre ++ starts_of needs (labels_of pre))
met_starts needs pre met = met_turns (length needs) (all_waiting needs (labels_of pre)) pre refl met

none_met : AreMet []
none_met = record { services = λ k d lt. absurd (omega (arith, lt)); groups = λ k d lt. absurd (omega (arith, lt)) }

met_phase : (set : Tree) (phase : Phase) (running : List Need) → AreMet running → AreMet (after_phase set phase running)
met_phase set phase running met = met_starts (map need_of (plan_of set phase (names_of running))) running met

met_first : (set : Tree) → AreMet (first_running set)
met_first set = met_phase set Automatic (after_phase set System (after_phase set Boot []))
    (met_phase set System (after_phase set Boot []) (met_phase set Boot [] none_met))

met_new : (c : ControlState) (o : Option Need) → AreMet c.running
    → AreMet (c.running ++ option_map_or (λ (n : Need). started_by c n.name) o [])
met_new c None met = let P : List Need → Type 0 = AreMet in subst P (sym (append-nil c.running)) met
met_new c (Some n) met = met_starts (members_of c.by_group (labels_of c.running) n.name) c.running met

-- ---- without those that lean

-- the j-th of those that stay
record Stays (bs : List Bool) (xs : List Need) (j : ℕ) : Type 0 where
  place : ℕ
  inside : place < length xs
  stays : member bs place ≡ true
  item : (d : Need) → get_or (items_where_true bs xs) j d ≡ get_or xs place d
  before : take j (items_where_true bs xs) ≡ items_where_true (take place bs) (take place xs)

stays_at : (bs : List Bool) (xs : List Need) (j : ℕ) → j < length (items_where_true bs xs) → Stays bs xs j
stays_at [] xs j lt = absurd (omega (arith, lt))
stays_at (b ∷ bs) [] j lt = absurd (omega (arith, lt))
stays_at (true ∷ bs) (x ∷ xs) zero lt =
    record { place = 0; inside = omega arith; stays = refl; item = λ d. refl; before = refl }
stays_at (true ∷ bs) (x ∷ xs) (suc j) lt =
    let s = stays_at bs xs j (omega (arith, lt)) in
    record {
      place = suc s.place;
      inside = omega (arith, s.inside);
      stays = s.stays;
      item = s.item;
      before = ap (λ l. x ∷ l) s.before;
    }
stays_at (false ∷ bs) (x ∷ xs) j lt =
    let s = stays_at bs xs j lt in
    record { place = suc s.place; inside = omega (arith, s.inside); stays = s.stays; item = s.item; before = s.before }

any_kept : (p : Need → Bool) (bs : List Bool) (xs : List Need) (i : ℕ) (d : Need) → i < length xs → member bs i ≡ true
    → p (get_or xs i d) ≡ true → list_any p (items_where_true bs xs) ≡ true
any_kept p [] xs i d lt m h = absurd (false≢true m)
any_kept p (b ∷ bs) [] i d lt m h = absurd (omega (arith, lt))
any_kept p (true ∷ bs) (x ∷ xs) zero d lt m h = or_left (p x) _ h
any_kept p (false ∷ bs) (x ∷ xs) zero d lt m h = absurd (false≢true m)
any_kept p (true ∷ bs) (x ∷ xs) (suc i) d lt m h = or_right (p x) _ (any_kept p bs xs i d (omega (arith, lt)) m h)
any_kept p (false ∷ bs) (x ∷ xs) (suc i) d lt m h = any_kept p bs xs i d (omega (arith, lt)) m h

-- tests on labels as tests on entries
pub named_any : (xs : List Need) (d : List ℕ) → has_name (labels_of xs) d ≡ list_any (λ n. folds_same d n.name) xs
named_any [] d = refl
named_any (x ∷ xs) d = λ i. folded_last d x.name i || named_any xs d i

group_one : (g : List ℕ) (o : Option (List ℕ))
    → option_map_or (folds_same g) (option_map folded o) false ≡ option_map_or (folds_same g) o false
group_one g None = refl
group_one g (Some h) = folded_last g h

grouped_any : (xs : List Need) (g : List ℕ)
    → has_group (labels_of xs) g ≡ list_any (λ n. option_map_or (folds_same g) n.group false) xs
grouped_any [] g = refl
grouped_any (x ∷ xs) g = λ i. group_one g x.group i || grouped_any xs g i

module _ (r : List Need) (s : List ℕ) where
  abbrev keep : List Bool
  keep = map not (leaning_of r s)

  keep_at : (k : ℕ) → k < length r → member keep k ≡ not (is_leaning r s k)
  keep_at k lt =
      get_or-map not (leaning_of r s) k false false
      (omega (arith, lt, length-map-range_with_len (is_leaning r s) 0 (length r)))
      ∙ ap not (get_or-map-range_with_len (is_leaning r s) 0 (length r) k k false lt (zero-add k))

  -- one that leans is not kept
  not_both : (k : ℕ) → k < length r → member keep k ≡ true → leans r s (is_leaning r s) (get_or r k none) ≡ true → ⊥
  not_both k lt m h = false≢true
      (sym (ap not (leaning_closed r s k (due_is r s (is_leaning r s) k lt ∙ h))) ∙ sym (keep_at k lt) ∙ m)

  -- what is not kept leans
  gone : (k : ℕ) → k < length r → member keep k ≡ false → is_leaning r s k ≡ true
  gone k lt m = not-false (is_leaning r s k) (sym (keep_at k lt) ∙ m)

  -- each name of one that stays is that of one before it that stays
  service_stays : (k : ℕ) (d : List ℕ) → k < length r → member keep k ≡ true → Contains (get_or r k none).services d
      → has_name (labels_of (take k r)) d ≡ true
      → has_name (labels_of (items_where_true (take k keep) (take k r))) d ≡ true
  service_stays k d lt m c h =
      let a = Any-from_list_any (λ (n : Need). folds_same d n.name) (take k r) (sym (named_any (take k r) d) ∙ h) in
      let i = a.0 in
      let small : i < k = omega (arith, a.2, length-take k r) in
      let i_in : i < length r = omega (arith, small, lt) in
      let item : get_or (take k r) i none ≡ get_or r i none = get_or-take k r i none small in
      let same : folds_same d (get_or r i none).name ≡ true =
      ap (λ (n : Need). folds_same d n.name) (sym item ∙ get_or_default (take k r) i none a.1 a.2 ∙ a.3) ∙ a.4 in
      elim (cases_Bool (member keep i)) [
        | inl stays ↦
            named_any (items_where_true (take k keep) (take k r)) d
            ∙ any_kept (λ n. folds_same d n.name) (take k keep) (take k r) i none a.2
            (get_or-take k keep i false small ∙ stays) (ap (λ (n : Need). folds_same d n.name) item ∙ same)
        | inr out ↦ absurd (not_both k lt m
            (lean_service r s (is_leaning r s) (get_or r k none)
            (any_of_label (has r (is_leaning r s)) (get_or r k none).services d c
            (has_by r (is_leaning r s) d i i_in (gone i i_in out) same))))
      ]

  group_stays : (k : ℕ) (g : List ℕ) → k < length r → member keep k ≡ true → Contains (get_or r k none).groups g
      → has_group (labels_of r) g ≡ true → has_group (labels_of (items_where_true keep r)) g ≡ true
  group_stays k g lt m c h = elim (cases_Bool (has_group (labels_of (items_where_true keep r)) g)) [
    | inl there ↦ there
    | inr missing ↦
        (let a = Any-from_list_any (λ (n : Need). option_map_or (folds_same g) n.group false) r
        (sym (grouped_any r g) ∙ h) in
        let i = a.0 in
        let of : is_of_group r g i ≡ true =
        group_at r g i a.2 ∙ ap (λ (n : Need). option_map_or (folds_same g) n.group false)
        (get_or_default r i none a.1 a.2 ∙ a.3) ∙ a.4 in
        absurd (not_both k lt m (lean_group r s (is_leaning r s) (get_or r k none)
        (any_of_label (has_all r (is_leaning r s)) (get_or r k none).groups g c
        (has_all_by r (is_leaning r s) g i a.2 of
        (λ p p_in p_of. has_by r (is_leaning r s) (get_or r p none).name p p_in (leaves missing p p_in p_of)
        (folds_itself (get_or r p none).name)))))))
  ]
    where
      leaves : has_group (labels_of (items_where_true keep r)) g ≡ false → (p : ℕ) → p < length r
          → is_of_group r g p ≡ true → is_leaning r s p ≡ true
      leaves missing p p_in p_of = elim (cases_Bool (member keep p)) [
        | inl stays ↦ absurd (false≢true (sym missing ∙ grouped_any (items_where_true keep r) g
            ∙ any_kept (λ n. option_map_or (folds_same g) n.group false) keep r p none p_in stays
            (sym (group_at r g p p_in) ∙ p_of)))
        | inr out ↦ gone p p_in out
      ]

  pub met_others : AreMet r → AreMet (items_where_true keep r)
  met_others met = record {
    services = λ j d lt.
        (let st = stays_at keep r j lt in
        let item : get_or (items_where_true keep r) j d ≡ get_or r st.place none =
        st.item d ∙ get_or_default r st.place d none st.inside in
        (λ i. list_all (has_name (labels_of (st.before i))) (item i).services)
        ∙ all_but (has_name (labels_of (take st.place r)))
        (has_name (labels_of (items_where_true (take st.place keep) (take st.place r))))
        (get_or r st.place none).services
        (λ x c h. service_stays st.place x st.inside st.stays c h) (met.services st.place none st.inside));
    groups = λ j d lt.
        (let st = stays_at keep r j lt in
        let item : get_or (items_where_true keep r) j d ≡ get_or r st.place none =
        st.item d ∙ get_or_default r st.place d none st.inside in
        ap (λ (n : Need). list_all (has_group (labels_of (items_where_true keep r))) n.groups) item
        ∙ all_but (has_group (labels_of r)) (has_group (labels_of (items_where_true keep r)))
        (get_or r st.place none).groups
        (λ x c h. group_stays st.place x st.inside st.stays c h) (met.groups st.place none st.inside));
  }

-- ---- the order of a stop

pub any_place : (p : Need → Bool) (xs : List Need) → list_any p xs ≡ true
    → (k : ℕ) × (k < length xs) × (p (get_or xs k none) ≡ true)
any_place p xs h = let a = Any-from_list_any p xs h in (a.0, a.2, ap p (get_or_default xs a.0 none a.1 a.2 ∙ a.3) ∙ a.4)

leaning_at : (r : List Need) (s : List ℕ) (k : ℕ) → k < length r → member (leaning_of r s) k ≡ is_leaning r s k
leaning_at r s k lt = get_or-map-range_with_len (is_leaning r s) 0 (length r) k k false lt (zero-add k)

-- a name that one of those that lean gives, and that another one has, was started before it
pub stops_in_order : (r : List Need) (s : List ℕ) → AreMet r → AreStoppedInOrder (leaning_in r s)
stops_in_order r s met k d x lt c there =
    let st = stays_at (leaning_of r s) r k lt in
    let item : get_or (leaning_in r s) k d ≡ get_or r st.place none =
    st.item d ∙ get_or_default r st.place d none st.inside in
    let given : Contains (get_or r st.place none).services x =
    (let P : Need → Type 0 = λ n. Contains n.services x in subst P item c) in
    let named : has_name (labels_of (take st.place r)) x ≡ true =
    ap (has_name (labels_of (take st.place r))) (sym given.2)
    ∙ AllPass-from_list_all (has_name (labels_of (take st.place r))) (get_or r st.place none).services
    (met.services st.place none st.inside) given.0 x given.1 in
    let i = any_place (λ n. folds_same x n.name) (take st.place r) (sym (named_any (take st.place r) x) ∙ named) in
    let small : i.0 < st.place = omega (arith, i.1, length-take st.place r) in
    let i_in : i.0 < length r = omega (arith, small, st.inside) in
    let same : folds_same x (get_or r i.0 none).name ≡ true =
    ap (λ (n : Need). folds_same x n.name) (sym (get_or-take st.place r i.0 none small)) ∙ i.2 in
    let j = any_place (λ n. folds_same x n.name) (leaning_in r s) there in
    let sj = stays_at (leaning_of r s) r j.0 j.1 in
    let same_j : folds_same x (get_or r sj.place none).name ≡ true =
    ap (λ (n : Need). folds_same x n.name) (sym (sj.item none)) ∙ j.2 in
    let j_leans : is_leaning r s sj.place ≡ true = sym (leaning_at r s sj.place sj.inside) ∙ sj.stays in
    let had : has r (is_leaning r s) (get_or r i.0 none).name ≡ true =
    has_by r (is_leaning r s) (get_or r i.0 none).name sj.place sj.inside j_leans
    (sym (alike x (get_or r i.0 none).name same (get_or r sj.place none).name) ∙ same_j) in
    let i_leans : is_leaning r s i.0 ≡ true =
    leaning_closed r s i.0 (due_is r s (is_leaning r s) i.0 i_in
    ∙ lean_name r s (is_leaning r s) (get_or r i.0 none) had) in
    ap (list_any (λ (n : Need). folds_same x n.name)) st.before
    ∙ any_kept (λ n. folds_same x n.name) (take st.place (leaning_of r s)) (take st.place r) i.0 none i.1
    (get_or-take st.place (leaning_of r s) i.0 false small ∙ leaning_at r s i.0 i_in ∙ i_leans) i.2

-- ---- one alone is taken out

filtered : (p : Need → Bool) (bs : List Bool) (xs : List Need) → length bs ≡ length xs
    → ((k : ℕ) → k < length xs → member bs k ≡ p (get_or xs k none)) → items_where_true bs xs ≡ filter p xs
filtered p [] [] len same = refl
filtered p [] (x ∷ xs) len same = absurd (omega (arith, len))
filtered p (b ∷ bs) [] len same = absurd (omega (arith, len))
filtered p (b ∷ bs) (x ∷ xs) len same =
    by b (p x) (same 0 (omega arith)) (filtered p bs xs (omega (arith, len)) (λ k lt. same (suc k) (omega (arith, lt))))
  where
    by : (b c : Bool) → b ≡ c → items_where_true bs xs ≡ filter p xs
        → items_where_true (b ∷ bs) (x ∷ xs) ≡ cond c (x ∷ filter p xs) (filter p xs)
    by true c e rest = ap (λ l. x ∷ l) rest ∙ ap (λ t. cond t (x ∷ filter p xs) (filter p xs)) e
    by false c e rest = rest ∙ ap (λ t. cond t (x ∷ filter p xs) (filter p xs)) e

no_other : (name : List ℕ) (needs : List Need) (o : Option ℕ) → position (λ n. not (folds_same name n.name)) needs ≡ o
    → option_map (λ (n : Need). n.name) (option_and_then (slice_get needs) o) ≡ None
    → list_any (λ n. not (folds_same name n.name)) needs ≡ false
no_other name needs None e h =
    sym (within (λ (n : Need). not (folds_same name n.name)) needs)
    ∙ no_place (ltb (position_or_len (λ (n : Need). not (folds_same name n.name)) needs) (length needs))
    (position_or_len (λ (n : Need). not (folds_same name n.name)) needs) e
no_other name needs (Some k) e h =
    absurd (found (slice_get needs k)
    (slice_get-get_or needs k none (position-Some (λ (n : Need). not (folds_same name n.name)) needs k none e).0) h)
  where
    found : (o : Option Need) → o ≡ Some (get_or needs k none) → option_map (λ (n : Need). n.name) o ≡ None → ⊥
    found None e h = cc
    found (Some n) e h = cc

alone_leans : (r : List Need) (name : List ℕ) → in_use_by r name ≡ None → (k : ℕ) → k < length r
    → is_leaning r name k ≡ folds_same name (get_or r k none).name
alone_leans r name free k lt =
    same_bool (is_leaning r name k) (folds_same name (get_or r k none).name)
    (λ h. not-false (folds_same name (get_or r k none).name)
    (none_passes (λ n. not (folds_same name n.name)) (leaning_of r name) r k none
    (no_other name (leaning_in r name) (position (λ n. not (folds_same name n.name)) (leaning_in r name)) refl free) lt
    (get_or-map-range_with_len (is_leaning r name) 0 (length r) k k false lt (zero-add k) ∙ h)))
    (λ h. leaning_closed r name k
    (due_is r name (is_leaning r name) k lt ∙ lean_seed r name (is_leaning r name) (get_or r k none) h))

met_stop : (r : List Need) (name : List ℕ) → in_use_by r name ≡ None → AreMet r
    → AreMet (filter (λ n. not (folds_same name n.name)) r)
met_stop r name free met =
    let P : List Need → Type 0 = AreMet in
    subst P
    (filtered (λ n. not (folds_same name n.name)) (map not (leaning_of r name)) r
    (length-map (leaning_of r name) not ∙ length-map-range_with_len (is_leaning r name) 0 (length r))
    (λ k lt. keep_at r name k lt ∙ ap not (alone_leans r name free k lt)))
    (met_others r name met)

-- ---- calls

stop_free : (a b : Option ControlStop) → option_or a b ≡ None → b ≡ None
stop_free None b h = h
stop_free (Some x) b h = absurd cc

in_use_free : (o : Option (List ℕ)) → option_map InUse o ≡ None → o ≡ None
in_use_free None h = refl
in_use_free (Some n) h = absurd cc

met_call : (c : ControlState) (call : Call) → AreMet c.running → AreMet (after_call c call).running
met_call c (start name) met = by (start_refusal c name)
  where
    by : (o : Option ControlStop) → AreMet (option_map_or (λ why. c) o (after_start c name)).running
    by None = met_new c (named c.table name) met
    by (Some why) = met
met_call c (stop name) met = by (stop_refusal c name) refl
  where
    by : (o : Option ControlStop) → stop_refusal c name ≡ o
        → AreMet (option_map_or (λ why. c) o (after_stop c name)).running
    by None e = met_stop c.running name (in_use_free (in_use_by c.running name) (stop_free (off_refusal c name) _ e))
        met
    by (Some why) e = met
met_call c (stop_all name) met = by (off_refusal c name)
  where
    by : (o : Option ControlStop) → AreMet (option_map_or (λ why. c) o (after_stop_all c name)).running
    by None = met_others c.running name met
    by (Some why) = met

met_calls : (c : ControlState) (calls : List Call) → AreMet c.running → AreMet (after_calls c calls).running
met_calls c [] met = met
met_calls c (call ∷ more) met = met_calls (after_call c call) more (met_call c call met)

pub always_met : (set : Tree) (calls : List Call) → AreMet (after_calls (control_of set) calls).running
always_met set calls = met_calls (control_of set) calls (met_first set)
