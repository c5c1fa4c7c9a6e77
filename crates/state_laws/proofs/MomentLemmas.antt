-- From when on an entry was ready, only those before it were attempted.
use Rattle.std.proofs.Common.{◌≡◌, ◌⊎◌, ◌<◌, ◌≤◌, ℕ, ◌+◌, max, nat_lt, Bool, true, false, cond, List, [], ◌∷◌, ◌++◌, map, length, slice_get, Option, Some, None, refl, sym, ap, subst, ◌∙◌, inl, inr, append_assoc, arith}
use Rattle.std.specs.Prelude.{Contains, remove}
use Rattle.std.specs.Option.{option_map, option_map_or, option_and_then}
use Rattle.std.specs.List.{list_all}
use Rattle.std.proofs.lemmas.Bool.{false≢true, cases_lt, and_parts, and_from, false_from_ne_true}
use Rattle.std.proofs.lemmas.Bool.Decides.{nat_tests}
use Rattle.std.proofs.lemmas.List.{length-append, length-map}
use Rattle.std.proofs.lemmas.List.Quantifiers.{position-Some}
use Rattle.std.proofs.lemmas.Option.{same_Some, slice_get-map, slice_get_within, get_or_from_slice_get}
use Rattle.nt_bytes.specs.Folding.{folded, folds_same}
use Rattle.nt_names.proofs.FoldLemmas.{alike}
use Rattle.start_model.specs.Demand.{Need}
use Rattle.start_model.specs.Entries.{Entry, need_of}
use Rattle.start_model.specs.Machine.{label_of}
use Rattle.start_model.specs.Quiet as book
use Rattle.start_model.specs.Ready.{Label, has_name, has_group, is_ready, next_of}
use Rattle.quiet_run.specs.declared.last.Attempt.{Attempt}
use Rattle.quiet_run.specs.declared.last.BegunPhase.{BegunPhase}
use Rattle.quiet_run.specs.declared.last.QuietRun.{QuietRun}
use Rattle.quiet_run.specs.Play.{AreHeld}
use Rattle.quiet_run.specs.Watch.{quiet_run_of}
use Rattle.wait_cycles.proofs.InverseLemmas.{none_in}
use Rattle.wait_cycles.proofs.CycleLemmas.{in_cons}
use Rattle.wait_cycles.proofs.MetLemmas.{any_from, any_gives, all_from, all_gives, first_in, later_in}
use Rattle.service_control.proofs.LeanLemmas.{folds_itself, folded_last}
use Rattle.check_laws.proofs.RowLemmas.{stands_at as item_at}
use Rattle.check_laws.proofs.TakenLemmas.{item_here, item_place}
use Rattle.answer_lines.specs.declared.why_lines.lines.WhyLine.TheVariants as lines
use Rattle.why_needs.specs.declared.why_state.views.PhaseView.{PhaseView}
use Rattle.why_needs.specs.declared.why_state.views.ViewedRun.{ViewedRun}
use Rattle.why_needs.specs.why_state.Views.{names_of, names_tried, viewed_of}
use Rattle.why_needs.specs.why_state.States.{place_in, attempt_upto, placed_of}
use Rattle.why_needs.specs.why_needs.Met.{is_ok, group_of, starts_of, service_met, group_met, is_met}
use Rattle.why_needs.specs.why_needs.Ready.{later, latest, ready_at, ready_line}
use Rattle.why_laws.proofs.MadeLemmas.{Made, attempt_as, labels, Known, sight}
use Rattle.why_laws.proofs.ActLemmas.{hear}
use Rattle.why_laws.proofs.PlacedLemmas.{placed_known}
use Rattle.why_laws.proofs.PastLemmas.{slice_left, runs_made}
use Rattle.why_laws.proofs.StandsLemmas.{Stands, stands_at, first_place, attempt_at, tried_at, tried_is, made_at}
use Rattle.why_laws.proofs.MetLemmas.{Placed, placed_in, made_placed, names_are, slice_front, group_is, run_is}
use Rattle.why_laws.proofs.UnmetLemmas.{placed_name}
use Rattle.state_laws.specs.state_laws.Moment.{is_ready_by, TellsOf, IsExplained, AttemptsAreExplained}
use Rattle.state_laws.proofs.TurnLemmas.{over, over_off, removed_at, runs_within, Turn, turn_at}
use Rattle.state_laws.proofs.OnceLemmas.{later_there, in_phase, view_own}
use Rattle.state_laws.proofs.StartedLemmas.{early_test, group_back, group_there, name_there, name_back}

-- ---- the later of moments

abbrev AtLeast : Option ℕ → ℕ → Type 0
AtLeast o j = (k : ℕ) × (o ≡ Some k) × (j ≤ k)

max_or : (a b : ℕ) → (max a b ≡ a) ⊎ (max a b ≡ b)
max_or a b = by (nat_lt a b) refl
  where
    by : (t : Bool) → nat_lt a b ≡ t → (max a b ≡ a) ⊎ (max a b ≡ b)
    by true is = let lt : a < b = grind (arith, nat_tests, is) in inr (omega (arith, lt))
    by false is = let le : b ≤ a = grind (arith, nat_tests, is) in inl (omega (arith, le))

later_keeps : (a b : Option ℕ) (j : ℕ) → AtLeast a j → AtLeast (later a b) j
later_keeps None b j least = let z : ◌≡◌ {A = Option ℕ} None (Some least.0) = least.1 in absurd cc
later_keeps (Some x) None j least = least
later_keeps (Some x) (Some y) j least = (max x y, refl, omega (arith, least.2, same_Some x least.0 least.1))

later_has : (a b : Option ℕ) (j : ℕ) → AtLeast b j → AtLeast (later a b) j
later_has None b j least = least
later_has (Some x) None j least = let z : ◌≡◌ {A = Option ℕ} None (Some least.0) = least.1 in absurd cc
later_has (Some x) (Some y) j least = (max x y, refl, omega (arith, least.2, same_Some y least.0 least.1))

later_from : (a b : Option ℕ) (k : ℕ) → later a b ≡ Some k → (a ≡ Some k) ⊎ (b ≡ Some k)
later_from None b k is = inr is
later_from (Some x) None k is = inl is
later_from (Some x) (Some y) k is = elim (max_or x y) [
  | inl one ↦ inl (ap (λ (z : ℕ). Some z) (sym one) ∙ is)
  | inr two ↦ inr (ap (λ (z : ℕ). Some z) (sym two) ∙ is)
]

module _ (met : List ℕ → Option ℕ) where
  latest_keeps : (ns : List (List ℕ)) (o : Option ℕ) (j : ℕ) → AtLeast o j → AtLeast (latest met o ns) j
  latest_keeps [] o j least = least
  latest_keeps (n ∷ ns) o j least = latest_keeps ns (later o (met n)) j (later_keeps o (met n) j least)

  latest_has : (ns : List (List ℕ)) (o : Option ℕ) (name : List ℕ) (j : ℕ) → Contains ns name → met name ≡ Some j
      → AtLeast (latest met o ns) j
  latest_has [] o name j c is = absurd (none_in name c)
  latest_has (n ∷ ns) o name j c is = elim (in_cons n ns name c) [
    | inl one ↦ latest_keeps ns (later o (met n)) j (later_has o (met n) j (j, ap met one ∙ is, omega arith))
    | inr rest ↦ latest_has ns (later o (met n)) name j rest is
  ]

  latest_from : (ns : List (List ℕ)) (o : Option ℕ) (k : ℕ) → latest met o ns ≡ Some k
      → (o ≡ Some k) ⊎ ((name : List ℕ) × Contains ns name × (met name ≡ Some k))
  latest_from [] o k is = inl is
  latest_from (n ∷ ns) o k is = elim (latest_from ns (later o (met n)) k is) [
    | inl one ↦ elim (later_from o (met n) k one) [
      | inl so ↦ inl so
      | inr here ↦ inr (n, first_in n ns, here)
    ]
    | inr rest ↦ inr (rest.0, later_in n ns rest.0 rest.1, rest.2)
  ]

met_at : (n : ℕ) (o : Option ℕ) → is_met n o ≡ true → (k : ℕ) × (o ≡ Some k) × (k < n)
met_at n None is = absurd (false≢true is)
met_at n (Some k) is = (k, refl, grind (arith, nat_tests, is))

late_test : (k n : ℕ) → n ≤ k → nat_lt k n ≡ false
late_test k n le = grind (arith, nat_tests, le)

-- an attempt that was found among the first ones
upto_some : (r : ViewedRun) (n : ℕ) (name : List ℕ) (k : ℕ) → attempt_upto r n name ≡ Some k
    → (place_in r.tried name ≡ Some k) × (k < n)
upto_some r n name k is = by (place_in r.tried name) refl is
  where
    tested : (j : ℕ) (b : Bool) → place_in r.tried name ≡ Some j → nat_lt j n ≡ b → cond b (Some j) None ≡ Some k
        → (place_in r.tried name ≡ Some k) × (k < n)
    tested j false at test is = absurd cc
    tested j true at test is =
        let lt : j < n = grind (arith, nat_tests, test) in
        let one : j ≡ k = same_Some j k is in
        (at ∙ ap (λ (m : ℕ). Some m) one, omega (arith, lt, one))

    by : (o : Option ℕ) → place_in r.tried name ≡ o → option_and_then (λ k. cond (nat_lt k n) (Some k) None) o ≡ Some k
        → (place_in r.tried name ≡ Some k) × (k < n)
    by None at is = absurd cc
    by (Some j) at is = tested j (nat_lt j n) at refl is

-- ---- the moment from which on an entry was ready

module _ (r : ViewedRun) (e : Entry) where
  abbrev by_names : ℕ → Bool
  by_names n = list_all (λ name. is_met n (service_met r name)) e.services

  abbrev by_groups : ℕ → Bool
  by_groups n = list_all (λ group. is_met n (group_met (starts_of r) group)) e.groups

  abbrev last_met : Option ℕ
  last_met = ready_at r (starts_of r) e

  -- the moment
  abbrev moment_by : ℕ → Option ℕ → ℕ
  moment_by from None = from
  moment_by from (Some k) = max from (k + 1)

  moment_over : (from k : ℕ) → k + 1 ≤ moment_by from (Some k)
  moment_over from k = omega arith

  moment_from : (from : ℕ) (o : Option ℕ) → from ≤ moment_by from o
  moment_from from None = omega arith
  moment_from from (Some k) = omega arith

  module _ (k : ℕ) (ready : is_ready_by r k e ≡ true) where
    name_met : (name : List ℕ) → Contains e.services name → (j : ℕ) × (service_met r name ≡ Some j) × (j < k)
    name_met name c =
        met_at k (service_met r name)
        (all_gives (λ name. is_met k (service_met r name)) e.services name (and_parts (by_names k) (by_groups k) ready).0 c)

    group_met_at : (group : List ℕ) → Contains e.groups group
        → (j : ℕ) × (group_met (starts_of r) group ≡ Some j) × (j < k)
    group_met_at group c =
        met_at k (group_met (starts_of r) group)
        (all_gives (λ group. is_met k (group_met (starts_of r) group)) e.groups group
        (and_parts (by_names k) (by_groups k) ready).1 c)

    name_least : (name : List ℕ) (j : ℕ) → Contains e.services name → service_met r name ≡ Some j → AtLeast last_met j
    name_least name j c is =
        latest_keeps (group_met (starts_of r)) e.groups (latest (service_met r) None e.services) j
        (latest_has (service_met r) e.services None name j c is)

    group_least : (group : List ℕ) (j : ℕ) → Contains e.groups group → group_met (starts_of r) group ≡ Some j
        → AtLeast last_met j
    group_least group j c is =
        latest_has (group_met (starts_of r)) e.groups (latest (service_met r) None e.services) group j c is

    -- what was met was met before the moment
    within : (from j n : ℕ) → AtLeast last_met j → moment_by from last_met ≤ n → nat_lt j n ≡ true
    within from j n least le =
        let past : moment_by from (Some least.0) ≤ n = subst (λ (o : Option ℕ). moment_by from o ≤ n) least.1 le in
        early_test j n (omega (arith, least.2, moment_over from least.0, past))

    after_moment : (from n : ℕ) → moment_by from last_met ≤ n → is_ready_by r n e ≡ true
    after_moment from n le =
        and_from (by_names n) (by_groups n)
        (all_from (λ name. is_met n (service_met r name)) e.services (λ name c.
        let j = name_met name c in
        ap (λ (o : Option ℕ). is_met n o) j.1 ∙ within from j.0 n (name_least name j.0 c j.1) le))
        (all_from (λ group. is_met n (group_met (starts_of r) group)) e.groups (λ group c.
        let j = group_met_at group c in
        ap (λ (o : Option ℕ). is_met n o) j.1 ∙ within from j.0 n (group_least group j.0 c j.1) le))

    -- the last that was met is a need
    last_from : (j : ℕ) → last_met ≡ Some j
        → ((name : List ℕ) × Contains e.services name × (service_met r name ≡ Some j))
        ⊎ ((group : List ℕ) × Contains e.groups group × (group_met (starts_of r) group ≡ Some j))
    last_from j is = elim (latest_from (group_met (starts_of r)) e.groups (latest (service_met r) None e.services) j is) [
      | inl names ↦ elim (latest_from (service_met r) e.services None j names) [
        | inl none ↦ (let z : ◌≡◌ {A = Option ℕ} None (Some j) = none in absurd cc)
        | inr name ↦ inl name
      ]
      | inr group ↦ inr group
    ]

    last_early : (j : ℕ) → last_met ≡ Some j → j < k
    last_early j is = elim (last_from j is) [
      | inl name ↦ (let m = name_met name.0 name.1 in omega (arith, m.2, same_Some m.0 j (sym m.1 ∙ name.2)))
      | inr group ↦ (let m = group_met_at group.0 group.1 in omega (arith, m.2, same_Some m.0 j (sym m.1 ∙ group.2)))
    ]

    not_yet : (j n : ℕ) → last_met ≡ Some j → n ≤ j → is_ready_by r n e ≡ false
    not_yet j n is le = false_from_ne_true (is_ready_by r n e) (λ h. elim (last_from j is) [
      | inl name ↦ false≢true (sym (late_test j n le) ∙ ap (λ (o : Option ℕ). is_met n o) (sym name.2)
          ∙ all_gives (λ name. is_met n (service_met r name)) e.services name.0 (and_parts (by_names n) (by_groups n) h).0 name.1)
      | inr group ↦ false≢true (sym (late_test j n le) ∙ ap (λ (o : Option ℕ). is_met n o) (sym group.2)
          ∙ all_gives (λ group. is_met n (group_met (starts_of r) group)) e.groups group.0
          (and_parts (by_names n) (by_groups n) h).1 group.1)
    ])

    before_moment : (from n : ℕ) → from ≤ n → n < moment_by from last_met → is_ready_by r n e ≡ false
    before_moment from n le lt = by last_met refl lt
      where
        by : (o : Option ℕ) → last_met ≡ o → n < moment_by from o → is_ready_by r n e ≡ false
        by None is lt = absurd (omega (arith, le, lt))
        by (Some j) is lt = not_yet j n is (omega (arith, le, lt))

    moment_own : (from : ℕ) → from ≤ k → moment_by from last_met ≤ k
    moment_own from le = by last_met refl
      where
        by : (o : Option ℕ) → last_met ≡ o → moment_by from o ≤ k
        by None is = le
        by (Some j) is = omega (arith, le, last_early j is)

    -- the line reports it
    line_tells : (from : ℕ) → k ≤ length r.run.start.attempts
        → TellsOf r from (moment_by from last_met) (ready_line r from last_met)
    line_tells from long = by last_met refl
      where
        by_attempt : (j : ℕ) → from ≤ j → (o : Option Attempt) → slice_get r.run.start.attempts j ≡ o
            → (j < length r.run.start.attempts)
            → TellsOf r from (moment_by from (Some j)) (option_map_or (λ (a : Attempt). lines.ReadyAfter a.name) o lines.ReadyAtOnce)
        by_attempt j le None here lt =
            let a = item_at r.run.start.attempts j lt in
            let z : ◌≡◌ {A = Option Attempt} None (Some a.0) = sym here ∙ a.1 in absurd cc
        by_attempt j le (Some a) here lt = record {
          place = j;
          attempt = a;
          here = here;
          named = refl;
          in_phase = le;
          is = omega (arith, le);
        }

        by_test : (j : ℕ) (b : Bool) → j < k → nat_lt j from ≡ b
            → TellsOf r from (moment_by from (Some j)) (cond b lines.ReadyAtOnce
            (option_map_or (λ (a : Attempt). lines.ReadyAfter a.name) (slice_get r.run.start.attempts j) lines.ReadyAtOnce))
        by_test j true lt test = let early : j < from = grind (arith, nat_tests, test) in omega (arith, early)
        by_test j false lt test =
            let le : from ≤ j = grind (arith, nat_tests, test) in
            by_attempt j le (slice_get r.run.start.attempts j) refl (omega (arith, lt, long))

        by : (o : Option ℕ) → last_met ≡ o → TellsOf r from (moment_by from o) (ready_line r from o)
        by None is = refl
        by (Some j) is = by_test j (nat_lt j from) (last_early j is) refl

-- ---- what the machine has as started

pub label_from : (ts : List Made) (l : Label) → Contains (labels ts) l
    → (t : Made) × Contains ts t × (is_ok t.1 ≡ true) × (label_of t.0 ≡ l)
label_from [] l c = absurd (none_in l c)
label_from (x ∷ ts) l c = by (is_ok x.1) refl c (label_from ts l)
  where
    by : (b : Bool) → is_ok x.1 ≡ b → Contains (cond b (label_of x.0 ∷ labels ts) (labels ts)) l
        → (Contains (labels ts) l → (t : Made) × Contains ts t × (is_ok t.1 ≡ true) × (label_of t.0 ≡ l))
        → (t : Made) × Contains (x ∷ ts) t × (is_ok t.1 ≡ true) × (label_of t.0 ≡ l)
    by true ok c deep = elim (in_cons (label_of x.0) (labels ts) l c) [
      | inl one ↦ (x, first_in x ts, ok, one)
      | inr rest ↦ (let d = deep rest in (d.0, later_in x ts d.0 d.1, d.2, d.3))
    ]
    by false ok c deep = let d = deep c in (d.0, later_in x ts d.0 d.1, d.2, d.3)

label_there : (ts : List Made) (t : Made) → Contains ts t → is_ok t.1 ≡ true → Contains (labels ts) (label_of t.0)
label_there [] t c ok = absurd (none_in t c)
label_there (x ∷ ts) t c ok = elim (in_cons x ts t c) [
  | inl same ↦ (let here : is_ok x.1 ≡ true = ap (λ (y : Made). is_ok y.1) same ∙ ok in
      subst (λ (b : Bool). Contains (cond b (label_of x.0 ∷ labels ts) (labels ts)) (label_of t.0)) (sym here)
      (subst (λ (y : Made). Contains (label_of x.0 ∷ labels ts) (label_of y.0)) same
      (first_in (label_of x.0) (labels ts))))
  | inr i ↦ by (is_ok x.1) (label_there ts t i ok)
]
  where
    by : (b : Bool) → Contains (labels ts) (label_of t.0)
        → Contains (cond b (label_of x.0 ∷ labels ts) (labels ts)) (label_of t.0)
    by true c = later_in (label_of x.0) (labels ts) (label_of t.0) c
    by false c = c

-- a label of a group
pub group_label : (group : List ℕ) (o : Option (List ℕ)) → option_map_or (folds_same group) (option_map folded o) false ≡ true
    → (found : List ℕ) × (o ≡ Some found) × (folds_same group found ≡ true)
group_label group None is = absurd (false≢true is)
group_label group (Some found) is = (found, refl, sym (folded_last group found) ∙ is)

module _ (run : QuietRun) (us : List (List ℕ)) (known : Known (sight run.start) us) (held : AreHeld run.start.phases) where
  abbrev r : ViewedRun
  r = viewed_of run

  -- the first attempts
  pub record AreFirst (xs : List Made) (n : ℕ) : Type 0 where
    pub rest : List Made
    pub whole : known.made ≡ xs ++ rest
    pub count : length xs ≡ n

  attempts_there : (k : ℕ) (t : Made) → slice_get known.made k ≡ Some t
      → slice_get r.run.start.attempts k ≡ Some (attempt_as t)
  attempts_there k t is =
      ap (λ (x : QuietRun). slice_get x.start.attempts k) (run_is run)
      ∙ ap (λ (xs : List Attempt). slice_get xs k) known.attempts ∙ attempt_at known.made k t is

  pub made_there : (k : ℕ) (a : Attempt) → slice_get r.run.start.attempts k ≡ Some a
      → (t : Made) × (slice_get known.made k ≡ Some t) × (attempt_as t ≡ a)
  made_there k a is =
      made_at known.made k a (ap (λ (xs : List Attempt). slice_get xs k) (sym known.attempts)
      ∙ ap (λ (x : QuietRun). slice_get x.start.attempts k) (sym (run_is run)) ∙ is)

  module _ (xs : List Made) (n : ℕ) (f : AreFirst xs n) where
    -- one of the first has a place among all
    pub place_of : (t : Made) → Contains xs t → (k : ℕ) × (k < n) × (slice_get known.made k ≡ Some t)
    place_of t c =
        let p = item_place xs t c in (
          p.0,
          omega (arith, slice_get_within xs p.0 t p.1, f.count),
          ap (λ (ys : List Made). slice_get ys p.0) f.whole ∙ slice_left xs f.rest p.0 t p.1,
        )

    at_place : (k : ℕ) (t : Made) → k < n → slice_get known.made k ≡ Some t → Contains xs t
    at_place k t lt is =
        item_here xs k t (slice_front xs f.rest k t (ap (λ (ys : List Made). slice_get ys k) (sym f.whole) ∙ is)
        (omega (arith, lt, f.count)))

    name_started : (name : List ℕ) → has_name (labels xs) name ≡ true → is_met n (service_met r name) ≡ true
    name_started name h =
        let l = any_gives (λ (s : Label). folds_same name s.0) (labels xs) h in
        let t = label_from xs l.0 l.1 in
        let k = place_of t.0 t.1 in
        name_back run us known held n name (record {
          place = k.0;
          early = k.1;
          attempt = attempt_as t.0;
          here = attempts_there k.0 t.0 k.2;
          ok = t.2;
          same = sym (folded_last name t.0.0.name) ∙ ap (λ (s : Label). folds_same name s.0) t.3 ∙ l.2;
        })

    group_started : (group : List ℕ) → has_group (labels xs) group ≡ true → is_met n (group_met (starts_of r) group) ≡ true
    group_started group h =
        let l = any_gives (λ (s : Label). option_map_or (folds_same group) s.1 false) (labels xs) h in
        let t = label_from xs l.0 l.1 in
        let k = place_of t.0 t.1 in
        let g = group_label group t.0.0.group (ap (λ (s : Label). option_map_or (folds_same group) s.1 false) t.3 ∙ l.2) in
        group_back r n group (record {
          place = k.0;
          early = k.1;
          attempt = attempt_as t.0;
          here = attempts_there k.0 t.0 k.2;
          ok = t.2;
          found = g.0;
          of = group_is run us known held k.0 t.0 k.2 ∙ g.1;
          same = g.2;
        })

    -- ready is who has all needs met
    ready_met : (e : Entry) → is_ready (labels xs) (need_of e) ≡ true → is_ready_by r n e ≡ true
    ready_met e h =
        let both = and_parts (list_all (has_name (labels xs)) e.services) (list_all (has_group (labels xs)) e.groups) h in
        and_from (by_names r e n) (by_groups r e n)
        (all_from (λ name. is_met n (service_met r name)) e.services
        (λ name c. name_started name (all_gives (has_name (labels xs)) e.services name both.0 c)))
        (all_from (λ group. is_met n (group_met (starts_of r) group)) e.groups
        (λ group c. group_started group (all_gives (has_group (labels xs)) e.groups group both.1 c)))

    name_has : (name : List ℕ) → is_met n (service_met r name) ≡ true → has_name (labels xs) name ≡ true
    name_has name h =
        let w = name_there run n name h in
        let t = made_there w.place w.attempt w.here in
        any_from (λ (s : Label). folds_same name s.0) (labels xs) (label_of t.0.0)
        (label_there xs t.0 (at_place w.place t.0 w.early t.1) (ap (λ (a : Attempt). is_ok a.outcome) t.2 ∙ w.ok))
        (folded_last name t.0.0.name ∙ ap (λ (a : Attempt). folds_same name a.name) t.2 ∙ w.same)

    group_has : (group : List ℕ) → is_met n (group_met (starts_of r) group) ≡ true → has_group (labels xs) group ≡ true
    group_has group h =
        let w = group_there run n group h in
        let t = made_there w.place w.attempt w.here in
        let mine : t.0.0.group ≡ Some w.found =
        sym (group_is run us known held w.place t.0 t.1) ∙ ap (λ (a : Attempt). group_of r a.name) t.2 ∙ w.of in
        any_from (λ (s : Label). option_map_or (folds_same group) s.1 false) (labels xs) (label_of t.0.0)
        (label_there xs t.0 (at_place w.place t.0 w.early t.1) (ap (λ (a : Attempt). is_ok a.outcome) t.2 ∙ w.ok))
        (ap (λ (o : Option (List ℕ)). option_map_or (folds_same group) (option_map folded o) false) mine
        ∙ folded_last group w.found ∙ w.same)

    met_ready : (e : Entry) → is_ready_by r n e ≡ true → is_ready (labels xs) (need_of e) ≡ true
    met_ready e h =
        let both = and_parts (by_names r e n) (by_groups r e n) h in
        and_from (list_all (has_name (labels xs)) e.services) (list_all (has_group (labels xs)) e.groups)
        (all_from (has_name (labels xs)) e.services
        (λ name c. name_has name (all_gives (λ name. is_met n (service_met r name)) e.services name both.0 c)))
        (all_from (has_group (labels xs)) e.groups
        (λ group c. group_has group (all_gives (λ group. is_met n (group_met (starts_of r) group)) e.groups group both.1 c)))

  -- ---- an attempt in its phase

  -- the attempts up to one of a phase
  pub first_of : (at : ℕ) (v : PhaseView) (s : Stands run us known at v) (earlier later : List Made) (t : Made) (i : ℕ)
      → s.ts ≡ earlier ++ t ∷ later → length earlier ≡ i → AreFirst (s.before ++ earlier) (length s.before + i)
  first_of at v s earlier later t i is count = record {
    rest = (t ∷ later) ++ s.rest;
    whole = s.whole ∙ ap (λ (ts : List Made). (s.before ++ ts) ++ s.rest) is
        ∙ ap (λ (ts : List Made). ts ++ s.rest) (sym (append_assoc s.before earlier (t ∷ later)))
        ∙ append_assoc (s.before ++ earlier) (t ∷ later) s.rest;
    count = length-append s.before earlier ∙ ap (λ (n : ℕ). length s.before + n) count;
  }

  -- who is attempted is ready
  pub passes : (started : List Label) (w : List Entry) (p : ℕ) (e : Entry) → next_of started (map need_of w) ≡ Some p
      → slice_get w p ≡ Some e → is_ready started (need_of e) ≡ true
  passes started w p e next here =
      let n : Need = need_of e in
      let at : slice_get (map need_of w) p ≡ Some n = slice_get-map need_of w p ∙ ap (option_map need_of) here in
      ap (is_ready started) (sym (get_or_from_slice_get (map need_of w) p n n at))
      ∙ (position-Some (is_ready started) (map need_of w) p n next).1

  -- and no one before him is
  none_ahead : (started : List Label) (w : List Entry) (p q : ℕ) (e : Entry) → next_of started (map need_of w) ≡ Some p
      → slice_get w q ≡ Some e → is_ready started (need_of e) ≡ true → p ≤ q
  none_ahead started w p q e next here ready = elim (cases_lt q p) [
    | inl lt ↦ (let n : Need = need_of e in
        let at : slice_get (map need_of w) q ≡ Some n = slice_get-map need_of w q ∙ ap (option_map need_of) here in
        absurd (false≢true (sym ((position-Some (is_ready started) (map need_of w) p n next).2 q lt)
        ∙ ap (is_ready started) (get_or_from_slice_get (map need_of w) q n n at) ∙ ready)))
    | inr ge ↦ ge
  ]

  -- the place of an entry is the first of its name
  own_place : (at : ℕ) (v : PhaseView) → Stands run us known at v → (q : ℕ) (e : Entry) → slice_get v.plan q ≡ Some e
      → place_in v.names e.name ≡ Some q
  own_place at v s q e here =
      let names : v.names ≡ names_of v.plan = names_are run us known at v s in
      let there : slice_get (names_of v.plan) q ≡ Some e.name =
      slice_get-map (λ (x : Entry). x.name) v.plan q ∙ ap (option_map (λ (x : Entry). x.name)) here in
      let f = first_place (names_of v.plan) e.name q e.name there (folds_itself e.name) in
      let p = position-Some (folds_same e.name) (names_of v.plan) f.0 [] f.2 in
      let g = item_at v.plan f.0 (omega (arith, p.0, length-map v.plan (λ (x : Entry). x.name))) in
      let named : slice_get (names_of v.plan) f.0 ≡ Some g.0.name =
      slice_get-map (λ (x : Entry). x.name) v.plan f.0 ∙ ap (option_map (λ (x : Entry). x.name)) g.1 in
      let same : folds_same e.name g.0.name ≡ true =
      ap (folds_same e.name) (sym (get_or_from_slice_get (names_of v.plan) f.0 g.0.name [] named)) ∙ p.1 in
      let one : q ≡ f.0 = view_own run us known held at v s q f.0 e g.0 here g.1 same in
      ap (λ (ns : List (List ℕ)). place_in ns e.name) names ∙ f.2 ∙ ap (λ (k : ℕ). Some k) (sym one)

  module _ (at : ℕ) (v : PhaseView) (s : Stands run us known at v) (p : ℕ) (e : Entry)
      (here : slice_get v.plan p ≡ Some e) (i : ℕ) (t : Made) (made : slice_get s.ts i ≡ Some t) (mine : t.0 ≡ e) where
    abbrev own_turn : Turn v.plan s.before s.ts s.waiting i t
    own_turn = turn_at v.plan s.before s.ts s.waiting s.runs i t made

    -- it was ready when it was attempted
    ready_then : is_ready_by r (length s.before + i) e ≡ true
    ready_then =
        let d = own_turn in
        subst (λ (x : Entry). is_ready_by r (length s.before + i) x ≡ true) mine
        (ready_met (s.before ++ d.earlier) (length s.before + i) (first_of at v s d.earlier d.later t i d.whole d.count) t.0
        (passes (labels (s.before ++ d.earlier)) d.waiting d.place t.0 d.next d.here))

    -- whoever was attempted in its phase while it was ready stands before it
    stood_before : (j : ℕ) (u : Made) → slice_get s.ts j ≡ Some u → j < i → is_ready_by r (length s.before + j) e ≡ true
        → (q : ℕ) × (place_in v.names u.0.name ≡ Some q) × (q < p)
    stood_before j u other lt ready =
        let d = turn_at v.plan s.before s.ts s.waiting s.runs j u other in
        let later = later_there d.earlier d.later u i t (ap (λ (xs : List Made). slice_get xs i) (sym d.whole) ∙ made)
        (omega (arith, d.count, lt)) in
        let m = item_place (remove d.waiting d.place) t.0 (d.comes t later) in
        let waits : slice_get d.waiting (over d.place m.0) ≡ Some t.0 = removed_at d.waiting d.place m.0 t.0 m.1 in
        let was : is_ready (labels (s.before ++ d.earlier)) (need_of t.0) ≡ true =
        met_ready (s.before ++ d.earlier) (length s.before + j) (first_of at v s d.earlier d.later u j d.whole d.count) t.0
        (subst (λ (x : Entry). is_ready_by r (length s.before + j) x ≡ true) (sym mine) ready) in
        let le : d.place ≤ over d.place m.0 =
        none_ahead (labels (s.before ++ d.earlier)) d.waiting d.place (over d.place m.0) t.0 d.next waits was in
        let f = runs_within v.plan s.before d.earlier d.waiting d.runs in
        let front : slice_get v.plan (f.place d.place) ≡ Some u.0 = f.at d.place u.0 d.here in
        let back : slice_get v.plan (f.place (over d.place m.0)) ≡ Some t.0 = f.at (over d.place m.0) t.0 waits in
        let one : f.place (over d.place m.0) ≡ p =
        view_own run us known held at v s (f.place (over d.place m.0)) p t.0 e back here
        (ap (λ (x : Entry). folds_same x.name e.name) mine ∙ folds_itself e.name) in
        let strict : d.place < over d.place m.0 = apart d.place (over d.place m.0) le (λ is. over_off d.place m.0 (sym is)) in (
          f.place d.place,
          own_place at v s (f.place d.place) u.0 front,
          omega (arith, f.rises d.place (over d.place m.0) strict, one),
        )
      where
        apart : (a b : ℕ) → a ≤ b → (a ≡ b → ⊥) → a < b
        apart a b le off = elim (cases_lt a b) [ inl lt ↦ lt | inr ge ↦ absurd (off (omega (arith, le, ge))) ]

  -- ---- the law

  explained : (name : List ℕ) (place : ℕ × ℕ) (b : BegunPhase) (v : PhaseView) (e : Entry) (k : ℕ)
      → placed_of r name ≡ Some place → slice_get r.run.start.phases place.0 ≡ Some b → slice_get r.views place.0 ≡ Some v
      → slice_get v.plan place.1 ≡ Some e → attempt_upto r v.end name ≡ Some k → IsExplained r b.from v place.1 e k
  explained name place b v e k placed began there here tried = record {
    moment = moment_by r e b.from (last_met r e);
    line = line_tells r e k ready b.from long;
    before = λ n. before_moment r e k ready b.from n;
    after = λ n. after_moment r e k ready b.from n;
    own = moment_own r e k ready b.from upto;
    others = λ j a le lt at.
        let u = made_there j a at in
        let from = moment_from r e b.from (last_met r e) in
        let n = in_phase run us known place.0 v s j u.0 u.1 (omega (arith, from, le, begins)) (omega (arith, lt, found.1)) in
        let w = stood_before place.0 v s place.1 e here i.0 t.0 i.2 mine n.0 u.0 n.2 (omega (arith, n.1, i.1, lt))
        (subst (λ (m : ℕ). is_ready_by r m e ≡ true) n.1 (after_moment r e k ready b.from j le)) in
        (w.0, ap (λ (x : Attempt). place_in v.names x.name) (sym u.2) ∙ w.1, w.2);
  }
    where
      s : Stands run us known place.0 v
      s = stands_at run us known place.0 v there

      found : (place_in r.tried name ≡ Some k) × (k < v.end)
      found = upto_some r v.end name k tried

      t : (t : Made) × (slice_get known.made k ≡ Some t)
      t = item_at known.made k (omega (arith, found.1, s.end, ap length s.whole, length-append (s.before ++ s.ts) s.rest))

      all : List (List ℕ)
      all = names_tried (map attempt_as known.made)

      named : folds_same name t.0.0.name ≡ true
      named =
          let p = position-Some (folds_same name) all k []
          (ap (λ (ns : List (List ℕ)). place_in ns name) (sym (tried_is run ∙ ap names_tried known.attempts)) ∙ found.0) in
          ap (folds_same name) (sym (get_or_from_slice_get all k t.0.0.name [] (tried_at known.made k t.0 t.1))) ∙ p.1

      x : Placed run us known k t.0
      x = placed_in run us known k t.0 t.1

      at_is : x.at ≡ place.0
      at_is =
          let q = made_placed run us known k t.0 t.1 name named x in
          let one : ◌≡◌ {A = ℕ × ℕ} (x.at, q.0) place = same_Some (x.at, q.0) place (sym q.2 ∙ placed) in
          ap (λ (y : ℕ × ℕ). y.0) one

      phase_is : x.stands.phase ≡ s.phase
      phase_is = same_Some x.stands.phase s.phase (sym x.stands.there ∙ ap (slice_get run.start.phases) at_is ∙ s.there)

      begun_is : s.phase ≡ b
      begun_is = same_Some s.phase b
          (sym s.there ∙ ap (λ (y : QuietRun). slice_get y.start.phases place.0) (sym (run_is run)) ∙ began)

      begins : b.from ≡ length s.before
      begins = ap (λ (y : BegunPhase). y.from) (sym begun_is) ∙ s.from

      upto : b.from ≤ k
      upto = omega (arith, begins, s.from, x.stands.from, ap (λ (y : BegunPhase). y.from) phase_is, x.count)

      i : (i : ℕ) × (k ≡ length s.before + i) × (slice_get s.ts i ≡ Some t.0)
      i = in_phase run us known place.0 v s k t.0 t.1 (omega (arith, upto, begins)) found.1

      mine : t.0.0 ≡ e
      mine =
          let m = item_place v.plan t.0.0 (runs_made v.plan s.before s.ts s.waiting i.0 t.0 s.runs i.2) in
          let at = placed_name r.views (length r.views) name place v placed there in
          let at_plan : place_in (names_of v.plan) name ≡ Some place.1 =
          ap (λ (ns : List (List ℕ)). place_in ns name) (sym (names_are run us known place.0 v s)) ∙ at in
          let p = position-Some (folds_same name) (names_of v.plan) place.1 [] at_plan in
          let there : slice_get (names_of v.plan) place.1 ≡ Some e.name =
          slice_get-map (λ (y : Entry). y.name) v.plan place.1 ∙ ap (option_map (λ (y : Entry). y.name)) here in
          let other : folds_same name e.name ≡ true =
          ap (folds_same name) (sym (get_or_from_slice_get (names_of v.plan) place.1 e.name [] there)) ∙ p.1 in
          let same : folds_same t.0.0.name e.name ≡ true = sym (alike name t.0.0.name named e.name) ∙ other in
          let one : m.0 ≡ place.1 = view_own run us known held place.0 v s m.0 place.1 t.0.0 e m.1 here same in
          same_Some t.0.0 e (sym m.1 ∙ ap (slice_get v.plan) one ∙ here)

      ready : is_ready_by r k e ≡ true
      ready = subst (λ (m : ℕ). is_ready_by r m e ≡ true) (sym i.1) (ready_then place.0 v s place.1 e here i.0 t.0 i.2 mine)

      long : k ≤ length r.run.start.attempts
      long =
          let count : length r.run.start.attempts ≡ length known.made =
          ap (λ (y : QuietRun). length y.start.attempts) (run_is run) ∙ ap length known.attempts
          ∙ length-map known.made attempt_as in
          omega (arith, count, slice_get_within known.made k t.0 t.1)

pub attempts_explained : AttemptsAreExplained
attempts_explained choice script placed held name place b v e k at began there here tried =
    explained (quiet_run_of choice script placed.state.version placed.state.tree)
    (hear [] (book.quiet_run_of choice script placed).lines) (placed_known choice script placed) held
    name place b v e k at began there here tried
