-- The attempts of a phase of which at most one fails: who is started, and who is left.
use Rattle.std.proofs.Common.{◌≡◌, ℕ, zero, suc, ◌≤◌, Bool, true, false, nat_eq, cond, List, [], ◌∷◌, ◌++◌, length, map, get_or, Option, Some, None, refl, sym, ap, ◌∙◌, ◌⊎◌, inl, inr, subst, arith, append_assoc}
use Rattle.std.specs.Prelude.{Contains, slice_get, remove, filter, option_map, option_and_then}
use Rattle.std.specs.Option.{is_some, option_map_or, option_or}
use Rattle.std.proofs.lemmas.Bool.{false≢true, cases_Bool}
use Rattle.std.proofs.lemmas.List.{map-append, append-nil, length-map, get_or-map}
use Rattle.std.proofs.lemmas.List.Elements.{Contains-append_cases}
use Rattle.std.proofs.lemmas.List.Quantifiers.{position-Some}
use Rattle.std.proofs.lemmas.Option.{get_or_from_slice_get}
use Rattle.nt_bytes.specs.Folding.{folded, folds_same}
use Rattle.dependencies.proofs.MeetLemmas.{folded_first}
use Rattle.start_model.specs.Demand.{Need}
use Rattle.start_model.specs.Entries.{Entry, need_of}
use Rattle.start_model.specs.Judge as book
use Rattle.start_model.specs.Judge.{judgement_of}
use Rattle.start_model.specs.Machine as machine
use Rattle.start_model.specs.Machine.{Start, MachineState, failures_of, one_failure_less, next_in, label_of, after_attempt, attempt_at, attempt_of}
use Rattle.start_model.specs.Ready.{Label, is_ready, next_of}
use Rattle.boot_phases.proofs.TriedLemmas.{some_place}
use Rattle.service_control.specs.State.{labels_of}
use Rattle.service_control.proofs.LeanLemmas.{mapped_from, mapped_to, alone_from}
use Rattle.service_control.proofs.SpreadState.{none}
use Rattle.wait_cycles.proofs.InverseLemmas.{none_in}
use Rattle.wait_cycles.proofs.MetLemmas.{first_in, later_in, any_from}
use Rattle.wait_cycles.proofs.CycleLemmas.{in_cons}
use Rattle.boot_phases.specs.declared.error_control.outcome.Judgement.{Judgement}
use Rattle.failure_effects.specs.declared.told.Fate.TheVariants.{Started, Failed}
use Rattle.failure_effects.specs.declared.told.Told.{Told}
use Rattle.failure_effects.specs.declared.course.Course.{Course}
use Rattle.failure_effects.specs.Lost.{goes_on}
use Rattle.failure_effects.specs.Played.{judgement_as, is_started, is_unmet, started_in, unmet_in, failed_by, failure_in, judged, attempted, attempts_of}
use Rattle.check_laws.proofs.TakenLemmas.{item_here}
use Rattle.check_laws.proofs.TurnLemmas.{InTurn, turn_as, removed_from, removed_or, one_removed, past}

-- ---- what is reported, in parts

pub failure_more : (a b : List Told) → failure_in (a ++ b) ≡ option_or (failure_in a) (failure_in b)
failure_more [] b = refl
failure_more (t ∷ a) b = by (failed_by t.fate) (failure_more a b)
  where
    by : (o : Option Judgement) → failure_in (a ++ b) ≡ option_or (failure_in a) (failure_in b)
        → option_or o (failure_in (a ++ b)) ≡ option_or (option_or o (failure_in a)) (failure_in b)
    by None more = more
    by (Some j) more = refl

kept_more : (p : Told → Bool) (a b : List Told)
    → map (λ (t : Told). t.name) (filter p (a ++ b)) ≡ map (λ (t : Told). t.name) (filter p a) ++ map (λ (t : Told). t.name) (filter p b)
kept_more p [] b = refl
kept_more p (t ∷ a) b =
    elim (p t) as (λ c. map (λ (t : Told). t.name) (cond c (t ∷ filter p (a ++ b)) (filter p (a ++ b)))
    ≡ map (λ (t : Told). t.name) (cond c (t ∷ filter p a) (filter p a)) ++ map (λ (t : Told). t.name) (filter p b)) [
      | true ↦ ap (λ (l : List (List ℕ)). t.name ∷ l) (kept_more p a b)
      | false ↦ kept_more p a b
    ]

pub started_more : (a b : List Told) → started_in (a ++ b) ≡ started_in a ++ started_in b
started_more a b = kept_more (λ (t : Told). is_started t.fate) a b

pub unmet_more : (a b : List Told) → unmet_in (a ++ b) ≡ unmet_in a ++ unmet_in b
unmet_more a b = kept_more (λ (t : Told). is_unmet t.fate) a b

-- ---- the failure that is to come

-- the attempt of this name may fail
abbrev pub fails : Option (List ℕ) → List ℕ → Bool
fails None x = false
fails (Some name) x = folds_same name x

-- none is to come; or one is, and none has come; or one has come, after which the start goes on
pub data State (name : Option (List ℕ)) (told : List Told) (fs : List (List ℕ × ℕ)) : Type 0 where
  plain : name ≡ None → fs ≡ [] → failure_in told ≡ None → State name told fs
  armed : (n : List ℕ) → name ≡ Some n → fs ≡ (folded n, 1) ∷ [] → failure_in told ≡ None → State name told fs
  spent : (n : List ℕ) (j : Judgement) → name ≡ Some n → fs ≡ (folded n, 0) ∷ [] → failure_in told ≡ Some j → goes_on j ≡ true
      → State name told fs

abbrev one_started : Entry → List Told
one_started e = record { name = e.name; fate = Started } ∷ []

abbrev one_failed : Entry → Judgement → List Told
one_failed e j = record { name = e.name; fate = Failed j } ∷ []

-- what comes of the attempt of an entry
data Outcome (name : Option (List ℕ)) (told : List Told) (fs : List (List ℕ × ℕ)) (e : Entry) : Type 0 where
  goes : nat_eq (failures_of fs e.name) 0 ≡ true → State name (told ++ one_started e) (one_failure_less fs e.name)
      → Outcome name told fs e
  breaks : nat_eq (failures_of fs e.name) 0 ≡ false → fails name e.name ≡ true
      → ((j : Judgement) → (failure_in (told ++ one_failed e j) ≡ Some j)
      × (goes_on j ≡ true → State name (told ++ one_failed e j) (one_failure_less fs e.name)))
      → Outcome name told fs e

still_none : (told : List Told) (e : Entry) → failure_in told ≡ None → failure_in (told ++ one_started e) ≡ None
still_none told e h = failure_more told (one_started e) ∙ ap (λ (o : Option Judgement). option_or o None) h

still_some : (told : List Told) (e : Entry) (j : Judgement) → failure_in told ≡ Some j → failure_in (told ++ one_started e) ≡ Some j
still_some told e j h = failure_more told (one_started e) ∙ ap (λ (o : Option Judgement). option_or o None) h

first_failed : (told : List Told) (e : Entry) (j : Judgement) → failure_in told ≡ None → failure_in (told ++ one_failed e j) ≡ Some j
first_failed told e j h = failure_more told (one_failed e j) ∙ ap (λ (o : Option Judgement). option_or o (Some j)) h

outcome : (name : Option (List ℕ)) (told : List Told) (fs : List (List ℕ × ℕ)) (e : Entry) → State name told fs
    → Outcome name told fs e
outcome name told fs e (plain is none failure) =
    goes (ap (λ (l : List (List ℕ × ℕ)). nat_eq (failures_of l e.name) 0) none)
    (plain is (ap (λ (l : List (List ℕ × ℕ)). one_failure_less l e.name) none) (still_none told e failure))
outcome name told fs e (armed n is one failure) = by (folds_same (folded n) e.name) refl
  where
    by : (b : Bool) → folds_same (folded n) e.name ≡ b → Outcome name told fs e
    by false off =
        goes (ap (λ (l : List (List ℕ × ℕ)). nat_eq (failures_of l e.name) 0) one ∙ ap (λ (b : Bool). nat_eq (cond b 1 0) 0) off)
        (armed n is (ap (λ (l : List (List ℕ × ℕ)). one_failure_less l e.name) one
        ∙ ap (λ (b : Bool). cond b ((folded n, 0) ∷ []) ((folded n, 1) ∷ [])) off) (still_none told e failure))
    by true on =
        breaks (ap (λ (l : List (List ℕ × ℕ)). nat_eq (failures_of l e.name) 0) one ∙ ap (λ (b : Bool). nat_eq (cond b 1 0) 0) on)
        (ap (λ (o : Option (List ℕ)). fails o e.name) is ∙ sym (folded_first n e.name) ∙ on) (λ j. (
          first_failed told e j failure,
          λ on'. spent n j is (ap (λ (l : List (List ℕ × ℕ)). one_failure_less l e.name) one
              ∙ ap (λ (b : Bool). cond b ((folded n, 0) ∷ []) ((folded n, 1) ∷ [])) on) (first_failed told e j failure) on',
        ))
outcome name told fs e (spent n j is one failure on) = by (folds_same (folded n) e.name) refl
  where
    by : (b : Bool) → folds_same (folded n) e.name ≡ b → Outcome name told fs e
    by false off =
        goes (ap (λ (l : List (List ℕ × ℕ)). nat_eq (failures_of l e.name) 0) one ∙ ap (λ (b : Bool). nat_eq (cond b 0 0) 0) off)
        (spent n j is (ap (λ (l : List (List ℕ × ℕ)). one_failure_less l e.name) one
        ∙ ap (λ (b : Bool). cond b ((folded n, 0) ∷ []) ((folded n, 0) ∷ [])) off) (still_some told e j failure) on)
    by true yes' =
        goes (ap (λ (l : List (List ℕ × ℕ)). nat_eq (failures_of l e.name) 0) one ∙ ap (λ (b : Bool). nat_eq (cond b 0 0) 0) yes')
        (spent n j is (ap (λ (l : List (List ℕ × ℕ)). one_failure_less l e.name) one
        ∙ ap (λ (b : Bool). cond b ((folded n, 0) ∷ []) ((folded n, 0) ∷ [])) yes') (still_some told e j failure) on)

-- ---- the machine

abbrev pub mach : List (List ℕ × ℕ) → Start → MachineState
mach fs s = record { start = Some s; failures = fs; fallback_due = false; vital = [] }

abbrev pub at : List Told → List (List ℕ × ℕ) → Start → Course
at told fs s = record { told = told; machine = mach fs s }

-- the start goes on after its attempts
pub record IsOn (name : Option (List ℕ)) (s : Start) (pre : List Need) (new : List Entry) (d : Course) : Type 0 where
  pub fs : List (List ℕ × ℕ)
  pub end : Start
  pub machine : d.machine ≡ mach fs end
  pub state : State name d.told fs
  pub phase : end.phase ≡ s.phase
  pub started : end.started ≡ labels_of (pre ++ map need_of new)
  pub each : (x : Entry) → Contains s.waiting x → Contains new x ⊎ (Contains end.waiting x ⊎ (fails name x.name ≡ true))
  pub only : (x : Entry) → Contains end.waiting x → Contains s.waiting x
  pub unready : (x : Entry) → Contains end.waiting x → is_ready (labels_of (pre ++ map need_of new)) (need_of x) ≡ false
  pub tried : (n : List ℕ) → Contains end.tried n → Contains s.tried n ⊎ ((e : Entry) × Contains s.waiting e × (n ≡ folded e.name))

-- after its attempts a start is over, or goes on
pub data After (name : Option (List ℕ)) (s : Start) (pre : List Need) (new : List Entry) (d : Course) : Type 0 where
  over : (j : Judgement) (x : List ℕ) → fails name x ≡ true → d.machine.start ≡ None → failure_in d.told ≡ Some j → goes_on j ≡ false → After name s pre new d
  on : IsOn name s pre new d → After name s pre new d

-- what came of the attempts of a phase
pub record Tries (name : Option (List ℕ)) (told : List Told) (s : Start) (pre : List Need) (d : Course) : Type 0 where
  pub more : List Told
  pub new : List Entry
  pub is : d.told ≡ told ++ more
  pub started : started_in more ≡ map (λ (e : Entry). e.name) new
  pub unmet : unmet_in more ≡ []
  pub turn : InTurn (Contains (map need_of s.waiting)) pre (map need_of new)
  pub from : (x : Entry) → Contains new x → Contains s.waiting x
  pub after : After name s pre new d

-- ---- no more attempts

tries_none : (name : Option (List ℕ)) (told : List Told) (fs : List (List ℕ × ℕ)) (s : Start) (pre : List Need) → State name told fs
    → s.started ≡ labels_of pre → ((x : Entry) → Contains s.waiting x → is_ready (labels_of pre) (need_of x) ≡ false)
    → Tries name told s pre (at told fs s)
tries_none name told fs s pre state labels unready = record {
  more = [];
  new = [];
  is = sym (append-nil told);
  started = refl;
  unmet = refl;
  turn = tt;
  from = λ x c. absurd (none_in x c);
  after = on (record {
    fs = fs;
    end = s;
    machine = refl;
    state = state;
    phase = refl;
    started = labels ∙ ap labels_of (sym (append-nil pre));
    each = λ x c. inr (inl c);
    only = λ x c. c;
    unready = λ x c. ap (λ (l : List Need). is_ready (labels_of l) (need_of x)) (append-nil pre) ∙ unready x c;
    tried = λ n c. inl c;
  });
}

less : (s : Start) (k : ℕ) (n : Need) → Contains (map need_of (remove s.waiting k)) n → Contains (map need_of s.waiting) n
less s k n c =
    let m = mapped_from need_of (remove s.waiting k) n c in
    subst (Contains (map need_of s.waiting)) m.is (mapped_to need_of s.waiting m.item (removed_from s.waiting k m.item m.there))

-- ---- one attempt that goes well, and those after it

tried_back : (s : Start) (k : ℕ) (e : Entry) (ok : Bool) → Contains s.waiting e → (n : List ℕ)
    → Contains (after_attempt s k e ok).tried n ⊎ ((x : Entry) × Contains (remove s.waiting k) x × (n ≡ folded x.name))
    → Contains s.tried n ⊎ ((x : Entry) × Contains s.waiting x × (n ≡ folded x.name))
tried_back s k e ok there n (inl c) = elim (Contains-append_cases s.tried (folded e.name ∷ []) n c) [
  | inl i ↦ inl i
  | inr i ↦ inr (e, there, sym (alone_from (folded e.name) n i))
]
tried_back s k e ok there n (inr x) = inr (x.0, removed_from s.waiting k x.0 x.1, x.2)

after_well : (name : Option (List ℕ)) (s : Start) (k : ℕ) (e : Entry) (pre : List Need) (new : List Entry) (d : Course)
    → slice_get s.waiting k ≡ Some e → After name (after_attempt s k e true) (pre ++ need_of e ∷ []) new d
    → After name s pre (e ∷ new) d
after_well name s k e pre new d is (over j x bad' gone failure stops) = over j x bad' gone failure stops
after_well name s k e pre new d is (on o) = on (record {
  fs = o.fs;
  end = o.end;
  machine = o.machine;
  state = o.state;
  phase = o.phase;
  started = o.started ∙ ap labels_of (append_assoc pre (need_of e ∷ []) (map need_of new));
  each = λ x c. elim (removed_or s.waiting k e is x c) [
    | inl same ↦ inl (subst (Contains (e ∷ new)) same (first_in e new))
    | inr i ↦ elim (o.each x i) [ inl j ↦ inl (later_in e new x j) | inr j ↦ inr j ]
  ];
  only = λ x c. removed_from s.waiting k x (o.only x c);
  unready = λ x c. ap (λ (l : List Need). is_ready (labels_of l) (need_of x)) (sym (append_assoc pre (need_of e ∷ []) (map need_of new)))
      ∙ o.unready x c;
  tried = λ n c. tried_back s k e true (item_here s.waiting k e is) n (o.tried n c);
})

tries_well : (name : Option (List ℕ)) (told : List Told) (s : Start) (k : ℕ) (e : Entry) (pre : List Need) (d : Course)
    → slice_get s.waiting k ≡ Some e → is_ready (labels_of pre) (need_of e) ≡ true
    → Tries name (told ++ one_started e) (after_attempt s k e true) (pre ++ need_of e ∷ []) d → Tries name told s pre d
tries_well name told s k e pre d is ready t = record {
  more = one_started e ++ t.more;
  new = e ∷ t.new;
  is = t.is ∙ append_assoc told (one_started e) t.more;
  started = ap (λ (l : List (List ℕ)). e.name ∷ l) t.started;
  unmet = t.unmet;
  turn = (
    mapped_to need_of s.waiting e (item_here s.waiting k e is),
    ready,
    turn_as (Contains (map need_of (remove s.waiting k))) (Contains (map need_of s.waiting)) (less s k) (pre ++ need_of e ∷ []) (map need_of t.new) t.turn,
  );
  from = λ x c. elim (in_cons e t.new x c) [
    | inl same ↦ subst (Contains s.waiting) same (item_here s.waiting k e is)
    | inr i ↦ removed_from s.waiting k x (t.from x i)
  ];
  after = after_well name s k e pre t.new d is t.after;
}

-- ---- the one that fails

after_failed : (name : Option (List ℕ)) (s : Start) (k : ℕ) (e : Entry) (pre : List Need) (new : List Entry) (d : Course)
    → slice_get s.waiting k ≡ Some e → fails name e.name ≡ true → After name (after_attempt s k e false) pre new d
    → After name s pre new d
after_failed name s k e pre new d is bad (over j x bad' gone failure stops) = over j x bad' gone failure stops
after_failed name s k e pre new d is bad (on o) = on (record {
  fs = o.fs;
  end = o.end;
  machine = o.machine;
  state = o.state;
  phase = o.phase;
  started = o.started;
  each = λ x c. elim (removed_or s.waiting k e is x c) [
    | inl same ↦ inr (inr (ap (λ (y : Entry). fails name y.name) (sym same) ∙ bad))
    | inr i ↦ o.each x i
  ];
  only = λ x c. removed_from s.waiting k x (o.only x c);
  unready = o.unready;
  tried = λ n c. tried_back s k e false (item_here s.waiting k e is) n (o.tried n c);
})

tries_failed : (name : Option (List ℕ)) (told : List Told) (s : Start) (k : ℕ) (e : Entry) (j : Judgement) (pre : List Need) (d : Course)
    → slice_get s.waiting k ≡ Some e → fails name e.name ≡ true
    → Tries name (told ++ one_failed e j) (after_attempt s k e false) pre d → Tries name told s pre d
tries_failed name told s k e j pre d is bad t = record {
  more = one_failed e j ++ t.more;
  new = t.new;
  is = t.is ∙ append_assoc told (one_failed e j) t.more;
  started = t.started;
  unmet = t.unmet;
  turn = turn_as (Contains (map need_of (remove s.waiting k))) (Contains (map need_of s.waiting)) (less s k) pre (map need_of t.new) t.turn;
  from = λ x c. removed_from s.waiting k x (t.from x c);
  after = after_failed name s k e pre t.new d is bad t.after;
}

tries_over : (name : Option (List ℕ)) (told : List Told) (s : Start) (e : Entry) (j : Judgement) (pre : List Need) (d : Course)
    → fails name e.name ≡ true → d.told ≡ told ++ one_failed e j → d.machine.start ≡ None → failure_in (told ++ one_failed e j) ≡ Some j → goes_on j ≡ false
    → Tries name told s pre d
tries_over name told s e j pre d bad is gone failure stops = record {
  more = one_failed e j;
  new = [];
  is = is;
  started = refl;
  unmet = refl;
  turn = tt;
  from = λ x c. absurd (none_in x c);
  after = over j e.name bad gone (ap failure_in is ∙ failure) stops;
}

pub over_stays : (n : ℕ) (usable : Bool) (c : Course) → c.machine.start ≡ None → attempts_of n usable c ≡ c
unfolding attempts_of attempt_of
over_stays zero usable c gone = refl
over_stays (suc n) usable c gone =
    ap (λ (o : Option Start). option_map_or (attempts_of n usable)
    (option_map (attempted c) (option_and_then (λ (s : Start). machine.attempt_in c.machine s usable) o)) c) gone

-- ---- the attempts

-- the course after an attempt that went well or not
abbrev pub stepped_by : List Told → List (List ℕ × ℕ) → Start → Bool → ℕ → Entry → Bool → Course
stepped_by told fs s usable k e ok = record {
  told = told ++ record { name = e.name; fate = cond ok Started (Failed (judgement_as (cond ok book.Ignore (judgement_of e.control s.on_good usable)))) } ∷ [];
  machine = judged (cond ok book.Ignore (judgement_of e.control s.on_good usable)) (record {
    start = Some (after_attempt s k e ok);
    failures = one_failure_less fs e.name;
    fallback_due = false;
    vital = [];
  });
}

abbrev Goes : Bool → ℕ → Type 0
Goes usable n = (name : Option (List ℕ)) (told : List Told) (fs : List (List ℕ × ℕ)) (s : Start) (pre : List Need) → State name told fs
    → s.started ≡ labels_of pre → length s.waiting ≤ n → Tries name told s pre (attempts_of n usable (at told fs s))

-- after a failure the start goes on or is over
failed_by_judge : (usable : Bool) (n : ℕ) → Goes usable n → (name : Option (List ℕ)) (told : List Told) (fs : List (List ℕ × ℕ)) (s : Start)
    (pre : List Need) (k : ℕ) (e : Entry) → s.started ≡ labels_of pre → length s.waiting ≤ suc n → slice_get s.waiting k ≡ Some e
    → fails name e.name ≡ true → (j : book.Judgement)
    → (failure_in (told ++ one_failed e (judgement_as j)) ≡ Some (judgement_as j))
    × (goes_on (judgement_as j) ≡ true → State name (told ++ one_failed e (judgement_as j)) (one_failure_less fs e.name))
    → Tries name told s pre (attempts_of n usable (record { told = told ++ one_failed e (judgement_as j); machine = judged j (mach (one_failure_less fs e.name) (after_attempt s k e false)) }))
failed_by_judge usable n rest name told fs s pre k e labels few is bad book.Ignore f =
    tries_failed name told s k e (judgement_as book.Ignore) pre _ is bad
    (rest name (told ++ one_failed e (judgement_as book.Ignore)) (one_failure_less fs e.name) (after_attempt s k e false) pre (f.1 refl) labels
    (omega (arith, few, one_removed s.waiting k e is)))
failed_by_judge usable n rest name told fs s pre k e labels few is bad book.Log f =
    tries_failed name told s k e (judgement_as book.Log) pre _ is bad
    (rest name (told ++ one_failed e (judgement_as book.Log)) (one_failure_less fs e.name) (after_attempt s k e false) pre (f.1 refl) labels
    (omega (arith, few, one_removed s.waiting k e is)))
failed_by_judge usable n rest name told fs s pre k e labels few is bad book.FallBack f =
    let c : Course = record { told = told ++ one_failed e (judgement_as book.FallBack); machine = judged book.FallBack (mach (one_failure_less fs e.name) (after_attempt s k e false)) } in
    subst (Tries name told s pre) (sym (over_stays n usable c refl)) (tries_over name told s e (judgement_as book.FallBack) pre c bad refl refl f.0 refl)
failed_by_judge usable n rest name told fs s pre k e labels few is bad book.Stop f =
    let c : Course = record { told = told ++ one_failed e (judgement_as book.Stop); machine = judged book.Stop (mach (one_failure_less fs e.name) (after_attempt s k e false)) } in
    subst (Tries name told s pre) (sym (over_stays n usable c refl)) (tries_over name told s e (judgement_as book.Stop) pre c bad refl refl f.0 refl)

one_attempt : (usable : Bool) (n : ℕ) → Goes usable n → (name : Option (List ℕ)) (told : List Told) (fs : List (List ℕ × ℕ)) (s : Start)
    (pre : List Need) (k : ℕ) (e : Entry) → s.started ≡ labels_of pre → length s.waiting ≤ suc n → slice_get s.waiting k ≡ Some e
    → is_ready (labels_of pre) (need_of e) ≡ true → Outcome name told fs e → (ok : Bool) → nat_eq (failures_of fs e.name) 0 ≡ ok
    → Tries name told s pre (attempts_of n usable (stepped_by told fs s usable k e ok))
one_attempt usable n rest name told fs s pre k e labels few is ready (goes well state) false bad = absurd (false≢true (sym bad ∙ well))
one_attempt usable n rest name told fs s pre k e labels few is ready (goes well state) true ok =
    tries_well name told s k e pre (attempts_of n usable (stepped_by told fs s usable k e true)) is ready
    (rest name (told ++ one_started e) (one_failure_less fs e.name) (after_attempt s k e true) (pre ++ need_of e ∷ []) state
    (ap (λ (l : List Label). l ++ label_of e ∷ []) labels ∙ sym (map-append _ pre (need_of e ∷ [])))
    (omega (arith, few, one_removed s.waiting k e is)))
one_attempt usable n rest name told fs s pre k e labels few is ready (breaks off bad f) true ok = absurd (false≢true (sym off ∙ ok))
one_attempt usable n rest name told fs s pre k e labels few is ready (breaks off bad f) false ok =
    failed_by_judge usable n rest name told fs s pre k e labels few is bad (judgement_of e.control s.on_good usable)
    (f (judgement_as (judgement_of e.control s.on_good usable)))

attempt_entry : (usable : Bool) (n : ℕ) → Goes usable n → (name : Option (List ℕ)) (told : List Told) (fs : List (List ℕ × ℕ)) (s : Start)
    (pre : List Need) (k : ℕ) (o : Option Entry) → State name told fs → s.started ≡ labels_of pre → length s.waiting ≤ suc n
    → next_of s.started (map need_of s.waiting) ≡ Some k → slice_get s.waiting k ≡ o
    → Tries name told s pre (option_map_or (attempts_of n usable)
    (option_map (attempted (at told fs s)) (option_map (attempt_at (mach fs s) s usable k) o)) (at told fs s))
attempt_entry usable n rest name told fs s pre k None state labels few next is =
    absurd (past s.waiting k (omega (arith, length-map s.waiting need_of, (position-Some (is_ready s.started) (map need_of s.waiting) k none next).0)) is)
attempt_entry usable n rest name told fs s pre k (Some e) state labels few next is =
    let found = position-Some (is_ready s.started) (map need_of s.waiting) k (need_of e) next in
    let here : get_or (map need_of s.waiting) k (need_of e) ≡ need_of e =
    get_or-map need_of s.waiting k e (need_of e) (omega (arith, length-map s.waiting need_of, found.0))
    ∙ ap need_of (get_or_from_slice_get s.waiting k e e is) in
    let ready : is_ready (labels_of pre) (need_of e) ≡ true =
    ap (λ (l : List Label). is_ready l (need_of e)) (sym labels) ∙ ap (is_ready s.started) (sym here) ∙ found.1 in
    one_attempt usable n rest name told fs s pre k e labels few is ready (outcome name told fs e state) (nat_eq (failures_of fs e.name) 0) refl

attempt_next : (usable : Bool) (n : ℕ) → Goes usable n → (name : Option (List ℕ)) (told : List Told) (fs : List (List ℕ × ℕ)) (s : Start)
    (pre : List Need) (o : Option ℕ) → State name told fs → s.started ≡ labels_of pre → length s.waiting ≤ suc n
    → next_of s.started (map need_of s.waiting) ≡ o
    → Tries name told s pre (option_map_or (attempts_of n usable)
    (option_map (attempted (at told fs s)) (option_and_then (λ k. option_map (attempt_at (mach fs s) s usable k) (slice_get s.waiting k)) o))
    (at told fs s))
attempt_next usable n rest name told fs s pre None state labels few next =
    tries_none name told fs s pre state labels (λ x c. ap (λ (l : List Label). is_ready l (need_of x)) (sym labels)
    ∙ elim (cases_Bool (is_ready s.started (need_of x))) [
      | inl yes' ↦ absurd (false≢true (sym (ap is_some next) ∙ some_place (is_ready s.started) (map need_of s.waiting)
          ∙ any_from (is_ready s.started) (map need_of s.waiting) (need_of x) (mapped_to need_of s.waiting x c) yes'))
      | inr off ↦ off
    ])
attempt_next usable n rest name told fs s pre (Some k) state labels few next =
    attempt_entry usable n rest name told fs s pre k (slice_get s.waiting k) state labels few next refl

nobody : (xs : List Entry) (pre : List Need) → length xs ≤ 0 → (x : Entry) → Contains xs x → is_ready (labels_of pre) (need_of x) ≡ false
nobody [] pre few x c = absurd (none_in x c)
nobody (y ∷ ys) pre few x c = absurd (omega (arith, few))

pub attempts : (usable : Bool) (n : ℕ) → Goes usable n
unfolding attempts_of attempt_of
attempts usable zero name told fs s pre state labels few = tries_none name told fs s pre state labels (nobody s.waiting pre few)
attempts usable (suc n) name told fs s pre state labels few =
    attempt_next usable n (attempts usable n) name told fs s pre (next_in s) state labels few refl
