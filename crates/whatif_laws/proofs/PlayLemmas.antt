-- The three phases of a start of which at most one attempt fails.
use Rattle.std.proofs.Common.{◌≡◌, ℕ, ◌<◌, ◌≤◌, Bool, true, false, nat_eq, List, [], ◌∷◌, ◌++◌, length, map, Option, Some, None, refl, sym, ap, ◌∙◌, ◌⊎◌, inl, inr, subst, arith, append_assoc}
use Rattle.std.specs.Prelude.{Contains, option_map}
use Rattle.std.specs.Option.{option_map_or, option_or}
use Rattle.std.proofs.lemmas.Bool.{or_cases, eqb-true}
use Rattle.std.proofs.lemmas.List.{map-append, append-nil}
use Rattle.nt_bytes.specs.Folding.{folded, folds_same}
use Rattle.dependencies.proofs.MeetLemmas.{folded_first}
use Rattle.hive_model.specs.Tree.{Tree}
use Rattle.hive_model.specs.Valid.{HoldsKeys}
use Rattle.start_model.specs.Demand.{Need}
use Rattle.start_model.specs.Entries.{Entry, Phase, Boot, System, Automatic, entries_of, need_of}
use Rattle.start_model.specs.Machine as machine
use Rattle.start_model.specs.Machine.{Start, after_phase, phase_after, begun_with}
use Rattle.start_model.specs.Order.{plan_of}
use Rattle.start_model.specs.Ready.{is_ready}
use Rattle.boot_machine.specs.boot_machine.Steps.{on_start}
use Rattle.service_control.specs.State.{labels_of}
use Rattle.service_control.proofs.LeanLemmas.{mapped_from}
use Rattle.wait_cycles.proofs.InverseLemmas.{none_in}
use Rattle.boot_phases.specs.declared.error_control.outcome.Judgement.{Judgement}
use Rattle.failure_effects.specs.declared.told.Told.{Told}
use Rattle.failure_effects.specs.declared.course.Course.{Course}
use Rattle.failure_effects.specs.declared.opening.Taken.{Taken}
use Rattle.failure_effects.specs.Lost.{goes_on}
use Rattle.failure_effects.specs.Played as play
use Rattle.failure_effects.specs.Played.{started_in, unmet_in, failure_in, attempts_of, waiting_count, phase_ended, phase_played, played_on, begun, played}
use Rattle.check_laws.proofs.TakenLemmas.{is_late}
use Rattle.check_laws.proofs.SetLemmas.{automatic_late, never_tried, system_same, automatic_same, plan_entry, boot_start, system_start, below_by, IsEarly}
use Rattle.check_laws.proofs.TurnLemmas.{InTurn, turn_as}
use Rattle.whatif_laws.proofs.AttemptLemmas as attempt
use Rattle.whatif_laws.proofs.AttemptLemmas.{failure_more, started_more, unmet_more, fails, State, plain, armed, spent, mach, at, After, Tries, attempts, over_stays}

-- ---- what is reported of those that are left

left_tells : (es : List Entry) → (started_in (map play.left (map (λ (e : Entry). e.name) es)) ≡ [])
    × (unmet_in (map play.left (map (λ (e : Entry). e.name) es)) ≡ map (λ (e : Entry). e.name) es)
    × (failure_in (map play.left (map (λ (e : Entry). e.name) es)) ≡ None)
left_tells [] = (refl, refl, refl)
left_tells (e ∷ es) =
    let r = left_tells es in (r.0, ap (λ (l : List (List ℕ)). e.name ∷ l) r.1, r.2)

or_none : (o : Option Judgement) → option_or o None ≡ o
or_none None = refl
or_none (Some j) = refl

failure_still : (a b : List Told) → failure_in b ≡ None → failure_in (a ++ b) ≡ failure_in a
failure_still a b h = failure_more a b ∙ ap (option_or (failure_in a)) h ∙ or_none (failure_in a)

state_more : (name : Option (List ℕ)) (a b : List Told) (fs : List (List ℕ × ℕ)) → failure_in b ≡ None → State name a fs
    → State name (a ++ b) fs
state_more name a b fs h (plain is none failure) = plain is none (failure_still a b h ∙ failure)
state_more name a b fs h (armed n is one failure) = armed n is one (failure_still a b h ∙ failure)
state_more name a b fs h (spent n j is one failure goes) = spent n j is one (failure_still a b h ∙ failure) goes

-- ---- a phase to its end

-- an entry that a phase takes
pub record PlanOf (set : Tree) (phase : Phase) (n : Need) : Type 0 where
  pub entry : Entry
  pub there : Contains (plan_of set phase []) entry
  pub need : need_of entry ≡ n

-- those that were started of a phase, in turn, and those that are left
pub record Part (set : Tree) (phase : Phase) (pre : List Need) (new left : List Entry) : Type 0 where
  pub turn : InTurn (PlanOf set phase) pre (map need_of new)
  pub from : (x : Entry) → Contains new x → Contains (plan_of set phase []) x
  pub only : (x : Entry) → Contains left x → Contains (plan_of set phase []) x

-- each that the phase takes was started, or is left and not ready, or may have failed
pub record Full (name : Option (List ℕ)) (set : Tree) (phase : Phase) (pre : List Need) (new left : List Entry) : Type 0 where
  pub each : (x : Entry) → Contains (plan_of set phase []) x → Contains new x ⊎ (Contains left x ⊎ (fails name x.name ≡ true))
  pub unready : (x : Entry) → Contains left x → is_ready (labels_of (pre ++ map need_of new)) (need_of x) ≡ false

module _ (name : Option (List ℕ)) (set : Tree) (holds : HoldsKeys set) where
  -- where the start stands before a phase
  pub record Stands (k : ℕ) (phase : Phase) (pre : List Need) (d : Course) : Type 0 where
    pub fs : List (List ℕ × ℕ)
    pub start : Start
    pub is : d ≡ at d.told fs start
    pub state : State name d.told fs
    pub phase_is : start.phase ≡ phase
    pub waiting : start.waiting ≡ plan_of set phase start.tried
    pub started : start.started ≡ labels_of pre
    pub early : (n : List ℕ) → Contains start.tried n → IsEarly set holds k n

  -- after a phase, with what holds of the phases before it
  pub data Ended (Before : Type 0) (k : ℕ) (phase : Phase) (pre : List Need) (new left : List Entry) (d : Course) : Type 0 where
    over : (j : Judgement) (x : List ℕ) → fails name x ≡ true → d.machine.start ≡ None → failure_in d.told ≡ Some j → goes_on j ≡ false
        → Ended Before k phase pre new left d
    on : Before → Full name set phase pre new left → Stands k (phase_after phase) (pre ++ map need_of new) d
        → Ended Before k phase pre new left d

  -- what came of a phase
  pub record Phased (Before : Type 0) (k : ℕ) (phase : Phase) (pre : List Need) (c d : Course) : Type 0 where
    pub more : List Told
    pub new : List Entry
    pub left : List Entry
    pub is : d.told ≡ c.told ++ more
    pub started : started_in more ≡ map (λ (e : Entry). e.name) new
    pub unmet : unmet_in more ≡ map (λ (e : Entry). e.name) left
    pub part : Part set phase pre new left
    pub after : Ended Before k phase pre new left d

  -- a start that is over says nothing more
  phased_over : (Before : Type 0) (usable : Bool) (k : ℕ) (phase : Phase) (pre : List Need) (c : Course) (j : Judgement) (x : List ℕ)
      → fails name x ≡ true → c.machine.start ≡ None → failure_in c.told ≡ Some j → goes_on j ≡ false
      → Phased Before k phase pre c (phase_played usable set c)
  unfolding phase_played
  phased_over Before usable k phase pre c j x bad gone failure stops =
      let stays = over_stays (waiting_count c.machine) usable c gone in
      let told : (phase_ended set (attempts_of (waiting_count c.machine) usable c)).told ≡ c.told =
      ap (λ (x : Course). (phase_ended set x).told) stays
      ∙ ap (λ (o : Option Start). c.told ++ map play.left (option_map_or machine.unmet_in o [])) gone ∙ append-nil c.told in
      record {
        more = [];
        new = [];
        left = [];
        is = told ∙ sym (append-nil c.told);
        started = refl;
        unmet = refl;
        part = record { turn = tt; from = λ x i. absurd (none_in x i); only = λ x i. absurd (none_in x i) };
        after = over j x bad (ap (λ (x : Course). (phase_ended set x).machine.start) stays ∙ ap (option_map (after_phase set)) gone)
            (ap failure_in told ∙ failure) stops;
      }

  -- what a phase takes, whatever was tried, and what it adds to what was tried
  pub record Plans (k k' : ℕ) (phase : Phase) (tried : List (List ℕ)) : Type 0 where
    pub to : (e : Entry) → Contains (plan_of set phase tried) e → Contains (plan_of set phase []) e
    pub back : (e : Entry) → Contains (plan_of set phase []) e → Contains (plan_of set phase tried) e
    pub early : (e : Entry) → Contains (plan_of set phase tried) e → e.start < k'
    pub more : k ≤ k'

  later_early : (k k' : ℕ) (n : List ℕ) → k ≤ k' → IsEarly set holds k n → IsEarly set holds k' n
  later_early k k' n le i = record { entry = i.entry; there = i.there; same = i.same; early = omega (arith, i.early, le) }

  tried_early : (k' : ℕ) (e : Entry) (n : List ℕ) → Contains (entries_of set) e → n ≡ folded e.name → e.start < k' → IsEarly set holds k' n
  tried_early k' e n there is lt = record {
    entry = e;
    there = there;
    same = λ x. ap (λ (m : List ℕ). folds_same m x) is ∙ folded_first e.name x;
    early = lt;
  }

  planned : (phase : Phase) (e : Entry) → Contains (plan_of set phase []) e → PlanOf set phase (need_of e)
  planned phase e c = record { entry = e; there = c; need = refl }

  phased_by : (Before : Type 0) → Before → (usable : Bool) (k k' : ℕ) (phase : Phase) (pre : List Need) (told : List Told)
      (fs : List (List ℕ × ℕ)) (s : Start) → s.phase ≡ phase → s.waiting ≡ plan_of set phase s.tried
      → ((n : List ℕ) → Contains s.tried n → IsEarly set holds k n) → Plans k k' phase s.tried
      → (d : Course) → Tries name told s pre d → Phased Before k' phase pre (at told fs s) (phase_ended set d)
  phased_by Before past usable k k' phase pre told fs s phase_is waiting early plans d t = by t.after
    where
      taken : (x : Entry) → Contains s.waiting x → Contains (plan_of set phase []) x
      taken x c = plans.to x (subst (λ (l : List Entry). Contains l x) waiting c)

      turn : InTurn (PlanOf set phase) pre (map need_of t.new)
      turn = turn_as (Contains (map need_of s.waiting)) (PlanOf set phase) (λ n c.
          (let m = mapped_from need_of s.waiting n c in
          subst (PlanOf set phase) m.is (planned phase m.item (taken m.item m.there)))) pre (map need_of t.new) t.turn

      from : (x : Entry) → Contains t.new x → Contains (plan_of set phase []) x
      from x c = taken x (t.from x c)

      by : After name s pre t.new d → Phased Before k' phase pre (at told fs s) (phase_ended set d)
      by (attempt.over j x bad gone failure stops) =
          let said : (phase_ended set d).told ≡ d.told =
          ap (λ (o : Option Start). d.told ++ map play.left (option_map_or machine.unmet_in o [])) gone ∙ append-nil d.told in
          record {
            more = t.more;
            new = t.new;
            left = [];
            is = said ∙ t.is;
            started = t.started;
            unmet = t.unmet;
            part = record { turn = turn; from = from; only = λ x i. absurd (none_in x i) };
            after = over j x bad (ap (option_map (after_phase set)) gone) (ap failure_in said ∙ failure) stops;
          }
      by (attempt.on o) =
          let names : List (List ℕ) = map (λ (e : Entry). e.name) o.end.waiting in
          let tells = left_tells o.end.waiting in
          let ended : phase_ended set d ≡ record { told = d.told ++ map play.left names; machine = mach o.fs (after_phase set o.end) } =
          (λ i. record {
            told = d.told ++ map play.left (option_map_or machine.unmet_in (o.machine i).start []);
            machine = on_start (after_phase set) (o.machine i);
          }) in
          let said : (phase_ended set d).told ≡ d.told ++ map play.left names = ap (λ (x : Course). x.told) ended in
          record {
            more = t.more ++ map play.left names;
            new = t.new;
            left = o.end.waiting;
            is = said ∙ ap (λ (l : List Told). l ++ map play.left names) t.is ∙ append_assoc told t.more (map play.left names);
            started = started_more t.more (map play.left names) ∙ (λ i. t.started i ++ tells.0 i) ∙ append-nil (map (λ (e : Entry). e.name) t.new);
            unmet = unmet_more t.more (map play.left names) ∙ (λ i. t.unmet i ++ tells.1 i);
            part = record { turn = turn; from = from; only = λ x i. taken x (o.only x i) };
            after = on past (record {
              each = λ x c. o.each x (subst (λ (l : List Entry). Contains l x) (sym waiting) (plans.back x c));
              unready = o.unready;
            }) (record {
              fs = o.fs;
              start = after_phase set o.end;
              is = ended ∙ ap (λ (l : List Told). at l o.fs (after_phase set o.end)) (sym said);
              state = subst (λ (l : List Told). State name l o.fs) (sym said) (state_more name d.told (map play.left names) o.fs tells.2 o.state);
              phase_is = ap phase_after (o.phase ∙ phase_is);
              waiting = ap (λ (p : Phase). plan_of set (phase_after p) o.end.tried) (o.phase ∙ phase_is);
              started = o.started;
              early = λ n c. elim (o.tried n c) [
                | inl i ↦ later_early k k' n plans.more (early n i)
                | inr e ↦ (let there = subst (λ (l : List Entry). Contains l e.0) waiting e.1 in
                    tried_early k' e.0 n (plan_entry set phase s.tried e.0 there) e.2 (plans.early e.0 there))
              ];
            });
          }

  phased_on : (Before : Type 0) → Before → (usable : Bool) (k k' : ℕ) (phase : Phase) (pre : List Need) (c : Course) (s : Stands k phase pre c)
      → Plans k k' phase s.start.tried → Phased Before k' phase pre c (phase_played usable set c)
  unfolding phase_played
  phased_on Before past usable k k' phase pre c s plans =
      subst (λ (x : Course). Phased Before k' phase pre x (phase_ended set (attempts_of (waiting_count x.machine) usable x))) (sym s.is)
      (phased_by Before past usable k k' phase pre c.told s.fs s.start s.phase_is s.waiting s.early plans
      (attempts_of (length s.start.waiting) usable (at c.told s.fs s.start))
      (attempts usable (length s.start.waiting) name c.told s.fs s.start pre s.state s.started (omega arith)))

  -- ---- the plans of the phases

  boot_plans : Plans 0 1 Boot []
  boot_plans = record {
    to = λ e c. c;
    back = λ e c. c;
    early = λ e c. omega (arith, boot_start set [] e c);
    more = omega arith;
  }

  system_plans : (tried : List (List ℕ)) → ((n : List ℕ) → Contains tried n → IsEarly set holds 1 n) → Plans 1 2 System tried
  system_plans tried early = record {
    to = λ e c. system_same set tried [] (never_tried (entries_of set) 1) e c;
    back = λ e c. system_same set [] tried (below_by set holds tried 1 early) e c;
    early = λ e c. omega (arith, system_start set tried e c);
    more = omega arith;
  }

  automatic_plans : (tried : List (List ℕ)) → ((n : List ℕ) → Contains tried n → IsEarly set holds 2 n) → (k : ℕ) → 2 ≤ k
      → ((e : Entry) → Contains (plan_of set Automatic tried) e → e.start < k) → Plans 2 k Automatic tried
  automatic_plans tried early k le few = record {
    to = λ e c. automatic_same set holds tried [] (never_tried (entries_of set) 2) e c;
    back = λ e c. automatic_same set holds [] tried (below_by set holds tried 2 early) e c;
    early = few;
    more = le;
  }

late_few : (n : ℕ) → is_late n ≡ true → n < 4
late_few n h = elim (or_cases (nat_eq n 2) (nat_eq n 3) h) [
  | inl e ↦ omega (arith, eqb-true n 2 e)
  | inr e ↦ omega (arith, eqb-true n 3 e)
]

-- ---- a start

-- each phase of a start that came to its end is full
pub record Whole (name : Option (List ℕ)) (set : Tree) (n1 n2 n3 l1 l2 l3 : List Entry) : Type 0 where
  pub boot : Full name set Boot [] n1 l1
  pub system : Full name set System (map need_of n1) n2 l2
  pub automatic : Full name set Automatic (map need_of n1 ++ map need_of n2) n3 l3

-- a start is over, or came to its end
pub data Ends (name : Option (List ℕ)) (set : Tree) (told : List Told) (n1 n2 n3 l1 l2 l3 : List Entry) : Type 0 where
  over : (j : Judgement) (x : List ℕ) → fails name x ≡ true → failure_in told ≡ Some j → goes_on j ≡ false → Ends name set told n1 n2 n3 l1 l2 l3
  whole : Whole name set n1 n2 n3 l1 l2 l3 → (fs : List (List ℕ × ℕ)) → State name told fs → Ends name set told n1 n2 n3 l1 l2 l3

-- what is reported of a start: who was started in each phase, and who was left
pub record IsPlay (name : Option (List ℕ)) (set : Tree) (told : List Told) : Type 0 where
  pub n1 : List Entry
  pub n2 : List Entry
  pub n3 : List Entry
  pub l1 : List Entry
  pub l2 : List Entry
  pub l3 : List Entry
  pub boot : Part set Boot [] n1 l1
  pub system : Part set System (map need_of n1) n2 l2
  pub automatic : Part set Automatic (map need_of n1 ++ map need_of n2) n3 l3
  pub started : started_in told ≡ map (λ (e : Entry). e.name) ((n1 ++ n2) ++ n3)
  pub unmet : unmet_in told ≡ map (λ (e : Entry). e.name) ((l1 ++ l2) ++ l3)
  pub ends : Ends name set told n1 n2 n3 l1 l2 l3

module _ (name : Option (List ℕ)) (set : Tree) (holds : HoldsKeys set) where
  second : (usable : Bool) (pre : List Need) (new left : List Entry) (c : Course)
      → Ended name set holds (Unit {0}) 1 Boot pre new left c
      → Phased name set holds (Full name set Boot pre new left) 2 System (pre ++ map need_of new) c (phase_played usable set c)
  second usable pre new left c (over j x bad gone failure stops) =
      phased_over name set holds (Full name set Boot pre new left) usable 2 System (pre ++ map need_of new) c j x bad gone failure stops
  second usable pre new left c (on past full s) =
      phased_on name set holds (Full name set Boot pre new left) full usable 1 2 System (pre ++ map need_of new) c s
      (system_plans name set holds s.start.tried s.early)

  third : (usable : Bool) (Before : Type 0) (pre : List Need) (new left : List Entry) (c : Course)
      → Ended name set holds Before 2 System pre new left c
      → Phased name set holds (Before × Full name set System pre new left) 4 Automatic (pre ++ map need_of new) c (phase_played usable set c)
  third usable Before pre new left c (over j x bad gone failure stops) =
      phased_over name set holds (Before × Full name set System pre new left) usable 4 Automatic (pre ++ map need_of new) c j x bad gone failure stops
  third usable Before pre new left c (on past full s) =
      phased_on name set holds (Before × Full name set System pre new left) (past, full) usable 2 4 Automatic (pre ++ map need_of new) c s
      (automatic_plans name set holds s.start.tried s.early 4 (omega arith) (λ e i.
      late_few e.start (automatic_late set holds s.start.tried (below_by set holds s.start.tried 2 s.early) e i)))

  ends_by : (n1 n2 n3 l1 l2 l3 : List Entry) (d : Course)
      → Ended name set holds (Full name set Boot [] n1 l1 × Full name set System (map need_of n1) n2 l2) 4 Automatic (map need_of n1 ++ map need_of n2) n3 l3 d
      → Ends name set d.told n1 n2 n3 l1 l2 l3
  ends_by n1 n2 n3 l1 l2 l3 d (over j x bad gone failure stops) = over j x bad failure stops
  ends_by n1 n2 n3 l1 l2 l3 d (on past full s) = whole (record { boot = past.0; system = past.1; automatic = full }) s.fs s.state

  names_three : (a b c : List Entry)
      → (map (λ (e : Entry). e.name) a ++ map (λ (e : Entry). e.name) b) ++ map (λ (e : Entry). e.name) c
      ≡ map (λ (e : Entry). e.name) ((a ++ b) ++ c)
  names_three a b c =
      ap (λ (l : List (List ℕ)). l ++ map (λ (e : Entry). e.name) c) (sym (map-append (λ (e : Entry). e.name) a b))
      ∙ sym (map-append (λ (e : Entry). e.name) (a ++ b) c)

  -- a start from its boot phase on
  pub play_from : (usable : Bool) (fs : List (List ℕ × ℕ)) (s : Start) → State name [] fs → s.phase ≡ Boot
      → s.waiting ≡ plan_of set Boot [] → s.tried ≡ [] → s.started ≡ []
      → IsPlay name set (played_on usable set (at [] fs s)).told
  play_from usable fs s state phase waiting tried started =
      let c0 : Course = at [] fs s in
      let c1 : Course = phase_played usable set c0 in
      let c2 : Course = phase_played usable set c1 in
      let c3 : Course = phase_played usable set c2 in
      let stands : Stands name set holds 0 Boot [] (at [] fs s) = record {
        fs = fs;
        start = s;
        is = refl;
        state = state;
        phase_is = phase;
        waiting = waiting ∙ ap (plan_of set Boot) (sym tried);
        started = started;
        early = λ n c. absurd (none_in n (subst (λ (l : List (List ℕ)). Contains l n) tried c));
      } in
      let p1 = phased_on name set holds (Unit {0}) tt usable 0 1 Boot [] (at [] fs s) stands
      (subst (Plans name set holds 0 1 Boot) (sym tried) (boot_plans name set holds)) in
      let p2 = second usable [] p1.new p1.left (phase_played usable set (at [] fs s)) p1.after in
      let p3 = third usable (Full name set Boot [] p1.new p1.left) (map need_of p1.new) p2.new p2.left
      (phase_played usable set (phase_played usable set (at [] fs s))) p2.after in
      let whole : (played_on usable set (at [] fs s)).told ≡ (p1.more ++ p2.more) ++ p3.more =
      p3.is ∙ ap (λ (l : List Told). l ++ p3.more) (p2.is ∙ ap (λ (l : List Told). l ++ p2.more) p1.is) in
      record {
        n1 = p1.new;
        n2 = p2.new;
        n3 = p3.new;
        l1 = p1.left;
        l2 = p2.left;
        l3 = p3.left;
        boot = p1.part;
        system = p2.part;
        automatic = p3.part;
        started = ap started_in whole ∙ started_more (p1.more ++ p2.more) p3.more
            ∙ (λ i. started_more p1.more p2.more i ++ p3.started i)
            ∙ (λ i. (p1.started i ++ p2.started i) ++ map (λ (e : Entry). e.name) p3.new) ∙ names_three p1.new p2.new p3.new;
        unmet = ap unmet_in whole ∙ unmet_more (p1.more ++ p2.more) p3.more
            ∙ (λ i. unmet_more p1.more p2.more i ++ p3.unmet i)
            ∙ (λ i. (p1.unmet i ++ p2.unmet i) ++ map (λ (e : Entry). e.name) p3.left) ∙ names_three p1.left p2.left p3.left;
        ends = ends_by p1.new p2.new p3.new p1.left p2.left p3.left
            (phase_played usable set (phase_played usable set (phase_played usable set (at [] fs s)))) p3.after;
      }

-- what is reported of a start on a set, with the failure of a name or without
pub play_of : (taken : Taken) (set : Tree) → HoldsKeys set → (name : Option (List ℕ)) → IsPlay name set (played taken set name)
unfolding played begun
play_of taken set holds None =
    play_from None set holds taken.usable [] (record (begun_with set taken.number taken.on_good) { clone = None })
    (plain refl refl refl) refl refl refl refl
play_of taken set holds (Some n) =
    play_from (Some n) set holds taken.usable ((folded n, 1) ∷ []) (record (begun_with set taken.number taken.on_good) { clone = None })
    (armed n refl refl refl) refl refl refl refl
