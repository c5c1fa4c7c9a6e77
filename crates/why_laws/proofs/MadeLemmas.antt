-- What was made of a start, phase by phase.
use Rattle.std.proofs.Common.{◌≡◌, ℕ, ◌+◌, nat_eq, Bool, true, false, not, ◌&&◌, ◌||◌, cond, List, [], ◌∷◌, ◌++◌, map, length, slice_get, Option, Some, None, refl, sym, ap, subst, ◌∙◌, append_assoc, append-nil, arith}
use Rattle.std.specs.Prelude.{remove}
use Rattle.std.specs.Option.{option_map, option_map_or}
use Rattle.std.specs.List.{filter_map}
use Rattle.std.proofs.lemmas.Bool.{false≢true}
use Rattle.std.proofs.lemmas.Bool.Decides.{nat_tests}
use Rattle.std.proofs.lemmas.List.{map-append, length-append, length-map}
use Rattle.nt_bytes.specs.Folding.{folded}
use Rattle.dependencies.proofs.MeetLemmas.{folded_first}
use Rattle.report_words.specs.declared.words.TryWord.{TryWord}
use Rattle.start_model.specs.Entries.{Entry, Phase, Boot, System, Automatic, Done, need_of, is_driver, is_service, places_of, was_tried, automatic_among, entries_of, taken_of}
use Rattle.start_model.specs.Order.{Rank, rank_of, orders_of, ordered_of, tags_count_in, plan_of}
use Rattle.start_model.specs.Ready.{Label, next_of}
use Rattle.start_model.specs.Machine.{Start, label_of, after_attempt, next_in, is_done}
use Rattle.start_model.specs.Act.{RunState}
use Rattle.start_model.specs.Starter.{live_set}
use Rattle.hive_model.specs.Tree.{Tree}
use Rattle.boot_phases.specs.boot_phases.Phases.{phase_in}
use Rattle.boot_machine.specs.boot_machine.Codes.{phase_number}
use Rattle.quiet_run.specs.declared.last.Attempt.{Attempt}
use Rattle.quiet_run.specs.declared.last.BegunPhase.{BegunPhase}
use Rattle.quiet_run.specs.declared.last.LastStart.{LastStart}
use Rattle.quiet_run.specs.Words.{phase_as}
use Rattle.quiet_run.specs.Watch.{with_phase, phase_noted}
use Rattle.why_needs.specs.why_needs.Met.{is_ok}
use Rattle.why_needs.specs.why_state.Views.{names_of}

-- ---- attempts

-- an attempt: its entry, and how it went
abbrev pub Made : Type 0
Made = Entry × TryWord

-- what the machine keeps of those that went well
abbrev pub labels : List Made → List Label
labels [] = []
labels (t ∷ ts) = cond (is_ok t.1) (label_of t.0 ∷ labels ts) (labels ts)

abbrev pub made_names : List Made → List (List ℕ)
made_names ts = map (λ (t : Made). t.0.name) ts

abbrev pub attempt_as : Made → Attempt
attempt_as t = record { name = t.0.name; outcome = t.1 }

abbrev pub folded_names : List Made → List (List ℕ)
folded_names ts = map (λ (t : Made). folded t.0.name) ts

pub labels_more : (a b : List Made) → labels (a ++ b) ≡ labels a ++ labels b
labels_more [] b = refl
labels_more (t ∷ a) b = by (is_ok t.1) (labels_more a b)
  where
    by : (o : Bool) → labels (a ++ b) ≡ labels a ++ labels b
        → cond o (label_of t.0 ∷ labels (a ++ b)) (labels (a ++ b))
        ≡ cond o (label_of t.0 ∷ labels a) (labels a) ++ labels b
    by true is = λ i. label_of t.0 ∷ is i
    by false is = is

labels_one : (a : List Made) (e : Entry) (word : TryWord) (ok : Bool) → is_ok word ≡ ok
    → labels (a ++ (e, word) ∷ []) ≡ cond ok (labels a ++ label_of e ∷ []) (labels a)
labels_one a e word ok is =
    labels_more a ((e, word) ∷ []) ∙ ap (λ (b : Bool). labels a ++ cond b (label_of e ∷ []) []) is ∙ by ok
  where
    by : (b : Bool) → labels a ++ cond b (label_of e ∷ []) [] ≡ cond b (labels a ++ label_of e ∷ []) (labels a)
    by true = refl
    by false = append-nil (labels a)

-- ---- phases

-- the attempts of a phase, of which those before it are given: each is of the first waiting entry that is ready
pub data Runs (plan : List Entry) (before : List Made) : List Made → List Entry → Type 0 where
  begun : Runs plan before [] plan
  more : (ts : List Made) (w : List Entry) (p : ℕ) (e : Entry) (word : TryWord) → Runs plan before ts w
      → next_of (labels (before ++ ts)) (map need_of w) ≡ Some p → slice_get w p ≡ Some e
      → Runs plan before (ts ++ (e, word) ∷ []) (remove w p)

-- what a phase took, after these attempts
abbrev pub plan_at : BegunPhase → List Made → List Entry
plan_at p before = plan_of p.set (phase_in p.phase) (made_names before)

-- the phases of a start with all attempts, who waits in the last one, and who was left in those before it
pub data Past : List BegunPhase → List Made → List Entry → List (List ℕ) → Type 0 where
  none : Past [] [] [] []
  next : (ps : List BegunPhase) (before : List Made) (w : List Entry) (us : List (List ℕ)) (p : BegunPhase)
      (ts : List Made) (w' : List Entry)
      → Past ps before w us → next_of (labels before) (map need_of w) ≡ None → p.from ≡ length before
      → phase_number (phase_in p.phase) ≡ length ps → Runs (plan_at p before) before ts w'
      → Past (ps ++ p ∷ []) (before ++ ts) w' (us ++ names_of w)

past_more : (ps : List BegunPhase) (all : List Made) (w : List Entry) (us : List (List ℕ)) (k : ℕ) (e : Entry)
    (word : TryWord) → Past ps all w us
    → next_of (labels all) (map need_of w) ≡ Some k → slice_get w k ≡ Some e
    → Past ps (all ++ (e, word) ∷ []) (remove w k) us
past_more ps all w us k e word none is here = absurd cc
past_more ps all w us k e word (next ps0 before w0 us0 p ts w' past gone from number runs) is here =
    let P : List Made → Type 0 = λ (ts : List Made). Past (ps0 ++ p ∷ []) ts (remove w' k) (us0 ++ names_of w0) in
    subst P (sym (append_assoc before ts ((e, word) ∷ [])))
    (next ps0 before w0 us0 p (ts ++ (e, word) ∷ []) (remove w' k) past gone from number
    (more ts w' k e word runs is here))

-- ---- what is known of a start

-- the parts of it that tell of attempts
pub record Sight : Type 0 where
  pub phases : List BegunPhase
  pub attempts : List Attempt
  pub ended : Bool

abbrev pub sight : LastStart → Sight
sight l = record { phases = l.phases; attempts = l.attempts; ended = l.ended }

-- a start whose phases are over, or that is over; the names are those of its `unmet` lines
pub record Known (k : Sight) (us : List (List ℕ)) : Type 0 where
  pub made : List Made
  pub waiting : List Entry
  pub left : List (List ℕ)
  pub past : Past k.phases made waiting left
  pub attempts : k.attempts ≡ map attempt_as made
  pub gone : k.ended ≡ true → next_of (labels made) (map need_of waiting) ≡ None
  pub said : us ≡ left ++ cond k.ended (names_of waiting) []

-- a start that runs, in a phase
pub record InPhase (s : Start) (k : Sight) (us : List (List ℕ)) : Type 0 where
  pub made : List Made
  pub past : Past k.phases made s.waiting us
  pub attempts : k.attempts ≡ map attempt_as made
  pub started : s.started ≡ labels made
  pub tried : s.tried ≡ folded_names made
  pub count : length k.phases ≡ phase_number s.phase + 1
  pub on : k.ended ≡ false

-- a start whose next phase is to begin
pub record Due (s : Start) (k : Sight) (us : List (List ℕ)) (plan : List Entry) : Type 0 where
  pub made : List Made
  pub waiting : List Entry
  pub left : List (List ℕ)
  pub past : Past k.phases made waiting left
  pub attempts : k.attempts ≡ map attempt_as made
  pub gone : next_of (labels made) (map need_of waiting) ≡ None
  pub said : us ≡ left ++ names_of waiting
  pub started : s.started ≡ labels made
  pub tried : s.tried ≡ folded_names made
  pub count : length k.phases ≡ phase_number s.phase
  pub taken : s.waiting ≡ plan

abbrev pub ByDone : Bool → Start → Sight → List (List ℕ) → Type 0
ByDone true s k us = Known k us
ByDone false s k us = InPhase s k us

abbrev pub FitsBy : Option Start → Sight → List (List ℕ) → Type 0
FitsBy None k us = Known k us
FitsBy (Some s) k us = ByDone (is_done s.phase) s k us

-- what is known of the last start fits the machine
abbrev pub Fits : RunState → Sight → List (List ℕ) → Type 0
Fits m k us = FitsBy m.machine.start k us

-- ---- a start that is over

pub over : (s : Start) (k : Sight) (us : List (List ℕ)) → InPhase s k us → Known k us
over s k us f = record {
  made = f.made;
  waiting = s.waiting;
  left = us;
  past = f.past;
  attempts = f.attempts;
  gone = λ end. absurd (false≢true (sym f.on ∙ end));
  said = sym (append-nil us) ∙ ap (λ (b : Bool). us ++ cond b (names_of s.waiting) []) (sym f.on);
}

pub over_by : (d : Bool) (s : Start) (k : Sight) (us : List (List ℕ)) → ByDone d s k us → Known k us
over_by true s k us f = f
over_by false s k us f = over s k us f

pub over_all : (o : Option Start) (k : Sight) (us : List (List ℕ)) → FitsBy o k us → Known k us
over_all None k us f = f
over_all (Some s) k us f = over_by (is_done s.phase) s k us f

-- ---- what else the machine keeps

pub kept_by : (d : Bool) (s t : Start) (k : Sight) (us : List (List ℕ)) → s.phase ≡ t.phase → s.waiting ≡ t.waiting
    → s.tried ≡ t.tried
    → s.started ≡ t.started → ByDone d s k us → ByDone d t k us
kept_by true s t k us phase waiting tried started f = f
kept_by false s t k us phase waiting tried started f = record {
  made = f.made;
  past = subst (λ (w : List Entry). Past k.phases f.made w us) waiting f.past;
  attempts = f.attempts;
  started = sym started ∙ f.started;
  tried = sym tried ∙ f.tried;
  count = f.count ∙ ap (λ (p : Phase). phase_number p + 1) phase;
  on = f.on;
}

-- ---- an attempt

pub attempted : (s : Start) (k : Sight) (us : List (List ℕ)) (place : ℕ) (e : Entry) (ok : Bool) (word : TryWord)
    → is_ok word ≡ ok
    → next_in s ≡ Some place → slice_get s.waiting place ≡ Some e → InPhase s k us
    → InPhase (after_attempt s place e ok)
    (record {
      phases = k.phases;
      attempts = k.attempts ++
          (record { name = e.name; outcome = word }) ∷ [];
      ended = k.ended;
    }) us
attempted s k us place e ok word is ready here f = record {
  made = f.made ++ (e, word) ∷ [];
  past = past_more k.phases f.made s.waiting us place e word f.past
      (ap (λ (ls : List Label). next_of ls (map need_of s.waiting)) (sym f.started) ∙ ready) here;
  attempts = ap (λ (xs : List Attempt). xs ++ (record { name = e.name; outcome = word }) ∷ []) f.attempts
      ∙ sym (map-append attempt_as f.made ((e, word) ∷ []));
  started = ap (λ (ls : List Label). cond ok (ls ++ label_of e ∷ []) ls) f.started
      ∙ sym (labels_one f.made e word ok is);
  tried = ap (λ (ns : List (List ℕ)). ns ++ folded e.name ∷ []) f.tried
      ∙ sym (map-append (λ (t : Made). folded t.0.name) f.made ((e, word) ∷ []));
  count = f.count;
  on = f.on;
}

-- ---- plans don't see whether what was tried is folded

tried_folded : (ts : List Made) (e : Entry) → was_tried (folded_names ts) e ≡ was_tried (made_names ts) e
tried_folded [] e = refl
tried_folded (t ∷ ts) e = λ i. folded_first t.0.name e.name i || tried_folded ts e i

taken_folded : (es : List Entry) (phase : Phase) (ts : List Made)
    → taken_of es phase (folded_names ts) ≡ taken_of es phase (made_names ts)
taken_folded es Boot ts = λ i. places_of (λ e. is_driver e.kind && nat_eq e.start 0 && not (tried_folded ts e i)) es
taken_folded es System ts = λ i. places_of (λ e. is_driver e.kind && nat_eq e.start 1 && not (tried_folded ts e i)) es
taken_folded es Automatic ts =
    λ i. automatic_among es (places_of (λ e. (is_driver e.kind || is_service e.kind) && not (tried_folded ts e i)) es)
taken_folded es Done ts = refl

plan_folded : (set : Tree) (phase : Phase) (ts : List Made)
    → plan_of set phase (folded_names ts) ≡ plan_of set phase (made_names ts)
plan_folded set phase ts =
    ap (λ (places : List ℕ). filter_map (λ (r : Rank). slice_get (entries_of set) r.place)
    (ordered_of (filter_map (λ p. option_map (rank_of (orders_of set) (tags_count_in phase) p)
    (slice_get (entries_of set) p)) places)))
    (taken_folded (entries_of set) phase ts)

-- ---- a phase that begins

again : (phase : Phase) → phase_in (phase_as phase) ≡ phase
again Boot = refl
again System = refl
again Automatic = refl
again Done = refl

pub begins : (m : RunState) (l : LastStart) (us : List (List ℕ)) (s : Start)
    → Due s (sight l) us (plan_of (live_set m s.number) s.phase s.tried)
    → InPhase s (sight (with_phase m s.phase s.number l)) us
begins m l us s d =
    let set : Tree = live_set m s.number in
    let p : BegunPhase = record { phase = phase_as s.phase; set = set; from = length l.attempts } in
    let plan : s.waiting ≡ plan_at p d.made =
    d.taken ∙ ap (plan_of set s.phase) d.tried ∙ plan_folded set s.phase d.made
    ∙ ap (λ (ph : Phase). plan_of set ph (made_names d.made)) (sym (again s.phase)) in
    record {
      made = d.made;
      past = subst (λ (ts : List Made). Past (l.phases ++ p ∷ []) ts s.waiting us) (append-nil d.made)
          (subst (λ (w : List Entry). Past (l.phases ++ p ∷ []) (d.made ++ []) w us) (sym plan)
          (subst (λ (ns : List (List ℕ)). Past (l.phases ++ p ∷ []) (d.made ++ []) (plan_at p d.made) ns) (sym d.said)
          (next l.phases d.made d.waiting d.left p [] (plan_at p d.made) d.past d.gone
          (ap length d.attempts ∙ length-map d.made attempt_as)
          (ap phase_number (again s.phase) ∙ sym d.count) begun)));
      attempts = d.attempts;
      started = d.started;
      tried = d.tried;
      count = length-append l.phases (p ∷ []) ∙ ap (λ (n : ℕ). n + 1) d.count;
      on = refl;
    }

-- no other phase is noted
noted_by : (m : RunState) (l : LastStart) (us : List (List ℕ)) (s : Start) (d : Bool) → ByDone d s (sight l) us
    → ByDone d s (sight (cond (not d && nat_eq (length l.phases) (phase_number s.phase))
    (with_phase m s.phase s.number l) l)) us
noted_by m l us s true f = f
noted_by m l us s false f =
    let other : nat_eq (length l.phases) (phase_number s.phase) ≡ false = grind (arith, nat_tests, f.count) in
    let P : Bool → Type 0 = λ (b : Bool). InPhase s (sight (cond b (with_phase m s.phase s.number l) l)) us in
    subst P (sym other) f

abbrev pub note_at : RunState → LastStart → LastStart
note_at m l = option_map_or (λ (s : Start). phase_noted m s.phase s.number l) m.machine.start l

pub noted_fits : (m : RunState) (l : LastStart) (us : List (List ℕ)) → Fits m (sight l) us
    → Fits m (sight (note_at m l)) us
noted_fits m l us f = by m.machine.start f
  where
    by : (o : Option Start) → FitsBy o (sight l) us
        → FitsBy o (sight (option_map_or (λ (s : Start). phase_noted m s.phase s.number l) o l)) us
    by None f = f
    by (Some s) f = noted_by m l us s (is_done s.phase) f
