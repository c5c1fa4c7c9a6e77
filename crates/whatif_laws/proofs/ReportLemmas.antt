-- The report of a boot and all steps says what is reported of the start.
use Rattle.std.proofs.Common.{◌≡◌, ℕ, ◌+◌, ◌≤◌, Bool, true, false, ◌&&◌, ◌==◌, not, nat_eq, cond, List, [], ◌∷◌, ◌++◌, length, map, Option, Some, None, Result, Ok, Err, refl, sym, ap, ◌∙◌, subst, arith}
use Rattle.std.specs.Prelude.{filter, nat_le, unwrap_or}
use Rattle.std.specs.Option.{is_some}
use Rattle.std.proofs.lemmas.Bool.{and_parts, not-false, eqb-true}
use Rattle.std.proofs.lemmas.List.{append-nil}
use Rattle.std.proofs.lemmas.List.Elements.{filter-append}
use Rattle.nt_bytes.specs.Folding.{folded}
use Rattle.nt_bytes.specs.declared.version.HiveVersion.{HiveVersion}
use Rattle.hive_model.specs.Tree.{Tree}
use Rattle.hive_model.specs.Edit.{Step, Refusal}
use Rattle.start_model.specs.Act.{RunState, Act, done, say, with_machine}
use Rattle.start_model.specs.Boot.{Choice, EntryTaken, chosen, set_line, take_set, begin_by, begin_with, begin_start, loaded_state, accepted_state}
use Rattle.start_model.specs.Commit.{commit, committed_state}
use Rattle.start_model.specs.Entries.{Boot}
use Rattle.start_model.specs.EventActs.{event_step_of}
use Rattle.start_model.specs.Events.{BootNow, Go}
use Rattle.report_words.specs.declared.words.CommitWord.TheVariants as commits
use Rattle.report_words.specs.declared.line.Line.{Line}
use Rattle.report_words.specs.declared.line.Line.TheVariants.{Start as StartLine, Load as LoadLine, End as EndLine}
use Rattle.start_model.specs.Machine.{Start, MachineState, begun_with}
use Rattle.start_model.specs.Possible.{Woken, loads_as}
use Rattle.start_model.specs.Quiet.{Quiet, quiet_play, quiet_from, quiet_wake, quiet_run_of}
use Rattle.start_model.specs.Run.{closing_act, verdict_first, first_state}
use Rattle.start_model.specs.Sets as sets
use Rattle.start_model.specs.Sets.{SelectNumbers, SetPlan, SetStop, SetChange, ChangeStop, NoPlan, NoControlSet, NoLastKnownGood, NoFreeNumber, select_numbers_of, usable_numbers_of, free_number_of, has_number, taken_number, begin_plan_of, guarded_plan, plan_with, stepped, changed_by, planned, begin_of, set_of, is_usable}
use Rattle.start_model.specs.Starter.{no_set, live_set, good_is_usable, enough_steps}
use Rattle.start_laws.proofs.UsableLemmas.{usable_is}
use Rattle.run_laws.proofs.CountLemmas.{all_counts}
use Rattle.failure_effects.specs.declared.opening.Opening.TheVariants.{Begun}
use Rattle.failure_effects.specs.declared.opening.StartChoice.TheVariants.{OnSet}
use Rattle.failure_effects.specs.declared.opening.Taken.{Taken}
use Rattle.failure_effects.specs.Opening.{taken_set, taken_of, opened, opening_of}
use Rattle.failure_effects.specs.Played.{begun, played, played_on}
use Rattle.failure_effects.specs.Switching.{off_set}
use Rattle.whatif_laws.specs.Reports.{is_entry_line, told_line, boot_and_go, Opens, TellsAsRun, TellsOffAsRun}
use Rattle.whatif_laws.proofs.AttemptLemmas.{at}
use Rattle.whatif_laws.proofs.GoLemmas.{said, bare, rest, steps_for, run_at, all_says}

-- ---- the beginning of a start

pub same_taken : (a b : Taken) → Begun a ≡ Begun b → a ≡ b
same_taken a b e = cc

same_ok : {X E : Type 0} (a b : X) → ◌≡◌ {A = Result X E} (Ok a) (Ok b) → a ≡ b
same_ok a b e = cc

-- the number that is taken names a set of the tree
chosen_usable : (t : Tree) (on_good : Bool) (plan : SetPlan) → begin_plan_of (select_numbers_of t) (usable_numbers_of t) on_good ≡ Ok plan
    → is_usable t plan.chosen ≡ true
chosen_usable t on_good plan h = by (has_number (usable_numbers_of t) n) refl h
  where
    old : SelectNumbers
    old = select_numbers_of t

    n : ℕ
    n = taken_number (select_numbers_of t) on_good

    is_chosen : plan.chosen ≡ n → has_number (usable_numbers_of t) n ≡ true → is_usable t plan.chosen ≡ true
    is_chosen e on = ap (is_usable t) e ∙ usable_is t n on

    guarded : (o : Option ℕ) → guarded_plan (select_numbers_of t) (usable_numbers_of t) on_good o ≡ Ok plan → plan.chosen ≡ n
    guarded None e = absurd cc
    guarded (Some free) e = sym (ap (λ (p : SetPlan). p.chosen) (same_ok _ plan e))

    good : (b : Bool) → cond b (guarded_plan (select_numbers_of t) (usable_numbers_of t) on_good (free_number_of (usable_numbers_of t)))
        (Ok (plan_with n (usable_numbers_of t) (select_numbers_of t) (sets.begun (select_numbers_of t) on_good) [])) ≡ Ok plan → plan.chosen ≡ n
    good true e = guarded (free_number_of (usable_numbers_of t)) e
    good false e = sym (ap (λ (p : SetPlan). p.chosen) (same_ok _ plan e))

    by : (b : Bool) → has_number (usable_numbers_of t) n ≡ b
        → cond (not b) (Err (cond on_good NoLastKnownGood NoControlSet))
        (cond (old.good == n) (guarded_plan (select_numbers_of t) (usable_numbers_of t) on_good (free_number_of (usable_numbers_of t)))
        (Ok (plan_with n (usable_numbers_of t) (select_numbers_of t) (sets.begun (select_numbers_of t) on_good) []))) ≡ Ok plan
        → is_usable t plan.chosen ≡ true
    by false is e = absurd cc
    by true is e = is_chosen (good (old.good == n) e) is

-- what a beginning makes of the tree
pub record Begins (t : Tree) (change : SetChange) : Type 0 where
  pub usable : is_usable t change.chosen ≡ true
  pub same : change.has_steps ≡ false → change.tree ≡ t

no_steps : (version : HiveVersion) (t u : Tree) (steps : List Step) → stepped version t steps ≡ Ok u
    → not (nat_eq (length steps) 0) ≡ false → u ≡ t
no_steps version t u [] h none = sym (same_ok t u h)
no_steps version t u (s ∷ ss) h none =
    absurd (omega (arith, eqb-true (length (s ∷ ss)) 0 (not-false (nat_eq (length (s ∷ ss)) 0) none)))

pub begins : (version : HiveVersion) (t : Tree) (on_good : Bool) (change : SetChange) → begin_of version t on_good ≡ Ok change → Begins t change
begins version t on_good change h = by (begin_plan_of (select_numbers_of t) (usable_numbers_of t) on_good) refl h
  where
    stepped_by : (plan : SetPlan) → is_usable t plan.chosen ≡ true → (r : Result Tree Refusal) → stepped version t plan.steps ≡ r
        → changed_by plan r ≡ Ok change → Begins t change
    stepped_by plan on (Err e) is h = absurd cc
    stepped_by plan on (Ok u) is h =
        let same : record { chosen = plan.chosen; numbers = plan.numbers; has_steps = not (nat_eq (length plan.steps) 0); tree = u } ≡ change =
        same_ok _ change h in
        record {
          usable = ap (λ (c : SetChange). is_usable t c.chosen) (sym same) ∙ on;
          same = λ none. ap (λ (c : SetChange). c.tree) (sym same)
              ∙ no_steps version t u plan.steps is (ap (λ (c : SetChange). c.has_steps) same ∙ none);
        }

    by : (p : Result SetPlan SetStop) → begin_plan_of (select_numbers_of t) (usable_numbers_of t) on_good ≡ p → planned version t p ≡ Ok change
        → Begins t change
    by (Ok plan) is h = stepped_by plan (chosen_usable t on_good plan is) (stepped version t plan.steps) refl h
    by (Err e) is h = absurd cc

-- the set of a number from 1 to 999
pub set_same : (t u : Tree) (n : ℕ) → is_usable t n ≡ true → unwrap_or (set_of u n) no_set ≡ taken_set u n
set_same t u n h =
    by (set_of u n) ∙ sym (ap (λ (b : Bool). unwrap_or (cond (b && is_some (set_of u n)) (set_of u n) None) no_set)
    (and_parts (nat_le 1 n && nat_le n 999) (is_some (set_of t n)) h).0)
  where
    by : (o : Option Tree) → unwrap_or o no_set ≡ unwrap_or (cond (true && is_some o) o None) no_set
    by None = refl
    by (Some k) = refl

-- ---- a boot

-- a machine that is off, with these failures to come
abbrev off_with : List (List ℕ × ℕ) → MachineState
off_with fs = record { start = None; failures = fs; fallback_due = false; vital = [] }

abbrev placed_with : Woken → List (List ℕ × ℕ) → RunState
placed_with placed fs = with_machine (off_with fs) (first_state placed)

-- a boot says nothing of entries, and leaves a start in its boot phase
record Booted (taken : Taken) (fs : List (List ℕ × ℕ)) (act : Act) : Type 0 where
  state : RunState
  silent : said act ≡ []
  is : (quiet_play act).state ≡ run_at state fs (begun_with (live_set state taken.number) taken.number taken.on_good)
  set : live_set state taken.number ≡ taken.set
  usable : good_is_usable state.live ≡ taken.usable

-- the change of a beginning is committed, where there is one
booted_on : (fs : List (List ℕ × ℕ)) (on_good : Bool) (m : RunState) (t : Tree) (change : SetChange) → m.live ≡ t → Begins t change
    → (steps : Bool) → change.has_steps ≡ steps
    → Booted (taken_of on_good change.chosen change.tree) fs
    (cond steps (commit commits.Begin change.tree (with_machine (off_with fs) m) (begin_start change.chosen on_good change.numbers))
    (begin_start change.chosen on_good change.numbers (with_machine (off_with fs) m)))
booted_on fs on_good m t change live b true is = record {
  state = committed_state (with_machine (off_with fs) m) change.tree;
  silent = refl;
  is = refl;
  set = set_same t change.tree change.chosen b.usable;
  usable = refl;
}
booted_on fs on_good m t change live b false is =
    let same : m.live ≡ change.tree = live ∙ sym (b.same is) in
    record {
      state = with_machine (off_with fs) m;
      silent = refl;
      is = refl;
      set = ap (λ (u : Tree). unwrap_or (set_of u change.chosen) no_set) same ∙ set_same t change.tree change.chosen b.usable;
      usable = ap good_is_usable same;
    }

booted_say : (taken : Taken) (fs : List (List ℕ × ℕ)) (l : Line) (act : Act) → is_entry_line l ≡ false → Booted taken fs act
    → Booted taken fs (say l act)
booted_say taken fs l act off b = record {
  state = b.state;
  silent = ap (λ (c : Bool). cond c (l ∷ said act) (said act)) off ∙ b.silent;
  is = b.is;
  set = b.set;
  usable = b.usable;
}

booted_by : (taken : Taken) (fs : List (List ℕ × ℕ)) (on_good : Bool) (m : RunState) (version : HiveVersion) (t : Tree) → m.live ≡ t
    → (r : Result SetChange ChangeStop) → begin_of version t on_good ≡ r → opened on_good t r ≡ Begun taken
    → Booted taken fs (begin_by on_good (with_machine (off_with fs) m) r)
booted_by taken fs on_good m version t live (Ok change) is begun' =
    subst (λ (x : Taken). Booted x fs (begin_by on_good (with_machine (off_with fs) m) (Ok change)))
    (same_taken (taken_of on_good change.chosen change.tree) taken begun')
    (booted_say (taken_of on_good change.chosen change.tree) fs (set_line on_good (with_machine (off_with fs) m))
    (begin_with on_good change (with_machine (off_with fs) m)) refl
    (booted_on fs on_good m t change live (begins version t on_good change is) change.has_steps refl))
booted_by taken fs on_good m version t live (Err (NoPlan NoControlSet)) is begun' = absurd cc
booted_by taken fs on_good m version t live (Err (NoPlan NoLastKnownGood)) is begun' = absurd cc
booted_by taken fs on_good m version t live (Err (NoPlan NoFreeNumber)) is begun' = absurd cc
booted_by taken fs on_good m version t live (Err sets.Full) is begun' = absurd cc

booted_entry : (placed : Woken) (taken : Taken) (fs : List (List ℕ × ℕ)) (number : ℕ) (path : List ℕ) (on_good : Bool)
    → opening_of placed.state.version placed.state.tree (OnSet on_good) ≡ Begun taken
    → Booted taken fs (say (StartLine (0 + 1)) (chosen false (accepted_state (placed_with placed fs)) (EntryTaken number path on_good)))
booted_entry placed taken fs number path on_good h =
    let m : RunState = accepted_state (placed_with placed fs) in
    let w : Woken = quiet_wake (loads_as placed) in
    let b = booted_by taken fs on_good (loaded_state m w) placed.state.version placed.state.tree refl
    (begin_of placed.state.version placed.state.tree on_good) refl h in
    let loaded = booted_say taken fs (LoadLine w.state.sequence w.dirty) (take_set on_good (loaded_state m w)) refl b in
    record { state = loaded.state; silent = loaded.silent; is = loaded.is; set = loaded.set; usable = loaded.usable }

booted : (choice : Option ℕ → Choice) (placed : Woken) (taken : Taken) (fs : List (List ℕ × ℕ)) → Opens choice placed taken
    → Booted taken fs (event_step_of choice (BootNow None false) (placed_with placed fs))
unfolding event_step_of
booted choice placed taken fs o =
    subst (λ (c : Choice). Booted taken fs (say (StartLine (0 + 1)) (chosen false (accepted_state (placed_with placed fs)) c))) (sym o.entry)
    (booted_entry placed taken fs o.number o.path o.on_good o.begun)

-- ---- a go

closing_silent : (m : RunState) → said (closing_act m) ≡ []
closing_silent m = by m.machine.start
  where
    by : (o : Option Start) → said (verdict_first o (say EndLine (done m))) ≡ []
    by None = refl
    by (Some s) = refl

enough : (m : RunState) (s : Start) (fs : List (List ℕ × ℕ)) → steps_for (live_set m s.number) Boot s ≤ enough_steps (Some s) (run_at m fs s)
enough m s fs = omega (arith, all_counts (live_set m s.number))

go_said : (choice : Option ℕ → Choice) (m : RunState) (fs : List (List ℕ × ℕ)) (set : Tree) (number : ℕ) (on_good : Bool)
    → said (event_step_of choice (Go None) (run_at m fs (begun_with set number on_good)))
    ≡ map told_line (rest (good_is_usable m.live) (live_set m number) Boot (at [] fs (bare (begun_with set number on_good)))).told
unfolding event_step_of
go_said choice m fs set number on_good =
    all_says m (enough_steps (Some (begun_with set number on_good)) (run_at m fs (begun_with set number on_good))) Boot fs
    (begun_with set number on_good) [] refl (enough m (begun_with set number on_good) fs)

-- ---- the report

-- a boot and all steps, from a machine that is off
pub report_said : (choice : Option ℕ → Choice) (placed : Woken) (taken : Taken) (fs : List (List ℕ × ℕ)) → Opens choice placed taken
    → filter is_entry_line (quiet_from choice boot_and_go (placed_with placed fs)).lines
    ≡ map told_line (played_on taken.usable taken.set (at [] fs (bare (begun_with taken.set taken.number taken.on_good)))).told
report_said choice placed taken fs o =
    let first : Quiet = quiet_play (event_step_of choice (BootNow None false) (placed_with placed fs)) in
    let b = booted choice placed taken fs o in
    let second : Quiet = quiet_play (event_step_of choice (Go None) first.state) in
    filter-append is_entry_line first.lines (second.lines ++ (quiet_play (closing_act second.state)).lines)
    ∙ (λ i. b.silent i ++ filter-append is_entry_line second.lines (quiet_play (closing_act second.state)).lines i)
    ∙ (λ i. said (event_step_of choice (Go None) first.state) ++ closing_silent second.state i)
    ∙ append-nil (said (event_step_of choice (Go None) first.state))
    ∙ ap (λ (m : RunState). said (event_step_of choice (Go None) m)) b.is
    ∙ go_said choice b.state fs (live_set b.state taken.number) taken.number taken.on_good
    ∙ (λ i. map told_line (rest (b.usable i) (b.set i) Boot (at [] fs (bare (begun_with (b.set i) taken.number taken.on_good)))).told)

pub tells_as_run : TellsAsRun
unfolding quiet_run_of event_step_of played begun
tells_as_run choice placed taken None o = report_said choice placed taken [] o
tells_as_run choice placed taken (Some name) o = report_said choice placed taken ((folded name, 1) ∷ []) o

pub tells_off_as_run : TellsOffAsRun
unfolding quiet_run_of played begun
tells_off_as_run choice placed taken name o = report_said choice placed (record taken { set = off_set name taken.set }) [] o
