-- What the beginning of a start amounts to.
use Rattle.std.proofs.Common.{◌≡◌, ◌<◌, ◌^◌, ◌+◌, ℕ, Bool, true, false, cond, List, [], ◌∷◌, length, map, Option, Some, None, refl, sym, ap, subst, ◌∙◌, arith}
use Rattle.std.specs.Prelude.{Result, Ok, Err, IfSome, ◌==◌, not}
use Rattle.std.specs.Option.{is_some, unwrap_or}
use Rattle.std.proofs.lemmas.Bool.{ne_eqb, true≢false}
use Rattle.hive_model.specs.Tree.{Tree}
use Rattle.start_model.specs.Fits.{MayLoad}
use Rattle.hive_model.specs.Edit.{Refusal, edited, Step}
use Rattle.hive_model.specs.Valid.{HoldsKeys}
use Rattle.nt_bytes.specs.declared.version.HiveVersion.{HiveVersion}
use Rattle.nt_edge.specs.Disk.{DiskState}
use Rattle.nt_edge.specs.Crash.{EachCrash}
use Rattle.hive_store.specs.Session.{Session}
use Rattle.reg_tree.specs.Makes.{step_of}
use Rattle.reg_tree.specs.declared.steps.TreeStep.{TreeStep}
use Rattle.report_words.specs.declared.words.Verdict.TheVariants as verdicts
use Rattle.report_words.specs.declared.words.CommitWord.TheVariants as commits
use Rattle.report_words.specs.declared.line.Line.TheVariants as lines
use Rattle.start_model.specs.Entries.{Boot}
use Rattle.start_model.specs.Order.{plan_of}
use Rattle.start_model.specs.Sets.{SelectNumbers, SetPlan, SetStop, SetChange, NoPlan, select_numbers_of, usable_numbers_of, taken_number, is_usable, set_of, begin_plan_of, stepped, planned, changed_by, begin_of}
use Rattle.start_model.specs.Machine.{MachineState, with_start, begun_with}
use Rattle.start_model.specs.Possible.{Possible, Woken, Outcome, Finished, PowerCut, DeviceFault, woken_at}
use Rattle.start_model.specs.Act.{RunState, Act, Held, done, say, ask, mark, wake, end_with}
use Rattle.start_model.specs.Commit.{commit}
use Rattle.start_model.specs.Starter.{no_set}
use Rattle.start_model.specs.Boot.{Choice, EntryTaken, NoEntry, OtherLoader, NoSystem, loaded, woken, chosen, begin_start, begin_by, begin_with, begun_state, take_set, set_line}
use Rattle.start_model.specs.Run.{play}
use Rattle.start_model.proofs.HeldLemmas.{services_few}
use Rattle.run_laws.proofs.CountLemmas.{plan_few}
use Rattle.run_laws.proofs.KeptLemmas.{begin_with-keeps, begin_by-keeps}
use Rattle.run_laws.proofs.StillLemmas.{may_load, next-may}
use Rattle.start_laws.proofs.BeginLemmas.{begin_case, begins}
use Rattle.start_laws.proofs.UsableLemmas.{usable_is, usable_parts, usable_from}
use Rattle.run_parts.specs.run_parts.Parts.{Stays}
use Rattle.boot_run.specs.declared.runner.Runner.{Runner}
use Rattle.boot_run.specs.Acts as acts
use Rattle.boot_run.specs.Agrees.{IsLive, IsRunningBy, IsOnSet, Counts, LeavesUp, LoadsUp, TurnLeft}
use Rattle.boot_run.specs.Begins.{begin_planned, IsTaken, IsUpOrDown}
use Rattle.boot_run.proofs.PlayLemmas.{Rests}

-- ---- nothing more happens

pub stays_begin : (number : ℕ) (on_good : Bool) (numbers : SelectNumbers) → Stays (begin_start number on_good numbers)
stays_begin number on_good numbers m c none may = may

pub stays_take : (on_good : Bool) → Stays (take_set on_good)
stays_take on_good m c none may =
    next-may c (take_set on_good)
    (λ h n up. begin_by-keeps (may_load c) on_good h n (begin_of n.version n.live on_good) up) m none may

-- ---- the set that is taken

-- a plan's set is there in the planned tree, and is the current one
pub taken_by : (version : HiveVersion) (t u : Tree) (on_good : Bool) (plan : SetPlan)
    → begin_plan_of (select_numbers_of t) (usable_numbers_of t) on_good ≡ Ok plan → stepped version t plan.steps ≡ Ok u
    → IsTaken u plan.chosen
taken_by version t u on_good plan is made =
    let b = begins version t u on_good plan is made in
    let k = begin_case (select_numbers_of t) (usable_numbers_of t) on_good plan is in
    let usable : is_usable t plan.chosen ≡ true =
    ap (is_usable t) b.taken ∙ usable_is t (taken_number (select_numbers_of t) on_good) k.usable_one in
    let low = usable_parts t plan.chosen usable in
    record { there = usable_from u plan.chosen low.least low.most (ap is_some b.set ∙ low.there); current = b.current }

few_begun : (set : Tree) → HoldsKeys set → length (plan_of set Boot []) < 2 ^ 32
few_begun set h = omega (arith, plan_few set Boot [], services_few set h)

-- the start as it begins
pub begin_sound : (machine new : MachineState) (tree : Tree) (number : ℕ) (on_good : Bool) → IsTaken tree number
    → HoldsKeys (unwrap_or (set_of tree number) no_set)
    → new ≡ with_start (begun_with (unwrap_or (set_of tree number) no_set) number on_good) machine
    → IsRunningBy new.start tree
begin_sound machine new tree number on_good taken held is =
    let set : Tree = unwrap_or (set_of tree number) no_set in
    let P : MachineState → Type 0 = λ k. IsRunningBy k.start tree in
    let on : IsOnSet (begun_with set number on_good) tree =
    record { there = taken.there; current = taken.current; few = few_begun set held; clone = held } in
    subst P (sym is) on

pub begun : (m : RunState) (r r' : Runner) (d : DiskState) (s : Session) (number : ℕ) (on_good : Bool) → Counts m r
    → IsLive m s d
    → r'.machine ≡ with_start (begun_with (unwrap_or (set_of s.tree number) no_set) number on_good) r.machine
    → r'.starts ≡ r.starts
    → TurnLeft r' d (Some s) (done (begun_state number on_good m))
begun m r r' d s number on_good counts live is starts = record {
  after = begun_state number on_good m;
  is = refl;
  agrees = record {
    counts = record {
      machine =
          ap (λ (t : Tree). with_start (begun_with (unwrap_or (set_of t number) no_set) number on_good) m.machine)
          live.live
          ∙ ap (λ (k : MachineState). with_start (begun_with (unwrap_or (set_of s.tree number) no_set) number on_good)
          k) counts.machine ∙ sym is;
      starts = counts.starts ∙ sym starts;
    };
    by = record {
      live = live.live;
      changed = live.changed;
      sequence = live.sequence;
      version = live.version;
      settled = live.settled;
      loads = live.loads;
    };
  };
}

-- ---- after a commit or a load

pub up_or_down : (s : Session) (r r' : Runner) (d : DiskState) (o : Option Session) → LeavesUp s r r' d o
    → IsUpOrDown d o
up_or_down s r r' d None h = h.0
up_or_down s r r' d (Some t) h = h.0

pub still_off : (s : Session) (r r' : Runner) (d : DiskState) (o : Option Session) → r.machine.start ≡ None
    → LeavesUp s r r' d o → r'.machine.start ≡ None
still_off s r r' d None off h = h.1
still_off s r r' d (Some t) off h = ap (λ (k : MachineState). k.start) h.1.1.1.machine ∙ off

pub still_taken : (s : Session) (r r' : Runner) (d : DiskState) (o : Option Session) (number : ℕ)
    → IsTaken s.tree number → LeavesUp s r r' d o → IfSome o (λ (t : Session). IsTaken t.tree number)
still_taken s r r' d None number taken h = tt
still_taken s r r' d (Some t) number taken h = let P : Tree → Type 0 = λ u. IsTaken u number in
    subst P (sym h.1.0) taken

-- ---- the plan

stepped_some : (version : HiveVersion) (t : Tree) (steps : List Step) → (steps ≡ [] → ⊥)
    → stepped version t steps ≡ edited version t steps
stepped_some version t [] some = absurd (some refl)
stepped_some version t (s ∷ ss) some = refl

has_some : (steps : List Step) → (steps ≡ [] → ⊥) → not (length steps == 0) ≡ true
has_some [] some = absurd (some refl)
has_some (s ∷ ss) some = ap not (ne_eqb (length (s ∷ ss)) 0 (λ e. omega (arith, e)))

-- a plan without steps
pub begin_none : (on_good : Bool) (m : RunState) (plan : SetPlan) → plan.steps ≡ []
    → begin_start plan.chosen on_good plan.numbers m
    ≡ begin_planned on_good m plan (stepped m.version m.live plan.steps)
begin_none on_good m plan none =
    ap (λ (ss : List Step). begin_planned on_good m
    (record { chosen = plan.chosen; numbers = plan.numbers; steps = ss }) (stepped m.version m.live ss)) (sym none)

stepped_is : (m : RunState) (version : HiveVersion) (t : Tree) (steps : List Step) → (steps ≡ [] → ⊥)
    → m.version ≡ version → m.live ≡ t → stepped m.version m.live steps ≡ edited version t steps
stepped_is m version t steps some same live =
    ap (λ (v : HiveVersion). stepped v m.live steps) same ∙ ap (λ (l : Tree). stepped version l steps) live
    ∙ stepped_some version t steps some

-- a plan with steps, that were made
pub begin_made : (on_good : Bool) (m : RunState) (plan : SetPlan) (version : HiveVersion) (t u : Tree)
    → (plan.steps ≡ [] → ⊥) → m.version ≡ version → m.live ≡ t → edited version t plan.steps ≡ Ok u
    → commit commits.Begin u m (begin_start plan.chosen on_good plan.numbers)
    ≡ begin_planned on_good m plan (stepped m.version m.live plan.steps)
begin_made on_good m plan version t u some same live made =
    let acts : Bool → Act = λ b. cond b (commit commits.Begin u m (begin_start plan.chosen on_good plan.numbers))
    (begin_start plan.chosen on_good plan.numbers m) in
    ap acts (sym (has_some plan.steps some))
    ∙ ap (begin_planned on_good m plan) (sym (stepped_is m version t plan.steps some same live ∙ made))

-- a plan with steps, that were refused
pub begin_full : (on_good : Bool) (m : RunState) (plan : SetPlan) (version : HiveVersion) (t : Tree) (why : Refusal)
    → (plan.steps ≡ [] → ⊥) → m.version ≡ version → m.live ≡ t → edited version t plan.steps ≡ Err why
    → end_with verdicts.Full false m ≡ begin_planned on_good m plan (stepped m.version m.live plan.steps)
begin_full on_good m plan version t why some same live made =
    ap (begin_planned on_good m plan) (sym (stepped_is m version t plan.steps some same live ∙ made))

-- the planned set, after the steps
pub taken_made : (on_good : Bool) (plan : SetPlan) (version : HiveVersion) (t u : Tree) → (plan.steps ≡ [] → ⊥)
    → begin_plan_of (select_numbers_of t) (usable_numbers_of t) on_good ≡ Ok plan
    → edited version t plan.steps ≡ Ok u → IsTaken u plan.chosen
taken_made on_good plan version t u some is made =
    taken_by version t u on_good plan is (stepped_some version t plan.steps some ∙ made)

pub taken_none : (version : HiveVersion) (on_good : Bool) (plan : SetPlan) (t : Tree) → plan.steps ≡ []
    → begin_plan_of (select_numbers_of t) (usable_numbers_of t) on_good ≡ Ok plan → IsTaken t plan.chosen
taken_none version on_good plan t none is = taken_by version t t on_good plan is (ap (stepped version t) none)

-- ---- which set is taken

by_made : (on_good : Bool) (m : RunState) (plan : SetPlan) (r : Result Tree Refusal)
    → begin_by on_good m (changed_by plan r) ≡ say (set_line on_good m) (begin_planned on_good m plan r)
by_made on_good m plan (Ok t) = refl
by_made on_good m plan (Err why) = refl

plan_at : (m : RunState) (t : Tree) (on_good : Bool) (r : Result SetPlan SetStop) → m.live ≡ t
    → begin_plan_of (select_numbers_of t) (usable_numbers_of t) on_good ≡ r
    → begin_plan_of (select_numbers_of m.live) (usable_numbers_of m.live) on_good ≡ r
plan_at m t on_good r live is =
    ap (λ (l : Tree). begin_plan_of (select_numbers_of l) (usable_numbers_of l) on_good) live ∙ is

pub take_planned : (m : RunState) (t : Tree) (on_good : Bool) (plan : SetPlan) → m.live ≡ t
    → begin_plan_of (select_numbers_of t) (usable_numbers_of t) on_good ≡ Ok plan
    → say (set_line on_good m) (begin_planned on_good m plan (stepped m.version m.live plan.steps)) ≡ take_set on_good m
take_planned m t on_good plan live is =
    sym (by_made on_good m plan (stepped m.version m.live plan.steps))
    ∙ ap (λ (r : Result SetPlan SetStop). begin_by on_good m (planned m.version m.live r))
    (sym (plan_at m t on_good (Ok plan) live is))

pub take_stopped : (m : RunState) (t : Tree) (on_good : Bool) (stop : SetStop) → m.live ≡ t
    → begin_plan_of (select_numbers_of t) (usable_numbers_of t) on_good ≡ Err stop
    → begin_by on_good m (Err (NoPlan stop)) ≡ take_set on_good m
take_stopped m t on_good stop live is =
    ap (λ (r : Result SetPlan SetStop). begin_by on_good m (planned m.version m.live r))
    (sym (plan_at m t on_good (Err stop) live is))

-- the line of the set
pub set_line_is : (m : RunState) (t : Tree) (on_good : Bool) (number : ℕ) (numbers : SelectNumbers) → m.live ≡ t
    → numbers ≡ select_numbers_of t → number ≡ taken_number numbers on_good
    → lines.Set number on_good ≡ set_line on_good m
set_line_is m t on_good number numbers live is at =
    ap (λ (n : ℕ). lines.Set n on_good)
    (at ∙ ap (λ (n : SelectNumbers). taken_number n on_good) is
    ∙ ap (λ (l : Tree). taken_number (select_numbers_of l) on_good) (sym live))

-- ---- the entry

loaded_same : (on_good : Bool) (m : RunState) (w : Woken) (o : Outcome)
    → acts.loaded m (take_set on_good) w o ≡ loaded on_good m w o
loaded_same on_good m w Finished = refl
loaded_same on_good m w PowerCut = refl
loaded_same on_good m w DeviceFault = refl

-- a load and the taking of a set, as the book has them in one
pub load_same : (on_good : Bool) (m : RunState) → acts.load m (take_set on_good) ≡ wake m.disk (woken on_good m)
load_same on_good m = λ i. wake m.disk
    (λ w. mark (Held w.state.tree) (ask (woken_at w) (λ o. loaded_same on_good m w o i)))

pub chosen_disk : (on_good : Bool) (m : RunState) (choice : Choice)
    → (play (chosen on_good m choice) [] []).disk ≡ m.disk
chosen_disk on_good m (EntryTaken number path entry_on_good) = refl
chosen_disk on_good m NoEntry = refl
chosen_disk on_good m (OtherLoader number path) = refl
chosen_disk on_good m (NoSystem number path) = refl

pub load_off : (r r' : Runner) (d : DiskState) (o : Option Session) → r.machine.start ≡ None → LoadsUp r r' d o
    → r'.machine.start ≡ None
load_off r r' d None off h = h.1
load_off r r' d (Some t) off h = ap (λ (k : MachineState). k.start) h.1.1.machine ∙ off

-- whatever a plan's steps led to
pub planned_stays : (on_good : Bool) (m : RunState) (plan : SetPlan) (r : Result Tree Refusal)
    → Rests m (begin_planned on_good m plan r)
planned_stays on_good m plan (Ok t) c none may =
    let change : SetChange = record
    { chosen = plan.chosen; numbers = plan.numbers; has_steps = not (length plan.steps == 0); tree = t } in
    next-may c (begin_with on_good change) (λ h n up. begin_with-keeps (may_load c) on_good change h n up) m none may
planned_stays on_good m plan (Err why) c none may = may

-- whether there are steps, by those of the code
pub steps_none : (made : List TreeStep) (steps : List Step) → map step_of made ≡ steps → (length made == 0) ≡ true
    → steps ≡ []
steps_none [] steps is none = sym is
steps_none (s ∷ ss) steps is none = absurd (true≢false (sym none ∙ ne_eqb (length (s ∷ ss)) 0 (λ e. omega (arith, e))))

pub steps_some : (made : List TreeStep) (steps : List Step) → map step_of made ≡ steps → (length made == 0) ≡ false
    → steps ≡ [] → ⊥
steps_some [] steps is some none = true≢false some
steps_some (s ∷ ss) steps is some none = let z : map step_of (s ∷ ss) ≡ [] = is ∙ none in absurd cc

pub chosen_left : (on_good : Bool) (m : RunState) (choice : Choice) (d : DiskState) → EachCrash d (MayLoad m.disk)
    → EachCrash d (MayLoad (play (chosen on_good m choice) [] []).disk)
chosen_left on_good m choice d left image crash =
    let P : Possible → Type 0 = λ p. MayLoad p image in subst P (sym (chosen_disk on_good m choice)) (left image crash)

-- the number of one more start
pub number_is : (m : RunState) (r : Runner) (number : ℕ) → Counts m r → number ≡ r.starts + 1 → number ≡ m.starts + 1
number_is m r number counts is = is ∙ ap (λ (n : ℕ). n + 1) (sym counts.starts)
