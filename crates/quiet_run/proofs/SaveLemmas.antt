-- The save of a good start, as it is watched.
use Rattle.std.proofs.Common.{◌≡◌, Bool, true, false, cond, List, map, Option, Some, None, Result, Ok, Err, refl, sym, ap, ◌∙◌}
use Rattle.std.specs.Prelude.{option_map, option_and_then}
use Rattle.std.specs.Option.{option_map_or}
use Rattle.hive_model.specs.Tree.{Tree}
use Rattle.hive_model.specs.Edit.{Refusal}
use Rattle.reg_tree.specs.declared.steps.TreeStep.{TreeStep}
use Rattle.reg_tree.specs.Makes.{step_of}
use Rattle.start_model.specs.Sets as sets
use Rattle.start_model.specs.Sets.{SetPlan, SetChange, ChangeStop, NoPlan, stepped, changed_by, save_of}
use Rattle.start_model.specs.Machine.{Start, MachineState, save_due, with_start}
use Rattle.start_model.specs.Act.{RunState, done, with_machine}
use Rattle.start_model.specs.Commit.{committed_state, saved_by, save, save_where_due}
use Rattle.start_model.specs.EventActs.{logon_act}
use Rattle.boot_machine.specs.boot_machine.Steps.{on_start}
use Rattle.quiet_run.specs.declared.last.LastStart.{LastStart}
use Rattle.quiet_run.specs.Watch.{Watched, watch}

-- the running start is changed
pub on_at : (f : Start → Start) (m : MachineState) (s : Start) → m.start ≡ Some s → on_start f m ≡ with_start (f s) m
on_at f m s on = ap (λ (o : Option Start). record m { start = option_map f o }) on

-- ---- what came of the plan

-- its steps are refused
pub not_saved : (m : RunState) (s : Start) (clone : Tree) (plan : SetPlan) (code : List TreeStep) (tree : Tree) (l : LastStart)
    (machine : MachineState) → m.machine.start ≡ Some (record s { clone = None }) → map step_of code ≡ plan.steps
    → ((why : Refusal) × (stepped m.version m.live (map step_of code) ≡ Err why)) × (tree ≡ m.live)
    → machine ≡ on_start (λ (x : Start). record x { saved = Some false }) m.machine
    → record { state = record m { machine = machine; live = tree }; last = l }
    ≡ watch (saved_by s clone m done (changed_by plan (stepped m.version m.live plan.steps))) l
not_saved m s clone plan code tree l machine on steps refused is =
    (λ i. record {
      state = record m {
        machine = (is ∙ on_at (λ (x : Start). record x { saved = Some false }) m.machine (record s { clone = None }) on) i;
        live = refused.1 i;
      };
      last = l;
    })
    ∙ sym (ap (λ (r : Result Tree Refusal). watch (saved_by s clone m done (changed_by plan r)) l)
    (ap (stepped m.version m.live) (sym steps) ∙ refused.0.1))

-- they are made and committed
pub saved_so : (m n : RunState) (s : Start) (clone : Tree) (plan : SetPlan) (code : List TreeStep) (tree : Tree) (l k : LastStart)
    (machine : MachineState) → m.machine.start ≡ Some (record s { clone = None }) → map step_of code ≡ plan.steps
    → stepped m.version m.live (map step_of code) ≡ Ok tree → n ≡ committed_state m tree → k ≡ l
    → machine ≡ on_start (λ (x : Start). record x { saved = Some true }) n.machine
    → record { state = with_machine machine n; last = k }
    ≡ watch (saved_by s clone m done (changed_by plan (stepped m.version m.live plan.steps))) l
saved_so m n s clone plan code tree l k machine on steps made committed kept is =
    let F : Start → Start = λ (x : Start). record x { saved = Some true } in
    let machine_is : machine ≡ with_start (record s { saved = Some true; clone = None }) m.machine =
    is ∙ ap (λ (r : RunState). on_start F r.machine) committed ∙ on_at F m.machine (record s { clone = None }) on in
    (λ i. record { state = with_machine (machine_is i) (committed i); last = kept i })
    ∙ sym (ap (λ (r : Result Tree Refusal). watch (saved_by s clone m done (changed_by plan r)) l)
    (ap (stepped m.version m.live) (sym steps) ∙ made))

-- there is none
pub refused_so : (m : RunState) (s : Start) (clone : Tree) (stop : sets.SetStop) (l : LastStart) (machine : MachineState)
    → m.machine.start ≡ Some (record s { clone = None }) → machine ≡ on_start (λ (x : Start). record x { saved = Some false }) m.machine
    → record { state = with_machine machine m; last = l } ≡ watch (saved_by s clone m done (Err (NoPlan stop))) l
refused_so m s clone stop l machine on is =
    λ i. record {
      state = with_machine ((is ∙ on_at (λ (x : Start). record x { saved = Some false }) m.machine (record s { clone = None }) on) i) m;
      last = l;
    }

-- ---- where it is due

-- the clone was handed out
apart : (m : RunState) (s : Start) (clone : Tree) (o : Option Start) (r : Result SetChange ChangeStop) (l : LastStart)
    → watch (saved_by s clone (with_machine (record m.machine { start = o }) m) done r) l ≡ watch (saved_by s clone m done r) l
apart m s clone o (Ok change) l = refl
apart m s clone o (Err (NoPlan stop)) l = refl
apart m s clone o (Err sets.Full) l = refl

due_is : (b : Bool) (o : Option Start) (s : Start) → b ≡ option_map_or save_due o false → o ≡ Some s → b ≡ save_due s
due_is b o s h on = h ∙ ap (λ (x : Option Start). option_map_or save_due x false) on

clone_is : (c : Option Tree) (o : Option Start) (s : Start) → c ≡ option_and_then (λ (x : Start). x.clone) o → o ≡ Some s → c ≡ s.clone
clone_is c o s h on = h ∙ ap (option_and_then (λ (x : Start). x.clone)) on

pub due : (m : RunState) (s : Start) (l : LastStart) (new : Watched) (b : Bool) (clone : Tree) (machine : MachineState)
    → m.machine.start ≡ Some s → b ≡ option_map_or save_due m.machine.start false → b ≡ true
    → Some clone ≡ option_and_then (λ (x : Start). x.clone) m.machine.start
    → machine ≡ on_start (λ (x : Start). record x { clone = None }) m.machine
    → ((x : Start) → machine.start ≡ Some (record x { clone = None })
    → new ≡ watch (saved_by x clone (with_machine machine m) done (save_of m.version m.live clone)) l)
    → new ≡ watch (save_where_due (Some s) m done) l
due m s l new b clone machine on h is_on has is f =
    let machine_is : machine ≡ with_start (record s { clone = None }) m.machine =
    is ∙ on_at (λ (x : Start). record x { clone = None }) m.machine s on in
    f s (ap (λ (k : MachineState). k.start) machine_is)
    ∙ ap (λ (k : MachineState). watch (saved_by s clone (with_machine k m) done (save_of m.version m.live clone)) l) machine_is
    ∙ apart m s clone (Some (record s { clone = None })) (save_of m.version m.live clone) l
    ∙ ap (λ (c : Option Tree). watch (save s c m done) l) (clone_is (Some clone) m.machine.start s has on)
    ∙ ap (λ (d : Bool). watch (cond d (save s s.clone m done) (done m)) l) (sym is_on ∙ due_is b m.machine.start s h on)

-- ---- the logon

pub logged_on : (m : RunState) (s : Start) (l : LastStart) (new : Watched) (machine : MachineState) → m.machine.start ≡ Some s
    → machine ≡ on_start (λ (x : Start). record x { logged_on = true }) m.machine
    → ((t : Start) → machine.start ≡ Some t → new ≡ watch (save_where_due (Some t) (with_machine machine m) done) l)
    → new ≡ watch (logon_act s m) l
logged_on m s l new machine on is f =
    let after : Start = record s { logged_on = true } in
    let machine_is : machine ≡ with_start after m.machine = is ∙ on_at (λ (x : Start). record x { logged_on = true }) m.machine s on in
    f after (ap (λ (k : MachineState). k.start) machine_is)
    ∙ ap (λ (k : MachineState). watch (save_where_due (Some after) (with_machine k m) done) l) machine_is
