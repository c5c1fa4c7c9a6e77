-- A save where it is due, and the logon, in the book's run.
use Rattle.std.proofs.Common.{◌≡◌, Bool, true, false, cond, [], Option, Some, None, refl, sym, ap, subst, ◌∙◌}
use Rattle.std.specs.Prelude.{Result, Ok, Err, option_map, option_and_then}
use Rattle.std.specs.Option.{option_map_or}
use Rattle.hive_model.specs.Tree.{Tree}
use Rattle.nt_edge.specs.Disk.{DiskState}
use Rattle.hive_store.specs.Session.{Session}
use Rattle.report_words.specs.declared.words.CommitWord.{CommitWord}
use Rattle.report_words.specs.declared.words.CommitWord.TheVariants as commits
use Rattle.report_words.specs.declared.line.Line.TheVariants.{Logon as LogonLine}
use Rattle.start_model.specs.Machine.{Start, MachineState, save_due}
use Rattle.start_model.specs.Fits.{MayLoad}
use Rattle.start_model.specs.Sets.{SetChange, ChangeStop, NoPlan, Full, save_of}
use Rattle.start_model.specs.Possible.{Outcome, Finished, PowerCut, DeviceFault, open_between}
use Rattle.start_model.specs.Act.{Act, RunState, Saved, done, say, ask, mark, next_state, with_machine}
use Rattle.start_model.specs.Commit.{committed, commit, saved_by, save, save_where_due}
use Rattle.start_model.specs.EventActs.{logon_act}
use Rattle.start_model.specs.Run.{play}
use Rattle.boot_machine.specs.boot_machine.Steps.{on_start}
use Rattle.run_parts.specs.run_parts.Parts.{Stays}
use Rattle.boot_run.specs.declared.runner.Runner.{Runner}
use Rattle.boot_run.specs.Agrees.{IsSound, IsRunningBy, Counts, OnLeft, TurnLeft}
use Rattle.boot_run.specs.Saves.{HandedOut, noting}
use Rattle.boot_run.proofs.PlayLemmas.{Rests, started}
use Rattle.boot_run.proofs.SaveLemmas.{saved_may}

-- ---- nothing is due

pub not_due : (o : Option Start) (m : RunState) (next : RunState → Act) → option_map_or save_due o false ≡ false
    → next m ≡ save_where_due o m next
not_due None m next is = refl
not_due (Some s) m next is = ap (λ (b : Bool). cond b (save s s.clone m next) (next m)) (sym is)

-- ---- the clone is handed out

abbrev pub without_clone : Start → Start
without_clone t = record t { clone = None }

-- the state without the clone of its start
abbrev pub taken : RunState → RunState
taken m = record m { machine = on_start without_clone m.machine }

same_commit : (what : CommitWord) (tree : Tree) (m n : RunState) (next : RunState → Act)
    → open_between m.disk.settled (next_state m tree) ≡ open_between n.disk.settled (next_state n tree)
    → ((o : Outcome) → committed what tree m next o ≡ committed what tree n next o)
    → commit what tree m next ≡ commit what tree n next
same_commit what tree m n next disk same = λ i. ask (disk i) (λ o. same o i)

same_saved : (s : Start) (clone : Tree) (m : RunState) (next : RunState → Act) (r : Result SetChange ChangeStop)
    → saved_by s clone (taken m) next r ≡ saved_by s clone m next r
same_saved s clone m next (Ok change) =
    ap (mark (Saved clone)) (same_commit commits.Save change.tree (taken m) m (noting change.numbers s next)
    refl by_outcome)
  where
    by_outcome : (o : Outcome)
        → committed commits.Save change.tree (taken m) (noting change.numbers s next) o
        ≡ committed commits.Save change.tree m (noting change.numbers s next) o
    by_outcome Finished = refl
    by_outcome PowerCut = refl
    by_outcome DeviceFault = refl
same_saved s clone m next (Err (NoPlan stop)) = refl
same_saved s clone m next (Err Full) = refl

-- a save is due, and its start has a clone
pub record IsDue (o : Option Start) (m : RunState) (next : RunState → Act) (clone : Tree) : Type 0 where
  pub start : Start
  pub out : HandedOut (taken m) start
  pub act : saved_by start clone (taken m) next (save_of (taken m).version (taken m).live clone)
      ≡ save_where_due o m next

pub due : (o : Option Start) (m : RunState) (next : RunState → Act) (clone : Tree) → m.machine.start ≡ o
    → option_map_or save_due o false ≡ true → option_and_then (λ (s : Start). s.clone) o ≡ Some clone
    → IsDue o m next clone
due None m next clone at is has = absurd cc
due (Some s) m next clone at is has = record {
  start = s;
  out = ap (option_map without_clone) at;
  act = same_saved s clone m next (save_of m.version m.live clone)
      ∙ ap (λ (c : Option Tree). save s c m next) (sym has)
      ∙ ap (λ (b : Bool). cond b (save s s.clone m next) (next m)) (sym is);
}

-- no clone is left
pub due_none : (o : Option Start) (m : RunState) (next : RunState → Act)
    → option_and_then (λ (s : Start). s.clone) o ≡ None → next m ≡ save_where_due o m next
due_none None m next has = refl
due_none (Some s) m next has = by_due (save_due s) refl
  where
    by_due : (b : Bool) → save_due s ≡ b → next m ≡ cond b (save s s.clone m next) (next m)
    by_due true is = ap (λ (c : Option Tree). save s c m next) (sym has)
    by_due false is = refl

pub none_taken : (o : Option Start) → option_and_then (λ (s : Start). s.clone) o ≡ None → option_map without_clone o ≡ o
none_taken None has = refl
none_taken (Some s) has = ap (λ (c : Option Tree). Some (record s { clone = c })) (sym has)

-- the start stands on its set as before
pub taken_on : (o : Option Start) (tree : Tree) → IsRunningBy o tree → IsRunningBy (option_map without_clone o) tree
taken_on None tree h = h
taken_on (Some s) tree h = record { there = h.there; current = h.current; few = h.few; clone = tt }

pub start_by : (change : Start → Start) (r r' : Runner) (d : DiskState) (h : Session)
    → ((o : Option Start) → IsRunningBy o h.tree → IsRunningBy (option_map change o) h.tree)
    → r'.machine ≡ on_start change r.machine → IsSound r d (Some h) → IsSound r' d (Some h)
start_by change r r' d h keeps machine sound =
    let P : MachineState → Type 0 = λ k. IsRunningBy k.start h.tree in
    (sound.0, subst P (sym machine) (keeps r.machine.start sound.1))

-- whatever is due, nothing of it is printed yet
pub due_may : (o : Option Start) (m : RunState) (next : RunState → Act) → Stays next → Rests m (save_where_due o m next)
due_may None m next stays c none h = stays m c none h
due_may (Some s) m next stays c none h = by_due (save_due s) s.clone
  where
    by_due : (b : Bool) (clone : Option Tree) → MayLoad (play (cond b (save s clone m next) (next m)) [] []).disk c
    by_due true None = stays m c none h
    by_due true (Some clone) = saved_may s clone m next (save_of m.version m.live clone) stays c none h
    by_due false clone = stays m c none h

-- ---- the logon

abbrev pub logged : Start → Start
logged t = record t { logged_on = true }

pub logged_on : (o : Option Start) (tree : Tree) → IsRunningBy o tree → IsRunningBy (option_map logged o) tree
logged_on None tree h = h
logged_on (Some s) tree h = record { there = h.there; current = h.current; few = h.few; clone = h.clone }

abbrev pub logged_state : RunState → RunState
logged_state m = with_machine (on_start logged m.machine) m

-- the logon's line, and a save where it is due then
pub logon_is : {m : RunState} {r : Runner} (tree : Tree) → Counts m r → IsRunningBy r.machine.start tree
    → say LogonLine (save_where_due (logged_state m).machine.start (logged_state m) done)
    ≡ option_map_or (λ s. logon_act s m) m.machine.start (done m)
logon_is {m = m} tree counts on =
    let P : Option Start → Type 0 =
    λ o. say LogonLine (save_where_due (option_map logged o)
    (with_machine (record m.machine { start = option_map logged o }) m) done)
    ≡ option_map_or (λ t. logon_act t m) o (done m) in
    let s = started tree counts on in
    subst P (sym s.1) refl

pub done_left : (r : Runner) (d : DiskState) (o : Option Session) (rest : Act) → OnLeft done r d o rest
    → TurnLeft r d o rest
done_left r d None rest h = h
done_left r d (Some s) rest h = record { after = h.0; is = h.1.0; agrees = h.1.1 }
