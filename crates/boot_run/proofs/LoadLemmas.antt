-- What a load amounts to in the book's run.
use Rattle.std.proofs.Common.{◌≡◌, inl, ℕ, Bool, true, false, List, [], ◌∷◌, ◌++◌, Some, None, refl, sym, ap, subst, ◌∙◌, append-nil}
use Rattle.std.specs.Prelude.{Result, Ok}
use Rattle.std.specs.Result.{is_err}
use Rattle.nt_bytes.specs.declared.fault.HiveFault.{HiveFault}
use Rattle.hive_model.specs.Bins.{spelled}
use Rattle.hive_model.specs.Image.{Image, IsCrashImage}
use Rattle.hive_model.specs.State.{HiveState}
use Rattle.hive_model.specs.Load.{Loads, LoadsAs, LoadFault}
use Rattle.hive_cells.proofs.Again.{one_list, not_both}
use Rattle.hive_read.proofs.Loading.{one-load, load-or-fault}
use Rattle.nt_edge.specs.Disk.{DiskState, CountsGrow, Wake}
use Rattle.nt_edge.specs.Crash.{EachCrash}
use Rattle.nt_edge.specs.Host.{SaysFront}
use Rattle.nt_edge.specs.Bench.{woken, turned_off}
use Rattle.hive_commit.specs.Alone.{KeepsAll}
use Rattle.hive_store.specs.Session.{Session}
use Rattle.hive_store.specs.Loading as store
use Rattle.report_words.specs.declared.words.Verdict.{Verdict}
use Rattle.report_words.specs.declared.line.Line.{Line}
use Rattle.report_words.specs.declared.line.Line.TheVariants.{Load as LoadLine, Verdict as VerdictLine}
use Rattle.start_model.specs.Fits.{outcomes_in, MayLoad}
use Rattle.start_model.specs.Causes.{HasCause}
use Rattle.report_text.specs.line_objects.Objects.{printed}
use Rattle.run_parts.specs.run_parts.Counted.{CountedIn, AddsUp}
use Rattle.start_model.specs.Machine.{ended}
use Rattle.start_model.specs.Possible.{Possible, Woken, Outcome, Finished, settled_at, woken_at}
use Rattle.start_model.specs.Act.{Act, Note, done, ask, Woke, Held, Ended, RunState, start_over, end_with}
use Rattle.start_model.specs.Boot.{woken_state, loaded_state}
use Rattle.start_model.specs.Run.{play}
use Rattle.run_parts.specs.run_parts.Parts.{Stays, Grew, tallies, since_wake, tally_now}
use Rattle.run_parts.specs.run_parts.Reports.{LeftOf}
use Rattle.run_parts.specs.printed_parts.Chain.{Place, StandsAt, Link, IsLinked}
use Rattle.run_parts.specs.printed_parts.Parts.{Told, Tells, GoesBut}
use Rattle.run_parts.proofs.CountLemmas.{alone-by, none_fell-same}
use Rattle.run_parts.proofs.LoggedLemmas.{LogsWhere}
use Rattle.run_parts.proofs.ChainLemmas.{still_leaves, linked-then, linked-kept, linked-woken, stands-kept}
use Rattle.run_parts.proofs.GoesLemmas.{tells-nothing, goes-begun}
use Rattle.run_parts.proofs.BreakLemmas.{or-breaks, breaks-silent, breaks-after, breaks-told}
use Rattle.boot_run.specs.Acts.{loaded, load}
use Rattle.boot_run.specs.Agrees.{IsDown, LoadsAny, IsLive, Counts, LoadLeft}
use Rattle.boot_run.specs.Views.{RunsTo}
use Rattle.boot_run.specs.declared.runner.Runner.{Runner}
use Rattle.boot_run.specs.declared.stop.RunStop.{RunStop}
use Rattle.boot_run.proofs.CommitLemmas.{counts_over}
use Rattle.boot_run.proofs.DiskLemmas.{settled_loads, alone-off, counted-off, left-off, may_be-off}
use Rattle.boot_run.proofs.PlayLemmas.{seen}

-- an image that loads has no fault
pub no_fault : (image : Image) (state : HiveState) (dirty : Bool) (fault : HiveFault) → Loads image state dirty
    → LoadFault image fault → ⊥
no_fault = load-or-fault one_list (λ bins fault is fails. not_both (spelled 0 bins) bins fault is refl fails)

-- what a load says, whatever its answer: d woke up as d1 with the image, and was then left as e
pub record Loaded (i : Image) (d d1 e : DiskState) : Type 0 where
  pub may_be : IsCrashImage d.held d.flight i
  pub woke : d1 ≡ woken i d
  pub keeps : KeepsAll d1 e
  pub crash : (s : HiveState) (dirty : Bool) → Loads i s dirty → EachCrash e (λ (c : Image). LoadsAs c s)
  pub history : e.history ≡ d1.history
  pub counts : CountsGrow d1 e

-- what it says once it is done: the session, and whether its log was taken
pub record IsDone (i : Image) (d d1 e : DiskState) (s : Session) (dirty : Bool) : Type 0 where
  pub left : Loaded i d d1 e
  pub exact : Loads i (store.loaded_state s) dirty
  pub unchanged : s.changed ≡ false
  pub none : e.flight ≡ []
  pub loads : Loads e.held (store.loaded_state s) false
  pub quiet : tally_now e ≡ tally_now d1

-- it was stopped so, and then the disk was turned off
pub record IsStopped (i : Image) (d d1 e f : DiskState) (u : Outcome) : Type 0 where
  pub left : Loaded i d d1 e
  pub cause : HasCause u (since_wake d1) (tally_now e)
  pub counted : CountedIn u (tally_now d1) (tally_now e)
  pub off : f ≡ turned_off e

-- a load is no commit
load_logs : (w : Woken) (u : Outcome) (links : List Link) → LogsWhere (woken_at w) u links
load_logs w u links = λ before after is opened.
    let e : Some after ≡ None = sym (ap (λ (p : Possible). p.other) opened) in
    absurd cc

module _ (m : RunState) (next : RunState → Act) {i : Image} {d d1 e : DiskState} (may : MayLoad m.disk i) where
  load_may : Loaded i d d1 e → EachCrash e (MayLoad (woken_at may.woken))
  load_may c image crash =
      let l = c.crash may.woken.state may.woken.dirty may.loads image crash in
      record {
        woken = record { state = may.woken.state; dirty = l.0 };
        loads = l.1;
        possible = record { state = inl refl; dirty = tt };
      }

  -- it woke up, and holds what it loads as
  load_begins : (x : Told) → Loaded i d d1 e
      → GoesBut [] (play (load m next)) (play (ask (woken_at may.woken) (loaded m next may.woken))) x x d d1
  load_begins x c =
      let one : Wake = record { image = i; cuts = d.cuts; faults = d.faults } in
      let notes : List Note = Woke m.disk ∷ Held may.woken.state.tree ∷ [] in
      let P : DiskState → Type 0 = λ t. Grew notes (one ∷ []) d t in
      let Q : DiskState → Type 0 = λ t. AddsUp (notes ++ []) (tallies (one ∷ [])) (tally_now d) (tally_now t) in
      record {
        lines = [];
        notes = notes;
        added = one ∷ [];
        woken = may.woken ∷ [];
        tells = tells-nothing x;
        grew = subst P (sym c.woke) (record {
          wakes = refl;
          armings = sym (append-nil d.history.armings);
          cut_calls = refl;
          placings = refl;
          takings = refl;
          later = (none_fell-same (tally_now d), none_fell-same (tally_now d));
          caused = tt;
        });
        fits = (may.loads, may.possible, tt);
        goes = λ v o. refl;
        adds_up = subst Q (sym c.woke) (refl, refl);
      }

  -- the links of the wake and the load, on a disk that may be left as no more after it
  load_linked : (u : Outcome) (f : DiskState) → Loaded i d d1 e → ((image : Image) → LeftOf f image → LeftOf e image)
      → (start : Place) → StandsAt start d
      → IsLinked ((Woke m.disk ∷ Held may.woken.state.tree ∷ []) ++ Ended u ∷ []) (i ∷ []) start f
  load_linked u f c left start stands =
      let none : d1.flight ≡ [] = ap (λ (t : DiskState). t.flight) c.woke in
      let woke : IsLinked (Woke m.disk ∷ Held may.woken.state.tree ∷ []) (i ∷ []) start d1 =
      linked-woken (Woke m.disk ∷ Held may.woken.state.tree ∷ []) i may.woken.state may.woken.dirty start d d1 stands refl
      c.may_be may.loads (ap (λ (t : DiskState). t.held) c.woke) none in
      let kept : StandsAt woke.end e = stands-kept woke.end d1 e woke.stands none c.keeps in
      linked-then (Woke m.disk ∷ Held may.woken.state.tree ∷ []) (Ended u ∷ []) (i ∷ []) [] start d1 f woke
      (linked-kept (Ended u ∷ []) u woke.end f (λ image crash. kept image (left image crash)) refl)

  -- no memory: nothing was printed
  pub load_memory : {a : Told} {T : Type 0} {r : Result T RunStop} {Left : T → Act → Type 0} → is_err r ≡ true
      → Loaded i d d1 e → tally_now e ≡ tally_now d1 → RunsTo (load m next) (seen a d) (seen a e) r Left
  load_memory {a = a} {r = r} {Left = Left} h c none =
      let opened : Act = ask (woken_at may.woken) (loaded m next may.woken) in
      record {
        is = or-breaks Left r h (load m next) a a d e
            (breaks-after (load m next) opened a a a.said d d1 e (load_begins a c)
            (breaks-silent opened a d1 e (record { alone = alone-by d1 e c.history c.counts; same = none }) (load_may c)));
      }

  -- the load is done
  module _ {s : Session} {dirty : Bool} (c : IsDone i d d1 e s dirty) where
    same : (may.woken.state ≡ store.loaded_state s) × (may.woken.dirty ≡ dirty)
    same = one-load one_list i may.woken.state (store.loaded_state s) may.woken.dirty dirty may.loads c.exact

    load_loads : Loads e.held may.woken.state false
    load_loads = let P : HiveState → Type 0 = λ t. Loads e.held t false in subst P (sym same.0) c.loads

    load_live : IsLive (loaded_state m may.woken) s e
    load_live = record {
      live = ap (λ (t : HiveState). t.tree) same.0;
      changed = sym c.unchanged;
      sequence = ap (λ (t : HiveState). t.sequence) same.0;
      version = ap (λ (t : HiveState). t.version) same.0;
      settled = refl;
      loads = load_loads;
    }

    load_line : (number : ℕ) → number ≡ s.base.first
        → LoadLine number dirty ≡ LoadLine may.woken.state.sequence may.woken.dirty
    load_line number is =
        ap (λ (n : ℕ). LoadLine n dirty) (is ∙ sym (ap (λ (t : HiveState). t.sequence) same.0))
        ∙ ap (λ (b : Bool). LoadLine may.woken.state.sequence b) (sym same.1)

    pub load_plays : {a b : Told} {number : ℕ} (r : Runner) → number ≡ s.base.first
        → Tells a b (LoadLine number dirty ∷ []) → Counts (loaded_state m may.woken) r
        → RunsTo (load m next) (seen a d) (seen b e) (Ok (Some s)) (LoadLeft m next r e)
    unfolding load_begins
    load_plays {a = a} {b = b} {number = number} r is said counts =
        let P : Line → Type 0 = λ l. Tells a b (l ∷ []) in
        let goes = goes-begun (play (load m next)) (woken_at may.woken) (loaded m next may.woken)
        (LoadLine may.woken.state.sequence may.woken.dirty) Finished (next (loaded_state m may.woken)) a a b d d1 e
        (load_begins a c.left) (alone-by d1 e c.left.history c.left.counts) tt c.quiet
        (load_linked Finished e c.left (λ image h. h)) (load_logs may.woken Finished) refl refl
        (subst P (load_line number is) said) in
        record { is = (next (loaded_state m may.woken), (goes, (may.woken, (refl, (counts, load_live))))) }

    pub load_breaks : {a b : Told} {T : Type 0} {r : Result T RunStop} {Left : T → Act → Type 0} {number : ℕ}
        → is_err r ≡ true → Stays next → number ≡ s.base.first
        → SaysFront a.said b.said (printed a.form (LoadLine number dirty))
        → RunsTo (load m next) (seen a d) (seen b e) r Left
    load_breaks {a = a} {b = b} {r = r} {Left = Left} {number = number} h stays is f =
        let P : Line → Type 0 = λ l. SaysFront a.said b.said (printed a.form l) in
        record {
          is = or-breaks Left r h (load m next) a b d e
              (breaks-after (load m next) (ask (woken_at may.woken) (loaded m next may.woken)) a a b.said d d1 e
              (load_begins a c.left)
              (breaks-told (woken_at may.woken) (loaded m next may.woken)
              (LoadLine may.woken.state.sequence may.woken.dirty) Finished (next (loaded_state m may.woken)) a b.said d1 e
              (alone-by d1 e c.left.history c.left.counts) tt c.quiet refl refl
              (subst P (load_line number is) f) (load_may c.left)
              (λ image crash. stays (loaded_state m may.woken) image refl
              (still_leaves e (MayLoad (settled_at may.woken.state)) c.none
              (settled_loads e.held may.woken.state load_loads) image crash))));
        }

  -- a stop, and its verdict
  module _ {f : DiskState} {u : Outcome} (verdict : Verdict) (told : outcomes_in (VerdictLine verdict ∷ []) ≡ u ∷ [])
      (is : loaded m next may.woken u ≡ end_with verdict false (woken_state m may.woken))
      (c : IsStopped i d d1 e f u) where
    stopped_cause : HasCause u (since_wake d1) (tally_now f)
    stopped_cause = let P : DiskState → Type 0 = λ t. HasCause u (since_wake d1) (tally_now t) in
        subst P (sym c.off) c.cause

    stopped_may : EachCrash f (MayLoad (woken_at may.woken))
    stopped_may = left-off e f (MayLoad (woken_at may.woken)) c.off (load_may c.left)

    pub stopped_plays : {a b : Told} {r : Runner} (r' : Runner) → Tells a b (VerdictLine verdict ∷ []) → Counts m r
        → r'.machine ≡ ended false r.machine → r'.starts ≡ r.starts
        → RunsTo (load m next) (seen a d) (seen b f) (Ok None) (LoadLeft m next r' f)
    unfolding load_begins
    stopped_plays {a = a} {b = b} {r = r} r' said counts machine starts =
        let over : RunState = start_over false (woken_state m may.woken) in
        let goes = goes-begun (play (load m next)) (woken_at may.woken) (loaded m next may.woken) (VerdictLine verdict) u
        (done over) a a b d d1 f (load_begins a c.left)
        (alone-off d1 e f (alone-by d1 e c.left.history c.left.counts) c.off) stopped_cause
        (counted-off u d1 e f c.counted c.off) (load_linked u f c.left (may_be-off e f c.off)) (load_logs may.woken u) told is said
        in
        record {
          is = (
            done over,
            (
              goes,
              (
                may.woken,
                (refl, (counts_over m (woken_state m may.woken) r r' counts refl refl machine starts, stopped_may)),
              ),
            ),
          );
        }

    pub stopped_breaks : {a b : Told} {T : Type 0} {r : Result T RunStop} {Left : T → Act → Type 0} → is_err r ≡ true
        → SaysFront a.said b.said (printed a.form (VerdictLine verdict))
        → RunsTo (load m next) (seen a d) (seen b f) r Left
    stopped_breaks {a = a} {b = b} {r = r} {Left = Left} h front = record {
      is = or-breaks Left r h (load m next) a b d f
          (breaks-after (load m next) (ask (woken_at may.woken) (loaded m next may.woken)) a a b.said d d1 f
          (load_begins a c.left)
          (breaks-told (woken_at may.woken) (loaded m next may.woken) (VerdictLine verdict) u
          (done (start_over false (woken_state m may.woken))) a b.said d1 f
          (alone-off d1 e f (alone-by d1 e c.left.history c.left.counts) c.off) stopped_cause
          (counted-off u d1 e f c.counted c.off) told is front stopped_may stopped_may));
    }

-- the disk is down after a load that was stopped
pub load_down : {i : Image} {d d1 e f : DiskState} → Loaded i d d1 e → LoadsAny i → f ≡ turned_off e → IsDown f
load_down c any off =
    let P : DiskState → Type 0 = λ t. IsDown t in
    subst P (sym off) (record {
      off = refl;
      loads = λ image crash. let l = c.crash any.0.state any.0.dirty any.1 image crash in
          (record { state = any.0.state; dirty = l.0 }, l.1);
    })
