-- What a commit of the session amounts to in the book's run.
use Rattle.std.proofs.Common.{◌≡◌, ◌+◌, ◌%◌, inl, inr, ℕ, Bool, true, false, List, [], ◌∷◌, length, Some, None, refl, sym, ap, subst, ◌∙◌}
use Rattle.std.specs.Prelude.{Result, Ok}
use Rattle.std.specs.Result.{is_err}
use Rattle.hive_model.specs.Base.{Base, version_of, is_bins_size}
use Rattle.hive_model.specs.Image.{Image}
use Rattle.hive_model.specs.State.{HiveState}
use Rattle.hive_model.specs.Carries.{Carries, HasLog}
use Rattle.hive_model.specs.Load.{Loads, Holds}
use Rattle.hive_model.proofs.BaseLemmas.{base_in_checked}
use Rattle.nt_edge.specs.Disk.{DiskState, CountsGrow}
use Rattle.nt_edge.specs.Crash.{EachCrash}
use Rattle.nt_edge.specs.Host.{SaysFront}
use Rattle.nt_edge.specs.Bench.{turned_off}
use Rattle.hive_store.specs.Session.{Session, next_bins}
use Rattle.hive_store.specs.Changes.{carried_by, carried_after, IsEdited}
use Rattle.hive_store.specs.Commits as store
use Rattle.hive_store.proofs.Holding.{clean, held_by, carried}
use Rattle.hive_commit.specs.Stages.{LoadsAsEither, IsBeforeOrAfter, next_number}
use Rattle.report_words.specs.declared.words.Verdict.{Verdict}
use Rattle.report_words.specs.declared.words.CommitWord.{CommitWord}
use Rattle.report_words.specs.declared.line.Line.TheVariants.{Commit as CommitLine, Verdict as VerdictLine}
use Rattle.start_model.specs.Fits.{outcomes_in, MayLoad}
use Rattle.start_model.specs.Causes.{HasCause}
use Rattle.report_text.specs.line_objects.Objects.{printed}
use Rattle.run_parts.specs.run_parts.Counted.{CountedIn}
use Rattle.start_model.specs.Machine.{ended}
use Rattle.start_model.specs.Possible.{Outcome, Finished, settled_at, open_between}
use Rattle.start_model.specs.Act.{Act, done, say, mark, Held, Ended, RunState, next_state, start_over, end_with}
use Rattle.start_model.specs.Commit.{committed_state, opened_state, committed, commit}
use Rattle.run_parts.specs.run_parts.Parts.{Stays, since_wake, tally_now}
use Rattle.run_parts.specs.printed_parts.Chain.{Place, StandsAt}
use Rattle.run_parts.specs.printed_parts.Parts.{Told, Tells}
use Rattle.run_parts.proofs.CountLemmas.{alone-by}
use Rattle.run_parts.proofs.ChainLemmas.{still_leaves, IsMade, made-committed, made-stopped}
use Rattle.run_parts.proofs.GoesLemmas.{goes-told, goes-committed}
use Rattle.run_parts.proofs.BreakLemmas.{or-breaks, breaks-silent, breaks-told}
use Rattle.boot_run.specs.Agrees.{IsDown, LoadsAny, IsStored, IsLive, Counts, CommitLeft}
use Rattle.boot_run.specs.Views.{RunsTo}
use Rattle.boot_run.specs.declared.stop.RunStop.{RunStop}
use Rattle.boot_run.specs.declared.runner.Runner.{Runner}
use Rattle.boot_run.proofs.DiskLemmas.{settled_loads, open_loads, alone-off, counted-off, left-off}
use Rattle.boot_run.proofs.PlayLemmas.{seen}

-- the state that the session commits is the book's
pub next_is : (m : RunState) (s : Session) (d : DiskState) → IsStored m s d
    → store.committed_state s ≡ next_state m s.tree
next_is m s d live = λ i. record
    { tree = s.tree; sequence = (sym live.sequence i + 1) % 4294967296; version = sym live.version i }

-- what the session's commit says, whatever its answer
pub record Committed (s : Session) (d e : DiskState) : Type 0 where
  pub still : d.flight ≡ []
  pub opened : Carries d.held s.base s.bins
  pub change : IsEdited s
  pub either : EachCrash e (IsBeforeOrAfter s.base s.bins (store.next_base s) (next_bins s))
  pub crash : (before : HiveState) (dirty : Bool) → Loads d.held before dirty
      → EachCrash e (LoadsAsEither before (store.committed_state s))
  pub history : e.history ≡ d.history
  pub counts : CountsGrow d e

-- what the session's commit says once it is done: what it left as the session and its number, and what the disk has
pub record IsDone (s : Session) (d e : DiskState) (after : Session) (number : ℕ) : Type 0 where
  pub left : Committed s d e
  pub after_is : after ≡ store.committed s
  pub raised : number ≡ next_number s.base.first
  pub none : e.flight ≡ []
  pub loads : Loads e.held (store.committed_state s) false
  pub closed : Carries e.held (store.next_base s) (next_bins s)
  pub log : HasLog e.held (store.session_log s)
  pub quiet : tally_now e ≡ tally_now d

-- it was stopped so, and then the disk was turned off
pub record IsStopped (s : Session) (d e f : DiskState) (u : Outcome) : Type 0 where
  pub left : Committed s d e
  pub cause : HasCause u (since_wake d) (tally_now e)
  pub counted : CountedIn u (tally_now d) (tally_now e)
  pub off : f ≡ turned_off e

-- the base block and the bins data that an image carries hold what it loads as
carried_holds : (image : Image) (base : Base) (bins : List ℕ) (state : HiveState) → Carries image base bins
    → Loads image state false
    → Holds (clean base bins) state
carried_holds image base bins state is loads =
    let size : is_bins_size (length bins) ≡ true =
    ap is_bins_size (sym is.size) ∙ (base_in_checked image base is.block).size_is in
    held_by image state false (clean base bins) loads (carried image base bins size is)

-- the runner counts the state in which a start is over
pub counts_over : (m n : RunState) (r r' : Runner) → Counts m r → n.machine ≡ m.machine → n.starts ≡ m.starts
    → r'.machine ≡ ended false r.machine → r'.starts ≡ r.starts → Counts (start_over false n) r'
counts_over m n r r' counts machine starts over kept =
    record {
      machine = ap (ended false) (machine ∙ counts.machine) ∙ sym over;
      starts = starts ∙ counts.starts ∙ sym kept;
    }

module _ (m : RunState) (next : RunState → Act) (what : CommitWord) {s : Session} {d e : DiskState}
    (live : IsStored m s d) where
  commit_open : Committed s d e → EachCrash e (MayLoad (open_between m.disk.settled (next_state m s.tree)))
  commit_open c image crash =
      let P : HiveState → Type 0 = λ t. LoadsAsEither m.disk.settled t image in
      open_loads m.disk.settled (next_state m s.tree) image
      (subst P (next_is m s d live) (c.crash m.disk.settled false live.loads image crash))

  -- no memory: nothing was printed
  pub commit_memory : {a : Told} {T : Type 0} {r : Result T RunStop} {Left : T → Act → Type 0} → is_err r ≡ true
      → Committed s d e → tally_now e ≡ tally_now d
      → RunsTo (commit what s.tree m next) (seen a d) (seen a e) r Left
  commit_memory {a = a} {r = r} {Left = Left} h c none =
      let whole : Act = commit what s.tree m next in
      record {
        is = or-breaks Left r h whole a a d e
            (breaks-silent whole a d e (record { alone = alone-by d e c.history c.counts; same = none }) (commit_open c));
      }

  -- the commit is done
  module _ {after : Session} {number : ℕ} (c : IsDone s d e after number) where
    commit_number : number ≡ (next_state m s.tree).sequence
    commit_number = c.raised ∙ ap (λ (t : HiveState). t.sequence) (next_is m s d live)

    commit_loads : Loads e.held (next_state m s.tree) false
    commit_loads = let P : HiveState → Type 0 = λ t. Loads e.held t false in subst P (next_is m s d live) c.loads

    commit_live : IsLive (committed_state m s.tree) after e
    commit_live = record {
      live = sym (ap (λ (t : Session). t.tree) c.after_is);
      changed = sym (ap (λ (t : Session). t.changed) c.after_is);
      sequence = sym commit_number ∙ c.raised ∙ sym (ap (λ (t : Session). t.base.first) c.after_is);
      version = live.version ∙ sym (ap (λ (t : Session). version_of t.base.minor) c.after_is);
      settled = refl;
      loads = commit_loads;
    }

    -- its links, with the note of the tree that is held then
    commit_made : (start : Place) → StandsAt start d
        → IsMade (open_between m.disk.settled (next_state m s.tree)) Finished (Ended Finished ∷ Held s.tree ∷ []) start e
    commit_made start stands =
        made-committed (Ended Finished ∷ Held s.tree ∷ []) c.left.change.0 (carried_by s) (carried_after s) m.disk.settled
        (next_state m s.tree) start d e stands c.left.still c.left.opened c.left.change.1
        (carried_holds d.held s.base s.bins m.disk.settled c.left.opened live.loads)
        (carried_holds e.held (store.next_base s) (next_bins s) (next_state m s.tree) c.closed commit_loads) refl c.none
        c.closed c.log

    pub commit_plays : {a b : Told} (r : Runner) → Tells a b (CommitLine what number ∷ [])
        → Counts (committed_state m s.tree) r
        → RunsTo (commit what s.tree m next) (seen a d) (seen b e) (Ok (Some after)) (CommitLeft m s.tree next r e)
    commit_plays {a = a} {b = b} now said counts =
        let P : ℕ → Type 0 = λ n. Tells a b (CommitLine what n ∷ []) in
        let goes = goes-committed (open_between m.disk.settled (next_state m s.tree)) (committed what s.tree m next)
        (CommitLine what (next_state m s.tree).sequence) s.tree (next (committed_state m s.tree)) a b d e
        (alone-by d e c.left.history c.left.counts) c.quiet commit_made refl refl (subst P commit_number said) in
        record { is = (next (committed_state m s.tree), (goes, (refl, (counts, commit_live)))) }

    pub commit_breaks : {a b : Told} {T : Type 0} {r : Result T RunStop} {Left : T → Act → Type 0} → is_err r ≡ true
        → Stays next → SaysFront a.said b.said (printed a.form (CommitLine what number))
        → RunsTo (commit what s.tree m next) (seen a d) (seen b e) r Left
    commit_breaks {a = a} {b = b} {r = r} {Left = Left} h stays f =
        let rest : Act = mark (Held s.tree) (next (committed_state m s.tree)) in
        let P : ℕ → Type 0 = λ n. SaysFront a.said b.said (printed a.form (CommitLine what n)) in
        record {
          is = or-breaks Left r h (commit what s.tree m next) a b d e
              (breaks-told (open_between m.disk.settled (next_state m s.tree)) (committed what s.tree m next)
              (CommitLine what (next_state m s.tree).sequence) Finished rest a b.said d e
              (alone-by d e c.left.history c.left.counts) tt c.quiet refl refl (subst P commit_number f)
              (commit_open c.left) (λ image crash. stays (committed_state m s.tree) image refl
              (still_leaves e (MayLoad (settled_at (next_state m s.tree))) c.none
              (settled_loads e.held (next_state m s.tree) commit_loads) image crash)));
        }

  -- a stop, and its verdict: the start is over
  module _ {f : DiskState} {u : Outcome} (verdict : Verdict) (told : outcomes_in (VerdictLine verdict ∷ []) ≡ u ∷ [])
      (is : committed what s.tree m next u ≡ end_with verdict false (opened_state m s.tree)) (c : IsStopped s d e f u) where
    stop_cause : HasCause u (since_wake d) (tally_now f)
    stop_cause = let P : DiskState → Type 0 = λ t. HasCause u (since_wake d) (tally_now t) in subst P (sym c.off) c.cause

    -- it is no commit that is done
    stop_undone : u ≡ Finished → ⊥
    stop_undone finished =
        let e : say (CommitLine what (next_state m s.tree).sequence) (mark (Held s.tree) (next (committed_state m s.tree)))
        ≡ end_with verdict false (opened_state m s.tree) =
        sym (ap (committed what s.tree m next) finished) ∙ is in
        cc

    stop_made : (start : Place) → StandsAt start d
        → IsMade (open_between m.disk.settled (next_state m s.tree)) u (Ended u ∷ []) start f
    stop_made start stands =
        made-stopped (open_between m.disk.settled (next_state m s.tree)) u (Ended u ∷ []) c.left.change.0 (carried_by s)
        (carried_after s) s.tree start d f stop_undone stands c.left.still c.left.opened c.left.change.1 refl
        (left-off e f (IsBeforeOrAfter s.base s.bins (store.next_base s) (next_bins s)) c.off c.left.either)

    stop_open : EachCrash f (MayLoad (open_between m.disk.settled (next_state m s.tree)))
    stop_open = left-off e f (MayLoad (open_between m.disk.settled (next_state m s.tree))) c.off (commit_open c.left)

    pub stop_plays : {a b : Told} {r : Runner} (r' : Runner) → Tells a b (VerdictLine verdict ∷ []) → Counts m r
        → r'.machine ≡ ended false r.machine → r'.starts ≡ r.starts
        → RunsTo (commit what s.tree m next) (seen a d) (seen b f) (Ok None) (CommitLeft m s.tree next r' f)
    stop_plays {a = a} {b = b} {r = r} r' said counts machine starts =
        let over : RunState = start_over false (opened_state m s.tree) in
        let goes = goes-told (open_between m.disk.settled (next_state m s.tree)) (committed what s.tree m next)
        (VerdictLine verdict) u (done over) a b d f (alone-off d e f (alone-by d e c.left.history c.left.counts) c.off)
        stop_cause (counted-off u d e f c.counted c.off) stop_made told is said in
        record {
          is = (
            done over,
            (goes, (refl, (counts_over m (opened_state m s.tree) r r' counts refl refl machine starts, stop_open))),
          );
        }

    pub stop_breaks : {a b : Told} {T : Type 0} {r : Result T RunStop} {Left : T → Act → Type 0} → is_err r ≡ true
        → SaysFront a.said b.said (printed a.form (VerdictLine verdict))
        → RunsTo (commit what s.tree m next) (seen a d) (seen b f) r Left
    stop_breaks {a = a} {b = b} {r = r} {Left = Left} h front = record {
      is = or-breaks Left r h (commit what s.tree m next) a b d f
          (breaks-told (open_between m.disk.settled (next_state m s.tree)) (committed what s.tree m next)
          (VerdictLine verdict) u (done (start_over false (opened_state m s.tree))) a b.said d f
          (alone-off d e f (alone-by d e c.left.history c.left.counts) c.off)
          stop_cause (counted-off u d e f c.counted c.off) told is front stop_open stop_open);
    }

-- ---- that the disk loads, whatever it wakes up with

either_any : (before after : HiveState) (c : Image) → LoadsAsEither before after c → LoadsAny c
either_any before after c (inl l) = (record { state = before; dirty = l.0 }, l.1)
either_any before after c (inr l) = (record { state = after; dirty = l.0 }, l.1)

pub commit_down : {s : Session} {d e f : DiskState} → LoadsAny d.held → Committed s d e → f ≡ turned_off e → IsDown f
commit_down {s = s} loads c off =
    let P : DiskState → Type 0 = λ t. IsDown t in
    subst P (sym off) (record {
      off = refl;
      loads = λ image crash. either_any loads.0.state (store.committed_state s) image
          (c.crash loads.0.state loads.0.dirty loads.1 image crash);
    })

pub loads_down : (d f : DiskState) → d.flight ≡ [] → LoadsAny d.held → f ≡ turned_off d → IsDown f
loads_down d f none loads off =
    let P : DiskState → Type 0 = λ t. IsDown t in
    subst P (sym off) (record { off = refl; loads = still_leaves d LoadsAny none loads })
