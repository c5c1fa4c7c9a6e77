-- What a cut and an order amount to.
use Rattle.std.proofs.Common.{◌≡◌, ◌≤◌, inl, inr, ⊎_elim, ℕ, false, List, [], ◌∷◌, ◌++◌, None, refl, sym, ap, subst, ◌∙◌, append-nil, arith}
use Rattle.std.proofs.Math.Nat.{eq-or-lt_of_le}
use Rattle.std.specs.Prelude.{Result, Ok, Err, OnOk}
use Rattle.hive_model.specs.Image.{Arming}
use Rattle.nt_edge.specs.Disk.{DiskState, IsBounded, next}
use Rattle.nt_edge.specs.Crash.{EachCrash}
use Rattle.nt_edge.specs.Bench.{cut_off, turned_off, armed}
use Rattle.nt_bytes.specs.Counts.{Rises}
use Rattle.hive_store.specs.Session.{Session}
use Rattle.report_words.specs.declared.words.Verdict.TheVariants as verdicts
use Rattle.report_words.specs.declared.line.Line.TheVariants.{Verdict as VerdictLine}
use Rattle.start_model.specs.Machine.{ended}
use Rattle.start_model.specs.Causes.{HasCause, Caused}
use Rattle.start_model.specs.Orders.{ordered_in}
use Rattle.start_model.specs.Fits.{MayLoad}
use Rattle.start_model.specs.Possible.{Outcome, PowerCut}
use Rattle.start_model.specs.Act.{Act, Note, RunState, Cuts, Ended, Ordered, done, ask, mark, start_over, end_with}
use Rattle.start_model.specs.EventActs.{cut_act, arm_act}
use Rattle.start_model.specs.Run.{play}
use Rattle.run_parts.specs.run_parts.Counted.{with_cut}
use Rattle.run_parts.specs.run_parts.Parts.{Grew, IsMarked, NoLess, since_wake, tally_now, cuts_behind}
use Rattle.run_parts.specs.printed_parts.Chain.{StandsAt}
use Rattle.run_parts.specs.printed_parts.Parts.{Told, Tells, Goes, GoesBut, Breaks, TellsOr}
use Rattle.run_parts.proofs.CountLemmas.{still, no_less-same, no_less-bounded, rises-since}
use Rattle.run_parts.proofs.LoggedLemmas.{not_empty, logged-stop}
use Rattle.run_parts.proofs.ChainLemmas.{still_leaves, linked-kept, chained-still}
use Rattle.run_parts.proofs.GoesLemmas.{tells-nothing}
use Rattle.run_parts.proofs.BreakLemmas.{breaks-silent, breaks-front}
use Rattle.boot_run.specs.declared.runner.Runner.{Runner}
use Rattle.boot_run.specs.Agrees.{LoadsAny, IsDown, IsUp, IsLive, IsSound, Counts, OffLeft}
use Rattle.boot_run.specs.Views.{Moment, RunsTo}
use Rattle.boot_run.specs.declared.stop.RunStop.{RunStop}
use Rattle.boot_run.proofs.PlayLemmas.{live_left, here_turn}

next_rises : (n : ℕ) → n ≤ 18446744073709551615 → Rises n (next n)
next_rises n h = ⊎_elim (λ e. inr (omega arith)) (λ l. inl (omega arith)) (eq-or-lt_of_le h)

next_no_less : (n : ℕ) → n ≤ 18446744073709551615 → NoLess n (next n)
next_no_less n h = no_less-bounded n (next n) (omega arith) (omega arith)

-- The power is cut, and that is reported or not yet: the cut counts once, and has its cause in that.
module _ (d f : DiskState) (bounded : IsBounded d) (marked : IsMarked d) (is : f ≡ turned_off (cut_off d)) where
  cut_cause : HasCause PowerCut (since_wake d) (tally_now f)
  cut_cause =
      let P : DiskState → Type 0 = λ t. HasCause PowerCut (since_wake d) (tally_now t) in
      subst P (sym is) (rises-since (since_wake d).cuts d.cuts (next d.cuts) marked.cuts
      (next_rises d.cuts bounded.cuts))

  grew-cut : (notes : List Note) → ordered_in notes ≡ []
      → cuts_behind notes d.history.cut_calls ≡ next d.history.cut_calls
      → Caused notes [] (since_wake d) (tally_now f)
      → Grew notes [] d f
  grew-cut notes none calls caused =
      let P : DiskState → Type 0 = λ t. Caused notes [] (since_wake d) (tally_now t) → Grew notes [] d t in
      let here : P (turned_off (cut_off d)) = λ c. record {
        wakes = sym (append-nil d.history.wakes);
        armings = sym (append-nil d.history.armings) ∙ ap (λ (os : List Arming). d.history.armings ++ os) (sym none);
        cut_calls = sym calls;
        placings = refl;
        takings = refl;
        later = record { cuts = next_no_less d.cuts bounded.cuts; faults = no_less-same d.faults };
        caused = c;
      } in
      subst P (sym is) here caused

  cut_once : tally_now f ≡ with_cut (tally_now d)
  cut_once = ap (λ (t : DiskState). tally_now t) is

  -- the verdict is reported
  cut_part : (m : RunState) (x y : Told) → Tells x y (VerdictLine verdicts.Cut ∷ [])
      → GoesBut [] (play (cut_act m)) (play (done (start_over false m))) x y d f
  cut_part m x y said = record {
    lines = VerdictLine verdicts.Cut ∷ [];
    notes = Cuts ∷ Ended PowerCut ∷ [];
    added = [];
    woken = [];
    tells = said;
    grew = grew-cut (Cuts ∷ Ended PowerCut ∷ []) refl refl (cut_cause, tt);
    fits = tt;
    goes = λ w o. refl;
    adds_up = cut_once;
  }

  cut_goes : (m : RunState) (x y : Told) → Tells x y (VerdictLine verdicts.Cut ∷ [])
      → Goes (play (cut_act m)) (play (done (start_over false m))) x y d f
  unfolding cut_part
  cut_goes m x y said = record {
    part = cut_part m x y said;
    chained = λ start stands.
        let P : DiskState → Type 0 = λ t. StandsAt start t in
        let k = linked-kept (Cuts ∷ Ended PowerCut ∷ []) PowerCut start f (subst P (sym is) stands) refl in
        record {
          linked = k;
          kept = λ none. absurd (not_empty [] PowerCut [] none);
          logged = logged-stop (play (cut_act m)) [] PowerCut k.links (λ h. cc);
        };
  }

  -- it is not
  cut_untold : (m : RunState) (next : Outcome → Act) (x : Told)
      → GoesBut (Ended PowerCut ∷ []) (play (mark Cuts (ask m.disk next))) (play (ask m.disk next)) x x d f
  cut_untold m next x = record {
    lines = [];
    notes = Cuts ∷ [];
    added = [];
    woken = [];
    tells = tells-nothing x;
    grew = grew-cut (Cuts ∷ []) refl refl tt;
    fits = tt;
    goes = λ w o. refl;
    adds_up = cut_once;
  }

cut_told : {x y : Moment} (result : Result (Unit {0}) RunStop) (m : RunState) (Left : Act → Type 0)
    → IsBounded x.disk → IsMarked x.disk → y.disk ≡ turned_off (cut_off x.disk) → EachCrash y.disk (MayLoad m.disk)
    → Left (done (start_over false m)) → TellsOr (VerdictLine verdicts.Cut) x.told y.told result
    → RunsTo (cut_act m) x y result (λ u. Left)
cut_told {x = x} {y = y} (Ok v) m Left bounded marked is left over said =
    record { is = (done (start_over false m), (cut_goes x.disk y.disk bounded marked is m x.told y.told said, over)) }
cut_told {x = x} {y = y} (Err stop) m Left bounded marked is left over said =
    let act : Outcome → Act = λ outcome. end_with verdicts.Cut false m in
    record {
      is = breaks-front (cut_act m) (ask m.disk act) (done (start_over false m)) (VerdictLine verdicts.Cut) [] PowerCut x.told
          y.told.said x.disk y.disk (λ z told. cut_part x.disk y.disk bounded marked is m x.told z told)
          (cut_untold x.disk y.disk bounded marked is m act x.told) refl said left left;
    }

pub cut_plays : {result : Result (Unit {0}) RunStop} {m : RunState} {s : Session} {r : Runner} {x y : Moment}
    {e : DiskState} → (r' : Runner) → IsBounded x.disk → IsUp s x.disk → IsLive m s x.disk → Counts m r
    → e ≡ cut_off x.disk → y.disk ≡ turned_off e → r'.machine ≡ ended false r.machine → r'.starts ≡ r.starts
    → TellsOr (VerdictLine verdicts.Cut) x.told y.told result
    → RunsTo (cut_act m) x y result (OffLeft r' y.disk)
cut_plays {result = result} {m = m} {x = x} {y = y} r' bounded up live counts is off machine starts said =
    let all : y.disk ≡ turned_off (cut_off x.disk) = off ∙ ap turned_off is in
    let Q : DiskState → Type 0 = λ t. EachCrash t (MayLoad m.disk) in
    let left : EachCrash y.disk (MayLoad m.disk) = subst Q (sym all) (live_left up live) in
    let over : Counts (start_over false m) r' =
    record { machine = ap (ended false) counts.machine ∙ sym machine; starts = counts.starts ∙ sym starts } in
    cut_told result m (OffLeft r' y.disk tt) bounded up.marked all left (here_turn over left) said

-- the disk is down after a cut, whether the verdict is reported or not
pub cut_sound : {E : Type 0} → (result : Result (Unit {0}) E) (s : Session) (r' : Runner) (d e f : DiskState)
    → IsUp s d → e ≡ cut_off d → f ≡ turned_off e → r'.machine.start ≡ None → OnOk result (IsSound r' f None)
cut_sound (Ok v) s r' d e f up is off none =
    let P : DiskState → Type 0 = λ t. IsDown t in
    let down : P (turned_off (cut_off d)) =
    record { off = refl; loads = still_leaves d LoadsAny up.still up.loads } in
    (subst P (sym (off ∙ ap turned_off is)) down, none)
cut_sound (Err stop) s r' d e f up is off none = tt

-- ---- orders

pub armed_goes : (arming : Arming) (m : RunState) (x : Told) (d e : DiskState) → e ≡ armed arming d
    → (a : Act) × (Goes (play (arm_act arming m)) (play a) x x d e × (a ≡ done m))
armed_goes arming m x d e is =
    let P : DiskState → Type 0 = λ t. Goes (play (arm_act arming m)) (play (done m)) x x d t in (
      done m,
      (
        subst P (sym is) (record {
          part = record {
            lines = [];
            notes = Ordered arming ∷ [];
            added = [];
            woken = [];
            tells = tells-nothing x;
            grew = record {
              wakes = sym (append-nil d.history.wakes);
              armings = refl;
              cut_calls = refl;
              placings = refl;
              takings = refl;
              later = record { cuts = no_less-same d.cuts; faults = no_less-same d.faults };
              caused = tt;
            };
            fits = tt;
            goes = λ w o. refl;
            adds_up = refl;
          };
          chained = chained-still (play (arm_act arming m)) [] [] (Ordered arming ∷ []) d (armed arming d) refl refl
              (λ image h. h);
        }),
        refl,
      ),
    )

pub armed_breaks : (arming : Arming) (m : RunState) (x : Told) (d e : DiskState) → e ≡ d → EachCrash d (MayLoad m.disk)
    → Breaks (arm_act arming m) x x.said d e
armed_breaks arming m x d e is left =
    let P : DiskState → Type 0 = λ t. Breaks (arm_act arming m) x x.said d t in
    subst P (sym is) (breaks-silent (arm_act arming m) x d d (still d) left)
