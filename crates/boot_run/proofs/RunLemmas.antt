-- The events of a run in order.
use Rattle.std.proofs.Common.{◌≡◌, ◌≤◌, ◌<◌, ◌-◌, length, map, take, drop, get_or, arith, ℕ, false, List, [], ◌∷◌, ◌++◌, Option, Some, None, inl, refl, sym, ap, subst, ◌∙◌, append-nil, append_assoc}
use Rattle.std.specs.Prelude.{Result, Ok, Err, option_map, IfSome}
use Rattle.reg_tree.proofs.Outcomes.{uncons}
use Rattle.nt_bytes.specs.Front.{IsFront}
use Rattle.boot_machine.specs.boot_machine.Steps.{is_there}
use Rattle.boot_machine.specs.boot_machine.Views.{event_in}
use Rattle.boot_script.specs.declared.boot_script.event.Event as code
use Rattle.hive_model.specs.Image.{Image}
use Rattle.hive_store.specs.Session.{Session}
use Rattle.nt_edge.specs.Disk.{DiskState}
use Rattle.nt_edge.specs.Crash.{EachCrash}
use Rattle.nt_edge.specs.Bench.{turned_off}
use Rattle.report_words.specs.declared.words.Verdict.{Verdict}
use Rattle.report_words.specs.declared.line.Line.{Line}
use Rattle.report_words.specs.declared.line.Line.TheVariants as lines
use Rattle.start_model.specs.Machine.{Start, MachineState, ending_of}
use Rattle.start_model.specs.Fits.{outcomes_in, MayLoad}
use Rattle.start_model.specs.Events.{Event}
use Rattle.start_model.specs.Report.{Going}
use Rattle.start_model.specs.Act as acts
use Rattle.start_model.specs.Possible.{Possible, Woken, Outcome, Finished, loads_as, open_between}
use Rattle.start_model.specs.Act.{Act, Note, Ended, RunState}
use Rattle.start_model.specs.Boot.{Choice}
use Rattle.start_model.specs.EventActs.{event_step_of}
use Rattle.start_model.specs.Run.{RunResult, reached, behind, play, then_run, closing_act, verdict_first, run_from, run_of, first_state}
use Rattle.run_laws.specs.run_laws.Open.{IsClosed}
use Rattle.run_laws.proofs.PartLemmas.{with_rest, then-behind, play-more}
use Rattle.run_laws.proofs.StillLemmas.{run-may, event-closed}
use Rattle.report_text.specs.declared.line_text.form.ReportForm.{ReportForm}
use Rattle.report_text.specs.line_objects.Objects.{printed_lines}
use Rattle.run_parts.specs.printed_parts.Parts.{Told, Goes, GoesBut, Breaks, RunBreaks, PlaysOr}
use Rattle.run_parts.specs.printed_parts.Reports.{Reports, ReportsFront}
use Rattle.run_parts.proofs.LoggedLemmas.{not_empty}
use Rattle.run_parts.proofs.GoesLemmas.{idle, goes-nothing, goes-then, goes-but, printed-append}
use Rattle.run_parts.proofs.ReportLemmas.{reports_of, reports_front_of}
use Rattle.boot_run.specs.Agrees.{IsSound, Agrees, AgreesBy, Counts, TurnLeft}
use Rattle.boot_run.specs.Begins.{Played, RunsOr, untold}
use Rattle.boot_run.specs.Views.{told_by, summary_in}
use Rattle.boot_run.specs.declared.summary.Summary.{Summary}
use Rattle.start_model.specs.Summary as book
use Rattle.start_model.specs.Summary.{no_summary}
use Rattle.nt_edge.specs.Host.{HostState}
use Rattle.hive_model.specs.Load.{Loads}
use Rattle.boot_run.specs.declared.runner.Runner.{Runner}
use Rattle.boot_run.proofs.DiskLemmas.{goes_but-off, goes-off, left-off}

abbrev Left : Type 0
Left = RunState × List Woken × List Outcome

-- ---- what remains of wakes and outcomes

-- where nothing was given, nothing is left, and the disk is that of the state
record NothingLeft (act : Act) (m : RunState) (ws : List Woken) (os : List Outcome) : Type 0 where
  wakes : ws ≡ []
  outcomes : os ≡ []
  disk : (play act [] []).disk ≡ m.disk

play-left : (act : Act) (m : RunState) (ws : List Woken) (os : List Outcome) → (play act [] []).rest ≡ Some (m, ws, os)
    → NothingLeft act m ws os
play-left (acts.done n) m ws os e =
    let here : RunState × List Woken × List Outcome = (n, [], []) in
    let there : RunState × List Woken × List Outcome = (m, ws, os) in
    let q : here ≡ there = cc in
    record {
      wakes = sym (ap (λ (t : RunState × List Woken × List Outcome). t.1) q);
      outcomes = sym (ap (λ (t : RunState × List Woken × List Outcome). t.2) q);
      disk = ap (λ (t : RunState × List Woken × List Outcome). t.0.disk) q;
    }
play-left (acts.say l act) m ws os e = let p = play-left act m ws os e in
    record { wakes = p.wakes; outcomes = p.outcomes; disk = p.disk }
play-left (acts.ask disk next) m ws os e = absurd cc
play-left (acts.wake disk next) m ws os e = absurd cc
play-left (acts.mark note act) m ws os e = let p = play-left act m ws os e in
    record { wakes = p.wakes; outcomes = p.outcomes; disk = p.disk }

-- ---- the rest of the script after an act, where nothing more happens

then-may : (go : RunState → List Woken → List Outcome → RunResult) (c : Image)
    → ((m : RunState) → IsClosed m → MayLoad m.disk c → MayLoad (go m [] []).disk c) → (act : Act)
    → ((m : RunState) (ws : List Woken) (os : List Outcome) → (play act [] []).rest ≡ Some (m, ws, os) → IsClosed m)
    → (rest : Option Left) → (play act [] []).rest ≡ rest
    → MayLoad (play act [] []).disk c → MayLoad (then_run go (play act [] []) rest).disk c
then-may go c more act closed None e may = may
then-may go c more act closed (Some (m, ws, os)) e may =
    let p = play-left act m ws os e in
    let P : Possible → Type 0 = λ d. MayLoad d c in
    let here : MayLoad (go m [] []).disk c = more m (closed m ws os e) (subst P p.disk may) in
    let R : List Woken → Type 0 = λ w. MayLoad (go m w []).disk c in
    let S : List Outcome → Type 0 = λ o. MayLoad (go m ws o).disk c in
    subst S (sym p.outcomes) (subst R (sym p.wakes) here)

-- ---- one event more

module _ (choice : Option ℕ → Choice) where
  -- an act, and the rest of the script after it
  abbrev before : List Event → Act → Going
  before es act = λ w o. then_run (run_from choice es) (play act w o) (play act w o).rest

  -- what an act plays, it plays before the rest of the script too
  goes-before : (untold : List Note) (es : List Event) (a b : Act) (x y : Told) (d e : DiskState)
      → GoesBut untold (play a) (play b) x y d e
      → GoesBut untold (before es a) (before es b) x y d e
  goes-before untold es a b x y d e p = record {
    lines = p.lines;
    notes = p.notes;
    added = p.added;
    woken = p.woken;
    tells = p.tells;
    grew = p.grew;
    fits = p.fits;
    goes = λ w o.
        ap (λ (r : RunResult). then_run (run_from choice es) r r.rest) (p.goes w o)
        ∙ then-behind (run_from choice es) p.lines p.notes (play b w o) (play b w o).rest;
    adds_up = p.adds_up;
  }

  -- Where the act with all outcomes but the last, and the rest of the script after it, stops in a commit, the act does: it can't be over then,
  -- since it takes the last one too.
  stops-before : (es : List Event) (act rest : Act) (ws : List Woken) (os first : List Outcome) (ls : List Line)
      (ns : List Note) (p : Possible) → os ≡ first ++ Finished ∷ []
      → play act (ws ++ []) (os ++ []) ≡ behind ls ns (play rest [] []) → (left : Option Left)
      → (play act ws first).rest ≡ left
      → (then_run (run_from choice es) (play act ws first) left).disk ≡ p → (play act ws first).disk ≡ p
  stops-before es act rest ws os first ls ns p last goes None over is = is
  stops-before es act rest ws os first ls ns p last goes (Some (m, us, vs)) over is =
      let longer : play act (ws ++ []) (first ++ Finished ∷ [])
      ≡ with_rest (play act ws first) (Some (m, us ++ [], vs ++ Finished ∷ [])) =
      play-more act ws first m us vs [] (Finished ∷ []) over in
      let same : play act (ws ++ []) (os ++ []) ≡ play act (ws ++ []) (first ++ Finished ∷ []) =
      ap (λ (o : List Outcome). play act (ws ++ []) o) (append-nil os ∙ last) in
      let end : (play rest [] []).rest ≡ Some (m, us ++ [], vs ++ Finished ∷ []) =
      ap (λ (r : RunResult). r.rest) (sym goes ∙ same ∙ longer) in
      absurd (not_empty vs Finished [] (play-left rest m (us ++ []) (vs ++ Finished ∷ []) end).outcomes)

  goes-within : (es : List Event) (a b : Act) (x y : Told) (d e : DiskState) → Goes (play a) (play b) x y d e
      → Goes (before es a) (before es b) x y d e
  unfolding goes-before
  goes-within es a b x y d e p = record {
    part = goes-before [] es a b x y d e p.part;
    chained = λ start stands.
        let k = p.chained start stands in
        record {
          linked = k.linked;
          kept = k.kept;
          logged = λ was now m. k.logged was now (record {
            first = m.first;
            last = m.last;
            opened = stops-before es a b p.part.woken (outcomes_in p.part.lines) m.first p.part.lines p.part.notes
                (open_between was now) m.last (p.part.goes [] []) (play a p.part.woken m.first).rest refl m.opened;
          });
        };
  }

  goes-event : (ev : Event) (es : List Event) (m after : RunState) (rest : Act) (x y : Told) (d e : DiskState)
      → rest ≡ acts.done after
      → Goes (play (event_step_of choice ev m)) (play rest) x y d e
      → Goes (run_from choice (ev ∷ es) m) (run_from choice es after) x y d e
  goes-event ev es m after rest x y d e is p =
      let P : Act → Type 0 = λ a. Goes (before es (event_step_of choice ev m)) (before es a) x y d e in
      subst P is (goes-within es (event_step_of choice ev m) rest x y d e p)

  front-then : (form : ReportForm) (part : List ℕ) (go : RunState → List Woken → List Outcome → RunResult)
      (r : RunResult) (rest : Option (RunState × List Woken × List Outcome))
      → IsFront (printed_lines form r.lines) part
      → IsFront (printed_lines form (then_run go r rest).lines) part
  front-then form part go r None f = f
  front-then form part go r (Some (m, ws, os)) f = record {
    rest = f.rest ++ printed_lines form (go m ws os).lines;
    cut = printed-append form r.lines (go m ws os).lines
        ∙ ap (λ (t : List ℕ). t ++ printed_lines form (go m ws os).lines) f.cut
        ∙ append_assoc part f.rest (printed_lines form (go m ws os).lines);
  }

  -- an event that was given up: so is the script
  breaks-event : (ev : Event) (es : List Event) (m : RunState) (x : Told) (y : List ℕ) (d e : DiskState) → IsClosed m
      → Breaks (event_step_of choice ev m) x y d e
      → RunBreaks (run_from choice (ev ∷ es) m) x y d e
  breaks-event ev es m x y d e closed b =
      let ends : (n : RunState) (ws : List Woken) (os : List Outcome) → (play b.rest [] []).rest ≡ Some (n, ws, os)
      → IsClosed n = λ n ws os is.
      event-closed choice ev m closed (b.plays.woken ++ []) (outcomes_in b.plays.lines ++ []) n ws os
      (ap (λ (r : RunResult). r.rest) (b.plays.goes [] []) ∙ is) in
      record {
        rest = before es b.rest;
        mid = b.mid;
        goes = goes-before (Ended b.outcome ∷ []) es (event_step_of choice ev m) b.rest x b.mid d e b.plays;
        outcome = b.outcome;
        part = b.part;
        said_is = b.said_is;
        cut_off = b.cut_off;
        front = front-then b.mid.form b.part (run_from choice es) (play b.rest [] (b.outcome ∷ []))
            (play b.rest [] (b.outcome ∷ [])).rest b.front;
        left = λ c crash. then-may (run_from choice es) c (run-may c choice es) b.rest ends
            (play b.rest [] []).rest refl (b.left c crash);
      }

  -- ---- the loop

  -- how far a run came
  pub record Progress (whole : Going) (rest : List Event) (x y : Told) (old new : DiskState) (r : Runner)
      (hive : Option Session) : Type 0 where
    pub state : RunState
    pub goes : Goes whole (run_from choice rest state) x y old new
    pub agrees : Agrees state r new hive

  -- before the first event
  pub started : (m : RunState) {es : List Event} {r : Runner} {hive : Option Session} {x : Told} {d : DiskState}
      → Agrees m r d hive → Progress (run_from choice es m) es x x d d r hive
  started m {es = es} {x = x} {d = d} agrees =
      record { state = m; goes = goes-nothing (run_from choice es m) x d d (idle d); agrees = agrees }

  -- an event more
  pub went_on : {whole : Going} {ev : Event} {es : List Event} {x y z : Told} {d e f : DiskState} {r r' : Runner}
      {hive hive' : Option Session} → (p : Progress whole (ev ∷ es) x y d e r hive)
      → ((rest : Act) × (Goes (play (event_step_of choice ev p.state)) (play rest) y z e f × TurnLeft r' f hive' rest))
      → Progress whole es x z d f r' hive'
  went_on {whole = whole} {ev = ev} {es = es} {x = x} {y = y} {z = z} {d = d} {e = e} {f = f} p q = record {
    state = q.1.1.after;
    goes = goes-then whole (run_from choice (ev ∷ es) p.state) (run_from choice es q.1.1.after) x y z d e f p.goes
        (goes-event ev es p.state q.1.1.after q.0 y z e f q.1.1.is q.1.0);
    agrees = q.1.1.agrees;
  }

  -- an event that was given up
  pub gave_up : {whole : Going} {ev : Event} {es : List Event} {x y : Told} {z : List ℕ} {d e f : DiskState}
      {r : Runner} {hive : Option Session} → (p : Progress whole (ev ∷ es) x y d e r hive)
      → IsClosed p.state → Breaks (event_step_of choice ev p.state) y z e f → RunBreaks whole x z d f
  gave_up {whole = whole} {ev = ev} {es = es} {x = x} {y = y} {z = z} {d = d} {e = e} {f = f} p closed b =
      let q = breaks-event ev es p.state y z e f closed b in
      record {
        rest = q.rest;
        mid = q.mid;
        goes = goes-but (Ended q.outcome ∷ []) whole (run_from choice (ev ∷ es) p.state) q.rest x y q.mid d e f
            p.goes.part q.goes;
        outcome = q.outcome;
        part = q.part;
        said_is = q.said_is;
        cut_off = q.cut_off;
        front = q.front;
        left = q.left;
      }

  pub first_event : {whole : Going} {x y : Told} {d e : DiskState} {r : Runner} {hive : Option Session}
      (evs : List code.Event) (ev : code.Event) → 1 ≤ length evs → ev ≡ get_or evs 0 ev
      → Progress whole (map event_in evs) x y d e r hive
      → Progress whole (event_in ev ∷ map event_in (take (length evs - 1) (drop 1 evs))) x y d e r hive
  first_event {whole = whole} {x = x} {y = y} {d = d} {e = e} {r = r} {hive = hive} evs ev some is p =
      let P : List code.Event → Type 0 = λ es. Progress whole (map event_in es) x y d e r hive in
      subst P (uncons evs ev some is) p

  none_left : (evs : List code.Event) → length evs < 1 → evs ≡ []
  none_left [] h = refl
  none_left (e ∷ evs) h = absurd (omega arith)

  -- the end of the script was played, or given up
  end_or : {E : Type 0} → (result : Result (Unit {0}) E) (whole : Going) (m : RunState) (x y z : Told) (d e : DiskState)
      → Goes whole (run_from choice [] m) x y d e → EachCrash e (MayLoad m.disk)
      → PlaysOr (closing_act m) y z e e result (λ u a. a ≡ acts.done m) → RunsOr whole x z d e result
  end_or (Ok u) whole m x y z d e g left p =
      let P : Act → Type 0 = λ a. Goes (play (closing_act m)) (play a) y z e e in
      record {
        last = m;
        goes = goes-then whole (play (closing_act m)) (reached m) x y z d e e g (subst P p.1.1 p.1.0);
        left = left;
      }
  end_or (Err stop) whole m x y z d e g left b = record {
    rest = play b.rest;
    mid = b.mid;
    goes = goes-but (Ended b.outcome ∷ []) whole (play (closing_act m)) (play b.rest) x y b.mid d e e g.part b.plays;
    outcome = b.outcome;
    part = b.part;
    said_is = b.said_is;
    cut_off = b.cut_off;
    front = b.front;
    left = b.left;
  }

  pub ended : {E : Type 0} {whole : Going} {x y : Told} {d e : DiskState} {r : Runner} {hive : Option Session}
      (result : Result (Unit {0}) E) (evs : List code.Event) (z : Told) → length evs < 1
      → Progress whole (map event_in evs) x y d e r hive
      → ((m : RunState) → AgreesBy m e hive → EachCrash e (MayLoad m.disk))
      → ((m : RunState) → Counts m r → EachCrash e (MayLoad m.disk)
      → PlaysOr (closing_act m) y z e e result (λ u a. a ≡ acts.done m)) → RunsOr whole x z d e result
  ended {whole = whole} {x = x} {y = y} {d = d} {e = e} {r = r} {hive = hive} result evs z none p may close =
      let P : List code.Event → Type 0 = λ es. Progress whole (map event_in es) x y d e r hive in
      let q : Progress whole [] x y d e r hive = subst P (none_left evs none) p in
      let left = may q.state q.agrees.by in
      end_or result whole q.state x y z d e q.goes left (close q.state q.agrees.counts left)

closed_by : (o : Option Start) (m : RunState) → m.disk.other ≡ None → IfSome o (λ s. m.disk.other ≡ None)
closed_by None m e = tt
closed_by (Some s) m e = e

-- where a runner stands for a state, nothing is open, or no start runs
pub agrees_closed : (m : RunState) (r : Runner) (d : DiskState) (hive : Option Session) → IsSound r d hive
    → Agrees m r d hive → IsClosed m
agrees_closed m r d None sound agrees =
    let gone : m.machine.start ≡ None = ap (λ (k : MachineState). k.start) agrees.counts.machine ∙ sound.1 in
    let P : Option Start → Type 0 = λ o. IfSome o (λ s. m.disk.other ≡ None) in subst P (sym gone) tt
agrees_closed m r d (Some s) sound agrees =
    closed_by m.machine.start m (ap (λ (p : Possible). p.other) agrees.by.settled)

-- ---- the end

pub verdict_on : (o : Option Start) (word : Verdict) (rest : Act) → Some word ≡ option_map ending_of o
    → acts.say (lines.Verdict word) rest ≡ verdict_first o rest
verdict_on None word rest is = absurd cc
verdict_on (Some s) word rest is = let e : word ≡ ending_of s = cc in
    ap (λ (w : Verdict). acts.say (lines.Verdict w) rest) e

pub verdict_off : (o : Option Start) (rest : Act) → is_there o ≡ false → rest ≡ verdict_first o rest
verdict_off None rest gone = refl
verdict_off (Some s) rest gone = absurd cc

-- ---- the report

-- a run that was played, on a disk that is turned off after it
pub reports_off : (whole : Going) (x y : Told) (d e f : DiskState) → f ≡ turned_off e → Played whole x y d e
    → Reports whole x y d f
reports_off whole x y d e f off p =
    reports_of whole p.last x y d f
    (goes-off whole (reached p.last) x y d e f off p.goes)
    (left-off e f (MayLoad p.last.disk) off p.left)

-- a run that was given up
pub reports_front_off : (whole : Going) (x : Told) (y : List ℕ) (d e f : DiskState) → f ≡ turned_off e
    → RunBreaks whole x y d e → RunBreaks whole x y d f
reports_front_off whole x y d e f off b = record {
  rest = b.rest;
  mid = b.mid;
  goes = goes_but-off (Ended b.outcome ∷ []) whole b.rest x b.mid d e f off b.goes;
  outcome = b.outcome;
  part = b.part;
  said_is = b.said_is;
  cut_off = b.cut_off;
  front = b.front;
  left = left-off e f (MayLoad (b.rest [] []).disk) off b.left;
}

-- the disk of a placed hive may load as it does
pub placed_loads : (placed : Woken) (d : DiskState) → EachCrash d (λ (c : Image). Loads c placed.state placed.dirty)
    → EachCrash d (MayLoad (loads_as placed))
placed_loads placed d loads image crash =
    record { woken = placed; loads = loads image crash; possible = record { state = inl refl; dirty = refl } }

-- the form in which more is to be printed is no part of a report
in_form : (form : ReportForm) (run : Going) (x y : Told) (d e : DiskState) → Reports run x y d e
    → Reports run x (record y { form = form }) d e
in_form form run x y d e r = record {
  text = r.text;
  added = r.added;
  report = r.report;
  said_is = r.said_is;
  grew = r.grew;
  adds_up = r.adds_up;
  chained = r.chained;
  summary = r.summary;
}

-- the whole run in this form: what was reported before it is nothing
pub whole_report : {y : Told} {d e : DiskState} (choice : Option ℕ → Choice) (script : List Event) (placed : Woken)
    (host : HostState) (s : Summary) (form : ReportForm) (f : DiskState) → f ≡ turned_off e
    → summary_in s ≡ no_summary → s.form ≡ form
    → Played (run_from choice script (first_state placed)) (told_by host s) y d e
    → Reports (run_of choice script placed) (untold form host) (record y { form = form }) d f
unfolding run_of
whole_report {y = y} {d = d} {e = e} choice script placed host s form f off none same p =
    let whole : Going = run_from choice script (first_state placed) in
    let P : book.Summary → Type 0 =
    λ t. Played whole (record { said = host.said; form = s.form; summary = t }) y d e in
    let Q : ReportForm → Type 0 = λ k. Played whole (untold k host) y d e in
    in_form form whole (untold form host) y d f
    (reports_off whole (untold form host) y d e f off (subst Q same (subst P none p)))

pub whole_front : {y : List ℕ} {d e : DiskState} (choice : Option ℕ → Choice) (script : List Event) (placed : Woken)
    (host : HostState) (s : Summary) (form : ReportForm) (f : DiskState) → f ≡ turned_off e → s.form ≡ form
    → RunBreaks (run_from choice script (first_state placed)) (told_by host s) y d e
    → ReportsFront form (run_of choice script placed) host.said y d f
unfolding run_of
whole_front {y = y} {d = d} {e = e} choice script placed host s form f off same b =
    let P : ReportForm → Type 0 = λ k. ReportsFront k (run_of choice script placed) host.said y d f in
    subst P same
    (reports_front_of (run_from choice script (first_state placed)) (told_by host s) y d f
    (reports_front_off (run_from choice script (first_state placed)) (told_by host s) y d e f off b))
