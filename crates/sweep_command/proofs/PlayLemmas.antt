-- A run on a disk that was ordered no stop is the quiet run.
use Rattle.std.proofs.Common.{◌≡◌, inl, ℕ, true, List, [], ◌∷◌, ◌++◌, map, Option, refl, sym, ap, subst, ◌∙◌}
use Rattle.std.specs.Prelude.{Result, Ok, Err, IfOk}
use Rattle.hive_model.specs.Image.{Image}
use Rattle.hive_model.specs.Carries.{IsRecoveredAs}
use Rattle.hive_model.specs.Load.{Loads}
use Rattle.hive_store.specs.Changes.{Carried}
use Rattle.nt_edge.specs.Bench.{KeepsOrders}
use Rattle.nt_edge.specs.Disk.{DiskState}
use Rattle.nt_edge.specs.Host.{HostState}
use Rattle.nt_edge.specs.Crash.{EachCrash}
use Rattle.boot_script.specs.declared.boot_script.event.Event.{Event}
use Rattle.boot_machine.specs.boot_machine.Views.{event_in}
use Rattle.start_model.specs.Boot.{Choice}
use Rattle.start_model.specs.Fits.{outcomes_of, woke_in}
use Rattle.report_words.specs.declared.line.Line.{Line}
use Rattle.start_model.specs.Lines.{line_text, text_of}
use Rattle.start_model.specs.Possible.{Woken}
use Rattle.start_model.specs.Run.{run_of}
use Rattle.run_parts.specs.run_parts.Reports.{LeftOf}
use Rattle.run_parts.specs.printed_parts.Chain.{Stands, StandsAt, placed_at}
use Rattle.run_parts.specs.printed_parts.Reports.{Reports, ReportsOr}
use Rattle.run_parts.proofs.ReportLemmas.{as_text, text_report}
use Rattle.report_text.specs.declared.line_text.form.ReportForm.TheVariants.{Text}
use Rattle.report_text.specs.line_objects.Objects.{printed_lines}
use Rattle.run_parts.proofs.ChainLemmas.{still_leaves}
use Rattle.boot_run.specs.declared.summary.Summary.{Summary}
use Rattle.boot_run.specs.declared.stop.RunStop.{RunStop}
use Rattle.boot_run.specs.Agrees.{LoadsAny, IsDown}
use Rattle.boot_run.specs.Begins.{untold, answered}
use Rattle.kept_laws.specs.order_laws.Unordered.{AreUnordered}
use Rattle.run_laws.specs.run_laws.Quiet.{AllFinished}
use Rattle.run_laws.proofs.NoteLemmas.{fits_possible}
use Rattle.start_laws.proofs.ReportLemmas.{report-ended}
use Rattle.kept_laws.proofs.QuietLemmas.{reports-finished, reports-said, reports-loads, reports-uncounted}
use Rattle.command_parts.specs.declared.command_parts.inputs.HiveFiles.{HiveFiles}
use Rattle.command_parts.specs.command_parts.Placed.{image_in, placed_disk}
use Rattle.sweep_command.specs.declared.sweep_run.playing.Played.{Played}
use Rattle.sweep_command.specs.sweep_run.Played.{quiet_of, Plays, PlaysOn, IsPlayed, Taken}
use Rattle.sweep_command.proofs.EndLemmas.{ends_in_commit}
use Rattle.sweep_command.proofs.CommittedLemmas.{is_committed}

-- ---- the disk that holds the hive

-- it loads as the hive does
pub placed_loads : (files : HiveFiles) (disk : DiskState) (w : Woken) → disk ≡ placed_disk files
    → Loads (image_in files) w.state w.dirty → EachCrash disk (λ (c : Image). Loads c w.state w.dirty)
placed_loads files disk w is loads =
    let P : Image → Type 0 = λ c. Loads c w.state w.dirty in
    let here : EachCrash (placed_disk files) P = still_leaves (placed_disk files) P refl loads in
    let Q : DiskState → Type 0 = λ d. EachCrash d P in
    subst Q (sym is) here

-- it stands where its image is recovered
pub placed_stands : (files : HiveFiles) (disk : DiskState) (c : Carried) → disk ≡ placed_disk files
    → IsRecoveredAs (image_in files) c.base c.bins → StandsAt (placed_at c) disk
placed_stands files disk c is found =
    let here : StandsAt (placed_at c) (placed_disk files) =
    still_leaves (placed_disk files) (Stands (placed_at c)) refl
    (record { carried = c; is = inl refl; found = found; logged = tt }) in
    let Q : DiskState → Type 0 = λ d. StandsAt (placed_at c) d in
    subst Q (sym is) here

-- and is off
pub placed_down : (files : HiveFiles) (disk : DiskState) → disk ≡ placed_disk files → LoadsAny (image_in files) → IsDown disk
placed_down files disk is any =
    let each : EachCrash disk (λ (c : Image). Loads c any.0.state any.0.dirty) = placed_loads files disk any.0 is any.1 in
    record { off = ap (λ (d : DiskState). d.on) is; loads = λ c left. (any.0, each c left) }

-- ---- the run

-- lines as text
as_texts : (ls : List Line) → printed_lines Text ls ≡ text_of ls
as_texts [] = refl
as_texts (l ∷ ls) = ap (λ (t : List ℕ). line_text l ++ t) (as_texts ls)

-- what a run says of a disk
abbrev pub Says : (Option ℕ → Choice) → List Event → HostState → Result Summary RunStop → HostState → DiskState → DiskState → Type 0
Says choice script old r new before after =
    (placed : Woken) → old.tells ≡ true → EachCrash before (λ (c : Image). Loads c placed.state placed.dirty)
    → ReportsOr (run_of choice (map event_in script) placed) (untold Text old) (answered Text new r) before after r

module _ (choice : Option ℕ → Choice) (script : List Event) (files : HiveFiles) (old new : HostState) (before after : DiskState)
    (placed : before ≡ placed_disk files) (none : AreUnordered (map event_in script)) (keeps : KeepsOrders after) where
  no_armings : before.history.armings ≡ []
  no_armings = ap (λ (d : DiskState). d.history.armings) placed

  no_calls : before.history.cut_calls ≡ 0
  no_calls = ap (λ (d : DiskState). d.history.cut_calls) placed

  played : (w : Woken) (summary : Summary) → old.said ≡ []
      → Reports (run_of choice (map event_in script) w) (untold Text old) (answered Text new (Ok summary)) before after
      → Plays choice (image_in files) script w new.said after
  played w summary unsaid r =
      let events = map event_in script in
      let run = run_of choice events w in
      let x = untold Text old in
      let y = answered Text new (Ok summary) in
      let t = text_report run x y before after r in
      let u = reports-uncounted choice events w (as_text [] x) (as_text r.text y) before after none t
      no_armings no_calls keeps in
      let ls = (run r.report.woken (outcomes_of r.text)).lines in
      record {
        said = r.said_is
            ∙ ap (λ (s : List ℕ). old.said ++ s) (as_texts ls ∙ sym r.report.lines
            ∙ reports-said choice events w (as_text [] x) (as_text r.text y) before after t u.cuts u.faults)
            ∙ ap (λ (s : List ℕ). s ++ text_of (quiet_of choice script w).lines) unsaid;
        left = reports-loads choice events w (as_text [] x) (as_text r.text y) before after t u.cuts u.faults;
        logged = λ first second ends c found held left.
            let k = r.chained (placed_at c) (placed_stands files before c placed found) in
            is_committed (run r.report.woken (outcomes_of r.text)).notes k.linked.links c k.linked.end first second held
            (subst AllFinished (sym (report-ended choice events w (map (λ w. w.image) r.added) (LeftOf after) r.text r.report))
            (reports-finished choice events w (as_text [] x) (as_text r.text y) before after t u.cuts u.faults))
            k.linked.marks k.linked.leads
            (k.logged first second
            (ends_in_commit choice events w r.report.woken (outcomes_of r.text) r.report.last first second r.report.taken
            (fits_possible (map (λ w. w.image) r.added) r.report.woken (woke_in (run r.report.woken (outcomes_of r.text)).notes)
            r.report.fits)
            (reports-finished choice events w (as_text [] x) (as_text r.text y) before after t u.cuts u.faults) ends))
            (k.linked.stands held left);
      }

  pub plays_on : (summary : Summary) (text : List ℕ) → old.tells ≡ true → old.said ≡ [] → new.said ≡ text
      → Says choice script old (Ok summary) new before after
      → (w : Woken) → Loads (image_in files) w.state w.dirty → Plays choice (image_in files) script w text after
  plays_on summary text tells unsaid is says w loads =
      subst (λ (t : List ℕ). Plays choice (image_in files) script w t after) is
      (played w summary unsaid (says w tells (placed_loads files before w placed loads)))

-- what the call answers
pub plays_result : {E : Type 0} (choice : Option ℕ → Choice) (script : List Event) (files : HiveFiles) (said : List ℕ) (after : DiskState)
    (r : Result (List ℕ) E) → IfOk r (λ t. t ≡ said)
    → ((w : Woken) → Loads (image_in files) w.state w.dirty → Plays choice (image_in files) script w said after)
    → PlaysOn choice (image_in files) script r after
plays_result choice script files said after (Ok text) is plays = λ w loads.
    subst (λ (t : List ℕ). Plays choice (image_in files) script w t after) (sym is) (plays w loads)
plays_result choice script files said after (Err e) is plays = tt

-- what the call answers once the log was taken
pub taken_result : {E : Type 0} (choice : Option ℕ → Choice) (script : List Event) (files : HiveFiles) (said : List ℕ)
    (disk : DiskState) (r : Result Played E) → Taken said disk r
    → ((w : Woken) → Loads (image_in files) w.state w.dirty → Plays choice (image_in files) script w said disk)
    → IfOk r (λ (p : Played). (w : Woken) → Loads (image_in files) w.state w.dirty
    → IsPlayed choice (image_in files) script w p)
taken_result choice script files said disk (Ok p) taken plays = λ w loads.
    let here = plays w loads in
    record {
      said = taken.0 ∙ here.said;
      log = (taken.1.0, here.left taken.1.0 taken.1.1.0, taken.1.1.1);
      logged = λ before after ends c found.
          (taken.1.0, here.logged before after ends c found taken.1.0 taken.1.1.0, taken.1.1.1);
    }
taken_result choice script files said disk (Err e) taken plays = tt
