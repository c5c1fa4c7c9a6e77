-- What is printed of a start after a cut: no stop came but that cut, so each wake and each outcome is known.
use Rattle.std.proofs.Common.{◌≡◌, ◌≤◌, ◌⊎◌, inl, inr, ℕ, false, List, [], ◌∷◌, ◌++◌, map, Option, Some, None, refl, sym, ap, subst, ◌∙◌, arith}
use Rattle.std.specs.Prelude.{Ok, codes}
use Rattle.std.proofs.lemmas.List.{append-nil}
use Rattle.hive_model.specs.State.{HiveState}
use Rattle.hive_model.specs.Image.{Image, cut_orders, fault_orders}
use Rattle.nt_bytes.specs.Front.{IsFront}
use Rattle.nt_edge.specs.Bench.{KeepsOrders}
use Rattle.nt_edge.specs.Book.{keep_of as kept}
use Rattle.nt_edge.specs.Disk.{DiskState}
use Rattle.nt_edge.specs.declared.disk.Keep.TheVariants.{Nothing}
use Rattle.boot_script.specs.declared.boot_script.event.Event.{Event as ScriptEvent}
use Rattle.boot_script.specs.declared.boot_script.event.Event.TheVariants as script_words
use Rattle.boot_script.specs.boot_script.Commands.{boot_of, go_of, keep_of, call_of, cut_of, command_of, event_of}
use Rattle.boot_script.specs.boot_script.Script.{trimmed_event, events_from, script_of}
use Rattle.boot_script.specs.boot_script.Words.{word_at, words_within, number_from}
use Rattle.boot_machine.specs.boot_machine.Views.{event_in}
use Rattle.start_model.specs.Act.{RunState, Note}
use Rattle.start_model.specs.Events as events
use Rattle.start_model.specs.Events.{Event}
use Rattle.start_model.specs.Fits.{outcomes_of, woke_in, IsPossible, Fits}
use Rattle.start_model.specs.Possible.{Woken, Outcome, Finished, PowerCut, DeviceFault, settled_at}
use Rattle.start_model.specs.Run.{RunResult, then_run, run_from, first_state}
use Rattle.run_laws.specs.run_laws.Parts.{part_of}
use Rattle.run_parts.specs.run_parts.Counted.{AddsUp}
use Rattle.run_parts.specs.run_parts.Parts.{cuts_behind, tallies, tally_now}
use Rattle.command_parts.specs.command_parts.Placed.{placed_disk}
use Rattle.report_text.specs.line_objects.Objects.{printed_lines}
use Rattle.report_text.specs.declared.line_text.form.ReportForm.TheVariants.{Text}
use Rattle.command_laws.specs.run_examples.Files.{made}
use Rattle.command_laws.specs.run_examples.Reports.{cut_report}
use Rattle.command_laws.specs.run_examples.Runs.{files_of, SaysRun}
use Rattle.command_laws.proofs.Computed.{choice, run}
use Rattle.command_laws.proofs.CountLemmas.{cuts_in, HaveOwnStops, AreFew, Few, event_run, calls_most, own_stops, event-few, cut-few, end-few, then-few}
use Rattle.command_laws.proofs.PlainLemmas.{left_keeps}

-- ---- the script

abbrev pub cut_script : List ℕ
cut_script = codes "boot\ngo\ncut now none\nboot\ngo\n"

abbrev pub cut_events : List ScriptEvent
cut_events =
    script_words.Boot None false ∷ script_words.Go None ∷ script_words.CutNow Nothing
    ∷ script_words.Boot None false ∷ script_words.Go None ∷ []

pub cut_read : script_of cut_script ≡ Ok cut_events
unfolding trimmed_event events_from script_of word_at words_within number_from
    boot_of go_of keep_of call_of cut_of command_of event_of
cut_read = refl

abbrev pub boot : Event
boot = events.BootNow None false

abbrev go : Event
go = events.Go None

abbrev cut : Event
cut = event_in (script_words.CutNow Nothing)

abbrev script : List Event
script = boot ∷ go ∷ cut ∷ boot ∷ go ∷ []

-- ---- the wakes

-- whatever follows, the first notes are those of the first part
pub then-notes : (more : RunState → List Woken → List Outcome → RunResult) (first : RunResult)
    (rest : Option (RunState × List Woken × List Outcome)) → IsFront (then_run more first rest).notes first.notes
then-notes more first None = record { rest = []; cut = sym (append-nil first.notes) }
then-notes more first (Some (m, ws, os)) = record { rest = (more m ws os).notes; cut = refl }

pub no_other : (s : HiveState) → None ≡ Some s → ⊥
no_other s e = absurd cc

-- a settled disk wakes up as the one state, and without its log
pub only : (s : HiveState) (w : Woken) → IsPossible (settled_at s) w → w ≡ record { state = s; dirty = false }
only s w is = by_state is.state
  where
    by_state : (w.state ≡ s) ⊎ (None ≡ Some w.state) → w ≡ record { state = s; dirty = false }
    by_state (inl same) = λ i. record { state = same i; dirty = is.dirty i }
    by_state (inr other) = absurd (no_other w.state other)

-- ---- the run, by its wakes and its outcomes

-- there was enough of both
abbrev pub IsTaken : {A : Type 0} → Option A → Type 0
IsTaken None = ⊥
IsTaken (Some x) = Unit {0}

-- where no stop came but the script's own, and the wakes are possible, the text is the report
abbrev Ends : List Image → List Woken → List Outcome → Type 0
Ends images ws os =
    HaveOwnStops (run script ws os).notes → IsTaken (run script ws os).rest
    → Fits images ws (woke_in (run script ws os).notes)
    → printed_lines Text (run script ws os).lines ≡ cut_report

abbrev first_part : RunResult
first_part =
    part_of choice (boot ∷ go ∷ cut ∷ []) (first_state made) (made ∷ []) (Finished ∷ Finished ∷ PowerCut ∷ [])

abbrev pub state_in : Option (RunState × List Woken × List Outcome) → RunState
state_in None = first_state made
state_in (Some (m, ws, os)) = m

-- the state after the cut
abbrev behind_cut : RunState
behind_cut = state_in first_part.rest

-- what the second start finds
abbrev found : Woken
found = record { state = behind_cut.disk.settled; dirty = false }

first_wake : (i : Image) (images : List Image) (w : Woken) (ws : List Woken) (o : Outcome) (os : List Outcome)
    → Fits (i ∷ images) (w ∷ ws) (woke_in (run script (w ∷ ws) (o ∷ os)).notes) → w ≡ made
unfolding run
first_wake i images w ws o os fits =
    let first : RunResult = event_run choice boot (first_state made) (w ∷ ws) (o ∷ os) in
    let front = then-notes (run_from choice (go ∷ cut ∷ boot ∷ go ∷ [])) first first.rest in
    let P : List Note → Type 0 = λ ns. Fits (i ∷ images) (w ∷ ws) (woke_in ns) in
    only made.state w (subst P front.cut fits).1

second_wake : (i j : Image) (images : List Image) (w : Woken) (ws : List Woken) (o : Outcome) (os : List Outcome)
    → Fits (i ∷ j ∷ images) (made ∷ w ∷ ws)
    (woke_in (run script (made ∷ w ∷ ws) (Finished ∷ Finished ∷ PowerCut ∷ o ∷ os)).notes)
    → w ≡ found
unfolding run
second_wake i j images w ws o os fits =
    let first : RunResult = event_run choice boot behind_cut (w ∷ ws) (o ∷ os) in
    let front = then-notes (run_from choice (go ∷ [])) first first.rest in
    let P : List Note → Type 0 = λ ns. Fits (i ∷ j ∷ images) (made ∷ w ∷ ws) (woke_in (first_part.notes ++ ns)) in
    only behind_cut.disk.settled w (subst P front.cut fits).2.1

second_load : (images : List Image) (ws : List Woken) (o : Outcome) (os : List Outcome)
    → Ends images (made ∷ found ∷ ws) (Finished ∷ Finished ∷ PowerCut ∷ o ∷ os)
unfolding run
second_load images ws Finished os = λ own taken fits. refl
second_load images ws PowerCut os = λ own taken fits. absurd own
second_load images ws DeviceFault os = λ own taken fits. absurd own

second_start : (images : List Image) (ws : List Woken) (os : List Outcome)
    → Ends images (made ∷ ws) (Finished ∷ Finished ∷ PowerCut ∷ os)
unfolding run
second_start images [] os = λ own taken fits. absurd taken
second_start images (w ∷ ws) [] = λ own taken fits. absurd taken
second_start [] (w ∷ ws) (o ∷ os) = λ own taken fits. absurd fits
second_start (i ∷ []) (w ∷ ws) (o ∷ os) = λ own taken fits. absurd fits.2
second_start (i ∷ j ∷ images) (w ∷ ws) (o ∷ os) = λ own taken fits.
    let P : Woken → Type 0 = λ v. Ends (i ∷ j ∷ images) (made ∷ v ∷ ws) (Finished ∷ Finished ∷ PowerCut ∷ o ∷ os) in
    subst P (sym (second_wake i j images w ws o os fits)) (second_load (i ∷ j ∷ images) ws o os) own taken fits

the_cut : (images : List Image) (ws : List Woken) (os : List Outcome)
    → Ends images (made ∷ ws) (Finished ∷ Finished ∷ os)
unfolding run
the_cut images ws [] = λ own taken fits. absurd taken
the_cut images ws (Finished ∷ os) = λ own taken fits. absurd own
the_cut images ws (PowerCut ∷ os) = second_start images ws os
the_cut images ws (DeviceFault ∷ os) = λ own taken fits. absurd own

first_commit : (images : List Image) (ws : List Woken) (os : List Outcome) → Ends images (made ∷ ws) (Finished ∷ os)
unfolding run
first_commit images ws [] = λ own taken fits. absurd taken
first_commit images ws (Finished ∷ os) = the_cut images ws os
first_commit images ws (PowerCut ∷ os) = λ own taken fits. absurd own
first_commit images ws (DeviceFault ∷ os) = λ own taken fits. absurd own

first_load : (images : List Image) (ws : List Woken) (o : Outcome) (os : List Outcome)
    → Ends images (made ∷ ws) (o ∷ os)
unfolding run
first_load images ws Finished os = first_commit images ws os
first_load images ws PowerCut os = λ own taken fits. absurd own
first_load images ws DeviceFault os = λ own taken fits. absurd own

each_ends : (images : List Image) (ws : List Woken) (os : List Outcome) → Ends images ws os
unfolding run
each_ends images [] os = λ own taken fits. absurd taken
each_ends images (w ∷ ws) [] = λ own taken fits. absurd taken
each_ends [] (w ∷ ws) (o ∷ os) = λ own taken fits. absurd fits
each_ends (i ∷ images) (w ∷ ws) (o ∷ os) = λ own taken fits.
    let P : Woken → Type 0 = λ v. Ends (i ∷ images) (v ∷ ws) (o ∷ os) in
    subst P (sym (first_wake i images w ws o os fits)) (first_load (i ∷ images) ws o os) own taken fits

-- ---- the report

one_cut : (ws : List Woken) (os : List Outcome) → AreFew 1 (run script ws os).notes
unfolding run
one_cut ws os =
    let last : Few 0 (run_from choice (boot ∷ go ∷ [])) =
    then-few choice boot (go ∷ []) 0 0 (event-few choice boot tt)
    (then-few choice go [] 0 0 (event-few choice go tt) (end-few choice)) in
    then-few choice boot (go ∷ cut ∷ boot ∷ go ∷ []) 0 1 (event-few choice boot tt)
    (then-few choice go (cut ∷ boot ∷ go ∷ []) 0 1 (event-few choice go tt)
    (then-few choice cut (boot ∷ go ∷ []) 1 0 (cut-few choice (kept Nothing)) last))
    (first_state made) ws os

pub taken_whole : {A : Type 0} (rest : Option A) (x : A) → rest ≡ Some x → IsTaken rest
taken_whole {A = A} rest x is = (let P : Option A → Type 0 = IsTaken in subst P (sym is) tt)

pub cut_said : (said : List ℕ) → SaysRun cut_events said → said ≡ cut_report
unfolding run
cut_said said r =
    let reports = r.whole.reports in
    let left : DiskState = r.whole.left in
    let ws = reports.report.woken in
    let os = outcomes_of reports.text in
    let notes : List Note = (run script ws os).notes in
    let few : AreFew 1 notes = one_cut ws os in
    let keeps : KeepsOrders left = left_keeps 0 left r.disk r.whole.settles r.orders in
    let before : DiskState = placed_disk (files_of r.hive) in
    let armings : left.history.armings ≡ [] = reports.grew.armings ∙ few.orders in
    let calls : left.history.cut_calls ≡ cuts_behind notes 0 = reports.grew.cut_calls in
    let adds : AddsUp notes (tallies reports.added) (tally_now before) (tally_now left) = reports.adds_up in
    let no_cuts : cut_orders left.history.armings ≡ 0 = ap cut_orders armings in
    let no_faults : fault_orders left.history.armings ≡ 0 = ap fault_orders armings in
    let cuts : left.cuts ≤ cuts_in notes = omega (arith, keeps.cuts, calls, calls_most notes 0, no_cuts) in
    let faults : left.faults ≡ 0 = omega (arith, keeps.faults, no_faults) in
    let own = own_stops notes (tallies reports.added) (tally_now before) (tally_now left) adds
    (omega (arith, cuts, few.cuts)) (omega (arith, cuts)) faults in
    reports.said_is
    ∙ each_ends (map (λ w. w.image) reports.added) ws os own.stops
    (taken_whole (run script ws os).rest _ reports.report.taken) reports.report.fits
