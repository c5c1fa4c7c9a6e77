-- What may be printed where one cut was ordered: at most one operation was stopped, and that by a cut.
use Rattle.std.proofs.Common.{◌≡◌, ◌≤◌, ◌<◌, ◌+◌, ◌⊎◌, inl, inr, ℕ, zero, suc, Bool, true, false, List, [], ◌∷◌, ◌++◌, map, Option, Some, None, refl, sym, ap, subst, ◌∙◌, arith}
use Rattle.std.specs.Prelude.{Ok, codes}
use Rattle.std.specs.List.{Contains}
use Rattle.hive_model.specs.State.{HiveState}
use Rattle.hive_model.specs.Image.{Image, cut_orders, fault_orders}
use Rattle.nt_bytes.specs.Counts.{Rises}
use Rattle.nt_edge.specs.Bench.{KeepsOrders}
use Rattle.nt_edge.specs.Disk.{DiskState}
use Rattle.nt_edge.specs.declared.disk.DiskCall.TheVariants.{Sync}
use Rattle.nt_edge.specs.declared.disk.Keep.TheVariants.{Nothing}
use Rattle.boot_script.specs.declared.boot_script.event.Event.{Event as ScriptEvent}
use Rattle.boot_script.specs.declared.boot_script.event.Event.TheVariants as script_words
use Rattle.boot_script.specs.boot_script.Commands.{boot_of, keep_of, call_of, cut_of, command_of, event_of}
use Rattle.boot_script.specs.boot_script.Script.{trimmed_event, events_from, script_of}
use Rattle.boot_script.specs.boot_script.Words.{word_at, words_within, number_from}
use Rattle.boot_machine.specs.boot_machine.Views.{event_in}
use Rattle.start_model.specs.Act.{RunState, Note, Woke, Held, Saved, Ordered, Cuts, Ended}
use Rattle.start_model.specs.Causes.{Tally, Caused, next_tally}
use Rattle.start_model.specs.Events.{Event}
use Rattle.start_model.specs.Fits.{outcomes_of, woke_in, Fits}
use Rattle.start_model.specs.Orders.{ordered_in}
use Rattle.start_model.specs.Possible.{Woken, Outcome, Finished, PowerCut, DeviceFault}
use Rattle.start_model.specs.Run.{RunResult, run_from, first_state}
use Rattle.kept_laws.proofs.UnorderedLemmas.{AreNoOrders, no_orders, no_cuts, run_from-notes}
use Rattle.run_laws.specs.run_laws.Parts.{part_of}
use Rattle.run_parts.specs.run_parts.Counted.{AddsUp, with_cut}
use Rattle.run_parts.specs.run_parts.Parts.{Later, NoLess, cuts_behind, tallies, tally_now, since_wake}
use Rattle.run_parts.proofs.CountLemmas.{next-now}
use Rattle.command_parts.specs.command_parts.Placed.{placed_disk}
use Rattle.report_text.specs.line_objects.Objects.{printed_lines}
use Rattle.report_text.specs.declared.line_text.form.ReportForm.TheVariants.{Text}
use Rattle.command_laws.specs.run_examples.Files.{made}
use Rattle.command_laws.specs.run_examples.Reports.{ordered_reports}
use Rattle.command_laws.specs.run_examples.Runs.{files_of, SaysRun}
use Rattle.command_laws.proofs.Computed.{choice, run}
use Rattle.command_laws.proofs.BehindLemmas.{IsTaken, boot, then-notes, no_other, only, state_in, taken_whole}
use Rattle.command_laws.proofs.CountLemmas.{event_run, rise_less}
use Rattle.command_laws.proofs.PlainLemmas.{left_keeps}

-- ---- the script

abbrev pub ordered_script : List ℕ
ordered_script = codes "cut sync 1 none\nboot\nboot\n"

abbrev pub ordered_events : List ScriptEvent
ordered_events =
    script_words.ArmCut Sync 1 Nothing ∷ script_words.Boot None false ∷ script_words.Boot None false ∷ []

pub ordered_read : script_of ordered_script ≡ Ok ordered_events
unfolding trimmed_event events_from script_of word_at words_within number_from
    boot_of keep_of call_of cut_of command_of event_of
ordered_read = refl

abbrev arm : Event
arm = event_in (script_words.ArmCut Sync 1 Nothing)

abbrev script : List Event
script = arm ∷ boot ∷ boot ∷ []

-- ---- what the notes have

-- at most that many operations were stopped, each by a cut
abbrev HaveAtMost : List Note → ℕ → Type 0
HaveAtMost [] n = Unit {0}
HaveAtMost (Woke p ∷ ns) n = HaveAtMost ns n
HaveAtMost (Held t ∷ ns) n = HaveAtMost ns n
HaveAtMost (Saved t ∷ ns) n = HaveAtMost ns n
HaveAtMost (Ordered x ∷ ns) n = HaveAtMost ns n
HaveAtMost (Cuts ∷ ns) n = HaveAtMost ns n
HaveAtMost (Ended Finished ∷ ns) n = HaveAtMost ns n
HaveAtMost (Ended PowerCut ∷ ns) zero = ⊥
HaveAtMost (Ended PowerCut ∷ ns) (suc n) = HaveAtMost ns n
HaveAtMost (Ended DeviceFault ∷ ns) n = ⊥

-- how many operations a cut stopped
abbrev stopped_in : List Note → ℕ
stopped_in [] = 0
stopped_in (Woke p ∷ ns) = stopped_in ns
stopped_in (Held t ∷ ns) = stopped_in ns
stopped_in (Saved t ∷ ns) = stopped_in ns
stopped_in (Ordered x ∷ ns) = stopped_in ns
stopped_in (Cuts ∷ ns) = stopped_in ns
stopped_in (Ended Finished ∷ ns) = stopped_in ns
stopped_in (Ended PowerCut ∷ ns) = stopped_in ns + 1
stopped_in (Ended DeviceFault ∷ ns) = stopped_in ns

-- the count of cuts rose for each
stops_least : (ns : List Note) (ws : List Tally) (since now : Tally) → AddsUp ns ws since now
    → now.cuts < 18446744073709551615 → since.cuts + stopped_in ns ≤ now.cuts
stops_least [] [] since now p few = omega (arith, ap (λ (t : Tally). t.cuts) p)
stops_least [] (w ∷ ws) since now p few = absurd p
stops_least (Woke x ∷ ns) [] since now p few = absurd p
stops_least (Woke x ∷ ns) (w ∷ ws) since now p few =
    omega (arith, stops_least ns ws w now p.1 few, ap (λ (t : Tally). t.cuts) p.0)
stops_least (Ended Finished ∷ ns) ws since now p few =
    omega (arith, stops_least ns ws p.0 now p.1.1 few, ap (λ (t : Tally). t.cuts) p.1.0)
stops_least (Ended PowerCut ∷ ns) ws since now p few =
    let less = rise_less since.cuts p.0.cuts (stopped_in ns) now.cuts p.1.0 (stops_least ns ws p.0 now p.1.1 few) few in
    omega (arith, less)
stops_least (Ended DeviceFault ∷ ns) ws since now p few =
    omega (arith, stops_least ns ws p.0 now p.1.1 few, p.1.0.0)
stops_least (Held t ∷ ns) ws since now p few = stops_least ns ws since now p few
stops_least (Saved t ∷ ns) ws since now p few = stops_least ns ws since now p few
stops_least (Ordered x ∷ ns) ws since now p few = stops_least ns ws since now p few
stops_least (Cuts ∷ []) ws since now p few = absurd p
stops_least (Cuts ∷ Ended Finished ∷ ns) ws since now p few = absurd p
stops_least (Cuts ∷ Ended PowerCut ∷ ns) ws since now p few =
    omega (arith, stops_least ns ws (with_cut since) now p few, few)
stops_least (Cuts ∷ Ended DeviceFault ∷ ns) ws since now p few = absurd p
stops_least (Cuts ∷ Woke x ∷ ns) ws since now p few = absurd p
stops_least (Cuts ∷ Held t ∷ ns) ws since now p few = absurd p
stops_least (Cuts ∷ Saved t ∷ ns) ws since now p few = absurd p
stops_least (Cuts ∷ Ordered x ∷ ns) ws since now p few = absurd p
stops_least (Cuts ∷ Cuts ∷ ns) ws since now p few = absurd p

never_rose : (since at now : ℕ) → NoLess at now → now ≡ 0 → Rises since at → ⊥
never_rose since at now less none (inl rose) = omega (arith, less.grown, none, rose)
never_rose since at now less none (inr full) = omega (arith, less.grown, none, full)

-- where the disk counts no fault, each stop is a cut, and there are at most as many as are counted
at_most : (ns : List Note) (n : ℕ) (ws : List Tally) (base since now : Tally) → Later base ws now → now.faults ≡ 0
    → Caused ns ws since now → stopped_in ns ≤ n → HaveAtMost ns n
at_most [] n ws base since now later none c few = tt
at_most (Woke p ∷ ns) n [] base since now later none c few = absurd c
at_most (Woke p ∷ ns) n (w ∷ ws) base since now later none c few = at_most ns n ws w w now later.1 none c few
at_most (Held t ∷ ns) n ws base since now later none c few = at_most ns n ws base since now later none c few
at_most (Saved t ∷ ns) n ws base since now later none c few = at_most ns n ws base since now later none c few
at_most (Ordered x ∷ ns) n ws base since now later none c few = at_most ns n ws base since now later none c few
at_most (Cuts ∷ ns) n ws base since now later none c few = at_most ns n ws base since now later none c few
at_most (Ended Finished ∷ ns) n ws base since now later none c few =
    at_most ns n ws base since now later none c.1 few
at_most (Ended PowerCut ∷ ns) zero ws base since now later none c few = absurd (omega (arith, few))
at_most (Ended PowerCut ∷ ns) (suc n) ws base since now later none c few =
    at_most ns n ws base since now later none c.1 (omega (arith, few))
at_most (Ended DeviceFault ∷ ns) n ws base since now later none c few =
    absurd (never_rose since.faults (next_tally ws now).faults now.faults
    (next-now base now ws later).faults none c.0)

-- ---- the run, by its wakes and its outcomes

abbrev Ends : List Image → List Woken → List Outcome → Type 0
Ends images ws os =
    HaveAtMost (run script ws os).notes 1 → IsTaken (run script ws os).rest
    → Fits images ws (woke_in (run script ws os).notes)
    → Contains ordered_reports (printed_lines Text (run script ws os).lines)

-- the state after the first start, where its load or its commit was stopped
abbrev load_cut : RunState
load_cut = state_in (part_of choice (arm ∷ boot ∷ []) (first_state made) (made ∷ []) (PowerCut ∷ [])).rest

abbrev commit_cut : RunState
commit_cut =
    state_in (part_of choice (arm ∷ boot ∷ []) (first_state made) (made ∷ []) (Finished ∷ PowerCut ∷ [])).rest

abbrev state_or : HiveState → Option HiveState → HiveState
state_or s None = s
state_or s (Some t) = t

-- the state that the commit leads to
abbrev after_commit : HiveState
after_commit = state_or made.state commit_cut.disk.other

abbrev woken_as : HiveState → Bool → Woken
woken_as s dirty = record { state = s; dirty = dirty }

first_wake : (i : Image) (images : List Image) (w : Woken) (ws : List Woken) (o : Outcome) (os : List Outcome)
    → Fits (i ∷ images) (w ∷ ws) (woke_in (run script (w ∷ ws) (o ∷ os)).notes) → w ≡ made
unfolding run
first_wake i images w ws o os fits =
    let first : RunResult = event_run choice boot (first_state made) (w ∷ ws) (o ∷ os) in
    let front = then-notes (run_from choice (boot ∷ [])) first first.rest in
    let P : List Note → Type 0 = λ ns. Fits (i ∷ images) (w ∷ ws) (woke_in ns) in
    only made.state w (subst P front.cut fits).1

-- ---- the cut came in the load

load_wake : (i j : Image) (images : List Image) (w : Woken) (ws : List Woken) (o : Outcome) (os : List Outcome)
    → Fits (i ∷ j ∷ images) (made ∷ w ∷ ws) (woke_in (run script (made ∷ w ∷ ws) (PowerCut ∷ o ∷ os)).notes)
    → w.state ≡ made.state
unfolding run
load_wake i j images w ws o os fits =
    let first : RunResult = event_run choice boot load_cut (w ∷ ws) (o ∷ os) in
    let front = then-notes (run_from choice []) first first.rest in
    let before : RunResult = part_of choice (arm ∷ boot ∷ []) (first_state made) (made ∷ []) (PowerCut ∷ []) in
    let P : List Note → Type 0 = λ ns. Fits (i ∷ j ∷ images) (made ∷ w ∷ ws) (woke_in (before.notes ++ ns)) in
    by_state (subst P front.cut fits).2.1.state
  where
    by_state : (w.state ≡ made.state) ⊎ (None ≡ Some w.state) → w.state ≡ made.state
    by_state (inl same) = same
    by_state (inr other) = absurd (no_other w.state other)

behind_load : (images : List Image) (dirty : Bool) (ws : List Woken) (o : Outcome) (os : List Outcome)
    → Ends images (made ∷ woken_as made.state dirty ∷ ws) (PowerCut ∷ o ∷ os)
unfolding run
behind_load images dirty ws Finished [] = λ most taken fits. absurd taken
behind_load images false ws Finished (Finished ∷ os) = λ most taken fits. (1, omega arith, refl)
behind_load images true ws Finished (Finished ∷ os) = λ most taken fits. (2, omega arith, refl)
behind_load images dirty ws Finished (PowerCut ∷ os) = λ most taken fits. absurd most
behind_load images dirty ws Finished (DeviceFault ∷ os) = λ most taken fits. absurd most
behind_load images dirty ws PowerCut os = λ most taken fits. absurd most
behind_load images dirty ws DeviceFault os = λ most taken fits. absurd most

load_ends : (images : List Image) (ws : List Woken) (os : List Outcome) → Ends images (made ∷ ws) (PowerCut ∷ os)
unfolding run
load_ends images [] os = λ most taken fits. absurd taken
load_ends images (w ∷ ws) [] = λ most taken fits. absurd taken
load_ends [] (w ∷ ws) (o ∷ os) = λ most taken fits. absurd fits
load_ends (i ∷ []) (w ∷ ws) (o ∷ os) = λ most taken fits. absurd fits.2
load_ends (i ∷ j ∷ images) (w ∷ ws) (o ∷ os) = λ most taken fits.
    let P : HiveState → Type 0 =
    λ s. Ends (i ∷ j ∷ images) (made ∷ woken_as s w.dirty ∷ ws) (PowerCut ∷ o ∷ os) in
    subst P (sym (load_wake i j images w ws o os fits)) (behind_load (i ∷ j ∷ images) w.dirty ws o os) most taken fits

-- ---- the cut came in the commit

commit_wake : (i j : Image) (images : List Image) (w : Woken) (ws : List Woken) (o : Outcome) (os : List Outcome)
    → Fits (i ∷ j ∷ images) (made ∷ w ∷ ws) (woke_in (run script (made ∷ w ∷ ws) (Finished ∷ PowerCut ∷ o ∷ os)).notes)
    → (w.state ≡ made.state) ⊎ (Some after_commit ≡ Some w.state)
unfolding run
commit_wake i j images w ws o os fits =
    let first : RunResult = event_run choice boot commit_cut (w ∷ ws) (o ∷ os) in
    let front = then-notes (run_from choice []) first first.rest in
    let before : RunResult =
    part_of choice (arm ∷ boot ∷ []) (first_state made) (made ∷ []) (Finished ∷ PowerCut ∷ []) in
    let P : List Note → Type 0 = λ ns. Fits (i ∷ j ∷ images) (made ∷ w ∷ ws) (woke_in (before.notes ++ ns)) in
    (subst P front.cut fits).2.1.state

before_it : (images : List Image) (dirty : Bool) (ws : List Woken) (o : Outcome) (os : List Outcome)
    → Ends images (made ∷ woken_as made.state dirty ∷ ws) (Finished ∷ PowerCut ∷ o ∷ os)
unfolding run
before_it images dirty ws Finished [] = λ most taken fits. absurd taken
before_it images false ws Finished (Finished ∷ os) = λ most taken fits. (3, omega arith, refl)
before_it images true ws Finished (Finished ∷ os) = λ most taken fits. (4, omega arith, refl)
before_it images dirty ws Finished (PowerCut ∷ os) = λ most taken fits. absurd most
before_it images dirty ws Finished (DeviceFault ∷ os) = λ most taken fits. absurd most
before_it images dirty ws PowerCut os = λ most taken fits. absurd most
before_it images dirty ws DeviceFault os = λ most taken fits. absurd most

after_it : (images : List Image) (dirty : Bool) (ws : List Woken) (o : Outcome) (os : List Outcome)
    → Ends images (made ∷ woken_as after_commit dirty ∷ ws) (Finished ∷ PowerCut ∷ o ∷ os)
unfolding run
after_it images false ws Finished os = λ most taken fits. (5, omega arith, refl)
after_it images true ws Finished os = λ most taken fits. (6, omega arith, refl)
after_it images dirty ws PowerCut os = λ most taken fits. absurd most
after_it images dirty ws DeviceFault os = λ most taken fits. absurd most

the_same : (a b : HiveState) → Some a ≡ Some b → a ≡ b
the_same a b e = cc

commit_ends : (images : List Image) (ws : List Woken) (os : List Outcome)
    → Ends images (made ∷ ws) (Finished ∷ PowerCut ∷ os)
unfolding run
commit_ends images [] os = λ most taken fits. absurd taken
commit_ends images (w ∷ ws) [] = λ most taken fits. absurd taken
commit_ends [] (w ∷ ws) (o ∷ os) = λ most taken fits. absurd fits
commit_ends (i ∷ []) (w ∷ ws) (o ∷ os) = λ most taken fits. absurd fits.2
commit_ends (i ∷ j ∷ images) (w ∷ ws) (o ∷ os) =
    λ most taken fits. by_state (commit_wake i j images w ws o os fits) most taken fits
  where
    by_state : (w.state ≡ made.state) ⊎ (Some after_commit ≡ Some w.state)
        → Ends (i ∷ j ∷ images) (made ∷ w ∷ ws) (Finished ∷ PowerCut ∷ o ∷ os)
    by_state (inl old) =
        let P : HiveState → Type 0 =
        λ s. Ends (i ∷ j ∷ images) (made ∷ woken_as s w.dirty ∷ ws) (Finished ∷ PowerCut ∷ o ∷ os) in
        subst P (sym old) (before_it (i ∷ j ∷ images) w.dirty ws o os)
    by_state (inr new) =
        let P : HiveState → Type 0 =
        λ s. Ends (i ∷ j ∷ images) (made ∷ woken_as s w.dirty ∷ ws) (Finished ∷ PowerCut ∷ o ∷ os) in
        subst P (the_same after_commit w.state new) (after_it (i ∷ j ∷ images) w.dirty ws o os)

-- ---- all of it

first_commit : (images : List Image) (ws : List Woken) (os : List Outcome) → Ends images (made ∷ ws) (Finished ∷ os)
unfolding run
first_commit images ws [] = λ most taken fits. absurd taken
first_commit images ws (Finished ∷ os) = λ most taken fits. (0, omega arith, refl)
first_commit images ws (PowerCut ∷ os) = commit_ends images ws os
first_commit images ws (DeviceFault ∷ os) = λ most taken fits. absurd most

first_load : (images : List Image) (ws : List Woken) (o : Outcome) (os : List Outcome)
    → Ends images (made ∷ ws) (o ∷ os)
unfolding run
first_load images ws Finished os = first_commit images ws os
first_load images ws PowerCut os = load_ends images ws os
first_load images ws DeviceFault os = λ most taken fits. absurd most

each_ends : (images : List Image) (ws : List Woken) (os : List Outcome) → Ends images ws os
unfolding run
each_ends images [] os = λ most taken fits. absurd taken
each_ends images (w ∷ ws) [] = λ most taken fits. absurd taken
each_ends [] (w ∷ ws) (o ∷ os) = λ most taken fits. absurd fits
each_ends (i ∷ images) (w ∷ ws) (o ∷ os) = λ most taken fits.
    let P : Woken → Type 0 = λ v. Ends (i ∷ images) (v ∷ ws) (o ∷ os) in
    subst P (sym (first_wake i images w ws o os fits)) (first_load (i ∷ images) ws o os) most taken fits

-- ---- the report

-- one stop was ordered, a cut, and the script cut nothing itself
record OrdersOne (notes : List Note) : Type 0 where
  armings : cut_orders (ordered_in notes) ≤ 1
  faults : fault_orders (ordered_in notes) ≡ 0
  calls : (n : ℕ) → cuts_behind notes n ≡ n

one_more : (n : ℕ) → n ≡ 0 → n + 1 ≤ 1
one_more n none = omega (arith, none)

one_ordered : (ws : List Woken) (os : List Outcome) → OrdersOne (run script ws os).notes
unfolding run
one_ordered ws os =
    let rest : RunResult = run_from choice (boot ∷ boot ∷ []) (first_state made) ws os in
    let none : AreNoOrders rest.notes =
    run_from-notes choice (boot ∷ boot ∷ []) (tt, (tt, tt)) (first_state made) ws os in
    record {
      armings = one_more (cut_orders (ordered_in rest.notes)) (ap cut_orders (no_orders rest.notes none));
      faults = ap fault_orders (no_orders rest.notes none);
      calls = λ n. no_cuts rest.notes n none;
    }

pub ordered_said : (said : List ℕ) → SaysRun ordered_events said → Contains ordered_reports said
unfolding run
ordered_said said r =
    let reports = r.whole.reports in
    let left : DiskState = r.whole.left in
    let ws = reports.report.woken in
    let os = outcomes_of reports.text in
    let notes : List Note = (run script ws os).notes in
    let orders : OrdersOne notes = one_ordered ws os in
    let keeps : KeepsOrders left = left_keeps 0 left r.disk r.whole.settles r.orders in
    let before : DiskState = placed_disk (files_of r.hive) in
    let armings : left.history.armings ≡ ordered_in notes = reports.grew.armings in
    let calls : left.history.cut_calls ≡ 0 = reports.grew.cut_calls ∙ orders.calls 0 in
    let adds : AddsUp notes (tallies reports.added) (tally_now before) (tally_now left) = reports.adds_up in
    let cut_armings : cut_orders left.history.armings ≡ cut_orders (ordered_in notes) = ap cut_orders armings in
    let no_faults : fault_orders left.history.armings ≡ 0 = ap fault_orders armings ∙ orders.faults in
    let cuts : left.cuts ≤ 1 = omega (arith, keeps.cuts, calls, cut_armings, orders.armings) in
    let faults : left.faults ≡ 0 = omega (arith, keeps.faults, no_faults) in
    let least : 0 + stopped_in notes ≤ left.cuts =
    stops_least notes (tallies reports.added) (tally_now before) (tally_now left) adds (omega (arith, cuts)) in
    let most : HaveAtMost notes 1 =
    at_most notes 1 (tallies reports.added) (tally_now before) (since_wake before) (tally_now left)
    reports.grew.later faults reports.grew.caused (omega (arith, least, cuts)) in
    let P : List ℕ → Type 0 = Contains ordered_reports in
    subst P (sym reports.said_is)
    (each_ends (map (λ w. w.image) reports.added) ws os most
    (taken_whole (run script ws os).rest _ reports.report.taken) reports.report.fits)
