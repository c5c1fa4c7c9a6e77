-- Where the disk counts no cut and no fault, each of its operations was done, and the report is that of the quiet run.
use Rattle.std.proofs.Common.{◌≡◌, inl, inr, ℕ, List, [], ◌∷◌, ◌++◌, map, Option, ap, subst, ◌∙◌, arith}
use Rattle.hive_model.specs.Image.{Image}
use Rattle.nt_edge.specs.Bench.{KeepsOrders}
use Rattle.nt_edge.specs.Disk.{DiskState}
use Rattle.start_model.specs.Lines.{text_of}
use Rattle.start_model.specs.Summary.{with_lines}
use Rattle.start_model.specs.Causes.{Tally, next_tally, Caused}
use Rattle.nt_bytes.specs.Counts.{Rises}
use Rattle.start_model.specs.Events.{Event}
use Rattle.start_model.specs.Possible.{Woken, Finished, PowerCut, DeviceFault}
use Rattle.start_model.specs.Act.{Note, Woke, Held, Saved, Ordered, Cuts, Ended}
use Rattle.start_model.specs.Boot.{Choice}
use Rattle.start_model.specs.Run.{run_of}
use Rattle.start_model.specs.Quiet.{quiet_run_of}
use Rattle.start_model.specs.Fits.{outcomes_of, MayLoad}
use Rattle.run_laws.specs.run_laws.Quiet.{AllFinished}
use Rattle.run_laws.specs.run_laws.Told.{ended_in}
use Rattle.run_parts.specs.run_parts.Parts.{Told, Later, NoLess, tallies, tally_now, since_wake}
use Rattle.run_parts.specs.run_parts.Reports.{Reports, LeftOf}
use Rattle.run_parts.proofs.CountLemmas.{next-now}
use Rattle.start_laws.proofs.ReportLemmas.{report-ended, report-quiet, report-quiet_text, report-quiet_loads}
use Rattle.kept_laws.specs.order_laws.Unordered.{AreUnordered}
use Rattle.kept_laws.proofs.UnorderedLemmas.{AreNoOrders, IsUncounted, run_of-notes, grew-uncounted}

-- a count that is none in the end never rose
never_rose : (since at now : ℕ) → NoLess at now → now ≡ 0 → Rises since at → ⊥
never_rose since at now less none (inl rose) = omega (arith, less.grown, none, rose)
never_rose since at now less none (inr full) = omega (arith, less.grown, none, full)

pub all_finished : (notes : List Note) (wakes : List Tally) (base since now : Tally)
    → Later base wakes now → now.cuts ≡ 0 → now.faults ≡ 0 → Caused notes wakes since now → AllFinished (ended_in notes)
all_finished [] wakes base since now later cuts faults c = tt
all_finished (Woke p ∷ notes) [] base since now later cuts faults c = absurd c
all_finished (Woke p ∷ notes) (w ∷ wakes) base since now later cuts faults c =
    all_finished notes wakes w w now later.1 cuts faults c
all_finished (Ended Finished ∷ notes) wakes base since now later cuts faults c =
    all_finished notes wakes base since now later cuts faults c.1
all_finished (Ended PowerCut ∷ notes) wakes base since now later cuts faults c =
    absurd (never_rose since.cuts (next_tally wakes now).cuts now.cuts (next-now base now wakes later).cuts cuts c.0)
all_finished (Ended DeviceFault ∷ notes) wakes base since now later cuts faults c =
    absurd (never_rose since.faults (next_tally wakes now).faults now.faults
    (next-now base now wakes later).faults faults c.0)
all_finished (Held t ∷ notes) wakes base since now later cuts faults c =
    all_finished notes wakes base since now later cuts faults c
all_finished (Saved t ∷ notes) wakes base since now later cuts faults c =
    all_finished notes wakes base since now later cuts faults c
all_finished (Ordered arming ∷ notes) wakes base since now later cuts faults c =
    all_finished notes wakes base since now later cuts faults c
all_finished (Cuts ∷ notes) wakes base since now later cuts faults c =
    all_finished notes wakes base since now later cuts faults c

-- ---- a report

-- each operation that the report says of was done
pub reports-finished : (choice : Option ℕ → Choice) (script : List Event) (placed : Woken) (told told' : Told)
    (before after : DiskState)
    (r : Reports (run_of choice script placed) told told' before after) → after.cuts ≡ 0 → after.faults ≡ 0
    → AllFinished (outcomes_of r.text)
reports-finished choice script placed told told' before after r cuts faults =
    let notes : List Note = (run_of choice script placed r.report.woken (outcomes_of r.text)).notes in
    subst AllFinished (report-ended choice script placed (map (λ w. w.image) r.added) (LeftOf after) r.text r.report)
    (all_finished notes (tallies r.added) (tally_now before) (since_wake before) (tally_now after)
    r.grew.later cuts faults r.grew.caused)

pub reports-said : (choice : Option ℕ → Choice) (script : List Event) (placed : Woken) (told told' : Told)
    (before after : DiskState)
    → Reports (run_of choice script placed) told told' before after → after.cuts ≡ 0 → after.faults ≡ 0
    → told'.said ≡ told.said ++ text_of (quiet_run_of choice script placed).lines
reports-said choice script placed told told' before after r cuts faults =
    let all : AllFinished (outcomes_of r.text) =
    reports-finished choice script placed told told' before after r cuts faults in
    let quiet = report-quiet_text choice script placed (map (λ w. w.image) r.added) (LeftOf after)
    r.text r.report all in
    r.said_is ∙ ap (λ (t : List ℕ). told.said ++ t) quiet

pub reports-summary : (choice : Option ℕ → Choice) (script : List Event) (placed : Woken) (told told' : Told)
    (before after : DiskState)
    → Reports (run_of choice script placed) told told' before after → after.cuts ≡ 0 → after.faults ≡ 0
    → told'.summary ≡ with_lines told.summary (quiet_run_of choice script placed).lines
reports-summary choice script placed told told' before after r cuts faults =
    let all : AllFinished (outcomes_of r.text) =
    reports-finished choice script placed told told' before after r cuts faults in
    let quiet = report-quiet choice script placed (map (λ w. w.image) r.added) (LeftOf after) r.text r.report all in
    r.summary ∙ ap (with_lines told.summary) quiet.lines

pub reports-loads : (choice : Option ℕ → Choice) (script : List Event) (placed : Woken) (told told' : Told)
    (before after : DiskState)
    → Reports (run_of choice script placed) told told' before after → after.cuts ≡ 0 → after.faults ≡ 0
    → (c : Image) → LeftOf after c → MayLoad (quiet_run_of choice script placed).state.disk c
reports-loads choice script placed told told' before after r cuts faults c left =
    let all : AllFinished (outcomes_of r.text) =
    reports-finished choice script placed told told' before after r cuts faults in
    report-quiet_loads choice script placed (map (λ w. w.image) r.added) (LeftOf after) r.text r.report all c left

-- ---- a report of a script that orders nothing, on a disk that was ordered none either

pub reports-uncounted : (choice : Option ℕ → Choice) (script : List Event) (placed : Woken) (told told' : Told)
    (before after : DiskState)
    → AreUnordered script → Reports (run_of choice script placed) told told' before after
    → before.history.armings ≡ [] → before.history.cut_calls ≡ 0 → KeepsOrders after → IsUncounted after
reports-uncounted choice script placed told told' before after none r armings calls keeps =
    let notes : List Note = (run_of choice script placed r.report.woken (outcomes_of r.text)).notes in
    let unordered : AreNoOrders notes = run_of-notes choice script placed r.report.woken (outcomes_of r.text) none in
    grew-uncounted notes r.added before after unordered r.grew armings calls keeps
