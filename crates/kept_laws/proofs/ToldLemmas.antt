-- Where the notes tell no stop, the counts are as they were.
use Rattle.std.proofs.Common.{◌≡◌, ℕ, List, [], ◌∷◌, map, Option, sym, subst, ◌∙◌}
use Rattle.nt_edge.specs.Disk.{DiskState}
use Rattle.start_model.specs.Causes.{Tally}
use Rattle.start_model.specs.Events.{Event}
use Rattle.start_model.specs.Possible.{Woken, Finished, PowerCut, DeviceFault}
use Rattle.start_model.specs.Act.{Note, Woke, Held, Saved, Ordered, Cuts, Ended}
use Rattle.start_model.specs.Boot.{Choice}
use Rattle.start_model.specs.Run.{run_of}
use Rattle.start_model.specs.Fits.{outcomes_of}
use Rattle.run_laws.specs.run_laws.Quiet.{AllFinished}
use Rattle.run_laws.specs.run_laws.Told.{ended_in}
use Rattle.run_parts.specs.run_parts.Counted.{AddsUp}
use Rattle.run_parts.specs.run_parts.Parts.{Told, tallies, tally_now}
use Rattle.run_parts.specs.run_parts.Reports.{Reports, LeftOf}
use Rattle.start_laws.proofs.ReportLemmas.{report-ended}

pub none_counted : (notes : List Note) (wakes : List Tally) (since now : Tally) → AddsUp notes wakes since now
    → AllFinished (ended_in notes) → now ≡ since
none_counted [] [] since now p all = p
none_counted [] (w ∷ ws) since now p all = absurd p
none_counted (Woke x ∷ ns) [] since now p all = absurd p
none_counted (Woke x ∷ ns) (w ∷ ws) since now p all = none_counted ns ws w now p.1 all ∙ p.0
none_counted (Ended Finished ∷ ns) ws since now p all = none_counted ns ws p.0 now p.1.1 all ∙ p.1.0
none_counted (Ended PowerCut ∷ ns) ws since now p all = absurd all
none_counted (Ended DeviceFault ∷ ns) ws since now p all = absurd all
none_counted (Held t ∷ ns) ws since now p all = none_counted ns ws since now p all
none_counted (Saved t ∷ ns) ws since now p all = none_counted ns ws since now p all
none_counted (Ordered x ∷ ns) ws since now p all = none_counted ns ws since now p all
none_counted (Cuts ∷ []) ws since now p all = absurd p
none_counted (Cuts ∷ Ended Finished ∷ ns) ws since now p all = absurd p
none_counted (Cuts ∷ Ended PowerCut ∷ ns) ws since now p all = absurd all
none_counted (Cuts ∷ Ended DeviceFault ∷ ns) ws since now p all = absurd p
none_counted (Cuts ∷ Woke x ∷ ns) ws since now p all = absurd p
none_counted (Cuts ∷ Held t ∷ ns) ws since now p all = absurd p
none_counted (Cuts ∷ Saved t ∷ ns) ws since now p all = absurd p
none_counted (Cuts ∷ Ordered x ∷ ns) ws since now p all = absurd p
none_counted (Cuts ∷ Cuts ∷ ns) ws since now p all = absurd p

pub reports-counted : (choice : Option ℕ → Choice) (script : List Event) (placed : Woken) (told told' : Told)
    (before after : DiskState)
    (r : Reports (run_of choice script placed) told told' before after) → AllFinished (outcomes_of r.text)
    → tally_now after ≡ tally_now before
reports-counted choice script placed told told' before after r all =
    let notes : List Note = (run_of choice script placed r.report.woken (outcomes_of r.text)).notes in
    let ended : ended_in notes ≡ outcomes_of r.text =
    report-ended choice script placed (map (λ w. w.image) r.added) (LeftOf after) r.text r.report in
    none_counted notes (tallies r.added) (tally_now before) (tally_now after) r.adds_up (subst AllFinished (sym ended) all)
