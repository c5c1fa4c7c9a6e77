use Rattle.std.proofs.Common.{◌≡◌, ◌++◌, ℕ, List, [], ◌∷◌, map, refl, ap, ◌∙◌}
use Rattle.std.specs.List.{flat_map}
use Rattle.nt_bytes.specs.declared.fault.HiveFault.{HiveFault}
use Rattle.salvage_bins.specs.declared.layout.BrokenBin.{BrokenBin}
use Rattle.salvage_text.specs.Lines.{SalvageLine, SequenceLine, VersionLine, BaseLine, BytesLine, printed, printed_lines}
use Rattle.salvage_text.specs.Report.{log_lines}
use Rattle.salvage_text.proofs.ReportLemmas.{mapped, one_line, more, last}
use Rattle.salvage_text.proofs.reporting.push_file.Goals as goal

pub returns : goal.returns
returns c =
    let form = c.args.form in
    let h = c.args.hive.now in
    let old = c.args.out.now.items in
    let s : SalvageLine = SequenceLine h.first h.second h.state in
    let v : SalvageLine = VersionLine h.version in
    let one : c.push_sequence.new.out.items ≡ old ++ printed_lines form (s ∷ []) =
    c.in_ok-push_sequence.ensures ∙ ap (λ (l : List ℕ). old ++ l) (one_line form s) in
    let two = more form old c.push_sequence.new.out.items c.push_version.new.out.items (printed form v) (s ∷ []) (v ∷ []) one
    (one_line form v) c.in_ok-push_version.ensures in
    let bases = mapped form BaseLine c.as_slice.result.now
    ∙ ap (λ (xs : List HiveFault). printed_lines form (map BaseLine xs)) c.as_slice.ensures in
    let three = more form old c.push_version.new.out.items c.push_bases.new.out.items
    (flat_map (λ (x : HiveFault). printed form (BaseLine x)) c.as_slice.result.now) (s ∷ v ∷ []) (map BaseLine h.faults) two bases
    c.in_ok-push_bases.ensures in
    let four = more form old c.push_bases.new.out.items c.push_log.new.out.items (printed_lines form (log_lines h.log))
    (s ∷ v ∷ map BaseLine h.faults) (log_lines h.log) three refl c.in_ok-push_log.ensures in
    let bins = mapped form BytesLine c.as_slice-2.result.now
    ∙ ap (λ (xs : List BrokenBin). printed_lines form (map BytesLine xs)) c.as_slice-2.ensures in
    last c.push_bins.result form old c.push_log.new.out.items c.push_bins.new.out.items
    (flat_map (λ (x : BrokenBin). printed form (BytesLine x)) c.as_slice-2.result.now)
    (s ∷ v ∷ (map BaseLine h.faults ++ log_lines h.log)) (map BytesLine h.broken) four bins c.push_bins.ensures
