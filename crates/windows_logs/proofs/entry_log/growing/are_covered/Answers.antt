use Rattle.std.proofs.Common.{◌≡◌, ◌+◌, ◌<◌, List, Bool, false, length, replicate, sym, refl, ap, ◌∙◌, arith}
use Rattle.std.specs.Prelude.{slice_index_or}
use Rattle.std.proofs.lemmas.List.{get_or-replicate, length-replicate}
use Rattle.windows_logs.specs.entry_log.Growing.{covers_all}
use Rattle.windows_logs.proofs.Marking.{none_covered}
use Rattle.windows_logs.proofs.entry_log.growing.are_covered.Goals as goal

pub are_marked-requires-clause-clear : goal.are_marked-requires-clause-clear
are_marked-requires-clause-clear c =
    let items : c.deref_mut.result.now ≡ replicate c.args.new false = c.deref_mut.ensures.value
    ∙ c.in_ok-marks.ensures in
    λ k below.
    let low : k < c.args.new = omega (
      arith,
      below,
      ap (λ (l : List Bool). length l) items,
      length-replicate c.args.new
          false,
    ) in
    ap (λ (l : List Bool). slice_index_or l k false) items
    ∙ get_or-replicate c.args.new k false false low
    ∙ sym (none_covered c.args.bytes.now 0 (c.args.from + k) refl)

pub returns : goal.returns
returns c =
    let items : c.deref_mut.result.now ≡ replicate c.args.new false = c.deref_mut.ensures.value
    ∙ c.in_ok-marks.ensures in
    c.are_marked.ensures
    ∙ ap (covers_all c.args.bytes.now c.args.count c.args.from)
    (ap (λ (l : List Bool). length l) items ∙ length-replicate c.args.new false)
