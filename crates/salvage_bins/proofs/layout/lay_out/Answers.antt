use Rattle.std.proofs.Common.{arith, inl, inr}
use Rattle.std.proofs.lemmas.List.{take_rest, length-drop}
use Rattle.salvage_bins.specs.Seen.{stretch_seen}
use Rattle.salvage_bins.proofs.LayoutLemmas.{laid-on, laid-end}
use Rattle.salvage_bins.proofs.layout.lay_out.Goals as goal
use Rattle.salvage_bins.proofs.layout.lay_out.Goals.{then-stretches-test+else-rest-gt0, else-stretches-test}

pub stretches-preserved : goal.stretches-preserved
stretches-preserved c =
    let f = c.in_ok-first in
    rw (take_rest, c.in_ok-extend_from_slice.ensures.items, c.in_ok-extend_from_slice-2.ensures.items, c.as_slice.ensures.value, c.as_slice-in-stretches.ensures.value) (record {
      small = omega (arith, length-drop f.long c.stretches.rest.now, f.ensures.within);
      told = laid-on (record { marks = c.stretches.marks.items; broken = c.stretches.broken.items }) _ c.stretches.left
          c.stretches.at c.stretches.rest.now (stretch_seen f.first f.long)
          (omega arith) (omega arith) f.ensures.exact c.stretches.invariant.told;
    })

pub returns : goal.returns
returns c =
    laid-end (record { marks = c.stretches.marks.items; broken = c.stretches.broken.items }) _ c.stretches.left
    c.stretches.at c.stretches.rest.now
    (elim c.stretches-test.branch [
      | then-stretches-test+else-rest-gt0 w ↦ inr (omega arith)
      | else-stretches-test w ↦ inl (omega arith)
    ]) c.stretches.invariant.told
