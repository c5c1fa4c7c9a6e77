use Rattle.std.proofs.lemmas.List.{take_rest}
use Rattle.salvage_bins.proofs.LayoutLemmas.{bin-off, bin-broken, bin-whole}
use Rattle.salvage_bins.proofs.whole.bin_in.Goals as goal

pub returns-in-Err-clause-exact : goal.returns-in-Err-clause-exact
returns-in-Err-clause-exact c = bin-off c.args.at c.args.bytes.now c.in-Err.fault c.in-Err.ensures.exact

pub returns-in-Err-2-clause-exact : goal.returns-in-Err-2-clause-exact
returns-in-Err-2-clause-exact c = bin-broken c.args.at c.in-Ok.size c.args.bytes.now c.in-Err-2.fault c.in-Ok.ensures.exact
    (rw take_rest at (rw c.in-Err-2.is at c.in_ok-fault.ensures))

pub returns-in_ok-marks-in-Ok-2-clause-exact : goal.returns-in_ok-marks-in-Ok-2-clause-exact
returns-in_ok-marks-in-Ok-2-clause-exact c =
    rw (c.in_ok-marks-in-Ok-2.ensures, c.as_slice.ensures.value)
    (bin-whole c.args.at c.in-Ok.size c.args.bytes.now c.in-Ok-2.cells.items c.in-Ok.ensures.exact
    (rw take_rest at (rw c.in-Ok-2.is at c.in_ok-fault.ensures)))
