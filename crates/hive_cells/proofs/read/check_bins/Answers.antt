use Rattle.std.proofs.Common.{◌≤◌, ◌-◌, [], length, refl, arith}
use Rattle.std.proofs.lemmas.List.{take_rest, length-drop}
use Rattle.std.proofs.lemmas.Result.{err_from_is_err_and}
use Rattle.hive_cells.proofs.Steps.{bins_next, bins_end, bins_fail}
use Rattle.hive_cells.proofs.read.check_bins.Goals as goal

pub reading-init : goal.reading-init
reading-init c = record {
  read = ([], record { bins = []; sound = tt; parts = refl; place = refl; table = refl });
  within = omega arith;
}

pub returns-in_err-size : goal.returns-in_err-size
returns-in_err-size c =
    let p = err_from_is_err_and c.from_residual.result c.from_residual.ensures.1 in
    rw (p.1, p.2)
    (bins_fail c.args.all.now c.reading.at _ c.in_err-size.field-0.0 c.reading.invariant.read.1
    (rw take_rest at c.in_err-size.ensures.exact))

pub reading-preserved : goal.reading-preserved
reading-preserved c =
    let was = c.reading.invariant.read in
    let next = (rw take_rest at c.in_ok-size.ensures.exact) was.0 in
    let within : c.in_ok-size.size ≤ length c.args.all.now - c.reading.at =
    omega (
      arith,
      (rw take_rest at c.in_ok-size.ensures.within).1,
      length-drop c.reading.at c.args.all.now,
      c.reading-test.true,
    ) in
    record {
      read = (next.0, bins_next c.args.all.now c.reading.at was.0 next.0 c.in_ok-size.size was.1 next.1);
      within = omega (arith, within, c.reading-test.true);
    }

pub returns : goal.returns
returns c =
    let kept = bins_end c.args.all.now c.reading.at _ c.requires c.reading.invariant.read.1 c.reading-test.false
    c.reading.invariant.within in
    (kept.bins, (kept.sound, kept.bytes))
