use Rattle.std.proofs.Common.{◌≡◌, ◌-◌, ◌/◌, ◌%◌, ◌≤◌, ℕ, Bool, List, false, length, replicate, subst, ap, ◌∙◌, arith}
use Rattle.std.proofs.lemmas.List.{take_rest, length-drop}
use Rattle.std.proofs.lemmas.Result.{err_from_is_err_and}
use Rattle.hive_cells.specs.Reading.{IsKept}
use Rattle.hive_cells.proofs.Flags.{all_on}
use Rattle.hive_cells.proofs.Steps.{bins_next, bins_end, bins_fail}
use Rattle.hive_cells.proofs.read.mark_bins.Goals as goal

pub returns-in_err-size : goal.returns-in_err-size
returns-in_err-size c =
    let p = err_from_is_err_and c.from_residual.result c.from_residual.ensures.1 in
    rw (p.1, p.2)
    (bins_fail c.args.all.now c.reading.at _ c.in_err-size.field-0.0 c.reading.invariant.read
    (rw take_rest at c.in_err-size.ensures.exact))

pub reading-preserved : goal.reading-preserved
reading-preserved c =
    let marked = rw take_rest at c.in_ok-size.ensures.exact in
    let within : c.in_ok-size.size ≤ length c.args.all.now - c.reading.at =
    omega (
      arith,
      rw take_rest at c.in_ok-size.ensures.within,
      length-drop c.reading.at c.args.all.now,
      c.reading-test.true,
    ) in
    let whole : c.in_ok-size.size % 8 ≡ 0 = omega (arith, marked.read.sized, marked.read.sound.whole) in
    record {
      read = bins_next c.args.all.now c.reading.at _ _ c.in_ok-size.size c.reading.invariant.read marked.read;
      off = marked.off
          ∙ ap (λ (n : ℕ). replicate (n / 8) false)
          (omega (arith, length-drop c.reading.at c.args.all.now));
      within = omega (arith, within, c.reading-test.true);
      whole = omega (arith, whole, c.reading.invariant.whole);
    }

pub returns : goal.returns
returns c =
    let none : (length c.args.all.now - c.reading.at) / 8 ≡ 0 = omega (arith, c.reading-test.false) in
    let all = all_on c.reading.starts.items (c.reading.at / 8)
    (c.reading.invariant.off ∙ ap (λ (n : ℕ). replicate n false) none) in
    subst (λ (t : List Bool). IsKept c.args.all.now t) all
    (bins_end c.args.all.now c.reading.at _ c.requires.small
    c.reading.invariant.read c.reading-test.false c.reading.invariant.within)
