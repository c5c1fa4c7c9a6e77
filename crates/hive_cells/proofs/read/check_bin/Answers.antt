use Rattle.std.proofs.Common.{◌≡◌, Ok, ◌+◌, ◌-◌, ◌/◌, ◌++◌, ◌∷◌, [], true, false, drop, replicate, refl, arith}
use Rattle.std.proofs.lemmas.List.{take_rest}
use Rattle.std.proofs.lemmas.Result.{err_from_is_err_and}
use Rattle.hive_model.specs.Bins.{header_at, size_at}
use Rattle.hive_cells.proofs.Steps.{placed_ok, cells_start, cells_next, cells_end, cells_fail}
use Rattle.hive_cells.proofs.read.check_bin.Goals as goal
use Rattle.hive_cells.proofs.read.check_bin.Goals.{In_ok-total}

-- the header says how long the bin is
total : (c : In_ok-total) → header_at c.args.at c.args.rest.now ≡ Ok c.in_ok-total.field-0
total c = placed_ok c.args.at (header_at c.args.at c.args.rest.now) _ c.in_ok-total.ensures.exact

pub cells-init : goal.cells-init
cells-init c =
    record {
      read = λ old. (
        old ++ replicate 4 false,
        cells_start c.args.at c.args.rest.now old _ c.in_ok-total.field-0
            (λ i. omega (arith, c.type_inv.rest i)) (total (goal.at.cells-init c).In_ok-total) refl,
      );
      within = omega (arith, c.in_ok-total.ensures.bounds.0);
      whole = refl;
    }

pub returns-in_err-found-clause-exact : goal.returns-in_err-found-clause-exact
returns-in_err-found-clause-exact c =
    let p = err_from_is_err_and c.from_residual-in_err-found.result c.from_residual-in_err-found.ensures.1 in
    rw (p.1, p.2) (cells_fail c.args.at c.args.rest.now [] _ c.in_ok-total.field-0 c.cells.cell _
    (λ i. omega (arith, c.type_inv.rest i)) (total (goal.at.returns-in_err-found-clause-exact c).In_ok-total)
    (c.cells.invariant.read []).1 c.cells-test.true (rw take_rest at c.in_err-found.ensures.exact))

pub cells-preserved : goal.cells-preserved
cells-preserved c =
    let f = placed_ok (c.args.at + c.cells.cell)
    (size_at (c.in_ok-total.field-0 - c.cells.cell) (drop c.cells.cell c.args.rest.now)) c.in_ok-found.found
    (rw take_rest at c.in_ok-found.ensures.exact) in
    record {
      read = λ old.
          let was = c.cells.invariant.read old in
          let after = (was.0 ++ true ∷ []) ++ replicate (c.in_ok-found.found / 8 - 1) false in (
            after,
            (cells_next c.args.at c.args.rest.now old was.0 after c.in_ok-total.field-0 c.cells.cell
                c.in_ok-found.found (λ i. omega (arith, c.type_inv.rest i)) (omega (arith, c.requires.small))
                (total (goal.at.cells-preserved c).In_ok-total) was.1 c.cells-test.true c.cells.invariant.whole f refl).0,
          );
      within = omega (arith, c.in_ok-found.ensures.bounds.1, c.cells-test.true);
      whole = omega (arith, c.cells.invariant.whole, c.in_ok-found.ensures.bounds.2);
    }

pub returns-clause-exact : goal.returns-clause-exact
returns-clause-exact c = λ old.
    let was = c.cells.invariant.read old in (
      was.0,
      cells_end c.args.at c.args.rest.now old was.0 c.in_ok-total.field-0 c.cells.cell
          (λ i. omega (arith, c.type_inv.rest i)) (total (goal.at.returns-clause-exact c).In_ok-total) was.1
          c.cells-test.false c.cells.invariant.within,
    )
