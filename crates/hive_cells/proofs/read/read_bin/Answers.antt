use Rattle.std.proofs.Common.{◌≡◌, Ok, ℕ, true, false, ◌/◌, refl, set, length, take, replicate, ◌+◌, ◌-◌, drop, sym, ap, subst, ◌∙◌, arith}
use Rattle.std.proofs.lemmas.List.{take_rest}
use Rattle.std.proofs.lemmas.Result.{err_from_is_err_and}
use Rattle.hive_model.specs.Bins.{header_at, size_at}
use Rattle.hive_cells.specs.Reading.{BinRead, CellsRead}
use Rattle.hive_cells.proofs.Flags.{off_start, off_set}
use Rattle.hive_cells.proofs.Steps.{placed_ok, cells_start, cells_next, cells_end, cells_fail}
use Rattle.hive_cells.proofs.read.read_bin.Goals as goal
use Rattle.hive_cells.proofs.read.read_bin.Goals.{In_ok-total}

-- the header says how long the bin is
total : (c : In_ok-total) → header_at c.args.at c.args.rest.now ≡ Ok c.in_ok-total.field-0
total c = placed_ok c.args.at (header_at c.args.at c.args.rest.now) _ c.in_ok-total.ensures.exact

pub cells-init : goal.cells-init
cells-init c =
    let f = off_start c.args.starts.now.items (c.args.at / 8) (length c.args.rest.now / 8) c.requires.off
    (omega (arith, c.in_ok-total.ensures.bounds.0, c.in_ok-total.ensures.bounds.1)) in
    record {
      read = cells_start c.args.at c.args.rest.now _ _ c.in_ok-total.field-0
          (λ i. omega (arith, c.type_inv.rest i)) (total (goal.at.cells-init c).In_ok-total) f.0;
      off = f.1 ∙ ap (λ (n : ℕ). replicate n false) (omega arith);
      within =
          omega (arith, c.in_ok-total.ensures.bounds.0);
      whole = refl;
    }

pub returns-in_err-found-clause-exact : goal.returns-in_err-found-clause-exact
returns-in_err-found-clause-exact c =
    let p = err_from_is_err_and c.from_residual-in_err-found.result c.from_residual-in_err-found.ensures.1 in
    rw (p.1, p.2) (cells_fail c.args.at c.args.rest.now _ _ c.in_ok-total.field-0 c.cells.cell _
    (λ i. omega (arith, c.type_inv.rest i)) (total (goal.at.returns-in_err-found-clause-exact c).In_ok-total)
    c.cells.invariant.read c.cells-test.true (rw take_rest at c.in_err-found.ensures.exact))

pub cells-preserved : goal.cells-preserved
cells-preserved c =
    let f = placed_ok (c.args.at + c.cells.cell)
    (size_at (c.in_ok-total.field-0 - c.cells.cell) (drop c.cells.cell c.args.rest.now)) c.in_ok-found.found
    (rw take_rest at c.in_ok-found.ensures.exact) in
    let starts = c.cells.starts.items in
    let slot = c.args.at / 8 + c.cells.cell / 8 in
    let on = off_set starts slot (c.in_ok-found.found / 8) ((length c.args.rest.now - c.cells.cell) / 8)
    c.cells.invariant.off (omega (arith, c.in_ok-found.ensures.bounds.0))
    (omega (arith, c.in_ok-found.ensures.bounds.1, c.in_ok-total.ensures.bounds.1)) in
    let n = cells_next c.args.at c.args.rest.now _ _ _ c.in_ok-total.field-0 c.cells.cell c.in_ok-found.found
    (λ i. omega (arith, c.type_inv.rest i)) (omega (arith, c.requires.small))
    (total (goal.at.cells-preserved c).In_ok-total) c.cells.invariant.read c.cells-test.true c.cells.invariant.whole f on.0 in
    let next : slot + c.in_ok-found.found / 8 ≡ c.args.at / 8 + (c.cells.cell + c.in_ok-found.found) / 8 =
    omega (arith, c.cells.invariant.whole, c.in_ok-found.ensures.bounds.2) in
    record {
      read = subst (λ (k : ℕ). CellsRead c.args.at c.args.rest.now (take (c.args.at / 8) c.args.starts.now.items)
          (take k (set starts slot true)) c.in_ok-total.field-0 (c.cells.cell + c.in_ok-found.found)) next n.0;
      off = ap (λ (k : ℕ). drop k (set starts slot true)) (sym next) ∙ on.1
          ∙ ap (λ (n : ℕ). replicate n false)
          (omega (arith, c.cells.invariant.whole, c.in_ok-found.ensures.bounds.2));
      within = omega (arith, c.in_ok-found.ensures.bounds.1, c.cells-test.true);
      whole = n.1;
    }

pub returns-clause-exact : goal.returns-clause-exact
returns-clause-exact c =
    let all : c.cells.cell ≡ c.in_ok-total.field-0 = omega (arith, c.cells-test.false, c.cells.invariant.within) in
    let end : c.args.at / 8 + c.cells.cell / 8 ≡ (c.args.at + c.in_ok-total.field-0) / 8 =
    omega (arith, all, c.cells.invariant.whole) in
    record {
      read = subst (λ (k : ℕ). BinRead c.args.at c.args.rest.now (take (c.args.at / 8) c.args.starts.now.items)
          (take k c.cells.starts.items) c.in_ok-total.field-0) end
          (cells_end c.args.at c.args.rest.now _ _ c.in_ok-total.field-0 c.cells.cell
          (λ i. omega (arith, c.type_inv.rest i)) (total (goal.at.returns-clause-exact c).In_ok-total)
          c.cells.invariant.read c.cells-test.false c.cells.invariant.within);
      off = ap (λ (k : ℕ). drop k c.cells.starts.items) (sym end) ∙ c.cells.invariant.off
          ∙ ap (λ (n : ℕ). replicate ((length c.args.rest.now - n) / 8) false) all;
    }
