use Rattle.std.proofs.Common.{◌≡◌, ◌+◌, ◌-◌, ◌/◌, true, set, subst, ◌∙◌, arith}
use Rattle.std.proofs.lemmas.List.{length-set}
use Rattle.hive_cells.specs.Changes.{MarkedSoFar}
use Rattle.hive_cells.proofs.MarkLemmas.{NextMark, mark_start, mark_step, mark_end}
use Rattle.hive_cells.proofs.marks.mark_run.Goals as goal
use Rattle.hive_cells.proofs.marks.mark_run.Goals.{In-cells}

pub cells-init : goal.cells-init
cells-init c = record {
  marked = mark_start c.args.starts.now.items c.clear.new.starts.items c.args.run.now c.args.slot
      c.requires.run c.clear.ensures.exact;
  long = c.clear.ensures.long;
}

-- the cell that comes next
next : (c : In-cells) → NextMark c.args.starts.now.items c.args.run.now c.args.slot c.cells.starts.items c.cells.at
next c =
    mark_step c.args.starts.now.items c.cells.starts.items c.args.run.now c.args.slot c.cells.at c.requires.run
    c.requires.within c.cells-test.true c.cells.invariant.marked

pub index_mut-requires : goal.index_mut-requires
index_mut-requires c =
    let n = next (goal.at.index_mut-requires c).In-cells in
    omega (arith, n.within, n.least, c.requires.within, c.cells.invariant.long, c.cells.starts.ok.0)

pub u32_at-requires : goal.u32_at-requires
u32_at-requires c =
    let n = next (goal.at.u32_at-requires c).In-cells in omega (arith, n.within, n.least)

pub cells-preserved : goal.cells-preserved
cells-preserved c =
    let to = c.args.slot + c.cells.at / 8 in
    let n = next (goal.at.cells-preserved c).In-cells in
    let head : c.from.result ≡ 4294967296 - n.size = c.from.ensures ∙ c.u32_at.ensures ∙ n.head in
    let step : c.cells.at + n.size ≡ c.cells.at + (4294967296 - c.from.result) = omega (arith, head, n.fits) in
    record {
      marked = subst (MarkedSoFar c.args.starts.now.items c.args.run.now c.args.slot (set c.cells.starts.items to true))
          step n.next;
      long = length-set c.cells.starts.items to true ∙ c.cells.invariant.long;
    }

pub returns-clause-exact : goal.returns-clause-exact
returns-clause-exact c = mark_end c.args.starts.now.items c.cells.starts.items c.args.run.now c.args.slot c.cells.at
    c.requires.run c.cells-test.false c.cells.invariant.marked
