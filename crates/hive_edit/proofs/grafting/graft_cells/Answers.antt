use Rattle.std.proofs.Common.{ℕ, sym, subst, arith}
use Rattle.hive_pack.specs.Below.{beside}
use Rattle.hive_pack.proofs.Counts.{few_sharers}
use Rattle.hive_edit.specs.Grafted.{IsRunPut}
use Rattle.hive_edit.specs.Runs.{IsPlace}
use Rattle.hive_edit.proofs.GraftRuns.{IsGraftRun, graft_run}
use Rattle.hive_edit.proofs.GraftLinks.{graft_linked, graft_refused}
use Rattle.hive_edit.proofs.grafting.graft_cells.Goals as goal
use Rattle.hive_edit.proofs.grafting.graft_cells.Goals.{Start, In_ok-put_run}

run : (c : Start)
    → let up = beside c.args.version c.args.parent c.args.shared.now c.args.above.security c.args.at c.args.key.now in
    IsGraftRun c.args.version up c.args.at c.args.key.now c.args.run.now
run c =
    graft_run c.args.version _ c.args.at c.args.key.now c.args.run.now c.requires.run
    (omega (arith, c.requires.can.place.inside))

put : (c : In_ok-put_run) → IsRunPut c.args.version c.args.parent c.args.above c.args.shared.now c.args.key.now c.args.at
    c.args.heap.now.bins c.put_run.new.heap.bins
put c = record { run = c.args.run.now; is = c.requires.run; put = c.in_ok-put_run.ensures.put }

pub sharing-keys-requires : goal.sharing-keys-requires
sharing-keys-requires c =
    let inside = c.requires.can.place.inside in
    omega (arith, few_sharers c.args.version c.args.shared.now c.args.shared.now c.args.key.now, inside)

pub put_run-requires-clause-place : goal.put_run-requires-clause-place
put_run-requires-clause-place c =
    subst (λ (n : ℕ). IsPlace n c.args.heap.now.bins c.args.at)
    (sym (run (goal.at.put_run-requires-clause-place c).Start).long) c.requires.can.place

pub put_run-requires-clause-run : goal.put_run-requires-clause-run
put_run-requires-clause-run c = (run (goal.at.put_run-requires-clause-run c).Start).sound

pub link_by-requires : goal.link_by-requires
link_by-requires c = record {
  linkable = c.requires.can.linkable c.put_run.new.heap.bins c.tree_fits.ensures
      (put (goal.at.link_by-requires c).In_ok-put_run);
}

pub returns-clause-grafted : goal.returns-clause-grafted
returns-clause-grafted c =
    graft_linked c.link_by.result c.args.version c.args.parent c.args.above c.args.shared.now c.args.key.now c.args.at
    c.sharing-keys.result c.args.heap.now.bins c.put_run.new.heap.bins c.link_by.new.heap.bins c.sharing-keys.ensures
    c.tree_fits.ensures (put (goal.at.returns-clause-grafted c).In_ok-put_run) c.link_by.ensures.linked

pub returns-clause-refused : goal.returns-clause-refused
returns-clause-refused c =
    graft_refused c.link_by.result c.args.version c.args.parent c.args.above c.args.shared.now c.args.key.now c.args.at
    c.args.heap.now.bins c.put_run.new.heap c.link_by.new.heap (put (goal.at.returns-clause-refused c).In_ok-put_run)
    c.link_by.ensures.refused
