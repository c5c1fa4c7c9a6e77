mod Cuts
use Rattle.std.proofs.Common.{◌≡◌, ℕ, List, length, refl, arith, rules, subst}
use Rattle.hive_model.specs.Base.{Base}
use Rattle.hive_model.specs.Carries.{HasLog}
use Rattle.hive_model.specs.Recovery.{bit}
use Rattle.hive_model.specs.Log.{dirty}
use Rattle.hive_log.proofs.Appending.{sized, log_same}
use Rattle.hive_commit.specs.Calls.{change_calls}
use Rattle.hive_commit.specs.Stages.{AreMarked, closed_of, opened_of}
use Rattle.hive_commit.proofs.CallLemmas.{stopped}
use Rattle.hive_commit.proofs.StageCalls.{in_first, in_second, in_third, in_fourth, all_four, staged, staged_is}
use Rattle.hive_commit.proofs.Staged.{log_fits, carried, still_logged}
use Rattle.hive_commit.proofs.change.write_change.Answers.Cuts.{change, closed, in_log, in_opening, in_bins, in_closing}
use Rattle.hive_commit.proofs.change.write_change.Given.{Over}
use Rattle.hive_commit.proofs.change.write_change.Goals as goal
use Rattle.hive_commit.proofs.change.write_change.Goals.{After-closed_block-closed}

-- the four stages make the calls of the change
stages : (g : Over) (c : After-closed_block-closed g) (opened : Base) → opened ≡ opened_of c.args.base.now → (old : List ℕ)
    → AreMarked old c.args.new.now c.args.marks.now
    → staged c.args.new.now c.args.marks.now opened c.closed_block-closed.result
    ≡ change_calls c.args.base.now old c.args.new.now c.args.root
stages g c opened is old marked =
    staged_is c.args.base.now old c.args.new.now c.args.root c.args.marks.now opened c.closed_block-closed.result is
    c.closed_block-closed.ensures c.requires.sized marked

pub returns-in_err-write_log-clause-made : goal.returns-in_err-write_log-clause-made
returns-in_err-write_log-clause-made g c old marked = stopped _ _ _ _ c.from_residual.ensures.0
    (in_first _ _ _ _ _ (stages g (goal.at.returns-in_err-write_log-clause-made g c).After-closed_block-closed
    (opened_of c.args.base.now) refl old marked) _ _ c.in_err-write_log.ensures.made)

pub returns-in_err-write_block-clause-made : goal.returns-in_err-write_block-clause-made
returns-in_err-write_block-clause-made g c old marked =
    stopped _ _ _ _ c.from_residual-in_err-write_block.ensures.0
    (in_second _ _ _ _ _ (stages g (goal.at.returns-in_err-write_block-clause-made g c).After-closed_block-closed
    _ c.opened_block.ensures old marked) _ _ _ c.in_ok-write_log.ensures.made c.in_err-write_block.ensures.made)

pub returns-in_err-write_bins-clause-made : goal.returns-in_err-write_bins-clause-made
returns-in_err-write_bins-clause-made g c old marked =
    stopped _ _ _ _ c.from_residual-in_err-write_bins.ensures.0
    (in_third _ _ _ _ _ (stages g (goal.at.returns-in_err-write_bins-clause-made g c).After-closed_block-closed
    _ c.opened_block.ensures old marked) _ (g.D.Disk.calls c.write_log.new.disk) _ c.in_ok-write_log.ensures.made _
    c.in_ok-write_block.ensures.made c.in_err-write_bins.ensures.made)

pub returns-in_err-write_block-2-clause-made : goal.returns-in_err-write_block-2-clause-made
returns-in_err-write_block-2-clause-made g c old marked =
    stopped _ _ _ _ c.from_residual-in_err-write_block-2.ensures.0
    (in_fourth _ _ _ _ _ (stages g (goal.at.returns-in_err-write_block-2-clause-made g c).After-closed_block-closed
    _ c.opened_block.ensures old marked) _ (g.D.Disk.calls c.write_log.new.disk) (g.D.Disk.calls c.write_block.new.disk)
    c.in_ok-write_log.ensures.made _ c.in_ok-write_block.ensures.made _ c.in_ok-write_bins.ensures.made
    c.in_err-write_block-2.ensures.made)

pub returns-clause-made : goal.returns-clause-made
returns-clause-made g c old marked =
    all_four _ _ _ _ _ (stages g (goal.at.returns-clause-made g c).After-closed_block-closed _ c.opened_block.ensures old
    marked) (g.D.Disk.calls c.args.disk.now) (g.D.Disk.calls c.write_log.new.disk) (g.D.Disk.calls c.write_block.new.disk)
    c.in_ok-write_log.ensures.made (g.D.Disk.calls c.write_bins.new.disk) c.in_ok-write_block.ensures.made
    (g.D.Disk.calls c.write_block-2.new.disk) c.in_ok-write_bins.ensures.made c.in_ok-write_block-2.ensures.made

pub write_log-requires-clause-fits : goal.write_log-requires-clause-fits
write_log-requires-clause-fits g c = λ tells.
    log_fits c.closed_block-closed.result c.closed_block-closed.ensures
    (change g (goal.at.write_log-requires-clause-fits g c).After-texts_fit (c.requires.change tells))

pub returns-in_err-write_log-clause-cut : goal.returns-in_err-write_log-clause-cut
returns-in_err-write_log-clause-cut g c = in_log g (goal.at.returns-in_err-write_log-clause-cut g c).After-write_log

pub returns-in_err-write_block-clause-cut : goal.returns-in_err-write_block-clause-cut
returns-in_err-write_block-clause-cut g c = in_opening g (goal.at.returns-in_err-write_block-clause-cut g c).After-write_block

pub returns-in_err-write_bins-clause-cut : goal.returns-in_err-write_bins-clause-cut
returns-in_err-write_bins-clause-cut g c = in_bins g (goal.at.returns-in_err-write_bins-clause-cut g c).After-write_bins

pub returns-in_err-write_block-2-clause-cut : goal.returns-in_err-write_block-2-clause-cut
returns-in_err-write_block-2-clause-cut g c = in_closing g (goal.at.returns-in_err-write_block-2-clause-cut g c).After-write_block-2

pub returns-clause-cut : goal.returns-clause-cut
returns-clause-cut g c = in_closing g (goal.at.returns-clause-cut g c).After-write_block-2

pub returns-clause-committed : goal.returns-clause-committed
returns-clause-committed g c old marked =
    let base = c.args.base.now in
    let new = c.args.new.now in
    let bits = bit c.args.marks.now in
    let here = (goal.at.returns-clause-committed g c).In_ok-write_block-2 in
    record {
      answered = search rules;
      clean = record {
        on = search rules;
        still = search rules;
        carries = λ tells. carried (closed g here tells (c.requires.change tells));
      };
      logged = λ tells. subst (HasLog (g.D.Disk.state c.write_block-2.new.disk).held)
          (log_same bits (dirty old new) new (closed_of base new c.args.root)
          (λ j small. marked j (omega (arith, (sized (length new) c.requires.sized).pages))))
          (still_logged (closed g here tells (c.requires.change tells)));
    }
