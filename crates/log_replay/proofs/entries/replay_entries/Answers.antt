use Rattle.std.proofs.Common.{◌≡◌, ◌+◌, ◌-◌, false, true, arith, sym, ◌∙◌}
use Rattle.log_replay.specs.Entries.{most, step_of}
use Rattle.log_replay.proofs.Going.{hive_on, lines_on, hive_end, lines_end, none_hive, none_lines}
use Rattle.log_replay.proofs.entries.replay_entries.Goals as goal

pub returns-then-not-branch-clause-hive : goal.returns-then-not-branch-clause-hive
returns-then-not-branch-clause-hive c =
    let hive = c.loop-done.hive in
    let ends : (step_of c.args.logs.now hive).goes ≡ false = sym c.in_ok-step.ensures.goes ∙ c.if-not-branch.true in
    sym (c.loop-done.invariant.hive
    ∙ hive_end c.args.logs.now hive (most - c.loop-done.done) (most - (c.loop-done.done + 1)) (omega arith)
    c.step.new.hive c.loop-done.lines c.step.new.lines c.in_ok-step.ensures.hive c.in_ok-step.ensures.lines ends)

pub returns-then-not-branch-clause-lines : goal.returns-then-not-branch-clause-lines
returns-then-not-branch-clause-lines c =
    let hive = c.loop-done.hive in
    let ends : (step_of c.args.logs.now hive).goes ≡ false = sym c.in_ok-step.ensures.goes ∙ c.if-not-branch.true in
    sym (c.loop-done.invariant.lines
    ∙ lines_end c.args.logs.now hive (most - c.loop-done.done) (most - (c.loop-done.done + 1)) (omega arith)
    c.step.new.hive c.loop-done.lines c.step.new.lines c.in_ok-step.ensures.hive c.in_ok-step.ensures.lines ends)

pub loop-done-preserved : goal.loop-done-preserved
loop-done-preserved c =
    let hive = c.loop-done.hive in
    let goes : (step_of c.args.logs.now hive).goes ≡ true = sym c.in_ok-step.ensures.goes ∙ c.if-not-branch.false in
    record {
      hive =
          c.loop-done.invariant.hive
          ∙ hive_on c.args.logs.now hive (most - c.loop-done.done) (most - (c.loop-done.done + 1)) (omega arith)
          c.step.new.hive c.loop-done.lines c.step.new.lines c.in_ok-step.ensures.hive c.in_ok-step.ensures.lines goes;
      lines =
          c.loop-done.invariant.lines
          ∙ lines_on c.args.logs.now hive (most - c.loop-done.done) (most - (c.loop-done.done + 1)) (omega arith)
          c.step.new.hive c.loop-done.lines c.step.new.lines c.in_ok-step.ensures.hive c.in_ok-step.ensures.lines goes;
      long = c.in_ok-step.ensures.long;
      few = omega (arith, c.loop-done.invariant.few, c.in_ok-step.ensures.few);
    }

pub returns-clause-hive : goal.returns-clause-hive
returns-clause-hive c = sym (c.loop-done.invariant.hive ∙ none_hive c.args.logs.now c.loop-done.hive _ (omega arith))

pub returns-clause-lines : goal.returns-clause-lines
returns-clause-lines c = sym (c.loop-done.invariant.lines ∙ none_lines c.args.logs.now c.loop-done.hive _ c.loop-done.lines (omega arith))
