use Rattle.std.proofs.Common.{◌≡◌, List, length, sym, ap, ◌∙◌, arith}
use Rattle.std.specs.Vec.Iter.{into_iter_items}
use Rattle.reg_tree.specs.Makes.{step_of}
use Rattle.reg_tree.specs.declared.steps.TreeStep.{TreeStep}
use Rattle.import_steps.specs.Verdict.{verdict_of}
use Rattle.import_steps.proofs.LeftLemmas.{judge_first, judge_made}
use Rattle.import_steps.proofs.left.judge_each.Goals as goal

pub steps-init : goal.steps-init
steps-init c =
    let all : into_iter_items c.into_iter-rest.result ≡ c.args.steps = c.into_iter-rest.ensures.rest
    ∙ c.into_vec.ensures in
    record {
      few = omega (arith, ap (λ (l : List TreeStep). length l) all);
      made = judge_first c.args.tree.now c.new-marks.result c.args.left.now (into_iter_items c.into_iter-rest.result)
          c.args.steps c.new-marks.ensures c.requires.held c.requires.none all;
    }

pub steps-preserved : goal.steps-preserved
steps-preserved c = record {
  few = omega (arith, c.steps.invariant.few, ap (λ (l : List TreeStep). length l) c.in-Some.ensures.items);
  made = judge_made c.args.tree.now c.steps.marks c.in_ok-marks-in-Made.marks c.steps.left c.made.new.left
      c.steps.passed
      (into_iter_items c.steps.rest) (into_iter_items c.next.new.self) c.args.steps c.in-Some.step
      c.steps.invariant.made
      c.in-Some.ensures.items
      (ap (verdict_of (step_of c.in-Some.step)) (sym c.seen_with.ensures) ∙ sym c.in_ok-judged.ensures ∙ c.in-Made.is)
      c.in_ok-marks-in-Made.ensures.left c.in_ok-marks-in-Made.ensures.marked;
}
