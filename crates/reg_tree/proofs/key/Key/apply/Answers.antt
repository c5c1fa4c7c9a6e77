use Rattle.std.proofs.Common.{◌≡◌, List, [], map, refl, arith, ap}
use Rattle.std.specs.Vec.Iter.{into_iter_items}
use Rattle.std.proofs.lemmas.List.{nil_from_length}
use Rattle.std.proofs.lemmas.Result.{err_from_is_err_and}
use Rattle.reg_tree.specs.Makes.{step_of}
use Rattle.reg_tree.specs.declared.steps.TreeStep.{TreeStep}
use Rattle.reg_tree.proofs.Stepping.{step_refused, too_large, all_made}
use Rattle.reg_tree.proofs.Edited.{edited_valid}
use Rattle.reg_tree.proofs.key.Key.apply.Goals as goal

pub returns-in_err-step-clause-made : goal.returns-in_err-step-clause-made
returns-in_err-step-clause-made c =
    let p = err_from_is_err_and c.from_residual-in_err-step.result c.from_residual-in_err-step.ensures.1 in
    let steps = map step_of c.args.steps in
    let left = map step_of (into_iter_items c.steps.rest) in
    let later = map step_of (into_iter_items c.next.new.self) in
    rw (p.1, p.2) (
      step_refused c.args.version steps left later c.args.self.now c.steps.work (step_of c.in-Some.step)
          c.in_err-step.field-0.0 c.steps.invariant
          (ap (λ (ss : List TreeStep). map step_of ss) c.in-Some.ensures.items)
          c.in_err-step.ensures,
      refl,
    )

pub returns-then-bulk-gt-MOST_BULK-clause-made : goal.returns-then-bulk-gt-MOST_BULK-clause-made
returns-then-bulk-gt-MOST_BULK-clause-made c =
    let none : into_iter_items c.steps.rest ≡ [] =
    nil_from_length _ (omega (arith, c.steps.rest.rest.ok, c.in_default.ensures.cases)) in (
      too_large c.args.version (map step_of c.args.steps) (map step_of (into_iter_items c.steps.rest))
          c.args.self.now c.steps.work c.bulk.result c.steps.invariant
          (ap (λ (ss : List TreeStep). map step_of ss) none)
          c.bulk.ensures c.if-bulk-gt-MOST_BULK.true,
      refl,
    )

pub returns-clause-made : goal.returns-clause-made
returns-clause-made c =
    let none : into_iter_items c.steps.rest ≡ [] =
    nil_from_length _ (omega (arith, c.steps.rest.rest.ok, c.in_default.ensures.cases)) in
    all_made c.args.version (map step_of c.args.steps) (map step_of (into_iter_items c.steps.rest))
    c.args.self.now c.steps.work c.bulk.result c.steps.invariant (ap (λ (ss : List TreeStep). map step_of ss) none)
    c.bulk.ensures c.if-bulk-gt-MOST_BULK.false

pub returns-clause-valid : goal.returns-clause-valid
returns-clause-valid c = λ valid fit. edited_valid c.args.version c.args.self.now c.steps.work
    (map step_of c.args.steps) valid fit (returns-clause-made c)
