use Rattle.std.proofs.Common.{◌≡◌, ◌∙◌, ◌++◌, map, ap, sym, arith}
use Rattle.std.proofs.lemmas.Bool.{and_left, and_right, and_from}
use Rattle.std.proofs.lemmas.List.{map-append, append-nil}
use Rattle.reg_tree.specs.Makes.{step_of}
use Rattle.select_keys.proofs.StepLemmas.{deleted_before, deleted_next, deleted_same, deleted_all}
use Rattle.select_keys.proofs.taken.TakenNumbers.delete_retired.Goals as goal
use Rattle.select_keys.proofs.taken.TakenNumbers.delete_retired.Goals.{then-marks-number+then-gives_up+in_ok-path+in_ok-push, else-marks-number, else-marks-number-via-then-marks-number+else-gives_up, else-marks-number-via-else-marks-number}

pub loop-number-init : goal.loop-number-init
loop-number-init c = sym (append-nil (map step_of c.args.steps.now))

pub loop-number-preserved : goal.loop-number-preserved
loop-number-preserved c =
    let at = c.loop-number in
    let first = map step_of c.args.steps.now in
    let done = map step_of at.steps in
    let marks = c.self.inside.marks in
    elim c.if-marks-number.branch [
      | then-marks-number+then-gives_up+in_ok-path+in_ok-push w ↦
          deleted_next first done _ marks c.args.old c.args.new at.number _ (omega arith) at.invariant
          (ap (map step_of) (w.steps-is ∙ w.in_ok-push.ensures.ok) ∙ map-append step_of at.steps _)
          w.in_ok-path.ensures
          (and_from _ _ w.if-marks-number.true (sym w.gives_up.ensures ∙ w.if-gives_up.true))
      | else-marks-number w ↦ ap (map step_of) w.steps-is
          ∙ deleted_same first done marks c.args.old c.args.new at.number (omega arith) at.invariant
          (elim w.else-marks-number.branch [
            | else-marks-number-via-then-marks-number+else-gives_up v ↦
                and_right _ _ (sym v.gives_up.ensures ∙ v.if-gives_up.false)
            | else-marks-number-via-else-marks-number v ↦ and_left _ _ v.if-marks-number.false
          ])
    ]

pub returns : goal.returns
returns c =
    let end : c.loop-number.number ≡ 1000 = omega arith in
    let first = map step_of c.args.steps.now in
    c.loop-number.invariant ∙ ap (λ n. first ++ deleted_before c.self.inside.marks c.args.old c.args.new n) end
    ∙ ap (λ ss. first ++ ss) (deleted_all c.self.inside.marks c.args.self.now c.args.old c.args.new c.self.view_is)
