use Rattle.std.proofs.Common.{◌∙◌, ap, arith}
use Rattle.std.proofs.lemmas.List.{take_all}
use Rattle.select_keys.specs.Numbers.{with_number}
use Rattle.select_keys.proofs.NumberLemmas.{numbers_named, among_none, named_next_set, named_next_other, named_children}
use Rattle.select_keys.proofs.taken.sets_named.Goals as goal
use Rattle.select_keys.proofs.taken.sets_named.Goals.{in-Some, in_default}

pub loop-name-init : goal.loop-name-init
loop-name-init c = c.new-taken.ensures ∙ among_none

pub loop-name-preserved : goal.loop-name-preserved
loop-name-preserved c =
    let at = c.loop-name in
    elim c.match-set_number.branch [
      | in-Some w ↦ w.taken-is ∙ w.add.ensures.listed ∙ ap (with_number w.in-Some.number) at.invariant
          ∙ named_next_set _ at.name-index _ _ _ c.loop-name-test.true c.name-item.is c.as_slice.ensures
          w.in-Some.ensures
      | in_default w ↦ w.taken-is ∙ at.invariant
          ∙ named_next_other _ at.name-index _ _ c.loop-name-test.true c.name-item.is c.as_slice.ensures
          w.in_default.ensures
    ]

pub returns : goal.returns
returns c = λ t is.
    c.loop-name.invariant ∙ ap numbers_named (take_all _ c.args.names.now (omega arith))
    ∙ named_children t c.args.names.now is
