use Rattle.std.proofs.Common.{◌∙◌, ap, arith}
use Rattle.std.proofs.lemmas.List.{take_all}
use Rattle.select_keys.specs.Numbers.{with_number}
use Rattle.select_keys.proofs.NumberLemmas.{numbers_among, among_none, among_next_named, among_next_unnamed, among_children}
use Rattle.select_keys.proofs.taken.sets_in.Goals as goal
use Rattle.select_keys.proofs.taken.sets_in.Goals.{in-Some, in_default}

pub loop-child-init : goal.loop-child-init
loop-child-init c = c.new-taken.ensures ∙ among_none

pub loop-child-preserved : goal.loop-child-preserved
loop-child-preserved c =
    let at = c.loop-child in
    elim c.match-set_number.branch [
      | in-Some w ↦ w.taken-is ∙ w.add.ensures.listed ∙ ap (with_number w.in-Some.number) at.invariant
          ∙ among_next_named _ at.child-index _ _ _ c.loop-child-test.true c.child-item.is c.name.ensures
          w.in-Some.ensures
      | in_default w ↦ w.taken-is ∙ at.invariant
          ∙ among_next_unnamed _ at.child-index _ _ c.loop-child-test.true c.child-item.is c.name.ensures
          w.in_default.ensures
    ]

pub returns : goal.returns
returns c =
    c.loop-child.invariant ∙ ap numbers_among (take_all _ c.subkeys-child-items.result.now (omega arith))
    ∙ ap numbers_among c.subkeys-child-items.ensures ∙ among_children c.args.root.now
