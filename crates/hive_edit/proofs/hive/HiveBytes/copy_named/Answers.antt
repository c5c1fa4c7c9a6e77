use Rattle.std.proofs.Common.{subst, arith}
use Rattle.hive_model.specs.Tree.{Tree, head}
use Rattle.hive_edit.specs.Children.{LacksGraftRoom}
use Rattle.hive_edit.specs.Copying.{IsCopiedIn}
use Rattle.hive_edit.proofs.SteppedLemmas.{if_done, if_undone}
use Rattle.hive_edit.proofs.ToldLemmas.{copied_told}
use Rattle.hive_edit.proofs.CopyStepLemmas.{copy_stepped, copy_lacks}
use Rattle.hive_edit.proofs.hive.HiveBytes.copy_named.Goals as goal

pub tell_child-requires : goal.tell_child-requires
tell_child-requires c = c.requires.free.short

pub returns-in-Ok-true-clause-made : goal.returns-in-Ok-true-clause-made
returns-in-Ok-true-clause-made c = copied_told c.args.self.now c.copy_below_root.new.self c.tell_child.new.self c.args.from.now c.args.to.now
    c.args.key.now c.class_len-class.result c.stands.ensures
    (copy_stepped c.args.self.now c.copy_below_root.new.self c.args.from.now c.args.to.now c.args.key.now
    c.stands.ensures c.requires.found c.requires.free c.requires.holds
    c.requires.low
    (subst (λ (k : Tree). IsCopiedIn c.args.self.now c.args.from.now k c.copy_below_root.new.self)
    c.in_ok-child.ensures
    (if_done _ _ _ c.in-Ok-true.field-0-test c.in-Ok-true.ensures.copied)))
    c.requires.found c.class_len-class.ensures c.tell_child.ensures.told

pub returns-in-Ok-false-clause-made : goal.returns-in-Ok-false-clause-made
returns-in-Ok-false-clause-made c =
    copy_lacks c.args.self.now c.args.from.now c.args.to.now c.args.key.now c.requires.found c.requires.free
    (subst (λ (k : Tree). LacksGraftRoom c.args.self.now (head c.args.self.now.tree).security k)
    c.in_ok-child.ensures
    (if_undone _ _ _ c.in-Ok-false.field-0-test c.in-Ok-false.ensures.copied))

pub returns-in-Ok-true-clause-grown : goal.returns-in-Ok-true-clause-grown
returns-in-Ok-true-clause-grown c =
    let grown = c.in-Ok-true.ensures.grown in
    omega (arith, grown, c.tell_child.ensures.told.long)
