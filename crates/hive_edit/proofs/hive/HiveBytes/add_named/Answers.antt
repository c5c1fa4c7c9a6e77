use Rattle.std.proofs.Common.{◌≤◌, subst, sym, arith}
use Rattle.hive_model.specs.Tree.{Tree, head}
use Rattle.hive_model.specs.Valid.{levels}
use Rattle.hive_edit.specs.Children.{IsNewChild, IsAddedIn, LacksGraftRoom}
use Rattle.hive_edit.proofs.SteppedLemmas.{if_done, if_undone}
use Rattle.hive_edit.proofs.ToldLemmas.{added_told}
use Rattle.hive_edit.proofs.AddStepLemmas.{new_child, add_stepped, add_lacks, low_by}
use Rattle.hive_edit.proofs.hive.HiveBytes.add_named.Goals as goal
use Rattle.hive_edit.proofs.hive.HiveBytes.add_named.Goals.{Else-is_deeper}

is_low : (c : Else-is_deeper) → levels c.args.key.now ≤ 511
is_low c = low_by c.args.key.now c.is_deeper.result c.is_deeper.ensures c.if-is_deeper.false

pub add_below_root-requires : goal.add_below_root-requires
add_below_root-requires c =
    let low = is_low (goal.at.add_below_root-requires c).Else-is_deeper in
    record {
      new = subst (λ (k : Tree). IsNewChild c.args.self.now k) (sym c.in_ok-child.ensures)
          (new_child c.args.self.now c.args.name.now c.args.key.now c.requires.free c.requires.fits low);
    }

pub class_len-class-requires : goal.class_len-class-requires
class_len-class-requires c = c.requires.fits

pub tell_child-requires : goal.tell_child-requires
tell_child-requires c = c.requires.free.short

pub returns-in-Ok-true-clause-made : goal.returns-in-Ok-true-clause-made
returns-in-Ok-true-clause-made c =
    let low = is_low (goal.at.returns-in-Ok-true-clause-made c).Else-is_deeper in
    added_told c.args.self.now c.add_below_root.new.self c.tell_child.new.self c.args.name.now c.args.key.now
    c.class_len-class.result c.stands.ensures
    (add_stepped c.args.self.now c.add_below_root.new.self c.args.name.now c.args.key.now c.stands.ensures
    c.requires.free c.requires.fits low
    (subst (λ (k : Tree). IsAddedIn c.args.self.now k c.add_below_root.new.self) c.in_ok-child.ensures
    (if_done _ _ _ c.in-Ok-true.field-0-test c.in-Ok-true.ensures.added)))
    c.class_len-class.ensures c.tell_child.ensures.told

pub returns-in-Ok-false-clause-made : goal.returns-in-Ok-false-clause-made
returns-in-Ok-false-clause-made c =
    let low = is_low (goal.at.returns-in-Ok-false-clause-made c).Else-is_deeper in
    add_lacks c.args.self.now c.args.name.now c.args.key.now c.requires.free low
    (subst (λ (k : Tree). LacksGraftRoom c.args.self.now (head c.args.self.now.tree).security k)
    c.in_ok-child.ensures
    (if_undone _ _ _ c.in-Ok-false.field-0-test c.in-Ok-false.ensures.added))

pub returns-in-Ok-true-clause-grown : goal.returns-in-Ok-true-clause-grown
returns-in-Ok-true-clause-grown c =
    let grown = c.in-Ok-true.ensures.grown in
    omega (arith, grown, c.tell_child.ensures.told.long)
