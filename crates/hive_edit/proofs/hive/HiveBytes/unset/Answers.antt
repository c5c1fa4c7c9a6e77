use Rattle.std.proofs.Common.{refl, arith}
use Rattle.hive_model.specs.Edit.{delete_value}
use Rattle.hive_edit.proofs.SteppedLemmas.{step_full, stepped_edit, stepped_kept}
use Rattle.hive_edit.proofs.ToldLemmas.{unset_told}
use Rattle.hive_edit.proofs.hive.HiveBytes.unset.Goals as goal

pub returns-then-bulk-gt-MOST_BULK-clause-made : goal.returns-then-bulk-gt-MOST_BULK-clause-made
returns-then-bulk-gt-MOST_BULK-clause-made c =
    let h = c.args.self.now in (
      step_full h.version h.tree _ (delete_value c.args.path.now c.args.name.now) c.bulk_without-bulk.ensures.step
          (omega (arith, c.bulk_without-bulk.ensures.bulk, c.if-bulk-gt-MOST_BULK.true)),
      refl,
    )

pub returns-clause-made : goal.returns-clause-made
returns-clause-made c =
    stepped_edit c.args.self.now c.take_named.new.self (delete_value c.args.path.now c.args.name.now)
    c.take_named.ensures.stepped
    (omega (arith, c.take_named.ensures.bulk, c.if-bulk-gt-MOST_BULK.false))

pub returns-clause-done : goal.returns-clause-done
returns-clause-done c =
    stepped_kept c.args.self.now c.take_named.new.self (delete_value c.args.path.now c.args.name.now)
    (unset_told c.args.self.now c.take_named.new.self c.args.path.now c.args.name.now c.take_named.ensures.stepped)

pub returns-clause-parents : goal.returns-clause-parents
returns-clause-parents c =
    (stepped_kept c.args.self.now c.take_named.new.self (delete_value c.args.path.now c.args.name.now)
    (unset_told c.args.self.now c.take_named.new.self c.args.path.now c.args.name.now
    c.take_named.ensures.stepped)).parents
