use Rattle.std.proofs.Common.{[], ◌∷◌, ◌++◌, length, ap, sym, ◌∙◌, arith}
use Rattle.hive_model.specs.Edit.{is_bad_name}
use Rattle.hive_store.proofs.KeepLemmas.{made_not_small, made_not_good, made_not_short, made_not_shallow, made_same}
use Rattle.hive_store.proofs.same.make_keeps.Goals as goal

pub returns-then-bulk-gt-MOST_BULK : goal.returns-then-bulk-gt-MOST_BULK
returns-then-bulk-gt-MOST_BULK c =
    made_not_small c.args.cells.now.version c.args.cells.now.tree c.args.parent.now c.args.name.now c.bulk.result
    c.bulk.ensures c.if-bulk-gt-MOST_BULK.true

pub returns-then-is_bad_name : goal.returns-then-is_bad_name
returns-then-is_bad_name c =
    made_not_good c.args.cells.now.version c.args.cells.now.tree c.args.parent.now c.args.name.now
    (ap is_bad_name (sym c.as_slice.ensures) ∙ sym c.is_bad_name.ensures ∙ c.if-is_bad_name.true)

pub returns-then-as_slice-gt-LONGEST_KEY_NAME : goal.returns-then-as_slice-gt-LONGEST_KEY_NAME
returns-then-as_slice-gt-LONGEST_KEY_NAME c =
    made_not_short c.args.cells.now.version c.args.cells.now.tree c.args.parent.now c.args.name.now
    (omega (arith, c.if-as_slice-gt-LONGEST_KEY_NAME.true, ap length c.as_slice-2.ensures))

pub returns-then-as_slice-gt-MOST_PARENTS : goal.returns-then-as_slice-gt-MOST_PARENTS
returns-then-as_slice-gt-MOST_PARENTS c =
    made_not_shallow c.args.cells.now.version c.args.cells.now.tree c.args.parent.now c.args.name.now
    (omega (arith, c.if-as_slice-gt-MOST_PARENTS.true, ap length c.as_slice-3.ensures))

pub returns : goal.returns
returns c =
    made_same c.args.cells.now.version c.args.cells.now.tree c.args.parent.now c.args.name.now c.bulk.result
    c.push.new.self c.has.result c.bulk.ensures c.if-bulk-gt-MOST_BULK.false
    (ap is_bad_name (sym c.as_slice.ensures) ∙ sym c.is_bad_name.ensures ∙ c.if-is_bad_name.false)
    (omega (arith, c.if-as_slice-gt-LONGEST_KEY_NAME.false, ap length c.as_slice-2.ensures))
    (omega (arith, c.if-as_slice-gt-MOST_PARENTS.false, ap length c.as_slice-3.ensures))
    (c.in_ok-push.ensures.ok ∙ (λ i. c.in_ok-path.ensures i ++ c.in_ok-copy.ensures i ∷ [])) c.has.ensures
