use Rattle.std.proofs.Common.{arith}
use Rattle.std.proofs.lemmas.Result.{IfOk-weaker}
use Rattle.hive_store.proofs.KeepLemmas.{set_held, not_small, not_short, not_few}
use Rattle.hive_store.proofs.same.set_keeps.Goals as goal

pub returns-then-bulk-gt-MOST_BULK : goal.returns-then-bulk-gt-MOST_BULK
returns-then-bulk-gt-MOST_BULK c =
    not_small c.args.cells.now.version c.args.cells.now.tree c.args.path.now c.args.name.now c.args.kind
    c.args.bytes.now c.bulk.result c.bulk.ensures c.if-bulk-gt-MOST_BULK.true

pub returns-then-name-gt-LONGEST_VALUE_NAME : goal.returns-then-name-gt-LONGEST_VALUE_NAME
returns-then-name-gt-LONGEST_VALUE_NAME c =
    not_short c.args.cells.now.version c.args.cells.now.tree c.args.path.now c.args.name.now c.args.kind c.args.bytes.now
    (omega (arith, c.if-name-gt-LONGEST_VALUE_NAME.true))

pub returns-then-bytes-gt-LONGEST_DATA : goal.returns-then-bytes-gt-LONGEST_DATA
returns-then-bytes-gt-LONGEST_DATA c =
    not_few c.args.cells.now.version c.args.cells.now.tree c.args.path.now c.args.name.now c.args.kind c.args.bytes.now
    (omega (arith, c.if-bytes-gt-LONGEST_DATA.true))

pub returns : goal.returns
returns c =
    IfOk-weaker c.has_value.result _ _
    (λ b is. set_held c.args.cells.now.version c.args.cells.now.tree c.args.path.now c.args.name.now c.args.kind c.args.bytes.now b c.bulk.result
    c.bulk.ensures c.if-bulk-gt-MOST_BULK.false (omega (arith, c.if-name-gt-LONGEST_VALUE_NAME.false))
    (omega (arith, c.if-bytes-gt-LONGEST_DATA.false)) is) c.has_value.ensures
