use Rattle.std.proofs.Common.{◌∙◌, arith}
use Rattle.hive_edit.proofs.GraftLinks.{none_share, some_share}
use Rattle.hive_edit.proofs.grafting.sharing.Goals as goal

pub returns-then-shared-eq0 : goal.returns-then-shared-eq0
returns-then-shared-eq0 c = none_share c.args.shared.now c.args.key.now (omega (arith, c.if-shared-eq0.true))

pub returns : goal.returns
returns c = c.sharing_keys.ensures ∙ some_share c.args.shared.now c.args.key.now (omega (arith, c.if-shared-eq0.false))
