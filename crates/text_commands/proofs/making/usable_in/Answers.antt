use Rattle.std.proofs.Common.{arith}
use Rattle.text_commands.specs.Changed.{number_in}
use Rattle.text_commands.proofs.UsableLemmas.{usable, unusable}
use Rattle.text_commands.proofs.making.usable_in.Goals as goal

pub returns-then-has-clause-exact : goal.returns-then-has-clause-exact
returns-then-has-clause-exact c =
    usable (number_in c.args.set c.args.hive.now.tree) c.in_ok-number.number c.args.hive.now.tree c.in_ok-path.path
    c.has.result c.in_ok-number.ensures (omega (arith, c.if-number-lt1.false)) (omega (arith, c.if-number-gt999.false))
    c.in_ok-path.ensures c.has.ensures c.if-has.true

pub returns-clause-exact : goal.returns-clause-exact
returns-clause-exact c =
    unusable (number_in c.args.set c.args.hive.now.tree) c.in_ok-number.number c.args.hive.now.tree c.in_ok-path.path
    c.has.result c.in_ok-number.ensures c.in_ok-path.ensures c.has.ensures c.if-has.false
