use Rattle.std.proofs.Common.{map}
use Rattle.reg_tree.specs.Makes.{step_of}
use Rattle.text_commands.proofs.ChangeLemmas.{all_made}
use Rattle.text_commands.proofs.making.make.Goals as goal

pub returns-else-lenient-clause-changed : goal.returns-else-lenient-clause-changed
returns-else-lenient-clause-changed g c = λ told.
    all_made c.args.hive c.args.current c.args.lenient c.args.made.protected (map step_of c.args.made.steps)
    c.edit_all-done.result c.say.result (g.D.Disk.state c.edit_all-done.new.disk) c.if-lenient.false
    (c.edit_all-done.ensures.changed told) c.say.ensures
