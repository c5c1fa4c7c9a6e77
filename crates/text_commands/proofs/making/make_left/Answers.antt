use Rattle.std.proofs.Common.{map}
use Rattle.reg_tree.specs.Makes.{step_of}
use Rattle.text_commands.proofs.ChangeLemmas.{left_made}
use Rattle.text_commands.proofs.making.make_left.Goals as goal

pub returns-clause-changed : goal.returns-clause-changed
returns-clause-changed g c = λ told.
    left_made c.args.hive c.args.current c.args.made.protected (map step_of c.args.made.steps)
    (map step_of c.in_ok-left.left.steps) c.in_ok-left.left.passed
    c.in_ok-tree.tree c.edit_all-done.result c.say.result (g.D.Disk.state c.edit_all-done.new.disk)
    c.in_ok-tree.ensures.tree c.in_ok-left.ensures.left (c.edit_all-done.ensures.changed told) c.say.ensures
