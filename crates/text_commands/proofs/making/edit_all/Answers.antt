use Rattle.std.proofs.Common.{map}
use Rattle.reg_tree.specs.Makes.{step_of}
use Rattle.text_commands.proofs.ChangeLemmas.{protected_ends}
use Rattle.text_commands.proofs.making.edit_all.Goals as goal

pub returns-then-protected-clause-changed : goal.returns-then-protected-clause-changed
returns-then-protected-clause-changed g c =
    protected_ends g.D.Disk.tells c.args.protected c.end_protected.result c.args.hive (map step_of c.args.steps)
    (g.D.Disk.state c.args.disk.now) c.if-protected.true c.requires.still c.requires.loads c.end_protected.ensures
