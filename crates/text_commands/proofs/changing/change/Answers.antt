use Rattle.std.proofs.Common.{map}
use Rattle.reg_tree.specs.Makes.{step_of}
use Rattle.text_commands.proofs.ChangeLemmas.{change_loads}
use Rattle.text_commands.proofs.changing.change.Goals as goal

pub returns-in-Ok-clause-changed : goal.returns-in-Ok-clause-changed
returns-in-Ok-clause-changed g c =
    change_loads c.args.how g.D.Disk.tells c.change_loaded.result c.in-Ok.hive c.in-Ok.field-0-1
    (map step_of c.args.steps)
    (g.D.Disk.state c.args.disk.now).held
    (g.D.Disk.state c.change_loaded.new.disk) c.in-Ok.ensures.exact c.in-Ok.ensures.loaded.recovered
    c.change_loaded.ensures.changed
