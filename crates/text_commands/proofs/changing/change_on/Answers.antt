use Rattle.std.proofs.Common.{map}
use Rattle.reg_tree.specs.Makes.{step_of}
use Rattle.text_commands.proofs.ChangeLemmas.{imports_any}
use Rattle.text_commands.proofs.changing.change_on.Goals as goal

pub returns-in-Ok-clause-changed : goal.returns-in-Ok-clause-changed
returns-in-Ok-clause-changed g c =
    imports_any c.args.how (map step_of c.args.steps) c.change_awake.result (g.B.Disk.state c.args.bench.now)
    (g.B.Disk.state c.power_on.new.self)
    (g.B.Disk.state c.change_awake.new.bench) c.in-Ok.ensures.woken c.change_awake.ensures
