use Rattle.std.proofs.Common.{map}
use Rattle.reg_tree.specs.Makes.{step_of}
use Rattle.text_commands.proofs.ChangeLemmas.{set_changes}
use Rattle.text_commands.proofs.making.change_loaded.Goals as goal

pub returns-in_ok-number-in-Some-clause-changed : goal.returns-in_ok-number-in-Some-clause-changed
returns-in_ok-number-in-Some-clause-changed g c = λ told.
    set_changes c.args.how c.in-Some.set c.args.hive
    (map step_of c.args.steps) c.in_ok-number-in-Some.number
    c.make_in.result (g.D.Disk.state c.make_in.new.disk) c.in-Some.is c.in_ok-number-in-Some.ensures.exact
    (c.make_in.ensures.changed told)
