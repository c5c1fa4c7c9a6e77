use Rattle.std.proofs.Common.{map}
use Rattle.reg_tree.specs.Makes.{step_of}
use Rattle.import_steps.specs.Made.{made_steps}
use Rattle.text_commands.proofs.ChangeLemmas.{numbered_made, unset_made}
use Rattle.text_commands.proofs.making.make_in.Goals as goal

pub returns-in-None-clause-changed : goal.returns-in-None-clause-changed
returns-in-None-clause-changed g c = λ told.
    unset_made c.args.hive c.args.lenient (map step_of c.args.steps) c.args.number c.said_of.result
    (g.D.Disk.state c.args.disk.now) c.in-None.is c.said_of.ensures (c.requires.still told) (c.requires.loads told)

pub returns-in_ok-set_steps-in-Some-clause-changed : goal.returns-in_ok-set_steps-in-Some-clause-changed
returns-in_ok-set_steps-in-Some-clause-changed g c = λ told.
    numbered_made c.args.hive _ c.args.number c.in-Some.n c.args.lenient (map step_of c.args.steps)
    (made_steps c.in_ok-set_steps-in-Some.field-0) c.make.result (g.D.Disk.state c.make.new.disk) c.in-Some.is
    c.hive.view_is c.in_ok-set_steps-in-Some.ensures.made (c.make.ensures.changed told)
