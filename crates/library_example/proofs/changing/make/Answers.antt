use Rattle.std.proofs.Common.{map}
use Rattle.reg_tree.specs.Makes.{step_of}
use Rattle.library_example.proofs.ChangeLemmas.{edited_by, steps_fit}
use Rattle.library_example.proofs.changing.make.Goals as goal

pub apply-requires : goal.apply-requires
apply-requires g c = record { fits = steps_fit (map step_of c.args.steps) c.requires.steps }

pub returns-in-Ok : goal.returns-in-Ok
returns-in-Ok g c = λ tells.
    edited_by c.write.result c.args.hive c.apply.new.self (map step_of c.args.steps) (g.D.Disk.state c.write.new.disk).held
    c.requires.steps c.in-Ok.ensures.base c.in-Ok.ensures.made (c.write.ensures tells)
