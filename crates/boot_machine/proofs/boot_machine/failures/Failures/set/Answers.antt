use Rattle.std.proofs.Common.{sym}
use Rattle.boot_machine.proofs.Noted.{others_there, nowhere}
use Rattle.boot_machine.proofs.boot_machine.failures.Failures.set.Goals as goal

pub returns-in-Some-clause-ok : goal.returns-in-Some-clause-ok
returns-in-Some-clause-ok c =
    others_there c.args.name.now c.self.inside.items.items c.args.self.now c.in-Some.at c.args.count
    c.index_mut.result.now c.put.new.failure c.self.view_is c.in-Some.ensures.place c.index_mut.ensures.value
    c.put.ensures

pub returns-in-None-clause-ok : goal.returns-in-None-clause-ok
returns-in-None-clause-ok c =
    rw ((nowhere c.args.name.now c.args.self.now (sym c.in-None.ensures.place)).others c.args.count) c.add.ensures.ok
