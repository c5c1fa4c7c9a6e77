use Rattle.std.proofs.Common.{sym}
use Rattle.boot_machine.proofs.Noted.{less_there, nowhere}
use Rattle.boot_machine.proofs.boot_machine.failures.Failures.take.Goals as goal

pub returns-in-Some : goal.returns-in-Some
returns-in-Some c = less_there c.args.name.now c.self.inside.items.items c.args.self.now c.in-Some.at
    c.index_mut.result.now c.lower.new.failure c.self.view_is c.in-Some.ensures.place c.index_mut.ensures.value
    c.lower.ensures

pub returns-in-None : goal.returns-in-None
returns-in-None c = sym (nowhere c.args.name.now c.args.self.now (sym c.in-None.ensures.place)).less
