use Rattle.std.proofs.Common.{refl, sym}
use Rattle.boot_machine.proofs.Noted.{fails_there, nowhere}
use Rattle.boot_machine.proofs.boot_machine.failures.Failures.has.Goals as goal

pub returns-in-Some : goal.returns-in-Some
returns-in-Some c = fails_there c.args.name.now c.self.inside.items.items c.args.self.now c.in-Some.at
    c.index.result.now c.is_to_come.result c.self.view_is c.in-Some.ensures.place c.index.ensures c.is_to_come.ensures

pub returns-in-None : goal.returns-in-None
returns-in-None c = rw (nowhere c.args.name.now c.args.self.now (sym c.in-None.ensures.place)).count refl
