use Rattle.std.specs.Option.{option_copied}
use Rattle.failure_effects.proofs.NameLemmas.{named_here, named_nowhere}
use Rattle.failure_effects.proofs.states.States.named.Goals as goal

pub returns-in-Some : goal.returns-in-Some
returns-in-Some c =
    named_here c.args.self.now c.args.name.now c.place_of.result c.in-Some.at (option_copied c.at.result)
    c.place_of.ensures c.in-Some.is c.at.ensures

pub returns-in-None : goal.returns-in-None
returns-in-None c = named_nowhere c.args.self.now c.args.name.now c.place_of.result c.place_of.ensures c.in-None.is
