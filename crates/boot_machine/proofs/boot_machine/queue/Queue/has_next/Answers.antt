use Rattle.std.proofs.Common.{ap, ◌∙◌}
use Rattle.boot_machine.specs.boot_machine.Steps.{is_there}
use Rattle.boot_machine.proofs.QueueLemmas.{some_is_there, next_is_there}
use Rattle.boot_machine.proofs.boot_machine.queue.Queue.has_next.Goals as goal

pub returns : goal.returns
returns c =
    rw (← c.self.view_is)
    (c.is_some.ensures ∙ some_is_there c.next.result ∙ ap is_there c.next.ensures.place
    ∙ next_is_there c.self.inside.waiting c.self.inside.rests.items c.self.invariant)
