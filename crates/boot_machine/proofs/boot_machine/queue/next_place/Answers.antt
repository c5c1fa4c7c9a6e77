use Rattle.std.proofs.Common.{sym, ap, ◌∙◌}
use Rattle.boot_machine.specs.boot_machine.Steps.{is_there}
use Rattle.boot_machine.proofs.QueueLemmas.{is_some_there}
use Rattle.boot_machine.proofs.boot_machine.queue.next_place.Goals as goal

pub unwrap-requires : goal.unwrap-requires
unwrap-requires c = is_some_there c.next.result (ap is_there c.next.ensures.place ∙ c.requires)

pub returns-clause-place : goal.returns-clause-place
returns-clause-place c = sym c.unwrap.ensures ∙ c.next.ensures.place

pub returns-clause-waits : goal.returns-clause-waits
returns-clause-waits c = rw c.unwrap.ensures at c.next.ensures.waits
