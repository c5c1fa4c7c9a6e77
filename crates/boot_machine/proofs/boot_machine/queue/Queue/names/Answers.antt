use Rattle.std.proofs.Common.{◌∙◌}
use Rattle.boot_machine.proofs.QueueLemmas.{names_by}
use Rattle.boot_machine.proofs.boot_machine.queue.Queue.names.Goals as goal

pub returns : goal.returns
returns c =
    let s = c.self.inside in
    rw (← c.self.view_is)
    (names_by s.waiting s.rests.items c.as_slice.result.now c.names_at.result c.self.invariant
    (c.as_slice.ensures ∙ c.in_ok-left.ensures) c.names_at.ensures)
