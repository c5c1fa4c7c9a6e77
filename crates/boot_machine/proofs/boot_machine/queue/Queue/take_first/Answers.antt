use Rattle.std.proofs.Common.{◌≡◌, true, length, sym, ap, ◌∙◌}
use Rattle.dependencies.specs.Waiting.{WaitingState}
use Rattle.boot_machine.specs.boot_machine.Steps.{is_there}
use Rattle.boot_machine.specs.boot_machine.Queue.{next_among}
use Rattle.boot_machine.proofs.QueueLemmas.{queue_of, next_is_there, first_taken}
use Rattle.boot_machine.proofs.boot_machine.queue.Queue.take_first.Goals as goal

pub next_place-place-requires : goal.next_place-place-requires
next_place-place-requires c =
    let s = c.self.inside in
    let there : is_there (next_among (queue_of s.waiting s.rests.items)) ≡ true = rw (← c.self.view_is) at c.requires in
    next_is_there s.waiting s.rests.items c.self.invariant ∙ there

pub invariant_of-self : goal.invariant_of-self
invariant_of-self c = c.self.invariant ∙ sym (ap (λ (w : WaitingState). length w.needs) c.tried.ensures.state)

pub returns : goal.returns
returns c =
    let s = c.self.inside in
    rw (← c.self.view_is)
    (first_taken s.waiting c.tried.new.self s.rests.items c.next_place-place.result c.args.ok c.self.invariant
    c.next_place-place.ensures.place c.tried.ensures.state)
