use Rattle.std.proofs.Common.{◌≡◌, true, length, refl, sym, ◌∙◌, arith}
use Rattle.std.proofs.lemmas.Option.{slice_get_read}
use Rattle.boot_machine.specs.boot_machine.Steps.{is_there}
use Rattle.boot_machine.specs.boot_machine.Queue.{next_among}
use Rattle.boot_machine.proofs.QueueLemmas.{queue_of, next_is_there, next_within, first_by_parts}
use Rattle.boot_machine.proofs.boot_machine.queue.Queue.first.Goals as goal

pub next_place-place-requires : goal.next_place-place-requires
next_place-place-requires c =
    let s = c.self.inside in
    let there : is_there (next_among (queue_of s.waiting s.rests.items)) ≡ true = rw (← c.self.view_is) at c.requires in
    next_is_there s.waiting s.rests.items c.self.invariant ∙ there

pub need_at-requires : goal.need_at-requires
need_at-requires c =
    let s = c.self.inside in
    omega (
      arith,
      next_within s.waiting s.rests.items c.next_place-place.result c.self.invariant
          c.next_place-place.ensures.place,
      c.self.invariant,
    )

pub index-requires : goal.index-requires
index-requires c =
    let s = c.self.inside in
    omega (
      arith,
      next_within s.waiting s.rests.items c.next_place-place.result c.self.invariant
          c.next_place-place.ensures.place,
      s.rests.ok.0,
    )

pub returns : goal.returns
returns c =
    let s = c.self.inside in
    let at = c.next_place-place.result in
    let within = next_within s.waiting s.rests.items at c.self.invariant c.next_place-place.ensures.place in
    rw (← c.self.view_is)
    (rw c.join.ensures (first_by_parts s.waiting s.rests.items at c.in_ok-need.need c.index.result.now c.self.invariant
    c.next_place-place.ensures.place
    (rw c.in_ok-need.ensures (sym c.need_at.ensures))
    (slice_get_read s.rests.items (length s.rests.items) at c.index.result.now refl within c.index.ensures)))
