use Rattle.std.proofs.Common.{not, refl}
use Rattle.boot_machine.specs.boot_machine.Queue.{IsFirst, TakesFirst}
use Rattle.boot_machine.proofs.StartLemmas.{attempts}
use Rattle.boot_machine.proofs.boot_machine.start.Start.attempt_next.Goals as goal

pub first-requires : goal.first-requires
first-requires c = rw (← c.self.view_is) at c.requires

pub take_first-requires : goal.take_first-requires
take_first-requires c = rw (← c.self.view_is) at c.requires

pub returns-clause-start : goal.returns-clause-start
returns-clause-start c =
    let s = c.self.inside in
    let e = c.in_ok-entry.entry in
    let ok = not c.has-ok.result in
    let first : IsFirst s.queue e = c.in_ok-entry.ensures in
    let takes : TakesFirst s.queue c.take_first.new.self e ok = c.take_first.ensures e first in
    rw (← c.self.view_is) (attempts _ s.queue c.take_first.new.self e ok c.note.new.tried.items takes refl refl
    c.in_ok-note.ensures.tried)
