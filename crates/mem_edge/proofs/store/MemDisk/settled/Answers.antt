use Rattle.std.proofs.Common.{◌∙◌, ap}
use Rattle.mem_edge.specs.Views.{held_of, writes_of, left}
use Rattle.mem_edge.proofs.store.MemDisk.settled.Goals as goal

pub returns : goal.returns
returns c =
    let d = c.args.self.now in
    c.settle.ensures
    ∙ ap (λ ws. left d.keep (held_of c.make_room.new.self) ws) c.in_ok-flight.ensures
    ∙ ap (λ held. left d.keep held (writes_of d.flight.writes.items)) (c.make_room.ensures.same ∙ c.in_ok-image.ensures)
