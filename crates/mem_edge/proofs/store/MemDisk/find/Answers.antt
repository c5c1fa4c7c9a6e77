use Rattle.std.proofs.Common.{Some, sym, ◌∙◌, ap}
use Rattle.hive_model.specs.Image.{Bytes}
use Rattle.mem_edge.specs.Views.{held_of, writes_of}
use Rattle.mem_edge.proofs.FlightLemmas.{overlaid_else, or_else}
use Rattle.mem_edge.proofs.store.MemDisk.find.Goals as goal

pub returns-in-Some : goal.returns-in-Some
returns-in-Some c =
    let d = c.args.self.now in
    ap (λ b. Some (Bytes b)) c.deref.ensures
    ∙ ap (λ x. or_else x (held_of d.image c.args.at)) c.in-Some.ensures
    ∙ sym (overlaid_else (held_of d.image) (writes_of d.flight.writes.items) c.args.at)

pub returns-in-None : goal.returns-in-None
returns-in-None c =
    let d = c.args.self.now in
    c.read.ensures ∙ ap (λ x. or_else x (held_of d.image c.args.at)) c.in-None.ensures
    ∙ sym (overlaid_else (held_of d.image) (writes_of d.flight.writes.items) c.args.at)
