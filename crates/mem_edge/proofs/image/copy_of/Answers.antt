use Rattle.std.proofs.Common.{get_or, None, sym, ◌∙◌, ap}
use Rattle.std.proofs.Math.ListN.{get_or-map}
use Rattle.mem_edge.specs.declared.writes.Sector.TheVariants.{Absent}
use Rattle.mem_edge.specs.Views.{content_of}
use Rattle.mem_edge.proofs.FlightLemmas.{map_clones}
use Rattle.mem_edge.proofs.image.copy_of.Goals as goal

pub returns : goal.returns
returns c = λ n.
    let file = c.args.file.now in
    let copy = c.in_ok-copy.copy.items in
    sym (get_or-map content_of copy n Absent)
    ∙ ap (λ l. get_or l n None) (map_clones content_of file copy c.in_ok-copy.ensures.items)
    ∙ get_or-map content_of file n Absent
