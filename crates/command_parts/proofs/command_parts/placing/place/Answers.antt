use Rattle.std.proofs.Common.{ap, ◌∙◌}
use Rattle.command_parts.proofs.PlacedLemmas.{front, hive_placed_by}
use Rattle.command_parts.proofs.command_parts.placing.place.Goals as goal

pub returns-clause-placed : goal.returns-clause-placed
returns-clause-placed g c =
    hive_placed_by c.args.files.now c.front.result.now (g.B.Disk.state c.args.bench.now)
    (g.B.Disk.state c.place.new.self)
    (g.B.Disk.state c.place_log.new.bench) c.place_log.result c.requires.fresh
    (c.front.ensures ∙ ap front c.as_slice.ensures)
    c.in_ok-place.ensures.placed c.place_log.ensures.placed
