use Rattle.std.proofs.Common.{◌∙◌}
use Rattle.hive_cells.specs.Sources.{cells_of}
use Rattle.hive_look.proofs.PlaceLemmas.{place_end}
use Rattle.hive_look.proofs.path.key_along.Goals as goal

pub returns-in_default : goal.returns-in_default
returns-in_default c = record {
  place = place_end (cells_of c.args.cells.now) c.path.rest.now c.path.at c.in_default.len_below
      ∙ c.path.invariant.place;
  stands = c.path.invariant.here;
}
