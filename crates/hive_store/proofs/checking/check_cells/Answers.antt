use Rattle.std.proofs.Common.{◌∙◌, ap}
use Rattle.hive_model.specs.Base.{Base, version_of}
use Rattle.hive_model.specs.Image.{image_of}
use Rattle.hive_model.specs.Recovery.{Recovered}
use Rattle.hive_store.proofs.Holding.{found_loads}
use Rattle.hive_store.proofs.checking.check_cells.Goals as goal

pub returns : goal.returns
returns c =
    let number = ap (λ (b : Base). b.first) c.base.view_is ∙ ap (λ (r : Recovered). r.base.first) c.found.view_is in
    let version = c.version.ensures ∙ ap (λ (r : Recovered). version_of r.base.minor) c.found.view_is in
    let of = c.in_ok-cells.ensures.exact in
    rw (number, version) (record {
      exact = (
        found_loads (image_of c.args.primary.now c.args.log.now)
            c.in_ok-found.found c.in_ok-cells.cells.tree c.in_ok-found.ensures.exact of.holds,
        of.version,
      );
    })
