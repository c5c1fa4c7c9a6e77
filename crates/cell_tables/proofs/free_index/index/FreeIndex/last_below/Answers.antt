use Rattle.std.proofs.Common.{◌*◌, ◌/◌}
use Rattle.cell_tables.proofs.TopLemmas.{last_own, none_below, last_in}
use Rattle.cell_tables.proofs.free_index.index.FreeIndex.last_below.Goals as goal

pub returns-in-Some : goal.returns-in-Some
returns-in-Some g c =
    last_own (g.N.Numbers.numbers c.args.sizes.now) (512 * (c.args.slot / 512)) c.args.slot c.in-Some.place
    c.in-Some.ensures

pub returns-in_err-page : goal.returns-in_err-page
returns-in_err-page g c =
    rw c.from_residual.ensures
    (none_below (g.N.Numbers.numbers c.args.sizes.now) c.args.self.now c.requires.kept c.args.slot c.requires.inside
    c.in-None.ensures c.in_err-page.ensures)

pub returns : goal.returns
returns g c =
    last_in (g.N.Numbers.numbers c.args.sizes.now) c.args.self.now c.requires.kept c.args.slot c.in_ok-page.page
    c.requires.inside c.in-None.ensures c.in_ok-page.ensures c.last_some-3.result c.last_some-3.ensures
