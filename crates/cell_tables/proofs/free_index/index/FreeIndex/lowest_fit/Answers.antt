use Rattle.cell_tables.proofs.TopLemmas.{none_fits, fits_in}
use Rattle.cell_tables.proofs.free_index.index.FreeIndex.lowest_fit.Goals as goal

pub returns-in_err-page : goal.returns-in_err-page
returns-in_err-page g c =
    rw c.from_residual.ensures
    (none_fits (g.N.Numbers.numbers c.args.sizes.now) c.args.self.now c.requires c.args.size c.pages.result
    c.pages.ensures c.in_err-page.ensures)

pub returns : goal.returns
returns g c =
    fits_in (g.N.Numbers.numbers c.args.sizes.now) c.args.self.now c.requires c.args.size c.pages.result
    c.in_ok-page.page c.pages.ensures c.in_ok-page.ensures c.first_fit-2.result c.first_fit-2.ensures
