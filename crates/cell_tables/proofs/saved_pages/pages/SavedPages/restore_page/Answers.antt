use Rattle.std.proofs.Common.{arith}
use Rattle.cell_tables.proofs.OverlayLemmas.{IsPut, page_put}
use Rattle.cell_tables.proofs.saved_pages.pages.SavedPages.restore_page.Goals as goal
use Rattle.cell_tables.proofs.saved_pages.pages.SavedPages.restore_page.Goals.{After-write_over}

put : (c : After-write_over) → IsPut c.args.self.now c.args.k c.args.bytes.now c.write_over.new.bytes
put c =
    page_put c.args.self.now c.args.k c.in-Some.page.now c.args.bytes.now c.write_over.new.bytes c.in-Some.ensures.0
    c.in-Some.ensures.1 (omega (arith, c.requires.inside, c.requires.whole, c.in-Some.ensures.1)) c.write_over.ensures.exact

pub returns-in-Some-clause-here : goal.returns-in-Some-clause-here
returns-in-Some-clause-here c = (put (goal.at.returns-in-Some-clause-here c).After-write_over).here

pub returns-in-Some-clause-others : goal.returns-in-Some-clause-others
returns-in-Some-clause-others c = (put (goal.at.returns-in-Some-clause-others c).After-write_over).others

pub returns-in-Some-clause-before : goal.returns-in-Some-clause-before
returns-in-Some-clause-before c = (put (goal.at.returns-in-Some-clause-before c).After-write_over).base
