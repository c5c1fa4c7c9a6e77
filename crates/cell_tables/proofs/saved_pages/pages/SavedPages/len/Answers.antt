use Rattle.std.proofs.Common.{subst}
use Rattle.cell_tables.specs.saved_pages.Overlay.{AreWhole}
use Rattle.cell_tables.specs.saved_pages.Table.{taken}
use Rattle.cell_tables.proofs.TableLemmas.{all_whole}
use Rattle.cell_tables.proofs.saved_pages.pages.SavedPages.len.Goals as goal

pub returns-clause-whole : goal.returns-clause-whole
returns-clause-whole c =
    let i = c.self.inside in
    subst AreWhole c.self.view_is (all_whole (taken i.slots.items) i.room.items i.slots.items c.self.invariant.long c.self.invariant.named)
