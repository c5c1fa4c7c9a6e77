use Rattle.std.proofs.Common.{◌≡◌, length, replicate, arith, ap, ◌∙◌}
use Rattle.std.proofs.lemmas.Grind.{common_steps}
use Rattle.std.proofs.lemmas.List.{length-replicate}
use Rattle.std.specs.Vec.{vec_capacity}
use Rattle.cell_tables.specs.saved_pages.Table.{pages_in}
use Rattle.cell_tables.proofs.TableLemmas.{empty_table, none_in}
use Rattle.cell_tables.proofs.saved_pages.pages.SavedPages.new.Goals as goal

pub invariant_of-result : goal.invariant_of-result
invariant_of-result c =
    let slots : c.resize.new.self.items ≡ replicate c.args.count 0 = grind (arith, common_steps) in
    empty_table c.resize.new.self.items c.in_ok-room.room.items c.args.count (vec_capacity c.in_ok-room.room) slots
    c.in_ok-room.ensures.items c.requires (ap length slots ∙ length-replicate c.args.count 0)
    (omega (arith, c.in_ok-room.ensures.exact))

pub returns : goal.returns
returns c =
    let slots : c.resize.new.self.items ≡ replicate c.args.count 0 = grind (arith, common_steps) in
    ap (pages_in _) slots ∙ none_in _ c.args.count
