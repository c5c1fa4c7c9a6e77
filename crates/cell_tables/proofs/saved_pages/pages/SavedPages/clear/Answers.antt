use Rattle.std.proofs.Common.{◌≡◌, ◌≤◌, [], length, replicate, rules, arith, ap, ◌∙◌}
use Rattle.std.proofs.lemmas.Grind.{common_steps}
use Rattle.std.proofs.lemmas.List.{length-replicate}
use Rattle.std.specs.Vec.{vec_capacity}
use Rattle.cell_tables.specs.saved_pages.Table.{pages_in}
use Rattle.cell_tables.proofs.TableLemmas.{empty_table, none_in, seen_many}
use Rattle.cell_tables.proofs.saved_pages.pages.SavedPages.clear.Goals as goal

pub prove-unreachable-requires : goal.prove-unreachable-requires
prove-unreachable-requires c =
    let i = c.self.inside in
    let fits : c.args.count ≤ vec_capacity i.slots =
    omega (arith, c.requires, seen_many i.room.items i.slots.items c.args.self.now c.self.view_is, i.slots.ok.0, i.slots.ok.1) in
    search (rules, fits)

pub invariant_of-self : goal.invariant_of-self
invariant_of-self c =
    let i = c.self.inside in
    let slots : c.resize.new.self.items ≡ replicate c.args.count 0 = grind (arith, common_steps) in
    let room : c.truncate.new.self.items ≡ [] = grind (arith, common_steps) in
    let many = seen_many i.room.items i.slots.items c.args.self.now c.self.view_is in
    empty_table c.resize.new.self.items c.truncate.new.self.items c.args.count (vec_capacity c.truncate.new.self) slots room
    (omega (arith, c.requires, many, c.self.invariant.few)) (ap length slots ∙ length-replicate c.args.count 0)
    (omega (arith, c.requires, many, c.self.invariant.fits, c.truncate.ensures.capacity))

pub returns : goal.returns
returns c =
    let slots : c.resize.new.self.items ≡ replicate c.args.count 0 = grind (arith, common_steps) in
    ap (pages_in c.truncate.new.self.items) slots ∙ none_in c.truncate.new.self.items c.args.count
