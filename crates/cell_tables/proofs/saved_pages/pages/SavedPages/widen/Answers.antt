use Rattle.std.proofs.Common.{◌≡◌, ◌++◌, [], ℕ, List, replicate, arith, ap, sym, ◌∙◌}
use Rattle.std.specs.Vec.{vec_capacity, vec_len}
use Rattle.cell_tables.specs.saved_pages.Table.{pages_in}
use Rattle.cell_tables.proofs.TableLemmas.{taken_most, seen_many, resized, wider_table, pages_wider}
use Rattle.cell_tables.proofs.saved_pages.pages.SavedPages.widen.Goals as goal
use Rattle.cell_tables.proofs.saved_pages.pages.SavedPages.widen.Goals.{In_ok-resize}

pub overflow_sub-count : goal.overflow_sub-count
overflow_sub-count c =
    let i = c.self.inside in
    omega (arith, c.len.ensures, c.len-2.ensures, i.slots.ok.0, i.room.ok.0, c.self.invariant.long, taken_most i.slots.items)

-- the slots that there are then
slots : (c : In_ok-resize) → c.resize.new.self.items ≡ c.self.inside.slots.items ++ replicate {A = ℕ} c.args.more 0
slots c =
    let i = c.self.inside in
    c.in_ok-resize.ensures.items
    ∙ resized i.slots.items (vec_len i.slots) c.len.result c.args.more (sym i.slots.ok.0) c.len.ensures

pub invariant_of-self-2 : goal.invariant_of-self-2
invariant_of-self-2 c =
    let i = c.self.inside in
    let many = seen_many i.room.items i.slots.items c.args.self.now c.self.view_is in
    let there = c.in_ok-reserve.ensures in
    rw (slots c, there.items) (wider_table i.slots.items i.room.items c.args.more (vec_capacity i.room)
    (vec_capacity c.reserve.new.self) c.self.invariant (omega (arith, many, c.requires))
    (omega (arith, there.ok, there.len, c.len.ensures, c.len-2.ensures, i.slots.ok.0)))

pub returns-clause-ok : goal.returns-clause-ok
returns-clause-ok c =
    let i = c.self.inside in
    let one = slots c in
    let two = c.in_ok-reserve.ensures.items in
    (λ j. pages_in (two j) (one j)) ∙ pages_wider i.room.items i.slots.items c.args.more
    ∙ ap (λ (v : List (List ℕ)). v ++ replicate c.args.more []) c.self.view_is
