use Rattle.std.proofs.Common.{◌<◌, List, ℕ, ap, sym, ◌∙◌, arith, length}
use Rattle.std.proofs.lemmas.Grind.{get_or_default_zero}
use Rattle.cell_tables.specs.saved_pages.Overlay.{kept_at}
use Rattle.cell_tables.proofs.TableLemmas.{slot_none, slot_fits, slot_page, same_many}
use Rattle.cell_tables.proofs.saved_pages.pages.SavedPages.kept.Goals as goal

pub returns-then-slot-eq0 : goal.returns-then-slot-eq0
returns-then-slot-eq0 c =
    let i = c.self.inside in
    let lt : c.args.k < length i.slots.items = same_many i.room.items i.slots.items c.args.self.now c.args.k c.self.view_is c.requires in
    ap (λ (v : List (List ℕ)). kept_at v c.args.k) (sym c.self.view_is)
    ∙ slot_none i.room.items i.slots.items c.args.k c.index.result.now lt
    (c.index.ensures ∙ get_or_default_zero i.slots.items c.args.k c.index.result.now lt) c.if-slot-eq0.true

pub slice_bounds-result-end : goal.slice_bounds-result-end
slice_bounds-result-end c =
    let i = c.self.inside in
    let lt : c.args.k < length i.slots.items = same_many i.room.items i.slots.items c.args.self.now c.args.k c.self.view_is c.requires in
    let fits = slot_fits i.room.items i.slots.items c.args.k c.index.result.now c.self.invariant.long c.self.invariant.named
    (c.index.ensures ∙ get_or_default_zero i.slots.items c.args.k c.index.result.now lt) in
    let same = ap length c.deref.ensures.value in
    grind (arith, fits, same)

pub returns : goal.returns
returns c =
    let i = c.self.inside in
    let lt : c.args.k < length i.slots.items = same_many i.room.items i.slots.items c.args.self.now c.args.k c.self.view_is c.requires in
    rw c.deref.ensures.value (rw (sym c.self.view_is) (slot_page i.room.items i.slots.items c.args.k c.index.result.now lt c.self.invariant.long c.self.invariant.named
    (c.index.ensures ∙ get_or_default_zero i.slots.items c.args.k c.index.result.now lt) c.if-slot-eq0.false))
