use Rattle.std.proofs.Common.{◌≡◌, ◌+◌, ◌/◌, ◌++◌, ℕ, suc, List, set, rules, arith, sym, ap, subst, ◌∙◌}
use Rattle.std.proofs.lemmas.Grind.{common_steps}
use Rattle.std.proofs.lemmas.List.{length-set}
use Rattle.std.specs.Vec.{vec_capacity}
use Rattle.cell_tables.specs.saved_pages.Overlay.{with_kept}
use Rattle.cell_tables.specs.saved_pages.Table.{taken, pages_in, IsTable}
use Rattle.cell_tables.proofs.TableLemmas.{page_kept, kept_more, is_free}
use Rattle.cell_tables.proofs.saved_pages.pages.SavedPages.keep.Goals as goal

pub prove-unreachable-requires : goal.prove-unreachable-requires
prove-unreachable-requires c =
    let i = c.self.inside in
    let t = c.self.invariant in
    let free = is_free i.room.items i.slots.items c.args.self.now c.args.k _ c.self.view_is t c.requires.inside c.requires.first in
    let long = t.long in
    let fit = free.fits in
    let whole = c.requires.whole in
    search (rules, long, fit, whole)

pub overflow_cast-slot : goal.overflow_cast-slot
overflow_cast-slot c =
    let i = c.self.inside in
    let t = c.self.invariant in
    let free = is_free i.room.items i.slots.items c.args.self.now c.args.k _ c.self.view_is t c.requires.inside c.requires.first in
    omega (arith, free.less, t.long, c.len.ensures)

pub invariant_of-self : goal.invariant_of-self
invariant_of-self c =
    let i = c.self.inside in
    let t = c.self.invariant in
    let free = is_free i.room.items i.slots.items c.args.self.now c.args.k _ c.self.view_is t c.requires.inside c.requires.first in
    let items : c.extend_from_slice.new.self.items ≡ i.room.items ++ c.args.page.now = grind (arith, common_steps) in
    let number : c.len.result / 4096 + 1 ≡ suc (taken i.slots.items) = omega (arith, t.long, c.len.ensures) in
    subst (λ (room : List ℕ). IsTable (set i.slots.items c.args.k (c.len.result / 4096 + 1)) room (vec_capacity c.extend_from_slice.new.self)) (sym items)
    (page_kept i.slots.items i.room.items c.args.page.now c.args.k (c.len.result / 4096 + 1) (vec_capacity i.room) (vec_capacity c.extend_from_slice.new.self)
    t free.inside free.none c.requires.whole number (omega (arith, c.extend_from_slice.ensures.capacity))
    (length-set i.slots.items c.args.k (c.len.result / 4096 + 1)))

pub returns : goal.returns
returns c =
    let i = c.self.inside in
    let t = c.self.invariant in
    let free = is_free i.room.items i.slots.items c.args.self.now c.args.k _ c.self.view_is t c.requires.inside c.requires.first in
    let items : c.extend_from_slice.new.self.items ≡ i.room.items ++ c.args.page.now = grind (arith, common_steps) in
    let number : c.len.result / 4096 + 1 ≡ suc (taken i.slots.items) = omega (arith, t.long, c.len.ensures) in
    (λ j. pages_in (items j) (set i.slots.items c.args.k (number j)))
    ∙ kept_more (taken i.slots.items) i.room.items c.args.page.now i.slots.items c.args.k t.long t.named c.requires.whole free.inside
    ∙ ap (λ (v : List (List ℕ)). with_kept v c.args.k c.args.page.now) c.self.view_is
