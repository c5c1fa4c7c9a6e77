use Rattle.std.proofs.Common.{◌≡◌, ◌*◌, ◌/◌, ℕ, List, length, sym, ap, subst, ◌∙◌, arith}
use Rattle.hive_model.specs.Bins.{bins_size, spelled}
use Rattle.cell_tables.specs.saved_pages.Overlay.{IsCovered}
use Rattle.cell_tables.proofs.CoveredLemmas.{covered_more}
use Rattle.hive_cells.specs.Opened.{Opened}
use Rattle.hive_cells.proofs.KeptLemmas.{lengths, base_now, covered_now}
use Rattle.hive_cells.proofs.RoomLemmas.{room_now}
use Rattle.hive_cells.proofs.open.OpenHeap.hold.Goals as goal

pub new-requires : goal.new-requires
new-requires c =
    let l = lengths c.self.inside.cells c.opens.ensures in
    omega (arith, l.long, l.few, ap length c.bytes.ensures)

pub invariant_of-self : goal.invariant_of-self
invariant_of-self c =
    let l = lengths c.self.inside.cells c.opens.ensures in
    let fresh = c.swap.ensures.x_after ∙ c.in_ok-pages.ensures in
    let many : 4096 * (length c.bytes.result.now / 4096) ≡ bins_size c.self.inside.cells =
    omega (arith, l.long, l.whole, ap length c.bytes.ensures) in (
      c.self.invariant.0,
      covered_now c.swap.new.x c.self.inside.cells (length c.bytes.result.now / 4096) fresh many,
      room_now c.swap.new.x c.self.inside.spare (length c.bytes.result.now / 4096) (bins_size c.self.inside.cells) fresh many,
    )

pub returns-clause-base : goal.returns-clause-base
returns-clause-base c =
    let l = lengths c.self.inside.cells c.opens.ensures in
    base_now c.swap.new.x c.self.inside.cells (length c.bytes.result.now / 4096) c.opens.ensures
    (c.swap.ensures.x_after ∙ c.in_ok-pages.ensures) (omega (arith, l.long, l.whole, ap length c.bytes.ensures))
    ∙ ap (λ (o : Opened). spelled 0 o.bins) c.self.view_is

pub returns-clause-covered : goal.returns-clause-covered
returns-clause-covered c =
    let l = lengths c.self.inside.cells c.opens.ensures in
    let pages = sym c.swap.ensures.y_after in
    subst (λ (ps : List (List ℕ)). IsCovered ps (length (spelled 0 c.args.self.now.bins))) pages
    (subst (λ (o : Opened). IsCovered c.self.inside.pages (length (spelled 0 o.bins))) c.self.view_is
    (covered_more c.self.inside.pages (bins_size c.self.inside.cells) (length (spelled 0 c.self.inside.cells))
    c.self.invariant.1 (omega (arith, l.long))))
