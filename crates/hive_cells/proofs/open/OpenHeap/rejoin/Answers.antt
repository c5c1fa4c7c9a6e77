use Rattle.std.proofs.Common.{List, ℕ, length, sym, ap, subst, ◌∙◌, arith}
use Rattle.hive_model.specs.Bins.{bins_size, spelled}
use Rattle.cell_tables.specs.saved_pages.Overlay.{before, IsCovered}
use Rattle.cell_tables.proofs.CoveredLemmas.{covered_more}
use Rattle.hive_cells.specs.Opened.{Opened}
use Rattle.hive_cells.proofs.KeptLemmas.{lengths}
use Rattle.hive_cells.proofs.RoomLemmas.{room_longer}
use Rattle.hive_cells.proofs.open.OpenHeap.rejoin.Goals as goal
use Rattle.hive_cells.proofs.open.OpenHeap.rejoin.Goals.{After-opens}

-- the pages that were kept since are there, or were kept
now : (c : After-opens) → IsCovered c.self.inside.pages (length (spelled 0 c.self.inside.cells))
now c =
    let l = lengths c.self.inside.cells c.opens.ensures in
    covered_more c.self.inside.pages (bins_size c.self.inside.cells) (length (spelled 0 c.self.inside.cells))
    c.self.invariant.1 (omega (arith, l.long))

-- and those that were kept before, of what the bytes were then
then : (c : After-opens) → IsCovered c.args.pages (length (before c.self.inside.pages (spelled 0 c.self.inside.cells)))
then c = subst (λ (o : Opened). IsCovered c.args.pages (length o.base)) (sym c.self.view_is) c.requires

pub invariant_of-self : goal.invariant_of-self
invariant_of-self c =
    let i = c.self.inside in
    let at = (goal.at.invariant_of-self c).After-opens in
    let l = lengths i.cells c.opens.ensures in (
      c.self.invariant.0,
      subst (λ (ps : List (List ℕ)). IsCovered ps (bins_size i.cells)) (sym c.swap.ensures.x_after)
          (covered_more c.merge.new.self (length (spelled 0 i.cells)) (bins_size i.cells)
          (c.merge.ensures.covered (spelled 0 i.cells) (now at) (then at)) (omega (arith, l.long))),
      room_longer i.pages i.spare c.swap.new.x c.keep_longer.new.spare (bins_size i.cells) c.self.invariant.2
          (omega (arith, ap length c.swap.ensures.y_after, c.keep_longer.ensures.other)) c.keep_longer.ensures.there,
    )

pub returns-clause-base : goal.returns-clause-base
returns-clause-base c =
    let i = c.self.inside in
    let at = (goal.at.returns-clause-base c).After-opens in
    ap (λ (ps : List (List ℕ)). before ps (spelled 0 i.cells)) c.swap.ensures.x_after
    ∙ c.merge.ensures.before (spelled 0 i.cells) (now at) (then at)
    ∙ ap (λ (o : Opened). before c.args.pages o.base) c.self.view_is
