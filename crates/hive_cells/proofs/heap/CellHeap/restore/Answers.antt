use Rattle.std.proofs.Common.{subst, ◌∙◌, arith}
use Rattle.std.specs.Prelude.{List, ℕ}
use Rattle.hive_cells.specs.Reading.{IsKept}
use Rattle.hive_cells.proofs.Again.{not_both}
use Rattle.hive_cells.proofs.IndexLemmas.{pages}
use Rattle.hive_cells.proofs.KeptLemmas.{seen_long, put_bins, put_seen}
use Rattle.hive_cells.proofs.heap.CellHeap.restore.Goals as goal

pub put_pages-requires : goal.put_pages-requires
put_pages-requires c =
    let i = c.self.inside in
    omega (arith, c.requires.long, seen_long i.bytes.items i.starts.items c.args.self.now c.self.invariant c.self.view_is)

pub unmark-requires : goal.unmark-requires
unmark-requires c =
    let i = c.self.inside in
    omega (
      arith,
      c.requires.long,
      seen_long i.bytes.items i.starts.items c.args.self.now c.self.invariant c.self.view_is,
      (pages i.bytes.items i.starts.items c.self.invariant).flags,
      c.put_pages.ensures.long,
      c.put_pages.new.bytes.ok.0,
      c.len.ensures,
    )

pub unreachable-requires : goal.unreachable-requires
unreachable-requires c =
    let i = c.self.inside in
    let bins = c.requires.bins in
    let is = put_bins c.args.pages.now i.bytes.items c.as_slice.result.now i.starts.items c.args.self.now bins.0
    c.self.invariant c.self.view_is (c.as_slice.ensures.value ∙ c.put_pages.ensures.exact) bins.1 in
    not_both c.as_slice.result.now bins.0 c.in-Err.field-0 is.0 is.1 c.in-Err.ensures

pub returns : goal.returns
returns c =
    let i = c.self.inside in
    put_seen c.args.pages.now i.bytes.items c.put_pages.new.bytes.items i.starts.items c.mark_bins.new.starts.items
    c.args.self.now c.self.invariant c.self.view_is c.put_pages.ensures.exact
    (subst (λ (t : List ℕ). IsKept t c.mark_bins.new.starts.items) c.as_slice.ensures.value c.in-Ok.ensures)
