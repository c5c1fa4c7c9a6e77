use Rattle.std.proofs.Common.{◌≡◌, ◌*◌, ◌/◌, refl, ap, subst, arith}
use Rattle.hive_model.specs.Bins.{IsHeap, bins_size}
use Rattle.hive_cells.specs.Holes.{free_sizes}
use Rattle.hive_cells.proofs.Steps.{kept_seen}
use Rattle.hive_cells.proofs.GrowLemmas.{Sizes, sizes}
use Rattle.hive_cells.proofs.Indexed.{indexed}
use Rattle.hive_cells.proofs.KeptLemmas.{seen_long, lengths, base_now, covered_now}
use Rattle.hive_cells.proofs.RoomLemmas.{room_now}
use Rattle.hive_cells.proofs.heap.CellHeap.opened.Goals as goal
use Rattle.hive_cells.proofs.heap.CellHeap.opened.Goals.{After-self, After-len-2}

heap : (c : After-self) → IsHeap c.args.self
heap c =
    subst IsHeap c.self.view_is (kept_seen c.self.inside.bytes.items c.self.inside.starts.items c.self.invariant).0

-- how long the lists are
known : (c : After-self) → Sizes c.self.inside.bytes.items c.self.inside.starts.items (free_sizes c.args.self)
known c = sizes c.self.inside.bytes.items c.self.inside.starts.items _ (indexed c.self.invariant c.self.view_is refl)

-- the pages fill the bytes
pages : (c : After-len-2) → 4096 * (c.len-2.result / 4096) ≡ bins_size c.args.self
pages c =
    let l = lengths c.args.self (heap (goal.at.After-len-2 c).After-self) in
    let long = seen_long c.self.inside.bytes.items c.self.inside.starts.items c.args.self c.self.invariant c.self.view_is in
    omega (arith, l.whole, c.len-2.ensures, long)

pub of-requires-clause-whole : goal.of-requires-clause-whole
of-requires-clause-whole c =
    let z = known (goal.at.of-requires-clause-whole c).After-self in
    let l = lengths c.args.self (heap (goal.at.of-requires-clause-whole c).After-self) in
    omega (arith, z.slots, z.flags, z.whole, c.len.ensures, c.self.inside.starts.ok.0, l.whole, ap bins_size c.self.view_is)

pub of-requires-clause-few : goal.of-requires-clause-few
of-requires-clause-few c =
    let z = known (goal.at.of-requires-clause-few c).After-self in
    let h = heap (goal.at.of-requires-clause-few c).After-self in
    omega (arith, z.flags, z.whole, c.len.ensures, c.self.inside.starts.ok.0, h.small, ap bins_size c.self.view_is)

pub new-requires : goal.new-requires
new-requires c =
    let p = pages (goal.at.new-requires c).After-len-2 in
    let l = lengths c.args.self (heap (goal.at.new-requires c).After-self) in
    omega (arith, l.few, p)

pub invariant_of-result : goal.invariant_of-result
invariant_of-result c = (
  c.in_ok-free.ensures,
  covered_now c.in_ok-pages.pages c.args.self (c.len-2.result / 4096) c.in_ok-pages.ensures
      (pages (goal.at.invariant_of-result c).After-len-2),
  room_now c.in_ok-pages.pages c.in_ok-spare.spare (c.len-2.result / 4096) (bins_size c.args.self) c.in_ok-pages.ensures
      (pages (goal.at.invariant_of-result c).After-len-2),
)

pub returns-clause-base : goal.returns-clause-base
returns-clause-base c =
    base_now c.in_ok-pages.pages c.args.self (c.len-2.result / 4096) (heap (goal.at.returns-clause-base c).After-self)
    c.in_ok-pages.ensures (pages (goal.at.returns-clause-base c).After-len-2)
