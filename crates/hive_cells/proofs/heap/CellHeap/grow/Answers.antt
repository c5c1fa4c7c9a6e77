use Rattle.std.proofs.Common.{◌≡◌, ℕ, ◌+◌, ◌*◌, ◌/◌, [], ◌∷◌, ◌++◌, refl, ap, subst, ◌∙◌, arith}
use Rattle.hive_model.specs.Bins.{IsHeap, bins_size}
use Rattle.hive_cells.specs.Held.{held_at}
use Rattle.hive_cells.specs.Holes.{free_bin, new_bin_size}
use Rattle.hive_cells.proofs.Steps.{kept_seen}
use Rattle.hive_cells.proofs.Indexed.{alone}
use Rattle.hive_cells.proofs.GrowLemmas.{sizes, held_before, new_hole, new_long}
use Rattle.hive_cells.proofs.Tools.{bins_size-append}
use Rattle.hive_cells.proofs.heap.CellHeap.grow.Goals as goal
use Rattle.hive_cells.proofs.heap.CellHeap.grow.Goals.{After-len-long, In_ok-append_bin}

-- the bytes are as many as the bins have
whole : (c : After-len-long) → c.len-long.result ≡ bins_size c.args.self.now
whole c =
    let z = sizes c.self.inside.bytes.items c.self.inside.starts.items _ (alone c.self.invariant) in
    omega (arith, c.len-long.ensures, z.whole, ap bins_size c.self.view_is)

-- the bins with the new one
new : (c : In_ok-append_bin) → c.append_bin.new.self ≡ c.args.self.now ++ free_bin (new_bin_size c.args.size) ∷ []
new c =
    let bin : (c.from.result + 4127) / 4096 * 4096 ≡ new_bin_size c.args.size = omega (arith, c.from.ensures) in
    c.in_ok-append_bin.ensures.ok ∙ ap (λ (n : ℕ). c.args.self.now ++ free_bin n ∷ []) bin

pub returns-then-long-bin-gt-MOST_BINS-clause-exact : goal.returns-then-long-bin-gt-MOST_BINS-clause-exact
returns-then-long-bin-gt-MOST_BINS-clause-exact c =
    let long = whole (goal.at.returns-then-long-bin-gt-MOST_BINS-clause-exact c).After-len-long in
    (omega (arith, c.if-long-bin-gt-MOST_BINS.true, long, c.from.ensures), refl)

pub append_bin-requires-clause-fits : goal.append_bin-requires-clause-fits
append_bin-requires-clause-fits c =
    omega (arith, c.if-long-bin-gt-MOST_BINS.false, whole (goal.at.append_bin-requires-clause-fits c).After-len-long)

pub returns-clause-exact : goal.returns-clause-exact
returns-clause-exact c =
    let long = whole (goal.at.returns-clause-exact c).After-len-long in
    record {
      fits = omega (arith, c.if-long-bin-gt-MOST_BINS.false, long, c.from.ensures);
      place = omega (arith, long);
      bins = new (goal.at.returns-clause-exact c).In_ok-append_bin;
    }

pub returns-clause-hole : goal.returns-clause-hole
returns-clause-hole c =
    let place : c.len-long.result + 32 ≡ bins_size c.args.self.now + 32 =
    omega (arith, whole (goal.at.returns-clause-hole c).After-len-long) in
    let sound = subst IsHeap c.self.view_is
    (kept_seen c.self.inside.bytes.items c.self.inside.starts.items c.self.invariant).0 in
    rw (new (goal.at.returns-clause-hole c).In_ok-append_bin, place) (new_hole c.args.self.now c.args.size sound.each)

pub returns-clause-held : goal.returns-clause-held
returns-clause-held c o =
    ap (λ b. held_at b o) c.in_ok-append_bin.ensures.ok
    ∙ held_before c.args.self.now ((c.from.result + 4127) / 4096 * 4096) o 0

pub returns-clause-long : goal.returns-clause-long
returns-clause-long c =
    omega (arith, ap bins_size (new (goal.at.returns-clause-long c).In_ok-append_bin), new_long c.args.self.now c.args.size)

pub returns-clause-more : goal.returns-clause-more
returns-clause-more c =
    let n = (c.from.result + 4127) / 4096 * 4096 in
    omega (arith, ap bins_size c.in_ok-append_bin.ensures.ok, bins_size-append c.args.self.now (free_bin n ∷ []))
