use Rattle.std.proofs.Common.{◌≡◌, ◌+◌, ◌/◌, ℕ, List, length, refl, sym, ◌∙◌, ap, subst, arith, true, ◌∷◌, []}
use Rattle.hive_model.specs.Image.{put}
use Rattle.hive_model.specs.Recovery.{bit, rank, sector, first_dirty}
use Rattle.nt_edge.specs.Disk.{now_of}
use Rattle.nt_edge.specs.Calls.{Wrote, Makes, writes_of}
use Rattle.hive_log.proofs.Ranks.{rank_on, rank_below}
use Rattle.nt_edge.proofs.Leaving.{goes_then, goes_ok, on_ok}
use Rattle.hive_commit.specs.Stages.{in_log}
use Rattle.hive_model.specs.Asked.{log_at}
use Rattle.hive_commit.specs.Growing.{log_part, HasFront, HasRun}
use Rattle.hive_commit.proofs.Blank.{rank_passed}
use Rattle.hive_commit.proofs.Growth.{front_more, front_along}
use Rattle.hive_commit.proofs.WriteCalls.{log_more, log_stopped}
use Rattle.hive_commit.proofs.parts.write_log_run.Given.{Over}
use Rattle.hive_commit.proofs.parts.write_log_run.Goals as goal
use Rattle.hive_commit.proofs.parts.write_log_run.Goals.{After-put_sector}

-- one more sector of the log, whose bit is on, was written
module _ (g : Over) (c : After-put_sector g) where
  on : bit c.args.bitmap.now c.sectors.i ≡ true
  on = c.bits_off-off.ensures.on (omega (arith, c.if-off-gt0.false))

  module _ (log : List ℕ) (marked : HasRun log (bit c.args.bitmap.now) c.args.new.now) where
    copied : c.copy_sector.new.into
        ≡ sector log (first_dirty (length c.args.new.now) + rank (bit c.args.bitmap.now) c.sectors.i)
    copied = c.copy_sector.ensures ∙ sym (marked c.sectors.i (omega arith) on)

    made : Makes (g.D.Disk.calls c.args.disk.now) (g.D.Disk.calls c.put_sector.new.disk) (writes_of
        (log_part log (first_dirty (length c.args.new.now)) (rank (bit c.args.bitmap.now) c.sectors.i + 1)))
    made =
        let before = g.D.Disk.calls c.sectors.disk in
        let after = g.D.Disk.calls c.put_sector.new.disk in
        log_more log (first_dirty (length c.args.new.now)) (g.D.Disk.calls c.args.disk.now) before
        (rank (bit c.args.bitmap.now) c.sectors.i) (c.sectors.invariant.made log marked) after c.copy_sector.new.into copied
        (subst (λ n. Makes before after (Wrote (log_at n, c.copy_sector.new.into) ∷ []))
        c.sectors.invariant.place c.put_sector.ensures.made)

pub returns-in_err-put_sector-clause-made : goal.returns-in_err-put_sector-clause-made
returns-in_err-put_sector-clause-made g c = λ log marked.
    let way = (goal.at.returns-in_err-put_sector-clause-made g c).After-put_sector in
    let count = length c.args.new.now / 512 in
    log_stopped log (first_dirty (length c.args.new.now)) (g.D.Disk.calls c.args.disk.now)
    (g.D.Disk.calls c.put_sector.new.disk) _ (made g way log marked) c.from_residual.result _ c.from_residual.ensures.0
    (omega (arith, rank_below (bit c.args.bitmap.now) count c.sectors.i (omega arith) (on g way)))

pub returns-in_err-put_sector-clause-writing : goal.returns-in_err-put_sector-clause-writing
returns-in_err-put_sector-clause-writing g c =
    λ tells first so_far. c.put_sector.ensures.writing tells in_log first refl
    (c.sectors.invariant.writing tells first so_far)

pub sectors-preserved-then-off-gt0 : goal.sectors-preserved-then-off-gt0
sectors-preserved-then-off-gt0 g c =
    let same = rank_passed (bit c.args.bitmap.now) c.sectors.i c.bits_off-off.result c.bits_off-off.ensures.off in
    let first_one = first_dirty (length c.args.new.now) in
    record {
      on = c.sectors.invariant.on;
      within = c.bits_off-off.ensures.within;
      place = omega (arith, same, c.sectors.invariant.place);
      small = omega (arith, c.sectors.invariant.small);
      writing = c.sectors.invariant.writing;
      made = λ log marked. subst (λ n. Makes (g.D.Disk.calls c.args.disk.now) (g.D.Disk.calls c.sectors.disk)
          (writes_of (log_part log first_one n))) (sym same) (c.sectors.invariant.made log marked);
      front = λ tells log marked so_far. subst (λ n. HasFront (now_of (g.D.Disk.state c.sectors.disk)) log
          (first_one + n)) (sym same) (c.sectors.invariant.front tells log marked so_far);
      goes = c.sectors.invariant.goes;
    }

pub sectors-preserved : goal.sectors-preserved
sectors-preserved g c =
    let way = (goal.at.sectors-preserved g c).After-put_sector in
    let s = now_of (g.D.Disk.state c.sectors.disk) in
    let t = now_of (g.D.Disk.state c.put_sector.new.disk) in
    let bits = bit c.args.bitmap.now in
    let more = rank_on bits c.sectors.i (on g way) in
    let one = first_dirty (length c.args.new.now) in
    record {
      on = on_ok c.in_ok-put_sector.ensures.goes;
      within = omega (arith, c.sectors-test.true);
      place = omega (arith, more, c.sectors.invariant.place);
      small = omega arith;
      writing = λ tells first so_far. c.put_sector.ensures.writing tells in_log first refl
          (c.sectors.invariant.writing tells first so_far);
      made = λ log marked. subst (λ n. Makes (g.D.Disk.calls c.args.disk.now) (g.D.Disk.calls c.put_sector.new.disk)
          (writes_of (log_part log one n))) (sym more) (made g way log marked);
      front = λ tells log marked so_far.
          let next : one + rank bits c.sectors.i + 1 ≡ one + rank bits (c.sectors.i + 1) = omega (arith, more) in
          front_along t log (one + rank bits c.sectors.i + 1) (one + rank bits (c.sectors.i + 1)) next
          (front_more s t log c.copy_sector.new.into (one + rank bits c.sectors.i)
          (c.sectors.invariant.front tells log marked so_far) (copied g way log marked)
          (c.in_ok-put_sector.ensures.put tells
          ∙ ap (λ n. put s (log_at n, c.copy_sector.new.into)) c.sectors.invariant.place));
      goes = goes_then c.sectors.invariant.goes (goes_ok c.in_ok-put_sector.ensures.goes);
    }
