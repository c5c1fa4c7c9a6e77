use Rattle.std.proofs.Common.{◌≡◌, ◌<◌, ◌+◌, refl, sym, ◌∙◌, arith}
use Rattle.hive_model.specs.Recovery.{bitmap_sectors}
use Rattle.nt_edge.specs.Disk.{now_of}
use Rattle.nt_edge.proofs.Leaving.{goes_then, goes_ok, on_ok}
use Rattle.hive_commit.specs.Stages.{in_log}
use Rattle.hive_commit.proofs.Growth.{front_more, front_along}
use Rattle.hive_commit.proofs.WriteCalls.{log_more, log_stopped}
use Rattle.hive_commit.proofs.parts.write_log_bitmap.Goals as goal

pub returns-in_err-put_sector-clause-made : goal.returns-in_err-put_sector-clause-made
returns-in_err-put_sector-clause-made g c = λ log bits.
    let first = g.D.Disk.calls c.args.disk.now in
    let after = g.D.Disk.calls c.put_sector.new.disk in
    let small : c.loop-k.k < bitmap_sectors c.args.size =
    omega (arith, c.loop-k-test.true, c.bitmap_sectors-k-end.ensures) in
    let more = log_more log 1 first (g.D.Disk.calls c.loop-k.disk) c.loop-k.k (c.loop-k.invariant.made log bits)
    after c.bitmap_sector.new.into (c.bitmap_sector.ensures ∙ sym (bits c.loop-k.k small))
    c.put_sector.ensures.made in
    log_stopped log 1 first after (c.loop-k.k + 1) more c.from_residual.result (bitmap_sectors c.args.size)
    c.from_residual.ensures.0 (omega arith)

pub returns-in_err-put_sector-clause-writing : goal.returns-in_err-put_sector-clause-writing
returns-in_err-put_sector-clause-writing g c =
    λ tells first so_far. c.put_sector.ensures.writing tells in_log first refl
    (c.loop-k.invariant.writing tells first so_far)

pub loop-k-preserved : goal.loop-k-preserved
loop-k-preserved g c =
    let s = g.D.Disk.state c.loop-k.disk in
    let t = g.D.Disk.state c.put_sector.new.disk in
    record {
      on = on_ok c.in_ok-put_sector.ensures.goes;
      writing = λ tells first so_far. c.put_sector.ensures.writing tells in_log first refl
          (c.loop-k.invariant.writing tells first so_far);
      made = λ log bits.
          log_more log 1 (g.D.Disk.calls c.args.disk.now) (g.D.Disk.calls c.loop-k.disk) c.loop-k.k
          (c.loop-k.invariant.made log bits) (g.D.Disk.calls c.put_sector.new.disk) c.bitmap_sector.new.into
          (c.bitmap_sector.ensures ∙ sym
          (bits c.loop-k.k (omega (arith, c.loop-k-test.true, c.bitmap_sectors-k-end.ensures))))
          c.put_sector.ensures.made;
      front = λ tells log bits so_far.
          let next : 1 + c.loop-k.k + 1 ≡ 1 + (c.loop-k.k + 1) = omega arith in
          front_along (now_of t) log (1 + c.loop-k.k + 1) (1 + (c.loop-k.k + 1)) next
          (front_more (now_of s) (now_of t) log c.bitmap_sector.new.into (1 + c.loop-k.k)
          (c.loop-k.invariant.front tells log bits so_far)
          (c.bitmap_sector.ensures ∙ sym
          (bits c.loop-k.k (omega (arith, c.loop-k-test.true, c.bitmap_sectors-k-end.ensures))))
          (c.in_ok-put_sector.ensures.put tells));
      goes = goes_then c.loop-k.invariant.goes (goes_ok c.in_ok-put_sector.ensures.goes);
    }
