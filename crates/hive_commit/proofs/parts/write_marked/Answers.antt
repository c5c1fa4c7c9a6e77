use Rattle.std.proofs.Common.{◌≡◌, ◌+◌, true, arith, length}
use Rattle.hive_model.specs.Recovery.{bit}
use Rattle.nt_edge.specs.Calls.{Makes, writes_of}
use Rattle.nt_edge.specs.Crash.{Writing}
use Rattle.nt_edge.specs.Disk.{DiskState, now_of}
use Rattle.nt_edge.proofs.Leaving.{goes_then, goes_ok, on_ok}
use Rattle.hive_commit.specs.Growing.{marked_below}
use Rattle.hive_commit.specs.Stages.{is_marked}
use Rattle.hive_commit.proofs.Growth.{marked_more, marked_passed, marked_at}
use Rattle.hive_commit.proofs.WriteCalls.{marked_stopped}
use Rattle.hive_commit.proofs.WriteCalls as calls
use Rattle.hive_commit.proofs.parts.write_marked.Given.{Over}
use Rattle.hive_commit.proofs.parts.write_marked.Goals as goal
use Rattle.hive_commit.proofs.parts.write_marked.Goals.{After-put_sector}

-- one more sector, whose bit is on, was written
module _ (g : Over) (c : After-put_sector g) where
  on : bit c.args.bitmap.now c.sectors.i ≡ true
  on = c.bits_off-off.ensures.on (omega (arith, c.if-off-gt0.false))

  made : Makes (g.D.Disk.calls c.args.disk.now) (g.D.Disk.calls c.put_sector.new.disk)
      (writes_of (marked_below (bit c.args.bitmap.now) c.args.new.now (c.sectors.i + 1)))
  made = calls.marked_more (bit c.args.bitmap.now) c.args.new.now (g.D.Disk.calls c.args.disk.now)
      (g.D.Disk.calls c.sectors.disk) c.sectors.i c.sectors.invariant.made (g.D.Disk.calls c.put_sector.new.disk)
      c.copy_sector.new.into on c.copy_sector.ensures c.put_sector.ensures.made

  writing : g.D.Disk.tells ≡ true → (first : DiskState)
      → Writing (is_marked (length c.args.new.now) (bit c.args.bitmap.now)) first (g.D.Disk.state c.args.disk.now)
      → Writing (is_marked (length c.args.new.now) (bit c.args.bitmap.now)) first (g.D.Disk.state c.put_sector.new.disk)
  writing tells first so_far =
      c.put_sector.ensures.writing tells (is_marked (length c.args.new.now) (bit c.args.bitmap.now)) first
      (marked_at (length c.args.new.now) (bit c.args.bitmap.now) c.sectors.i (omega arith) on)
      (c.sectors.invariant.writing tells first so_far)

pub returns-in_err-put_sector-clause-made : goal.returns-in_err-put_sector-clause-made
returns-in_err-put_sector-clause-made g c =
    marked_stopped (bit c.args.bitmap.now) c.args.new.now (g.D.Disk.calls c.args.disk.now)
    (g.D.Disk.calls c.put_sector.new.disk) (c.sectors.i + 1)
    (made g (goal.at.returns-in_err-put_sector-clause-made g c).After-put_sector) c.from_residual.result _
    c.from_residual.ensures.0 (omega arith)

pub sectors-preserved-then-off-gt0 : goal.sectors-preserved-then-off-gt0
sectors-preserved-then-off-gt0 g c =
    let bits = bit c.args.bitmap.now in
    let n = c.bits_off-off.result in
    record {
      on = c.sectors.invariant.on;
      within = c.bits_off-off.ensures.within;
      writing = c.sectors.invariant.writing;
      made = calls.marked_passed bits c.args.new.now (g.D.Disk.calls c.args.disk.now)
          (g.D.Disk.calls c.sectors.disk) c.sectors.i c.sectors.invariant.made n c.bits_off-off.ensures.off;
      written = λ tells. marked_passed (now_of (g.D.Disk.state c.sectors.disk)) bits c.args.new.now c.sectors.i n
          (c.sectors.invariant.written tells) c.bits_off-off.ensures.off;
      goes = c.sectors.invariant.goes;
    }

pub returns-in_err-put_sector-clause-writing : goal.returns-in_err-put_sector-clause-writing
returns-in_err-put_sector-clause-writing g c =
    writing g (goal.at.returns-in_err-put_sector-clause-writing g c).After-put_sector

pub sectors-preserved : goal.sectors-preserved
sectors-preserved g c =
    let way = (goal.at.sectors-preserved g c).After-put_sector in
    record {
      on = on_ok c.in_ok-put_sector.ensures.goes;
      within = omega (arith, c.sectors-test.true);
      writing = writing g way;
      made = made g way;
      written = λ tells. marked_more (now_of (g.D.Disk.state c.sectors.disk)) (now_of (g.D.Disk.state c.put_sector.new.disk))
          (bit c.args.bitmap.now) c.args.new.now c.copy_sector.new.into c.sectors.i (c.sectors.invariant.written tells)
          c.copy_sector.ensures (c.in_ok-put_sector.ensures.put tells);
      goes = goes_then c.sectors.invariant.goes (goes_ok c.in_ok-put_sector.ensures.goes);
    }
