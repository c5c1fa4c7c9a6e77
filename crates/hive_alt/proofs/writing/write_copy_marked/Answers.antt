use Rattle.std.proofs.Common.{◌≡◌, ◌+◌, ◌/◌, true, false, arith, rules, length}
use Rattle.hive_model.specs.Recovery.{bit}
use Rattle.nt_edge.specs.Book.{file_of}
use Rattle.nt_edge.specs.Calls.{Makes, writes_of}
use Rattle.nt_edge.specs.Crash.{Writing}
use Rattle.nt_edge.specs.Disk.{DiskState, now_of}
use Rattle.nt_edge.proofs.Leaving.{goes_then, goes_ok, on_ok}
use Rattle.hive_commit.proofs.Growth.{marked_skip}
use Rattle.hive_alt.specs.Calls.{copy_below}
use Rattle.hive_alt.specs.Copies.{copy_in, is_bin}
use Rattle.hive_alt.proofs.CopyCalls.{bin_made, bin_passed, bins_stopped}
use Rattle.hive_alt.proofs.CopyLemmas.{marked_at, marked_more}
use Rattle.hive_alt.proofs.writing.write_copy_marked.Given.{Over}
use Rattle.hive_alt.proofs.writing.write_copy_marked.Goals as goal
use Rattle.hive_alt.proofs.writing.write_copy_marked.Goals.{After-put_sector}

-- one more sector, whose bit is on, was written
module _ (g : Over) (c : After-put_sector g) where
  made : Makes (g.D.Disk.calls c.args.disk.now) (g.D.Disk.calls c.put_sector.new.disk)
      (writes_of (copy_below (file_of c.args.file) (bit c.args.bitmap.now) c.args.new.now (c.loop-i.i + 1)))
  made = bin_made (file_of c.args.file) (bit c.args.bitmap.now) c.args.new.now (g.D.Disk.calls c.args.disk.now)
      (g.D.Disk.calls c.loop-i.disk) c.loop-i.i c.loop-i.invariant.made (g.D.Disk.calls c.put_sector.new.disk)
      c.copy_sector.new.into (search rules) c.copy_sector.ensures c.put_sector.ensures.made

  writing : g.D.Disk.tells ≡ true → (first : DiskState)
      → Writing (is_bin (file_of c.args.file) (length c.args.new.now) (bit c.args.bitmap.now)) first
      (g.D.Disk.state c.args.disk.now)
      → Writing (is_bin (file_of c.args.file) (length c.args.new.now) (bit c.args.bitmap.now)) first
      (g.D.Disk.state c.put_sector.new.disk)
  writing tells first so_far =
      c.put_sector.ensures.writing tells _ first
      (marked_at (file_of c.args.file) (length c.args.new.now) (bit c.args.bitmap.now) c.loop-i.i (omega arith)
      (search rules)) (c.loop-i.invariant.writing tells first so_far)

pub loop-i-preserved-then-not-has_bit : goal.loop-i-preserved-then-not-has_bit
loop-i-preserved-then-not-has_bit g c =
    let bits = bit c.args.bitmap.now in
    let off : bits c.loop-i.i ≡ false = search rules in
    record {
      on = c.loop-i.invariant.on;
      writing = c.loop-i.invariant.writing;
      made = bin_passed (file_of c.args.file) bits c.args.new.now (g.D.Disk.calls c.args.disk.now)
          (g.D.Disk.calls c.loop-i.disk) c.loop-i.i c.loop-i.invariant.made off;
      written = λ tells. marked_skip (copy_in (file_of c.args.file) (now_of (g.D.Disk.state c.loop-i.disk)))
          bits c.args.new.now c.loop-i.i (c.loop-i.invariant.written tells) off;
      goes = c.loop-i.invariant.goes;
    }

pub returns-in_err-put_sector-clause-made : goal.returns-in_err-put_sector-clause-made
returns-in_err-put_sector-clause-made g c =
    bins_stopped (file_of c.args.file) (bit c.args.bitmap.now) c.args.new.now (g.D.Disk.calls c.args.disk.now)
    (g.D.Disk.calls c.put_sector.new.disk) (c.loop-i.i + 1)
    (made g (goal.at.returns-in_err-put_sector-clause-made g c).After-put_sector) c.from_residual.result
    (length c.args.new.now / 512) c.from_residual.ensures.0 (omega arith)

pub returns-in_err-put_sector-clause-writing : goal.returns-in_err-put_sector-clause-writing
returns-in_err-put_sector-clause-writing g c =
    writing g (goal.at.returns-in_err-put_sector-clause-writing g c).After-put_sector

pub loop-i-preserved : goal.loop-i-preserved
loop-i-preserved g c =
    let way = (goal.at.loop-i-preserved g c).After-put_sector in
    record {
      on = on_ok c.in_ok-put_sector.ensures.goes;
      writing = writing g way;
      made = made g way;
      written = λ tells. marked_more (file_of c.args.file) (now_of (g.D.Disk.state c.loop-i.disk))
          (now_of (g.D.Disk.state c.put_sector.new.disk)) (bit c.args.bitmap.now) c.args.new.now
          c.copy_sector.new.into c.loop-i.i (c.loop-i.invariant.written tells) c.copy_sector.ensures
          (c.in_ok-put_sector.ensures.put tells);
      goes = goes_then c.loop-i.invariant.goes (goes_ok c.in_ok-put_sector.ensures.goes);
    }
