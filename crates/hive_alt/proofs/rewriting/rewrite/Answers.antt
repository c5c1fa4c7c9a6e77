use Rattle.std.proofs.Common.{◌≡◌, true}
use Rattle.hive_model.specs.Recovery.{bit}
use Rattle.nt_edge.specs.Book.{file_of}
use Rattle.nt_edge.specs.Calls.{writes_of}
use Rattle.hive_commit.proofs.CallLemmas.{stopped, front_longer, front_then}
use Rattle.hive_commit.proofs.Four.{held_left}
use Rattle.hive_commit.proofs.StageCalls.{in_closing_bins}
use Rattle.hive_alt.specs.Calls.{copy_writes, copy_block_calls, copy_closing_calls}
use Rattle.hive_alt.proofs.CopyCalls.{rewritten}
use Rattle.hive_alt.proofs.CopyLemmas.{IsOpen, IsFilled, outside_block, opened_cut, bins_cut, bins_other, all_filled, closed_cut, closed_other, closed_ok}
use Rattle.hive_alt.proofs.rewriting.rewrite.Given.{Over}
use Rattle.hive_alt.proofs.rewriting.rewrite.Goals as goal
use Rattle.hive_alt.proofs.rewriting.rewrite.Goals.{In_ok-write_copy_block, In_ok-write_copy_bins}

-- the copy is open, and all else is as it was
opened : (g : Over) (c : In_ok-write_copy_block g) → g.D.Disk.tells ≡ true
    → IsOpen (file_of c.args.file) (g.D.Disk.state c.args.disk.now).held c.args.opened.now
    (g.D.Disk.state c.write_copy_block.new.disk).held
opened g c tells =
    let s = g.D.Disk.state c.write_copy_block.new.disk in
    record {
      agree = c.write_copy_block.ensures.crash tells s.held (held_left s);
      block = c.in_ok-write_copy_block.ensures.written tells;
    }

-- and has the new bins data
filled : (g : Over) (c : In_ok-write_copy_bins g) → g.D.Disk.tells ≡ true
    → IsFilled (file_of c.args.file) (g.D.Disk.state c.args.disk.now).held c.args.opened.now c.args.new.now
    (g.D.Disk.state c.write_copy_bins.new.disk).held
filled g c tells =
    let s = g.D.Disk.state c.write_copy_bins.new.disk in
    all_filled (opened g (goal.at.In_ok-write_copy_bins g c).In_ok-write_copy_block tells) (bit c.args.bitmap.now)
    c.args.new.now s.held (c.write_copy_bins.ensures.crash tells s.held (held_left s)) (c.requires.stays tells)
    (c.in_ok-write_copy_bins.ensures.written tells)

pub returns-in_err-write_copy_block-clause-made : goal.returns-in_err-write_copy_block-clause-made
returns-in_err-write_copy_block-clause-made g c =
    stopped _ _ _ _ c.from_residual.ensures.0
    (front_longer _ _ (copy_block_calls (file_of c.args.file) c.args.opened.now)
    (copy_closing_calls (file_of c.args.file) c.args.closed.now (bit c.args.bitmap.now) c.args.new.now)
    c.in_err-write_copy_block.ensures.made)

pub returns-in_err-write_copy_bins-clause-made : goal.returns-in_err-write_copy_bins-clause-made
returns-in_err-write_copy_bins-clause-made g c =
    stopped _ _ _ _ c.from_residual-in_err-write_copy_bins.ensures.0
    (front_then _ (g.D.Disk.calls c.write_copy_block.new.disk) _
    (copy_block_calls (file_of c.args.file) c.args.opened.now) _ c.in_ok-write_copy_block.ensures.made
    (in_closing_bins (writes_of (copy_writes (file_of c.args.file) (bit c.args.bitmap.now) c.args.new.now))
    (copy_block_calls (file_of c.args.file) c.args.closed.now) _ _ c.in_err-write_copy_bins.ensures.made))

pub returns-clause-made : goal.returns-clause-made
returns-clause-made g c =
    rewritten (copy_block_calls (file_of c.args.file) c.args.opened.now)
    (writes_of (copy_writes (file_of c.args.file) (bit c.args.bitmap.now) c.args.new.now))
    (copy_block_calls (file_of c.args.file) c.args.closed.now) _ (g.D.Disk.calls c.write_copy_block.new.disk)
    (g.D.Disk.calls c.write_copy_bins.new.disk) (g.D.Disk.calls c.write_copy_block-2.new.disk) _
    c.in_ok-write_copy_block.ensures.made c.in_ok-write_copy_bins.ensures.made c.write_copy_block-2.ensures.made

pub returns-in_err-write_copy_block-clause-other : goal.returns-in_err-write_copy_block-clause-other
returns-in_err-write_copy_block-clause-other g c = λ tells image left.
    outside_block (file_of c.args.file) (g.D.Disk.state c.args.disk.now).held image
    (c.write_copy_block.ensures.crash tells image left)

pub returns-in_err-write_copy_block-clause-crash : goal.returns-in_err-write_copy_block-clause-crash
returns-in_err-write_copy_block-clause-crash g c = λ tells image left.
    opened_cut (file_of c.args.file) (g.D.Disk.state c.args.disk.now).held c.args.opened.now c.args.closed.now
    c.args.new.now image (c.write_copy_block.ensures.crash tells image left)
    (c.write_copy_block.ensures.block tells image left)

pub returns-in_err-write_copy_bins-clause-other : goal.returns-in_err-write_copy_bins-clause-other
returns-in_err-write_copy_bins-clause-other g c = λ tells image left.
    bins_other (opened g (goal.at.returns-in_err-write_copy_bins-clause-other g c).In_ok-write_copy_block tells)
    (bit c.args.bitmap.now) c.args.new.now image (c.write_copy_bins.ensures.crash tells image left)

pub returns-in_err-write_copy_bins-clause-crash : goal.returns-in_err-write_copy_bins-clause-crash
returns-in_err-write_copy_bins-clause-crash g c = λ tells image left.
    bins_cut (opened g (goal.at.returns-in_err-write_copy_bins-clause-crash g c).In_ok-write_copy_block tells)
    (bit c.args.bitmap.now) c.args.new.now image (c.write_copy_bins.ensures.crash tells image left) c.args.closed.now

pub returns-clause-other : goal.returns-clause-other
returns-clause-other g c = λ tells image left.
    closed_other (filled g (goal.at.returns-clause-other g c).In_ok-write_copy_bins tells) image
    (c.write_copy_block-2.ensures.crash tells image left)

pub returns-clause-crash : goal.returns-clause-crash
returns-clause-crash g c = λ tells image left.
    closed_cut (filled g (goal.at.returns-clause-crash g c).In_ok-write_copy_bins tells) image
    (c.write_copy_block-2.ensures.crash tells image left) c.args.closed.now
    (c.write_copy_block-2.ensures.block tells image left)

pub returns-clause-written : goal.returns-clause-written
returns-clause-written g c = λ tells.
    let s = g.D.Disk.state c.write_copy_block-2.new.disk in
    closed_ok (filled g (goal.at.returns-clause-written g c).In_ok-write_copy_bins tells) s.held
    (c.write_copy_block-2.ensures.crash tells s.held (held_left s)) c.args.closed.now c.write_copy_block-2.result
    (c.write_copy_block-2.ensures.written tells)
