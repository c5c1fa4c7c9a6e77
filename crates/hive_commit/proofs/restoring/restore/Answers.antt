use Rattle.std.proofs.Common.{◌≡◌, true, refl, rules, ◌∙◌, length, List}
use Rattle.hive_model.specs.Asked.{log_at}
use Rattle.hive_model.specs.Recovery.{bit}
use Rattle.nt_edge.specs.Calls.{Made, writes_of}
use Rattle.nt_edge.specs.Crash.{EachCrash, AgreeOutside}
use Rattle.hive_commit.specs.Cuts.{IsCutOfRestoring}
use Rattle.hive_commit.specs.Calls.{bins_writes, block_calls}
use Rattle.hive_commit.specs.Stages.{is_marked}
use Rattle.hive_commit.proofs.CallLemmas.{stopped}
use Rattle.hive_commit.proofs.StageCalls.{in_closing_bins, in_closing_block, closing_made}
use Rattle.hive_commit.proofs.Four.{held_left}
use Rattle.hive_commit.proofs.Restored.{kept_in_bins, kept_in_block, closed_again}
use Rattle.hive_commit.proofs.Rest.{rest_base, rest_marked, rest_then}
use Rattle.hive_commit.proofs.restoring.restore.Given.{Over}
use Rattle.hive_commit.proofs.restoring.restore.Goals as goal
use Rattle.hive_commit.proofs.restoring.restore.Goals.{Start, After-write_bins, After-write_block}

abbrev bins_calls : (g : Over) → Start g → List Made
bins_calls g c = writes_of (bins_writes (bit c.args.bitmap.now) c.args.bins.now)

-- the bins sectors alone were written
bins_agree : (g : Over) (c : After-write_bins g) → g.D.Disk.tells ≡ true
    → AgreeOutside (is_marked (length c.args.bins.now) (bit c.args.bitmap.now))
    (g.D.Disk.state c.args.disk.now).held (g.D.Disk.state c.write_bins.new.disk).held
bins_agree g c tells =
    let s = g.D.Disk.state c.write_bins.new.disk in c.write_bins.ensures.crash tells s.held (held_left s)

-- a cut while the base block is written, or after it
cut_in_block : (g : Over) (c : After-write_block g) → g.D.Disk.tells ≡ true
    → EachCrash (g.D.Disk.state c.write_block.new.disk)
    (IsCutOfRestoring (g.D.Disk.state c.args.disk.now).held c.args.closed.now c.args.bins.now)
cut_in_block g c tells left crash =
    let size = length c.args.bins.now in
    let h0 = (g.D.Disk.state c.args.disk.now).held in
    let h1 = (g.D.Disk.state c.write_bins.new.disk).held in
    let agree = bins_agree g (goal.at.After-write_block g c).After-write_bins tells in
    let block = c.write_block.ensures.crash tells left crash in
    record {
      recovered = kept_in_block h0 c.args.closed.now c.args.bitmap.now c.args.bins.now (c.requires.found.found tells)
          c.numbers_fit.ensures c.texts_fit.ensures c.requires.whole h1 agree (c.in_ok-write_bins.ensures.written tells)
          left block (c.write_block.ensures.block tells left crash);
      log = λ n. block (log_at n) refl ∙ agree (log_at n) refl;
      rest = rest_then size h0 h1 left (rest_marked size h0 h1 (bit c.args.bitmap.now) agree) (rest_base size h1 left block);
    }

pub returns-in_err-write_bins-clause-made : goal.returns-in_err-write_bins-clause-made
returns-in_err-write_bins-clause-made g c =
    let one = g.D.Disk.calls c.write_bins.new.disk in
    stopped _ one _ _ c.from_residual.ensures.0
    (in_closing_bins (bins_calls g (goal.at.returns-in_err-write_bins-clause-made g c).Start)
    (block_calls c.args.closed.now) (g.D.Disk.calls c.args.disk.now) one c.in_err-write_bins.ensures.made)

pub returns-in_err-write_block-clause-made : goal.returns-in_err-write_block-clause-made
returns-in_err-write_block-clause-made g c =
    let two = g.D.Disk.calls c.write_block.new.disk in
    stopped _ two _ _ c.from_residual-in_err-write_block.ensures.0
    (in_closing_block (bins_calls g (goal.at.returns-in_err-write_block-clause-made g c).Start)
    (block_calls c.args.closed.now) (g.D.Disk.calls c.args.disk.now) (g.D.Disk.calls c.write_bins.new.disk) two
    c.in_ok-write_bins.ensures.made c.in_err-write_block.ensures.made)

pub returns-clause-made : goal.returns-clause-made
returns-clause-made g c =
    closing_made (bins_calls g (goal.at.returns-clause-made g c).Start) (block_calls c.args.closed.now)
    (g.D.Disk.calls c.args.disk.now) (g.D.Disk.calls c.write_bins.new.disk) (g.D.Disk.calls c.write_block.new.disk)
    c.in_ok-write_bins.ensures.made c.in_ok-write_block.ensures.made

pub returns-in_err-write_bins-clause-cut : goal.returns-in_err-write_bins-clause-cut
returns-in_err-write_bins-clause-cut g c = λ tells left crash.
    let held = (g.D.Disk.state c.args.disk.now).held in
    let agree = c.write_bins.ensures.crash tells left crash in
    record {
      recovered = kept_in_bins held c.args.closed.now c.args.bitmap.now c.args.bins.now (c.requires.found.found tells)
          c.numbers_fit.ensures c.texts_fit.ensures c.requires.whole left agree;
      log = λ n. agree (log_at n) refl;
      rest = rest_marked (length c.args.bins.now) held left (bit c.args.bitmap.now) agree;
    }

pub returns-in_err-write_block-clause-cut : goal.returns-in_err-write_block-clause-cut
returns-in_err-write_block-clause-cut g c =
    cut_in_block g (goal.at.returns-in_err-write_block-clause-cut g c).After-write_block

pub returns-clause-cut : goal.returns-clause-cut
returns-clause-cut g c = cut_in_block g (goal.at.returns-clause-cut g c).After-write_block

pub returns-clause-clean : goal.returns-clause-clean
returns-clause-clean g c =
    let t = g.D.Disk.state c.write_block.new.disk in
    record {
      on = search rules;
      still = search rules;
      carries = λ tells. closed_again (g.D.Disk.state c.args.disk.now).held c.args.closed.now c.args.bitmap.now
          c.args.bins.now (c.requires.found.found tells) c.numbers_fit.ensures c.texts_fit.ensures c.requires.whole
          (g.D.Disk.state c.write_bins.new.disk).held
          (bins_agree g (goal.at.returns-clause-clean g c).After-write_bins tells)
          (c.in_ok-write_bins.ensures.written tells) t.held (c.write_block.ensures.crash tells t.held (held_left t))
          (c.in_ok-write_block.ensures.written tells);
    }
