use Rattle.std.proofs.Common.{◌≡◌, true, length}
use Rattle.hive_model.specs.Image.{Primary}
use Rattle.hive_model.specs.Recovery.{bit}
use Rattle.nt_edge.specs.Calls.{writes_of}
use Rattle.nt_edge.specs.Crash.{EachCrash}
use Rattle.hive_commit.proofs.CallLemmas.{stopped, front_as, made_as}
use Rattle.hive_commit.proofs.Four.{held_left}
use Rattle.hive_commit.proofs.StageCalls.{in_closing_bins, in_closing_block, closing_made}
use Rattle.hive_alt.specs.Calls.{copy_writes, copy_block_calls}
use Rattle.hive_alt.specs.Schemes.{IsKeptAs}
use Rattle.hive_alt.specs.Twin.{twin_of}
use Rattle.hive_alt.proofs.PairCalls.{mend_first_is}
use Rattle.hive_alt.proofs.PairLemmas.{IsReady, bins_mending, bins_mended, block_mending, first_mended}
use Rattle.hive_alt.proofs.TwinLemmas.{whole_of}
use Rattle.hive_alt.proofs.mending.mend_first.Given.{Over}
use Rattle.hive_alt.proofs.mending.mend_first.Goals as goal
use Rattle.hive_alt.proofs.mending.mend_first.Goals.{In_ok-write_copy_bins, After-write_copy_block}

-- the primary has the bins data, and can be closed
ready : (g : Over) (c : In_ok-write_copy_bins g) → g.D.Disk.tells ≡ true
    → IsReady c.args.base.now c.args.bins.now (g.D.Disk.state c.write_copy_bins.new.disk).held
ready g c tells =
    let s = g.D.Disk.state c.write_copy_bins.new.disk in
    bins_mended (g.D.Disk.state c.args.disk.now).held c.args.base.now c.args.bins.now (bit c.mark_all.new.into)
    (c.requires.behind tells) (c.requires.second tells) (whole_of (length c.args.bins.now) c.requires.sized) s.held
    (c.write_copy_bins.ensures.crash tells s.held (held_left s)) c.numbers_fit.ensures c.texts_fit.ensures
    c.mark_all.ensures (c.in_ok-write_copy_bins.ensures.written tells)

-- a cut while it is closed, or after that
cut : (g : Over) (c : After-write_copy_block g) → g.D.Disk.tells ≡ true
    → EachCrash (g.D.Disk.state c.write_copy_block.new.disk) (IsKeptAs twin_of c.args.base.now c.args.bins.now)
cut g c tells image left =
    block_mending (ready g (goal.at.After-write_copy_block g c).In_ok-write_copy_bins tells) image
    (c.write_copy_block.ensures.crash tells image left) (c.write_copy_block.ensures.block tells image left)

pub returns-in_err-write_copy_bins-clause-made : goal.returns-in_err-write_copy_bins-clause-made
returns-in_err-write_copy_bins-clause-made g c =
    stopped _ _ _ _ c.from_residual.ensures.0
    (front_as _ _ _ _ (mend_first_is c.args.base.now c.args.bins.now c.mark_all.new.into c.mark_all.ensures)
    (in_closing_bins (writes_of (copy_writes Primary (bit c.mark_all.new.into) c.args.bins.now))
    (copy_block_calls Primary c.args.base.now) _ _ c.in_err-write_copy_bins.ensures.made))

pub returns-in_err-write_copy_block-clause-made : goal.returns-in_err-write_copy_block-clause-made
returns-in_err-write_copy_block-clause-made g c =
    let one = g.D.Disk.calls c.write_copy_bins.new.disk in
    stopped _ _ _ _ c.from_residual-in_err-write_copy_block.ensures.0
    (front_as _ _ _ _ (mend_first_is c.args.base.now c.args.bins.now c.mark_all.new.into c.mark_all.ensures)
    (in_closing_block (writes_of (copy_writes Primary (bit c.mark_all.new.into) c.args.bins.now))
    (copy_block_calls Primary c.args.base.now) _ one _ c.in_ok-write_copy_bins.ensures.made
    c.in_err-write_copy_block.ensures.made))

pub returns-clause-made : goal.returns-clause-made
returns-clause-made g c =
    let start = g.D.Disk.calls c.args.disk.now in
    let last = g.D.Disk.calls c.write_copy_block.new.disk in
    made_as start last _ _ (mend_first_is c.args.base.now c.args.bins.now c.mark_all.new.into c.mark_all.ensures)
    (closing_made (writes_of (copy_writes Primary (bit c.mark_all.new.into) c.args.bins.now))
    (copy_block_calls Primary c.args.base.now) start (g.D.Disk.calls c.write_copy_bins.new.disk) last
    c.in_ok-write_copy_bins.ensures.made c.in_ok-write_copy_block.ensures.made)

pub returns-in_err-write_copy_bins-clause-crash : goal.returns-in_err-write_copy_bins-clause-crash
returns-in_err-write_copy_bins-clause-crash g c = λ tells image left.
    bins_mending (g.D.Disk.state c.args.disk.now).held c.args.base.now c.args.bins.now (bit c.mark_all.new.into)
    (c.requires.behind tells) (c.requires.second tells) (whole_of (length c.args.bins.now) c.requires.sized) image
    (c.write_copy_bins.ensures.crash tells image left)

pub returns-in_err-write_copy_block-clause-crash : goal.returns-in_err-write_copy_block-clause-crash
returns-in_err-write_copy_block-clause-crash g c =
    cut g (goal.at.returns-in_err-write_copy_block-clause-crash g c).After-write_copy_block

pub returns-clause-crash : goal.returns-clause-crash
returns-clause-crash g c = cut g (goal.at.returns-clause-crash g c).After-write_copy_block

pub returns-clause-pair : goal.returns-clause-pair
returns-clause-pair g c = λ tells.
    let s = g.D.Disk.state c.write_copy_block.new.disk in
    first_mended (ready g (goal.at.returns-clause-pair g c).In_ok-write_copy_bins tells) s.held
    (c.write_copy_block.ensures.crash tells s.held (held_left s)) (c.in_ok-write_copy_block.ensures.written tells)
