use Rattle.std.proofs.Common.{◌≡◌, true, length}
use Rattle.nt_edge.specs.Crash.{EachCrash}
use Rattle.hive_commit.proofs.CallLemmas.{stopped, front_as, made_as}
use Rattle.hive_commit.proofs.Four.{held_left}
use Rattle.hive_alt.specs.Schemes.{IsKeptAs}
use Rattle.hive_alt.specs.Twin.{twin_of}
use Rattle.hive_alt.proofs.PairCalls.{mend_second_is}
use Rattle.hive_alt.proofs.PairLemmas.{second_cut, second_mended}
use Rattle.hive_alt.proofs.TwinLemmas.{whole_of}
use Rattle.hive_alt.proofs.mending.mend_second.Given.{Over}
use Rattle.hive_alt.proofs.mending.mend_second.Goals as goal
use Rattle.hive_alt.proofs.mending.mend_second.Goals.{After-rewrite}

-- whatever a cut leaves, the primary stands
cut : (g : Over) (c : After-rewrite g) → g.D.Disk.tells ≡ true
    → EachCrash (g.D.Disk.state c.rewrite.new.disk) (IsKeptAs twin_of c.args.base.now c.args.bins.now)
cut g c tells image left =
    second_cut (g.D.Disk.state c.args.disk.now).held image c.args.base.now c.args.bins.now (c.requires.first tells)
    (whole_of (length c.args.bins.now) c.requires.sized) (c.rewrite.ensures.other tells image left)

pub rewrite-requires-clause-stays : goal.rewrite-requires-clause-stays
rewrite-requires-clause-stays g c = λ tells i small off.
    let on = c.mark_all.ensures i small in absurd (cc)

pub returns-in_err-rewrite-clause-made : goal.returns-in_err-rewrite-clause-made
returns-in_err-rewrite-clause-made g c =
    stopped _ _ _ _ c.from_residual.ensures.0
    (front_as _ _ _ _ (mend_second_is c.args.base.now c.args.bins.now c.mark_all.new.into c.mark_all.ensures
    c.unfinished_block-opened.result c.unfinished_block-opened.ensures) c.in_err-rewrite.ensures.made)

pub returns-clause-made : goal.returns-clause-made
returns-clause-made g c =
    made_as (g.D.Disk.calls c.args.disk.now) (g.D.Disk.calls c.rewrite.new.disk) _ _
    (mend_second_is c.args.base.now c.args.bins.now c.mark_all.new.into c.mark_all.ensures
    c.unfinished_block-opened.result c.unfinished_block-opened.ensures) c.in_ok-rewrite.ensures.made

pub returns-in_err-rewrite-clause-crash : goal.returns-in_err-rewrite-clause-crash
returns-in_err-rewrite-clause-crash g c = cut g (goal.at.returns-in_err-rewrite-clause-crash g c).After-rewrite

pub returns-clause-crash : goal.returns-clause-crash
returns-clause-crash g c = cut g (goal.at.returns-clause-crash g c).After-rewrite

pub returns-clause-pair : goal.returns-clause-pair
returns-clause-pair g c = λ tells.
    let s1 = g.D.Disk.state c.rewrite.new.disk in
    second_mended (g.D.Disk.state c.args.disk.now).held s1.held c.args.base.now c.args.bins.now (c.requires.first tells)
    c.numbers_fit.ensures c.texts_fit.ensures
    (c.rewrite.ensures.other tells s1.held (held_left s1)) (c.in_ok-rewrite.ensures.written tells)
