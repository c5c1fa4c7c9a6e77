use Rattle.std.proofs.Common.{◌≡◌, true, List, rules, inl}
use Rattle.hive_model.specs.Image.{File, Primary, Log}
use Rattle.hive_model.specs.Log.{dirty}
use Rattle.hive_model.specs.Recovery.{bit}
use Rattle.nt_edge.specs.Calls.{Made, Makes}
use Rattle.nt_edge.specs.Crash.{EachCrash, AgreeOutside}
use Rattle.hive_commit.specs.Stages.{opened_of, closed_of}
use Rattle.hive_commit.proofs.CallLemmas.{stopped, front_longer, front_as, front_then, made_as, made_then}
use Rattle.hive_commit.proofs.Four.{IsAsked, asked, held_left}
use Rattle.hive_alt.specs.Calls.{rewrite_calls}
use Rattle.hive_alt.specs.Copies.{copy_in, in_copy, IsWritten}
use Rattle.hive_alt.specs.Schemes.{IsKeptAsEither}
use Rattle.hive_alt.specs.Twin.{twin_of}
use Rattle.hive_alt.proofs.CopyCalls.{rewrite_same}
use Rattle.hive_alt.proofs.CopyLemmas.{written_as, rewriting_as}
use Rattle.hive_alt.proofs.PairLemmas.{second_stays, before_cut, first_stays, first_cut, pair_after}
use Rattle.hive_alt.proofs.committing.change_pair.Given.{Over}
use Rattle.hive_alt.proofs.committing.change_pair.Goals as goal
use Rattle.hive_alt.proofs.committing.change_pair.Goals.{After-mark_dirty, In_ok-rewrite, After-rewrite-2}

-- the old bins data and the new, as the stages ask for them
stages_ask : (g : Over) (c : After-mark_dirty g) → g.D.Disk.tells ≡ true
    → IsAsked c.args.base.now c.args.old.now c.args.new.now c.args.root (bit c.mark_dirty.new.into)
stages_ask g c tells =
    asked (copy_in Primary (g.D.Disk.state c.args.disk.now).held) c.args.base.now c.args.old.now c.args.new.now
    c.args.root c.mark_dirty.new.into (c.requires.settled tells).first c.numbers_fit.ensures c.texts_fit.ensures
    c.requires.sized (search rules) c.mark_dirty.ensures

-- once the second copy is written, all outside it is as it was, and it has the new data
other_left : (g : Over) (c : In_ok-rewrite g) → g.D.Disk.tells ≡ true
    → AgreeOutside (in_copy Log) (g.D.Disk.state c.args.disk.now).held (g.D.Disk.state c.rewrite.new.disk).held
other_left g c tells =
    let s = g.D.Disk.state c.rewrite.new.disk in c.rewrite.ensures.other tells s.held (held_left s)

second_written : (g : Over) (c : In_ok-rewrite g) → g.D.Disk.tells ≡ true
    → IsWritten Log (g.D.Disk.state c.rewrite.new.disk).held
    (closed_of c.args.base.now c.args.new.now c.args.root) c.args.new.now
second_written g c tells =
    written_as Log (g.D.Disk.state c.rewrite.new.disk).held c.closed_block-closed.result
    (closed_of c.args.base.now c.args.new.now c.args.root) c.args.new.now c.closed_block-closed.ensures
    (c.in_ok-rewrite.ensures.written tells)

-- a cut while the primary is written, or after it
cut_in_primary : (g : Over) (c : After-rewrite-2 g) → g.D.Disk.tells ≡ true
    → EachCrash (g.D.Disk.state c.rewrite-2.new.disk) (IsKeptAsEither twin_of c.args.base.now c.args.old.now
    (closed_of c.args.base.now c.args.new.now c.args.root) c.args.new.now)
cut_in_primary g c tells image left =
    let second = (goal.at.After-rewrite-2 g c).In_ok-rewrite in
    let h1 = (g.D.Disk.state c.rewrite.new.disk).held in
    first_cut c.args.base.now c.args.old.now c.args.new.now c.args.root (bit c.mark_dirty.new.into)
    (stages_ask g (goal.at.After-rewrite-2 g c).After-mark_dirty tells) (g.D.Disk.state c.args.disk.now).held
    (c.requires.settled tells) h1 (other_left g second tells) (second_written g second tells) image
    (c.rewrite-2.ensures.other tells image left)
    (rewriting_as Primary h1 image c.opened_block-opened.result (opened_of c.args.base.now)
    c.closed_block-closed.result (closed_of c.args.base.now c.args.new.now c.args.root) c.args.new.now
    c.opened_block-opened.ensures c.closed_block-closed.ensures (c.rewrite-2.ensures.crash tells image left))

-- the calls that are asked of a copy
abbrev asked_of : (g : Over) → After-mark_dirty g → File → List Made
asked_of g c file =
    rewrite_calls file (opened_of c.args.base.now) (closed_of c.args.base.now c.args.new.now c.args.root)
    (dirty c.args.old.now c.args.new.now) c.args.new.now

-- and they are those that are made
same : (g : Over) (c : After-mark_dirty g) (file : File)
    → rewrite_calls file c.opened_block-opened.result c.closed_block-closed.result (bit c.mark_dirty.new.into)
    c.args.new.now ≡ asked_of g c file
same g c file =
    rewrite_same file (bit c.mark_dirty.new.into) (dirty c.args.old.now c.args.new.now) c.args.new.now
    c.mark_dirty.ensures c.opened_block-opened.result c.closed_block-closed.result (opened_of c.args.base.now)
    (closed_of c.args.base.now c.args.new.now c.args.root) c.opened_block-opened.ensures c.closed_block-closed.ensures

-- so the calls to the second copy are those asked
second_made : (g : Over) (c : In_ok-rewrite g) → Makes (g.D.Disk.calls c.args.disk.now)
    (g.D.Disk.calls c.rewrite.new.disk) (asked_of g (goal.at.In_ok-rewrite g c).After-mark_dirty Log)
second_made g c = made_as (g.D.Disk.calls c.args.disk.now) (g.D.Disk.calls c.rewrite.new.disk) _ _
    (same g (goal.at.In_ok-rewrite g c).After-mark_dirty Log) c.in_ok-rewrite.ensures.made

pub returns-in_err-rewrite-clause-made : goal.returns-in_err-rewrite-clause-made
returns-in_err-rewrite-clause-made g c =
    let way = (goal.at.returns-in_err-rewrite-clause-made g c).After-mark_dirty in
    stopped _ _ _ _ c.from_residual.ensures.0
    (front_longer _ _ (asked_of g way Log) (asked_of g way Primary)
    (front_as _ _ _ _ (same g way Log) c.in_err-rewrite.ensures.made))

pub returns-in_err-rewrite-2-clause-made : goal.returns-in_err-rewrite-2-clause-made
returns-in_err-rewrite-2-clause-made g c =
    let way = goal.at.returns-in_err-rewrite-2-clause-made g c in
    stopped _ _ _ _ c.from_residual-in_err-rewrite-2.ensures.0
    (front_then _ (g.D.Disk.calls c.rewrite.new.disk) _ (asked_of g way.After-mark_dirty Log)
    (asked_of g way.After-mark_dirty Primary) (second_made g way.In_ok-rewrite)
    (front_as _ _ _ _ (same g way.After-mark_dirty Primary) c.in_err-rewrite-2.ensures.made))

pub returns-clause-made : goal.returns-clause-made
returns-clause-made g c =
    let way = goal.at.returns-clause-made g c in
    let one = g.D.Disk.calls c.rewrite.new.disk in
    let two = g.D.Disk.calls c.rewrite-2.new.disk in
    made_then (g.D.Disk.calls c.args.disk.now) one two (asked_of g way.After-mark_dirty Log)
    (asked_of g way.After-mark_dirty Primary) (second_made g way.In_ok-rewrite)
    (made_as one two _ _ (same g way.After-mark_dirty Primary) c.in_ok-rewrite-2.ensures.made)

pub rewrite-requires-clause-stays : goal.rewrite-requires-clause-stays
rewrite-requires-clause-stays g c = λ tells.
    second_stays c.args.base.now c.args.old.now c.args.new.now c.args.root (bit c.mark_dirty.new.into)
    (stages_ask g (goal.at.rewrite-requires-clause-stays g c).After-mark_dirty tells)
    (g.D.Disk.state c.args.disk.now).held (c.requires.settled tells)

pub rewrite-requires-2-clause-stays : goal.rewrite-requires-2-clause-stays
rewrite-requires-2-clause-stays g c = λ tells.
    let second = (goal.at.rewrite-requires-2-clause-stays g c).In_ok-rewrite in
    first_stays c.args.base.now c.args.old.now c.args.new.now c.args.root (bit c.mark_dirty.new.into)
    (stages_ask g (goal.at.rewrite-requires-2-clause-stays g c).After-mark_dirty tells)
    (g.D.Disk.state c.args.disk.now).held (c.requires.settled tells) (g.D.Disk.state c.rewrite.new.disk).held
    (other_left g second tells) (second_written g second tells)

pub returns-in_err-rewrite-clause-crash : goal.returns-in_err-rewrite-clause-crash
returns-in_err-rewrite-clause-crash g c = λ tells image left.
    inl (before_cut c.args.base.now c.args.old.now c.args.new.now c.args.root (bit c.mark_dirty.new.into)
    (stages_ask g (goal.at.returns-in_err-rewrite-clause-crash g c).After-mark_dirty tells)
    (g.D.Disk.state c.args.disk.now).held (c.requires.settled tells) image (c.rewrite.ensures.other tells image left))

pub returns-in_err-rewrite-2-clause-crash : goal.returns-in_err-rewrite-2-clause-crash
returns-in_err-rewrite-2-clause-crash g c = cut_in_primary g (goal.at.returns-in_err-rewrite-2-clause-crash g
    c).After-rewrite-2

pub returns-clause-crash : goal.returns-clause-crash
returns-clause-crash g c = cut_in_primary g (goal.at.returns-clause-crash g c).After-rewrite-2

pub returns-clause-settled : goal.returns-clause-settled
returns-clause-settled g c = λ tells.
    let base = c.args.base.now in
    let new = c.args.new.now in
    let second = (goal.at.returns-clause-settled g c).In_ok-rewrite in
    let s2 = g.D.Disk.state c.rewrite-2.new.disk in
    pair_after base c.args.old.now new c.args.root (bit c.mark_dirty.new.into)
    (stages_ask g (goal.at.returns-clause-settled g c).After-mark_dirty tells) (g.D.Disk.state c.args.disk.now).held
    (c.requires.settled tells) (g.D.Disk.state c.rewrite.new.disk).held (other_left g second tells)
    (second_written g second tells) s2.held (c.rewrite-2.ensures.other tells s2.held (held_left s2))
    (written_as Primary s2.held c.closed_block-closed.result (closed_of base new c.args.root) new
    c.closed_block-closed.ensures (c.in_ok-rewrite-2.ensures.written tells))
