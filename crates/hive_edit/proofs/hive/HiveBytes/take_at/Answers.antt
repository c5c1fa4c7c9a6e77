use Rattle.hive_edit.proofs.SteppedLemmas.{if_done, if_undone, same_hive}
use Rattle.hive_edit.proofs.DeletingLemmas.{IsPairGone, gone_seen, drops_seen, kept_seen}
use Rattle.hive_edit.proofs.hive.HiveBytes.take_at.Goals as goal
use Rattle.hive_edit.proofs.hive.HiveBytes.take_at.Goals.{After-are_bytes}

gone : (c : After-are_bytes) → IsPairGone c.args.self.now c.take_pair.new.heap c.self.inside.root c.self.inside.version
    c.args.bulk c.args.path.now
gone c =
    let i = c.self.inside in
    gone_seen i.cells c.take_pair.new.heap i.root i.version i.bulk c.args.bulk c.args.self.now c.args.path.now
    c.args.pair c.self.invariant c.self.view_is c.requires.place
    (if_done _ _ _ c.if-not-done.false c.in_ok-done.ensures.taken) c.are_bytes.ensures c.requires.bulk

pub returns-then-not-done-clause-made : goal.returns-then-not-done-clause-made
returns-then-not-done-clause-made c =
    let i = c.self.inside in
    kept_seen i.cells c.take_pair.new.heap.bins i.root i.version i.bulk c.args.self.now c.args.path.now c.args.pair
    c.self.invariant c.self.view_is c.requires.place
    (if_undone _ _ _ c.if-not-done.true c.in_ok-done.ensures.taken)

pub returns-then-not-done-clause-kept : goal.returns-then-not-done-clause-kept
returns-then-not-done-clause-kept c = λ no.
    let i = c.self.inside in
    let kept = if_undone _ _ _ c.if-not-done.true c.in_ok-done.ensures.taken in
    same_hive i.cells c.take_pair.new.heap i.root i.version c.args.self.now c.self.view_is kept.lacks.1
    c.in_ok-done.ensures.base

pub invariant_of-self-2 : goal.invariant_of-self-2
invariant_of-self-2 c = (gone (goal.at.invariant_of-self-2 c).After-are_bytes).hive

pub returns-clause-made : goal.returns-clause-made
returns-clause-made c = (gone (goal.at.returns-clause-made c).After-are_bytes).stepped

pub returns-clause-drops : goal.returns-clause-drops
returns-clause-drops c =
    let i = c.self.inside in
    λ e. drops_seen i.cells c.take_pair.new.heap i.root i.version i.bulk c.args.self.now c.args.path.now
    c.args.pair c.self.invariant c.self.view_is
    c.requires.place (if_done _ _ _ c.if-not-done.false c.in_ok-done.ensures.taken)
