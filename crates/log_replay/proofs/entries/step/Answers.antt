use Rattle.std.proofs.Common.{◌≡◌, ◌++◌, Option, IfOk, OnOk, sym, ap, ◌∙◌, subst, append-nil}
use Rattle.log_replay.specs.Entries.{Chosen, stepped, step_of}
use Rattle.log_replay.specs.Seen.{found_seen}
use Rattle.log_replay.proofs.Wholes.{chosen_whole}
use Rattle.log_replay.proofs.entries.step.Goals as goal

pub stepped-requires-clause-whole : goal.stepped-requires-clause-whole
stepped-requires-clause-whole c =
    chosen_whole c.args.logs.now c.args.hive.now.next (found_seen c.in-Some.found) c.requires.whole (sym c.in-Some.ensures)

pub returns-in-None-clause-goes : goal.returns-in-None-clause-goes
unfolding step_of
returns-in-None-clause-goes c = ap (λ (x : Option Chosen). (stepped x c.args.hive.now).goes) c.in-None.ensures

pub returns-in-None-clause-hive : goal.returns-in-None-clause-hive
unfolding step_of
returns-in-None-clause-hive c = ap (λ (x : Option Chosen). (stepped x c.args.hive.now).hive) c.in-None.ensures

pub returns-in-None-clause-lines : goal.returns-in-None-clause-lines
unfolding step_of
returns-in-None-clause-lines c =
    sym (append-nil c.args.lines.now)
    ∙ ap (λ (x : Option Chosen). c.args.lines.now ++ (stepped x c.args.hive.now).lines) c.in-None.ensures

pub returns-in-Some-clause-goes : goal.returns-in-Some-clause-goes
unfolding step_of
returns-in-Some-clause-goes c =
    let P : Option Chosen → Type 0 = λ x. IfOk c.stepped.result (λ goes. goes ≡ (stepped x c.args.hive.now).goes) in
    subst P c.in-Some.ensures c.stepped.ensures.goes

pub returns-in-Some-clause-hive : goal.returns-in-Some-clause-hive
unfolding step_of
returns-in-Some-clause-hive c =
    let P : Option Chosen → Type 0 = λ x. OnOk c.stepped.result (c.stepped.new.hive ≡ (stepped x c.args.hive.now).hive) in
    subst P c.in-Some.ensures c.stepped.ensures.hive

pub returns-in-Some-clause-lines : goal.returns-in-Some-clause-lines
unfolding step_of
returns-in-Some-clause-lines c =
    let P : Option Chosen → Type 0 = λ x. OnOk c.stepped.result (c.stepped.new.lines ≡ c.args.lines.now ++ (stepped x c.args.hive.now).lines) in
    subst P c.in-Some.ensures c.stepped.ensures.lines
