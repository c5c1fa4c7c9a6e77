use Rattle.std.proofs.Common.{◌∙◌, false, sym, ap, rules}
use Rattle.start_model.specs.Machine.{MachineState}
use Rattle.start_model.specs.Act.{end_with}
use Rattle.boot_run.proofs.PlayLemmas.{plays-as, plays-err, plays-on, live_left, stored, stays_end, ends}
use Rattle.boot_run.proofs.CloseLemmas.{end_plays, end_sound, ending, off_by}
use Rattle.boot_run.proofs.closing.off.Goals as goal

pub returns-then-not-changed : goal.returns-then-not-changed
returns-then-not-changed g c = ends (end_sound c.end_with.result c.args.hive c.end_with.new.runner (g.B.Disk.state c.args.bench.now)
    (g.B.Disk.state c.end_with.new.bench) c.requires.sound.0 c.end_with.ensures.off
    (ap (λ (k : MachineState). k.start) c.end_with.ensures.machine)) (search rules) (λ m tells counts live.
    let word = c.ending-word.result in
    plays-as (rw (sym c.changed.ensures ∙ c.if-not-changed.true) at (off_by counts c.ending-word.ensures live))
    (end_plays word c.end_with.new.runner (ending c.args.runner.now.machine.start word c.ending-word.ensures) counts
    (live_left c.requires.sound.0 live) c.end_with.ensures.machine c.end_with.ensures.starts c.end_with.ensures.off
    (c.end_with.ensures.tells tells)))

pub returns-in_err-left : goal.returns-in_err-left
returns-in_err-left g c = ends (search rules) (search rules) (λ m tells counts live.
    let word = c.ending-word.result in
    plays-as (rw (sym c.changed.ensures ∙ c.if-not-changed.false) at (off_by counts c.ending-word.ensures live))
    (plays-err c.from_residual.ensures.0
    (c.in_err-left.ensures.plays m (end_with word false) tells counts (stored live) (stays_end word false))))

pub returns : goal.returns
returns g c = ends (search rules) (search rules) (λ m tells counts live.
    let word = c.ending-word.result in
    plays-as (rw (sym c.changed.ensures ∙ c.if-not-changed.false) at (off_by counts c.ending-word.ensures live))
    (plays-on (c.in_ok-left.ensures.plays m (end_with word false) tells counts (stored live) (stays_end word false))
    (λ rest h. c.end_behind.ensures.plays m c.args.hive.tree rest (c.in_ok-left.ensures.host.keeps.tells ∙ tells)
    (ending c.args.runner.now.machine.start word c.ending-word.ensures) h)))
