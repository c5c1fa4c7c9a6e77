use Rattle.std.proofs.Common.{◌∙◌, sym, refl, rules}
use Rattle.start_model.specs.Act.{done}
use Rattle.boot_run.proofs.PlayLemmas.{plays-as, plays-left, plays-line, plays-front, plays-here, here_turn, live_left, stored, stays_done, turns}
use Rattle.boot_run.proofs.CloseLemmas.{commit_turn, flush_by}
use Rattle.boot_run.proofs.closing.flush.Goals as goal

pub returns-then-changed : goal.returns-then-changed
returns-then-changed g c = turns (search rules) (search rules) (λ m tells counts live.
    plays-as (rw (sym c.changed.ensures ∙ c.if-changed.true) at (flush_by live))
    (plays-left (c.commit_live.ensures.plays m done tells counts (stored live) stays_done)
    (commit_turn m c.args.hive.tree c.commit_live.new.runner (g.B.Disk.state c.commit_live.new.bench))))

pub returns-in_err-say : goal.returns-in_err-say
returns-in_err-say g c = turns (search rules) (search rules) (λ m tells counts live.
    plays-as (rw (sym c.changed.ensures ∙ c.if-changed.false) at (flush_by live))
    (plays-front c.from_residual.ensures.0 refl (c.in_err-say.ensures.tells tells)
    (live_left c.requires.sound.0 live)))

pub returns : goal.returns
returns g c = turns (search rules) (search rules) (λ m tells counts live.
    plays-as (rw (sym c.changed.ensures ∙ c.if-changed.false) at (flush_by live))
    (plays-line refl (c.in_ok-say.ensures.tells tells)
    (plays-here refl (here_turn (record { machine = counts.machine; starts = counts.starts }) live))))
