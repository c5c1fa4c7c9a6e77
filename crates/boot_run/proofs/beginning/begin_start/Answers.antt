use Rattle.std.proofs.Common.{◌∙◌, refl}
use Rattle.boot_run.proofs.PlayLemmas.{plays-line, plays-front, plays-here, plays-silent, live_left}
use Rattle.boot_run.proofs.BeginLemmas.{begin_sound, begun}
use Rattle.boot_run.proofs.beginning.begin_start.Goals as goal

pub returns-in_default-clause-plays : goal.returns-in_default-clause-plays
returns-in_default-clause-plays g c = λ m d tells up counts live. plays-silent refl (live_left up live)

pub returns-in_err-say-clause-plays : goal.returns-in_err-say-clause-plays
returns-in_err-say-clause-plays g c = λ m d tells up counts live.
    plays-front c.from_residual.ensures.0 refl (rw c.select_line.ensures at (c.in_err-say.ensures.tells tells))
    (live_left up live)

pub returns-in_err-say-2-clause-plays : goal.returns-in_err-say-2-clause-plays
returns-in_err-say-2-clause-plays g c = λ m d tells up counts live.
    plays-line refl (rw c.select_line.ensures at (c.in_ok-say.ensures.tells tells))
    (plays-front c.from_residual-in_err-say-2.ensures.0 refl
    (c.in_err-say-2.ensures.tells (c.in_ok-say.ensures.host.keeps.tells ∙ tells)) (live_left up live))

pub returns-clause-sound : goal.returns-clause-sound
returns-clause-sound g c = λ d up. (
  up,
  begin_sound c.args.runner.now.machine c.begin_on.new.machine c.args.hive.tree c.args.number c.args.on_good
      c.requires.taken c.in-Ok.ensures.held c.in-Ok.ensures.begun,
)

pub returns-clause-plays : goal.returns-clause-plays
returns-clause-plays g c = λ m d tells up counts live.
    plays-line refl (rw c.select_line.ensures at (c.in_ok-say.ensures.tells tells))
    (plays-line refl (c.in_ok-say-2.ensures.tells (c.in_ok-say.ensures.host.keeps.tells ∙ tells))
    (plays-here refl
    (begun m c.args.runner.now _ d c.args.hive c.args.number c.args.on_good counts live c.in-Ok.ensures.begun refl)))
