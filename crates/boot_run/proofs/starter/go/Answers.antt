use Rattle.boot_run.proofs.PlayLemmas.{plays-as, plays-ok, plays-err, rests-silent, turns}
use Rattle.boot_run.proofs.StepLemmas.{go_may}
use Rattle.std.proofs.Common.{refl, rules}
use Rattle.boot_run.proofs.starter.go.Goals as goal

pub returns-in_err-most : goal.returns-in_err-most
returns-in_err-most g c = turns (search rules) (search rules) (λ m tells counts live.
    rests-silent c.from_residual.ensures.0 (go_may c.args.steps m) c.requires.sound.0 live)

pub returns-in_err-take_steps : goal.returns-in_err-take_steps
returns-in_err-take_steps g c = turns (search rules) (search rules) (λ m tells counts live.
    plays-as (c.in_ok-most.ensures.steps m live.live counts.machine)
    (plays-err c.from_residual-in_err-take_steps.ensures.0
    (c.in_err-take_steps.ensures.plays m c.args.hive tells refl counts live)))

pub returns : goal.returns
returns g c = turns (search rules) (search rules) (λ m tells counts live.
    plays-as (c.in_ok-most.ensures.steps m live.live counts.machine)
    (plays-ok (c.in_ok-take_steps.ensures.plays m c.args.hive tells refl counts live) (λ rest h. h)))
