use Rattle.std.proofs.Common.{ℕ, ◌+◌, ap, ◌∙◌}
use Rattle.quiet_run.specs.Play.{state_in}
use Rattle.quiet_run.proofs.TryLemmas.{enough_by}
use Rattle.quiet_run.proofs.starter.enough.Goals as goal

pub returns-in-Some : goal.returns-in-Some
returns-in-Some c =
    ap (λ (n : ℕ). n + c.count_services.result + 3) c.len.ensures
    ∙ enough_by (state_in c.args.play.now) c.args.play.now.machine.start c.in-Some.number _ c.in_ok-unmet.unmet c.count_services.result
    c.in-Some.ensures c.in_ok-unmet.ensures c.count_services.ensures
