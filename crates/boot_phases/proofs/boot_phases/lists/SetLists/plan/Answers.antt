use Rattle.std.proofs.Common.{◌≡◌, subst}
use Rattle.std.specs.Prelude.{IfOk}
use Rattle.boot_phases.specs.boot_phases.Lists.{Lists, plan_among}
use Rattle.boot_phases.specs.boot_phases.Phases.{phase_in}
use Rattle.boot_phases.proofs.FewLemmas.{few_by}
use Rattle.boot_phases.proofs.boot_phases.lists.SetLists.plan.Goals as goal

pub returns-in-Boot : goal.returns-in-Boot
returns-in-Boot c =
    let phase = phase_in c.args.phase in
    let tried = c.args.tried.now in
    let made = c.plan_copied.result in
    let lists : Lists = record { entries = c.self.inside.table; orders = c.self.inside.orders } in
    record {
      plan = subst (λ (l : Lists). IfOk made (λ p. p ≡ plan_among l phase tried)) c.self.view_is c.plan_copied.ensures;
      few = few_by made lists phase tried c.self.invariant c.plan_copied.ensures;
    }
