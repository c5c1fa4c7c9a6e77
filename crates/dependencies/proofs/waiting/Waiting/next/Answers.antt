use Rattle.std.proofs.Common.{◌∙◌}
use Rattle.dependencies.proofs.KeptLemmas.{next_is, next_waits}
use Rattle.dependencies.proofs.waiting.Waiting.next.Goals as goal

pub returns-in-Some-clause-place : goal.returns-in-Some-clause-place
returns-in-Some-clause-place c =
    rw (← c.self.view_is) (c.in-Some.ensures.place ∙ next_is _ _ _ _ _ _ _ _ _ _ c.self.invariant)

pub returns-in-Some-clause-waits : goal.returns-in-Some-clause-waits
returns-in-Some-clause-waits c =
    rw (← c.self.view_is) (next_waits _ _ _ _ _ _ _ _ _ _ c.self.invariant c.in-Some.at c.in-Some.ensures.place)

pub returns-in-None-clause-place : goal.returns-in-None-clause-place
returns-in-None-clause-place c =
    rw (← c.self.view_is) (c.in-None.ensures.place ∙ next_is _ _ _ _ _ _ _ _ _ _ c.self.invariant)
