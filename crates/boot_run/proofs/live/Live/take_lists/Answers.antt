use Rattle.std.proofs.Common.{◌∙◌, sym, subst, Option}
use Rattle.std.specs.Prelude.{IfOk, IfSome}
use Rattle.hive_store.specs.Session.{Session}
use Rattle.boot_phases.specs.boot_phases.Lists.{Lists}
use Rattle.boot_run.specs.Kept.{current_set, AreRead}
use Rattle.boot_run.proofs.live.Live.take_lists.Goals as goal

pub returns-in-Some-clause-lists : goal.returns-in-Some-clause-lists
returns-in-Some-clause-lists c =
    let P : Option Lists → Type 0 = λ o. IfSome o (AreRead (current_set c.self.inside.hive.tree)) in
    let Q : Session → Type 0 = λ s. AreRead (current_set s.tree) c.in-Some.lists in
    subst Q c.self.view_is (subst P (sym c.take.ensures.value ∙ c.in-Some.is) c.self.invariant.current)

pub returns-clause-lists : goal.returns-clause-lists
returns-clause-lists c =
    let P : Session → Type 0 = λ s. IfOk c.live_lists.result (AreRead (current_set s.tree)) in
    subst P c.self.view_is c.live_lists.ensures
