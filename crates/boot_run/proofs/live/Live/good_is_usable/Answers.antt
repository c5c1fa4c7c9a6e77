use Rattle.std.proofs.Common.{◌∙◌, ap, subst, Bool, Option, ◌≡◌}
use Rattle.std.specs.Prelude.{IfSome}
use Rattle.hive_store.specs.Session.{Session}
use Rattle.start_model.specs.Starter.{good_is_usable}
use Rattle.boot_run.proofs.live.Live.good_is_usable.Goals as goal

pub returns-in-Some-clause-usable : goal.returns-in-Some-clause-usable
returns-in-Some-clause-usable c =
    let P : Option Bool → Type 0 = λ o. IfSome o (λ b. b ≡ good_is_usable c.self.inside.hive.tree) in
    subst P c.in-Some.is c.self.invariant.good ∙ ap (λ (s : Session). good_is_usable s.tree) c.self.view_is

pub returns-clause-usable : goal.returns-clause-usable
returns-clause-usable c = c.in_ok-usable.ensures ∙ ap (λ (s : Session). good_is_usable s.tree) c.self.view_is
