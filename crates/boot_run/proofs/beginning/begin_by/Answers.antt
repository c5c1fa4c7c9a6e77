use Rattle.std.proofs.Common.{◌≡◌, ◌∙◌, [], ap, sym, subst, rules}
use Rattle.hive_model.specs.Base.{version_of}
use Rattle.start_model.specs.Sets.{SetPlan}
use Rattle.start_model.specs.Boot.{begin_start}
use Rattle.boot_run.specs.Begins.{IsTaken}
use Rattle.boot_run.proofs.PlayLemmas.{plays-as, turns}
use Rattle.boot_run.proofs.BeginLemmas.{steps_none, steps_some, taken_none, begin_none}
use Rattle.boot_run.proofs.beginning.begin_by.Given.{Over}
use Rattle.boot_run.proofs.beginning.begin_by.Goals as goal
use Rattle.boot_run.proofs.beginning.begin_by.Goals.{Else-not-is_empty}

no_steps : (g : Over) (c : Else-not-is_empty g) → c.args.plan.steps ≡ []
no_steps g c = steps_none c.plan.inside.steps c.args.plan.steps (ap (λ (p : SetPlan). p.steps) c.plan.view_is)
    (sym c.is_empty.ensures ∙ c.if-not-is_empty.false)

pub begin_stepped-requires-clause-some : goal.begin_stepped-requires-clause-some
begin_stepped-requires-clause-some g c =
    steps_some c.plan.inside.steps c.args.plan.steps (ap (λ (p : SetPlan). p.steps) c.plan.view_is)
    (sym c.is_empty.ensures ∙ c.if-not-is_empty.true)

pub begin_start-requires-clause-taken : goal.begin_start-requires-clause-taken
begin_start-requires-clause-taken g c =
    let P : SetPlan → Type 0 = λ p. IsTaken c.args.hive.tree p.chosen in
    subst P (sym c.plan.view_is)
    (taken_none (version_of c.args.hive.base.minor) c.args.on_good c.args.plan c.args.hive.tree
    (no_steps g (goal.at.begin_start-requires-clause-taken g c).Else-not-is_empty) c.requires.plan)

pub returns : goal.returns
returns g c = turns (search rules) (search rules) (λ m tells counts live.
    plays-as (ap (λ (p : SetPlan). begin_start p.chosen c.args.on_good p.numbers m) c.plan.view_is
    ∙ begin_none c.args.on_good m c.args.plan (no_steps g (goal.at.returns g c).Else-not-is_empty))
    (c.begin_start.ensures.plays m (g.B.Disk.state c.args.bench.now) tells c.requires.up counts live))
