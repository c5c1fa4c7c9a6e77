use Rattle.std.proofs.Common.{◌≡◌, refl, false}
use Rattle.report_words.specs.declared.words.Verdict.TheVariants.{NoNumber}
use Rattle.report_words.specs.declared.line.Line.TheVariants.{Set as SetLine}
use Rattle.start_model.specs.Sets.{NoControlSet, NoLastKnownGood, NoFreeNumber, stepped}
use Rattle.start_model.specs.Act.{RunState, say, end_with}
use Rattle.start_model.specs.Boot.{set_line, take_set}
use Rattle.boot_run.proofs.PlayLemmas.{plays-as, plays-line, plays-front, plays-here, rests-silent, rests-front, say_as, live_left}
use Rattle.boot_run.proofs.BeginLemmas.{stays_take, planned_stays, take_planned, take_stopped, set_line_is}
use Rattle.boot_run.proofs.beginning.say_set.Given.{Over}
use Rattle.boot_run.proofs.beginning.say_set.Goals as goal
use Rattle.boot_run.proofs.beginning.say_set.Goals.{After-taken, In-Err-NoFreeNumber}

-- the line of the set
line : (g : Over) (c : After-taken g) (m : RunState) → m.live ≡ c.args.hive.now.tree
    → SetLine c.taken.result c.args.on_good ≡ set_line c.args.on_good m
line g c m live = set_line_is m c.args.hive.now.tree c.args.on_good c.taken.result c.in-Ok.numbers live c.in-Ok.ensures
    c.taken.ensures

-- no number is free: the line, and the end
none_free : (g : Over) (c : In-Err-NoFreeNumber g) (m : RunState) → m.live ≡ c.args.hive.now.tree
    → say (SetLine c.taken.result c.args.on_good) (end_with NoNumber false m) ≡ take_set c.args.on_good m
none_free g c m live = say_as (line g (goal.at.In-Err-NoFreeNumber g c).After-taken m live)
    (take_stopped m c.args.hive.now.tree c.args.on_good NoFreeNumber live
    (rw c.in-Err-NoFreeNumber.field-0-is at c.in-Err-NoFreeNumber.ensures.plans))

pub returns-in_default-clause-plays : goal.returns-in_default-clause-plays
returns-in_default-clause-plays g c = λ m d tells up live. rests-silent refl (stays_take c.args.on_good m) up live

pub returns-in-Err-Memory-clause-plays : goal.returns-in-Err-Memory-clause-plays
returns-in-Err-Memory-clause-plays g c = λ m d tells up live. rests-silent refl (stays_take c.args.on_good m) up live

pub returns-in-Ok-say-clause-plays : goal.returns-in-Ok-say-clause-plays
returns-in-Ok-say-clause-plays g c = λ m d tells up live.
    plays-as (say_as (line g (goal.at.returns-in-Ok-say-clause-plays g c).After-taken m live.live)
    (take_planned m c.args.hive.now.tree c.args.on_good c.in-Ok-planned.plan live.live c.in-Ok-planned.ensures.plans))
    (plays-line refl (c.in-Ok-say.ensures.tells tells) (plays-here refl refl))

pub returns-in-Err-clause-plays : goal.returns-in-Err-clause-plays
returns-in-Err-clause-plays g c = λ m d tells up live.
    let plan = c.in-Ok-planned.plan in
    plays-as (say_as (line g (goal.at.returns-in-Err-clause-plays g c).After-taken m live.live)
    (take_planned m c.args.hive.now.tree c.args.on_good plan live.live c.in-Ok-planned.ensures.plans))
    (rests-front refl refl (c.in-Err.ensures.tells tells)
    (planned_stays c.args.on_good m plan (stepped m.version m.live plan.steps)) up live)

pub returns-in-Ok-say-2-clause-plays : goal.returns-in-Ok-say-2-clause-plays
returns-in-Ok-say-2-clause-plays g c = λ m d tells up live.
    plays-as (none_free g (goal.at.returns-in-Ok-say-2-clause-plays g c).In-Err-NoFreeNumber m live.live)
    (plays-line refl (c.in-Ok-say-2.ensures.tells tells)
    (plays-here refl (refl, record { falls = refl; none = refl })))

pub returns-in-Err-say-clause-plays : goal.returns-in-Err-say-clause-plays
returns-in-Err-say-clause-plays g c = λ m d tells up live.
    plays-as (none_free g (goal.at.returns-in-Err-say-clause-plays g c).In-Err-NoFreeNumber m live.live)
    (plays-front refl refl (c.in-Err-say.ensures.tells tells) (live_left up live))

pub returns-in-Err-NoControlSet-clause-plays : goal.returns-in-Err-NoControlSet-clause-plays
returns-in-Err-NoControlSet-clause-plays g c = λ m d tells up live.
    plays-as (take_stopped m c.args.hive.now.tree c.args.on_good NoControlSet live.live
    (rw c.in-Err-NoControlSet.field-0-is at c.in-Err-NoControlSet.ensures.plans))
    (plays-here refl (refl, record { falls = refl; none = refl }))

pub returns-in-Err-NoLastKnownGood-clause-plays : goal.returns-in-Err-NoLastKnownGood-clause-plays
returns-in-Err-NoLastKnownGood-clause-plays g c = λ m d tells up live.
    plays-as (take_stopped m c.args.hive.now.tree c.args.on_good NoLastKnownGood live.live
    (rw c.in-Err-NoLastKnownGood.field-0-is at c.in-Err-NoLastKnownGood.ensures.plans))
    (plays-here refl (refl, record { falls = refl; none = refl }))
