use Rattle.std.proofs.Common.{◌≡◌, ◌∙◌, refl, ap, sym, subst, rules}
use Rattle.std.specs.Prelude.{Ok}
use Rattle.std.specs.List.{All}
use Rattle.hive_model.specs.Base.{version_of}
use Rattle.hive_model.specs.Edit.{edited}
use Rattle.reg_tree.specs.Fitting.{Fits}
use Rattle.report_words.specs.declared.words.CommitWord.TheVariants as commits
use Rattle.start_model.specs.Sets.{SetPlan, stepped}
use Rattle.start_model.specs.Commit.{commit}
use Rattle.start_model.specs.Boot.{begin_start}
use Rattle.run_parts.proofs.ChainLemmas.{still_leaves}
use Rattle.boot_run.specs.Agrees.{LoadsAny}
use Rattle.boot_run.specs.Begins.{IsTaken}
use Rattle.boot_run.proofs.PlayLemmas.{plays-as, rests-silent, live_left, turns}
use Rattle.boot_run.proofs.SaveLemmas.{refused_why, up_by, stored_by}
use Rattle.boot_run.proofs.BeginLemmas.{planned_stays, taken_made, begin_made, begin_full}
use Rattle.boot_run.proofs.beginning.begin_stepped.Given.{Over}
use Rattle.boot_run.proofs.beginning.begin_stepped.Goals as goal
use Rattle.boot_run.proofs.beginning.begin_stepped.Goals.{In-Ok}

-- the steps were made
made : (g : Over) (c : In-Ok g)
    → edited (version_of c.args.hive.base.minor) c.args.hive.tree c.args.plan.steps ≡ Ok c.apply.new.self.tree
made g c = ap (edited (version_of c.args.hive.base.minor) c.args.hive.tree)
    (sym (ap (λ (p : SetPlan). p.steps) c.plan.view_is)) ∙ c.in-Ok.ensures.made

pub apply-requires : goal.apply-requires
apply-requires g c = let P : SetPlan → Type 0 = λ p. All Fits p.steps in
    record { fits = subst P (sym c.plan.view_is) c.requires.fits }

pub begin_committed-requires-clause-up : goal.begin_committed-requires-clause-up
begin_committed-requires-clause-up g c =
    up_by c.args.hive c.apply.new.self (g.B.Disk.state c.args.bench.now) c.in-Ok.ensures.base c.in-Ok.ensures.bins
    c.requires.up

pub begin_committed-requires-clause-taken : goal.begin_committed-requires-clause-taken
begin_committed-requires-clause-taken g c =
    let u = c.apply.new.self.tree in
    let P : SetPlan → Type 0 = λ p. IsTaken u p.chosen in
    subst P (sym c.plan.view_is) (taken_made c.args.on_good c.args.plan (version_of c.args.hive.base.minor)
    c.args.hive.tree u c.requires.some c.requires.plan
    (made g (goal.at.begin_committed-requires-clause-taken g c).In-Ok))

pub end_start-requires : goal.end_start-requires
end_start-requires g c = record
    { left = still_leaves (g.B.Disk.state c.args.bench.now) LoadsAny c.requires.up.still c.requires.up.loads }

pub returns-in-Ok : goal.returns-in-Ok
returns-in-Ok g c = turns (search rules) (search rules) (λ m tells counts live.
    let u = c.apply.new.self.tree in
    plays-as (ap (λ (p : SetPlan). commit commits.Begin u m (begin_start p.chosen c.args.on_good p.numbers)) c.plan.view_is
    ∙ begin_made c.args.on_good m c.args.plan (version_of c.args.hive.base.minor) c.args.hive.tree u c.requires.some
    live.version live.live (made g (goal.at.returns-in-Ok g c).In-Ok))
    (c.begin_committed.ensures.plays m tells counts
    (stored_by m c.args.hive c.apply.new.self (g.B.Disk.state c.args.bench.now) c.in-Ok.ensures.base live)))

pub returns-in-None : goal.returns-in-None
returns-in-None g c = turns (search rules) (search rules) (λ m tells counts live.
    rests-silent refl (planned_stays c.args.on_good m c.args.plan (stepped m.version m.live c.args.plan.steps)) c.requires.up live)

pub returns-in-Some : goal.returns-in-Some
returns-in-Some g c = turns (search rules) (search rules) (λ m tells counts live.
    let v = version_of c.args.hive.base.minor in
    let why = refused_why c.in-Err.stop _ c.edit_word.result _ c.edit_word.ensures c.in-Some.is
    c.in-Err.ensures.made.0 in
    plays-as (begin_full c.args.on_good m c.args.plan v c.args.hive.tree why.0 c.requires.some live.version live.live
    (ap (edited v c.args.hive.tree) (sym (ap (λ (p : SetPlan). p.steps) c.plan.view_is)) ∙ why.1))
    (c.end_start.ensures.plays m tells (record { machine = counts.machine; starts = counts.starts })
    (live_left c.requires.up live) (record { falls = refl; none = refl })))
