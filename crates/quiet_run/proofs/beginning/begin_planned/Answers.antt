use Rattle.std.proofs.Common.{Bool, not, map, ap, subst}
use Rattle.reg_tree.specs.Makes.{step_of}
use Rattle.reg_tree.proofs.Outcomes.{on_ok}
use Rattle.start_model.specs.Sets.{stepped}
use Rattle.quiet_run.specs.Play.{state_in, watched_in, Stepped}
use Rattle.quiet_run.proofs.BeginLemmas.{begun_by}
use Rattle.quiet_run.proofs.beginning.begin_planned.Goals as goal

pub returns-then-branch-clause-watched : goal.returns-then-branch-clause-watched
returns-then-branch-clause-watched c =
    on_ok c.begin_made.result _ _
    (begun_by c.args.on_good (state_in c.args.play.now) c.args.plan c.parts-number.result.1 c.step_tree.new.tree c.args.play.now.last
    _ c.parts-number.result.0 c.args.taken (watched_in c.begin_made.new.play) c.parts-number.ensures.number c.parts-number.ensures.steps
    (ap not c.is_empty-changed.ensures) c.requires.taken
    (subst (λ (b : Bool). Stepped b (stepped c.args.play.now.version c.args.play.now.live (map step_of c.parts-number.result.1))
    c.args.play.now.live c.step_tree.new.tree) c.if-branch.true c.in_ok-step_tree.ensures.made))
    c.begin_made.ensures.watched
