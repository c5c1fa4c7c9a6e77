use Rattle.std.proofs.Common.{Bool, map, subst}
use Rattle.reg_tree.specs.Makes.{step_of}
use Rattle.start_model.specs.Sets.{stepped}
use Rattle.quiet_run.specs.Play.{state_in, Stepped}
use Rattle.quiet_run.proofs.SaveLemmas.{not_saved, saved_so}
use Rattle.quiet_run.proofs.saving.save_by.Goals as goal

pub returns-then-not-branch-clause-watched : goal.returns-then-not-branch-clause-watched
returns-then-not-branch-clause-watched c = λ s clone on.
    not_saved (state_in c.args.play.now) s clone c.args.plan c.parts-steps.result.1 c.step_tree.new.tree c.args.play.now.last
    c.saved.new.self on c.parts-steps.ensures.steps
    (subst (λ (b : Bool). Stepped b (stepped c.args.play.now.version c.args.play.now.live (map step_of c.parts-steps.result.1))
    c.args.play.now.live c.step_tree.new.tree) c.if-not-branch.true c.in_ok-step_tree.ensures.made)
    c.saved.ensures

pub returns-clause-watched : goal.returns-clause-watched
returns-clause-watched c = λ s clone on.
    saved_so (state_in c.args.play.now) (state_in c.commit.new.play) s clone c.args.plan c.parts-steps.result.1 c.step_tree.new.tree
    c.args.play.now.last c.commit.new.play.last c.saved-2.new.self on c.parts-steps.ensures.steps
    (subst (λ (b : Bool). Stepped b (stepped c.args.play.now.version c.args.play.now.live (map step_of c.parts-steps.result.1))
    c.args.play.now.live c.step_tree.new.tree) c.if-not-branch.false c.in_ok-step_tree.ensures.made)
    c.in_ok-commit.ensures.state c.in_ok-commit.ensures.last c.saved-2.ensures
