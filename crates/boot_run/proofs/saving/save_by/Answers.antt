use Rattle.std.proofs.Common.{◌≡◌, ◌∙◌, refl, ap, sym, subst}
use Rattle.std.specs.Prelude.{Ok}
use Rattle.std.specs.List.{All}
use Rattle.hive_model.specs.Edit.{edited}
use Rattle.hive_model.specs.Base.{version_of}
use Rattle.reg_tree.specs.Fitting.{Fits}
use Rattle.start_model.specs.Sets.{SetPlan, save_of}
use Rattle.start_model.specs.Commit.{commit}
use Rattle.report_words.specs.declared.words.CommitWord.TheVariants as commits
use Rattle.boot_run.specs.Saves.{noting}
use Rattle.boot_run.proofs.PlayLemmas.{plays-as, rests-silent}
use Rattle.boot_run.proofs.SaveLemmas.{save_keeps, up_by, stored_by, save_made, save_full, saved_may, refused_why}
use Rattle.boot_run.proofs.saving.save_by.Given.{Over}
use Rattle.boot_run.proofs.saving.save_by.Goals as goal
use Rattle.boot_run.proofs.saving.save_by.Goals.{In-Ok}

-- the steps were made
made : (g : Over) (c : In-Ok g)
    → edited (version_of c.args.hive.base.minor) c.args.hive.tree c.args.plan.steps ≡ Ok c.apply.new.self.tree
made g c = ap (edited (version_of c.args.hive.base.minor) c.args.hive.tree)
    (sym (ap (λ (p : SetPlan). p.steps) c.plan.view_is)) ∙ c.in-Ok.ensures.made

pub apply-requires : goal.apply-requires
apply-requires g c = let P : SetPlan → Type 0 = λ p. All Fits p.steps in
    record { fits = subst P (sym c.plan.view_is) c.requires.fits }

pub commit_save-requires : goal.commit_save-requires
commit_save-requires g c = record {
  sound = (
    up_by c.args.hive c.apply.new.self (g.B.Disk.state c.args.bench.now) c.in-Ok.ensures.base c.in-Ok.ensures.bins
        c.requires.sound.0,
    save_keeps (version_of c.args.hive.base.minor) c.args.hive.tree c.requires.plan.0 c.apply.new.self.tree c.args.plan
        c.args.runner.now.machine.start c.requires.plan.1 (made g (goal.at.commit_save-requires g c).In-Ok)
        c.requires.sound.1,
  );
}

pub returns-in-Ok-clause-plays : goal.returns-in-Ok-clause-plays
returns-in-Ok-clause-plays g c = λ m s clone next tells out counts live is stays.
    let u = c.apply.new.self.tree in
    save_made live clone c.args.plan is s next u (made g (goal.at.returns-in-Ok-clause-plays g c).In-Ok)
    (plays-as (ap (λ (p : SetPlan). commit commits.Save u m (noting p.numbers s next)) c.plan.view_is)
    (c.commit_save.ensures.plays m s next tells out counts (stored_by m c.args.hive c.apply.new.self
    (g.B.Disk.state c.args.bench.now) c.in-Ok.ensures.base live) stays))

pub returns-in-None-clause-plays : goal.returns-in-None-clause-plays
returns-in-None-clause-plays g c = λ m s clone next tells out counts live is stays.
    rests-silent refl (saved_may s clone m next (save_of m.version m.live clone) stays) c.requires.sound.0 live

pub returns-in-Some-clause-plays : goal.returns-in-Some-clause-plays
returns-in-Some-clause-plays g c = λ m s clone next tells out counts live is stays.
    let why = refused_why c.in-Err.stop _ c.edit_word.result _ c.edit_word.ensures c.in-Some.is
    c.in-Err.ensures.made.0 in
    save_full live clone c.args.plan is s next why.0
    (ap (edited (version_of c.args.hive.base.minor) c.args.hive.tree)
    (sym (ap (λ (p : SetPlan). p.steps) c.plan.view_is)) ∙ why.1)
    (c.refuse.ensures.plays m s next (g.B.Disk.state c.args.bench.now) tells out counts
    (rw c.in-Err.ensures.refused c.requires.sound) (rw c.in-Err.ensures.refused live) stays)
