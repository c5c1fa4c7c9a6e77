use Rattle.std.proofs.Common.{◌≡◌, ◌∙◌, ℕ, refl, ap, sym, subst, map, List, [], ◌∷◌}
use Rattle.std.specs.List.{All}
use Rattle.hive_model.specs.Base.{version_of}
use Rattle.hive_model.specs.Edit.{Step, edited}
use Rattle.reg_tree.specs.Fitting.{Fits}
use Rattle.reg_tree.specs.Makes.{Makes, step_of}
use Rattle.start_model.specs.Events.{Edit}
use Rattle.start_model.specs.Events as book
use Rattle.boot_run.proofs.PlayLemmas.{plays-ok, plays-err, rests-silent}
use Rattle.boot_run.proofs.EditLemmas.{IsEdited, all_one, edit_may, edit_sound, edit_plays}
use Rattle.boot_run.proofs.editing.edit.Given.{Over}
use Rattle.boot_run.proofs.editing.edit.Goals as goal
use Rattle.boot_run.proofs.editing.edit.Goals.{After-say_edit}

edits : (g : Over) (c : After-say_edit g) (number : ℕ) (e : Edit) → step_of c.args.step ≡ book.step_of number e
    → IsEdited c.args.hive c.apply-done.new.self (book.step_of number e) c.apply-done.result c.args.runner.now
    c.say_edit.new.runner
edits g c number e same =
    let h = c.args.hive in
    let k = c.apply-done.new.self in
    let P : List Step → Type 0 =
    λ ss. Makes h.tree k.tree c.apply-done.result (edited (version_of h.base.minor) h.tree ss) in
    record {
      base = c.apply-done.ensures.base;
      bins = c.apply-done.ensures.bins;
      made = subst P (ap (map step_of) c.in-Ok.ensures ∙ ap (λ (s : Step). s ∷ []) same) c.apply-done.ensures.made;
      refused = c.apply-done.ensures.refused;
      changed = c.apply-done.ensures.changed;
      machine = c.say_edit.ensures.machine;
      starts = c.say_edit.ensures.starts;
    }

pub apply-done-requires : goal.apply-done-requires
apply-done-requires g c =
    let P : List Step → Type 0 = λ ss. All Fits ss in
    record { fits = subst P (sym (ap (map step_of) c.in-Ok.ensures)) (all_one (step_of c.args.step) c.requires.fits) }

pub returns-in_default-clause-plays : goal.returns-in_default-clause-plays
returns-in_default-clause-plays g c = λ d m e number tells counts sound live is same.
    rests-silent refl (edit_may e m (edited m.version m.live (book.step_of number e ∷ []))) sound.0 live

pub returns-in_err-say_edit-clause-plays : goal.returns-in_err-say_edit-clause-plays
returns-in_err-say_edit-clause-plays g c = λ d m e number tells counts sound live is same.
    plays-err {stop = c.in_err-say_edit.field-0.0} c.from_residual.ensures.0
    (edit_plays _ c.apply-done.result e (book.step_of number e)
    (edits g (goal.at.returns-in_err-say_edit-clause-plays g c).After-say_edit number e same) sound.0 counts live
    (rw is at (c.in_err-say_edit.ensures.tells tells)))

pub returns-clause-sound : goal.returns-clause-sound
returns-clause-sound g c = λ d e number sound on same free.
    edit_sound c.apply-done.result d number e
    (edits g (goal.at.returns-clause-sound g c).After-say_edit number e same) sound on free

pub returns-clause-plays : goal.returns-clause-plays
returns-clause-plays g c = λ d m e number tells counts sound live is same.
    plays-ok {v = tt} (edit_plays _ c.apply-done.result e (book.step_of number e)
    (edits g (goal.at.returns-clause-plays g c).After-say_edit number e same) sound.0 counts live
    (rw is at (c.in_ok-say_edit.ensures.tells tells))) (λ rest h. h)
