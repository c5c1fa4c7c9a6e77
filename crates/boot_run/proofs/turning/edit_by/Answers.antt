use Rattle.std.proofs.Common.{◌≡◌, ℕ, [], ◌∷◌, refl, sym, ap, ◌∙◌, rules}
use Rattle.std.specs.Prelude.{Option}
use Rattle.hive_model.specs.Edit.{edited}
use Rattle.reg_tree.specs.Makes.{step_of}
use Rattle.boot_machine.specs.boot_machine.Views.{event_in}
use Rattle.start_model.specs.Events as book
use Rattle.start_model.specs.Act.{RunState}
use Rattle.start_model.specs.Boot.{Choice}
use Rattle.start_model.specs.Machine as machine
use Rattle.start_model.specs.EventActs.{accepted_act}
use Rattle.boot_run.specs.Agrees.{Counts}
use Rattle.boot_run.proofs.EditLemmas.{edit_may}
use Rattle.boot_run.proofs.PlayLemmas.{plays-as, plays-ok, plays-err, rests-silent, counted, turns}
use Rattle.boot_run.proofs.TurnLemmas.{EditsOn, edits_on, edit_at, edit_step, edit_act, edit_free, running_most}
use Rattle.boot_run.proofs.turning.edit_by.Given.{Over}
use Rattle.boot_run.proofs.turning.edit_by.Goals as goal
use Rattle.boot_run.proofs.turning.edit_by.Goals.{Start, In-Ok}
use Rattle.boot_run.proofs.CloseLemmas.{runs_there}

by : (g : Over) (c : Start g) → EditsOn c.args.runner.now.machine.start (event_in c.args.event.now)
by g c = edits_on c.args.runner.now.machine.start c.args.hive.tree (event_in c.args.event.now) c.requires.edit
    c.requires.sound.1

act : (g : Over) (c : Start g) (m : RunState) (choice : Option ℕ → Choice) → Counts m c.args.runner.now
    → edit_at c.args.runner.now.machine.start (by g c) m
    ≡ accepted_act choice m.machine.start (event_in c.args.event.now) m
act g c m choice counts =
    edit_act choice c.args.runner.now.machine.start (by g c) m
    ∙ ap (λ (s : Option machine.Start). accepted_act choice s (event_in c.args.event.now) m) (sym (counted m c.args.runner.now counts))

step : (g : Over) (c : In-Ok g)
    → step_of c.in-Ok.step
    ≡ book.step_of (by g (goal.at.In-Ok g c).Start).number (by g (goal.at.In-Ok g c).Start).edit
step g c = edit_step c.args.runner.now.machine.start (by g (goal.at.In-Ok g c).Start) c.in-Ok.step c.in-Ok.ensures.step

pub next_step-requires : goal.next_step-requires
next_step-requires g c =
    let o = c.args.runner.now.machine.start in
    record {
      edit = c.requires.edit;
      number = running_most o c.args.hive.tree c.requires.sound.1;
      on = runs_there o c.args.hive.tree c.requires.sound.1;
    }

pub returns-in_default : goal.returns-in_default
returns-in_default g c = λ choice. turns (search rules) (search rules) (λ m tells counts live.
    let s = (goal.at.returns-in_default g c).Start in
    plays-as (act g s m choice counts)
    (rests-silent refl (edit_may (by g s).edit m
    (edited m.version m.live (book.step_of (by g s).number (by g s).edit ∷ []))) c.requires.sound.0 live))

pub returns-in-Err : goal.returns-in-Err
returns-in-Err g c = λ choice. turns (search rules) (search rules) (λ m tells counts live.
    let s = (goal.at.returns-in-Err g c).Start in
    let k = by g s in
    plays-as (act g s m choice counts)
    (plays-err refl (c.in-Err.ensures.plays (g.B.Disk.state c.args.bench.now) m k.edit k.number tells counts
    c.requires.sound live k.is (step g (goal.at.returns-in-Err g c).In-Ok))))

pub returns-in-Ok-edit : goal.returns-in-Ok-edit
returns-in-Ok-edit g c = λ choice. turns (let k = by g (goal.at.returns-in-Ok-edit g c).Start in
    c.in-Ok-edit.ensures.sound (g.B.Disk.state c.args.bench.now) k.edit k.number c.requires.sound k.on
    (step g (goal.at.returns-in-Ok-edit g c).In-Ok)
    (edit_free c.args.runner.now.machine.start c.args.hive.tree k c.requires.sound.1 c.requires.accepted)) (search rules) (λ m tells counts live.
    let s = (goal.at.returns-in-Ok-edit g c).Start in
    let k = by g s in
    plays-as (act g s m choice counts)
    (plays-ok (c.in-Ok-edit.ensures.plays (g.B.Disk.state c.args.bench.now) m k.edit k.number tells counts
    c.requires.sound live k.is (step g (goal.at.returns-in-Ok-edit g c).In-Ok)) (λ rest h. h)))
