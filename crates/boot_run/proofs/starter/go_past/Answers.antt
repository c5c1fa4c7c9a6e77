use Rattle.std.proofs.Common.{◌∙◌, sym, subst, Some}
use Rattle.start_model.specs.Machine.{after_phase, with_start}
use Rattle.start_model.specs.Act.{with_machine}
use Rattle.start_model.specs.Commit.{save_where_due}
use Rattle.start_model.specs.Starter.{live_set}
use Rattle.hive_store.specs.Session.{Session}
use Rattle.boot_run.specs.Agrees.{IsSound}
use Rattle.boot_run.specs.Starts.{phase_lines}
use Rattle.boot_run.proofs.PlayLemmas.{plays-as, rests_left, counted}
use Rattle.boot_run.proofs.SaveLemmas.{live_machine}
use Rattle.boot_run.proofs.DueLemmas.{due_may}
use Rattle.boot_run.proofs.StartLemmas.{plays-all, front-all, phase_quiet, phase_act}
use Rattle.boot_run.proofs.StepLemmas.{next_counts}
use Rattle.boot_run.proofs.starter.go_past.Goals as goal

pub returns-in_err-say_phase-clause-plays : goal.returns-in_err-say_phase-clause-plays
returns-in_err-say_phase-clause-plays g c = λ m s next tells counts live at stays.
    let after = after_phase (live_set m s.number) s in
    let n = with_machine (with_start after m.machine) m in
    let more = save_where_due (Some after) n next in
    plays-as (phase_act s m next) (front-all (phase_lines s) more c.from_residual.ensures.0 (phase_quiet s)
    (c.in_err-say_phase.ensures.tells s tells (sym (counted m c.args.runner.now counts) ∙ at))
    (rests_left more (due_may (Some after) n next stays) c.requires.sound.0 live))

pub save_where_due-requires : goal.save_where_due-requires
save_where_due-requires g c =
    let P : Session → Type 0 = λ s. IsSound c.say_phase.new.runner (g.B.Disk.state c.args.bench.now) (Some s) in
    record
    { sound = subst P (sym c.say_phase.ensures.session) (c.requires.sound.0, c.in_ok-say_phase.ensures.sound) }

pub returns-clause-plays : goal.returns-clause-plays
returns-clause-plays g c = λ m s next tells counts live at stays.
    let n = with_machine (with_start (after_phase (live_set m s.number) s) m.machine) m in
    plays-as (phase_act s m next) (plays-all (phase_quiet s) (c.in_ok-say_phase.ensures.tells s tells (sym (counted m c.args.runner.now counts) ∙ at))
    (c.save_where_due.ensures.plays n next (c.in_ok-say_phase.ensures.host.keeps.tells ∙ tells)
    (next_counts c.args.hive.tree m s c.args.runner.now c.say_phase.new.runner live.live at counts
    c.say_phase.ensures.starts c.in_ok-say_phase.ensures.next)
    (rw c.say_phase.ensures.session (live_machine n.machine live)) stays))
