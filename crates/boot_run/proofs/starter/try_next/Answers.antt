use Rattle.std.proofs.Common.{◌≡◌, ◌∙◌, Some, ap, sym, subst, refl}
use Rattle.hive_store.specs.Session.{Session}
use Rattle.start_model.specs.Machine.{Start, MachineState, Tried, attempt_of}
use Rattle.start_model.specs.Act.{RunState, Act, with_machine}
use Rattle.start_model.specs.Starter.{starter_step, good_is_usable}
use Rattle.boot_run.specs.Agrees.{Counts, IsRunningBy, IsSound}
use Rattle.boot_run.proofs.PlayLemmas.{plays-as, plays-line, rests-silent, rests-front}
use Rattle.boot_run.proofs.SaveLemmas.{live_machine}
use Rattle.boot_run.proofs.StartLemmas.{judged_may, attempt_keeps}
use Rattle.boot_run.proofs.StepLemmas.{attempt_there, step_may}
use Rattle.boot_run.proofs.starter.try_next.Given.{Over}
use Rattle.boot_run.proofs.starter.try_next.Goals as goal
use Rattle.boot_run.proofs.starter.try_next.Goals.{In-Ok}

-- the attempt of the runner's machine is that of the book's
same : (g : Over) (c : In-Ok g) {m : RunState} (s : Start) (next : RunState → Act) {one : MachineState × Tried}
    → Counts m c.args.runner.now → m.live ≡ c.args.hive.tree
    → attempt_of c.args.runner.now.machine c.in-Ok.usable ≡ Some one
    → starter_step s m next (Some one) ≡ starter_step s m next (attempt_of m.machine (good_is_usable m.live))
same g c {m = m} s next counts live is = ap (starter_step s m next)
    (sym (ap (λ (n : MachineState). attempt_of n (good_is_usable m.live)) counts.machine
    ∙ ap (attempt_of c.args.runner.now.machine) (ap good_is_usable live ∙ sym c.in-Ok.ensures.usable) ∙ is))

pub returns-in_default-clause-plays : goal.returns-in_default-clause-plays
returns-in_default-clause-plays g c = λ m s next tells counts live stays.
    rests-silent refl (step_may s m next (attempt_of m.machine (good_is_usable m.live)) stays) c.requires.sound.0 live

pub returns-in_err-verdict-clause-plays : goal.returns-in_err-verdict-clause-plays
returns-in_err-verdict-clause-plays g c = λ m s next tells counts live stays.
    let there = attempt_there c.args.runner.now.machine c.in-Ok.usable c.requires.ready in
    plays-as (same g (goal.at.returns-in_err-verdict-clause-plays g c).In-Ok s next counts live.live there.1)
    (rests-front c.from_residual.ensures.0 refl (c.in_err-verdict.ensures.tells there.0 tells there.1)
    (judged_may there.0.1.judgement (with_machine there.0.0 m) next stays) c.requires.sound.0 live)

pub end_where-requires : goal.end_where-requires
end_where-requires g c =
    let a = c.in_ok-verdict.ensures.attempts in
    let tree = c.args.hive.tree in
    let P : MachineState → Type 0 = λ k. IsRunningBy k.start tree in
    let Q : Session → Type 0 = λ h. IsSound c.attempt.new.runner (g.B.Disk.state c.args.bench.now) (Some h) in
    record {
      sound = subst Q (sym c.good_is_usable.ensures.session) (
        c.requires.sound.0,
        subst P (sym a.machine) (attempt_keeps c.args.runner.now.machine c.in-Ok.usable a.one tree a.is
            c.requires.sound.1),
      );
    }

pub returns-clause-plays : goal.returns-clause-plays
returns-clause-plays g c = λ m s next tells counts live stays.
    let a = c.in_ok-verdict.ensures.attempts in
    plays-as (same g (goal.at.returns-clause-plays g c).In-Ok s next counts live.live a.is)
    (plays-line refl (c.in_ok-verdict.ensures.tells a.one tells a.is)
    (c.end_where.ensures.plays (with_machine a.one.0 m) next a.one.1.judgement
    (c.in_ok-verdict.ensures.host.keeps.tells ∙ tells)
    (record { machine = sym a.machine; starts = counts.starts ∙ sym c.attempt.ensures.starts })
    (rw c.good_is_usable.ensures.session (live_machine a.one.0 live)) a.ends))
