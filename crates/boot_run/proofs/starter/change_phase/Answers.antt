use Rattle.std.proofs.Common.{◌≡◌, ◌∙◌, None, Some, false, sym, refl}
use Rattle.report_words.specs.declared.words.Verdict.TheVariants as verdicts
use Rattle.start_model.specs.Machine.{Start}
use Rattle.start_model.specs.Act.{RunState, Act, say_all, end_with}
use Rattle.start_model.specs.Starter.{phase_step}
use Rattle.run_parts.proofs.ChainLemmas.{still_leaves}
use Rattle.boot_run.specs.Agrees.{LoadsAny, Counts}
use Rattle.boot_run.specs.Starts.{stop_lines}
use Rattle.boot_run.proofs.PlayLemmas.{plays-as, plays-ok, plays-err, rests-silent, live_left}
use Rattle.boot_run.proofs.StartLemmas.{gone_act, missing_at, none_missing, stopped_act}
use Rattle.boot_run.proofs.StepLemmas.{step_may}
use Rattle.boot_run.proofs.starter.change_phase.Given.{Over}
use Rattle.boot_run.proofs.starter.change_phase.Goals as goal
use Rattle.boot_run.proofs.starter.change_phase.Goals.{After-stop_without}

-- the start stops
stops : (g : Over) (c : After-stop_without g) (m : RunState) (s : Start) (next : RunState → Act)
    → Counts m c.args.runner.now → m.machine.start ≡ Some s
    → say_all (stop_lines c.as_slice.result.now c.as_slice-2.result.now) (end_with verdicts.Stopped false m)
    ≡ phase_step s m next
stops g c m s next counts at = stopped_act s m next c.args.runner.now c.in-Ok-unmet.unmet c.in-Ok.missing
    c.as_slice.result.now c.as_slice-2.result.now counts at c.in-Ok-unmet.ensures c.in-Ok.ensures
    (sym c.is_empty.ensures ∙ c.if-is_empty.false) c.as_slice.ensures c.as_slice-2.ensures

pub returns-in_default-clause-plays : goal.returns-in_default-clause-plays
returns-in_default-clause-plays g c = λ m s next tells counts live at stays.
    rests-silent refl (step_may s m next None stays) c.requires.sound.0 live

pub returns-then-is_empty-clause-plays : goal.returns-then-is_empty-clause-plays
returns-then-is_empty-clause-plays g c = λ m s next tells counts live at stays.
    plays-as (gone_act s m next (missing_at m s c.args.runner.now counts at ∙ sym c.in-Ok.ensures
    ∙ none_missing c.in-Ok.missing (sym c.is_empty.ensures ∙ c.if-is_empty.true)))
    (c.go_past.ensures.plays m s next tells counts live at stays)

pub returns-in_default-unmet-clause-plays : goal.returns-in_default-unmet-clause-plays
returns-in_default-unmet-clause-plays g c = λ m s next tells counts live at stays.
    rests-silent refl (step_may s m next None stays) c.requires.sound.0 live

pub stop_without-requires : goal.stop_without-requires
stop_without-requires g c =
    let up = c.requires.sound.0 in
    record { left = still_leaves (g.B.Disk.state c.args.bench.now) LoadsAny up.still up.loads }

pub returns-in_err-stop_without-clause-plays : goal.returns-in_err-stop_without-clause-plays
returns-in_err-stop_without-clause-plays g c = λ m s next tells counts live at stays.
    plays-as (stops g (goal.at.returns-in_err-stop_without-clause-plays g c).After-stop_without m s next counts at)
    (plays-err c.from_residual.ensures.0 (c.in_err-stop_without.ensures.plays m tells
    (record { machine = counts.machine; starts = counts.starts }) (live_left c.requires.sound.0 live)))

pub returns-clause-plays : goal.returns-clause-plays
returns-clause-plays g c = λ m s next tells counts live at stays.
    plays-as (stops g (goal.at.returns-clause-plays g c).After-stop_without m s next counts at)
    (plays-ok (c.in_ok-stop_without.ensures.plays m tells (record { machine = counts.machine; starts = counts.starts })
    (live_left c.requires.sound.0 live)) (λ rest h. h))
