use Rattle.std.proofs.Common.{◌≡◌, ap}
use Rattle.hive_model.specs.Tree.{Tree}
use Rattle.start_model.specs.Machine.{MachineState}
use Rattle.boot_machine.specs.boot_machine.Steps.{is_there}
use Rattle.boot_phases.specs.boot_phases.Lists.{lists_of}
use Rattle.safe_boot.specs.Played.{IsAt, phase_played, course_begun}
use Rattle.safe_boot.proofs.PlayLemmas.{begun_at, lines_by}
use Rattle.safe_boot.proofs.playing.play_start.Goals as goal

pub returns : goal.returns
returns c =
    let two : (set : Tree) → c.args.lists.now ≡ lists_of set
    → IsAt c.play_phase-2.new.machine c.play_phase-2.new.lines
    (phase_played set (phase_played set (course_begun set))) = λ set is.
    c.in_ok-play_phase-2.ensures set is (phase_played set (course_begun set))
    (c.in_ok-play_phase.ensures set is (course_begun set)
    (begun_at set c.args.machine.now c.begin_listed.new.self c.args.lines.now c.push.new.self c.requires.off
    (c.in_ok-begin_listed.ensures.ok set is) c.requires.unsaid c.in_ok-push.ensures.ok)) in
    lines_by c.play_phase-3.result c.args.lists.now
    c.play_phase-2.new.machine c.play_phase-3.new.machine c.play_phase-2.new.lines c.play_phase-3.new.lines two
    c.play_phase-3.ensures

pub begin_listed-requires : goal.begin_listed-requires
begin_listed-requires c = ap (λ (m : MachineState). is_there m.start) c.requires.off
