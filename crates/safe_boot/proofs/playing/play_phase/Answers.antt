use Rattle.safe_boot.proofs.PlayLemmas.{played_by}
use Rattle.safe_boot.proofs.playing.play_phase.Goals as goal

pub returns : goal.returns
returns c =
    played_by c.end_phase.result c.args.lists.now c.args.machine.now c.attempt_all.new.machine c.end_phase.new.machine
    c.args.lines.now c.attempt_all.new.lines c.end_phase.new.lines
    c.in_ok-attempt_all.ensures c.end_phase.ensures
