use Rattle.std.proofs.Common.{false, refl}
use Rattle.start_model.specs.Commit.{noted_saved}
use Rattle.boot_run.proofs.PlayLemmas.{plays-line, plays-here, rests-front}
use Rattle.boot_run.proofs.SaveLemmas.{noted_left, noted_sound}
use Rattle.boot_run.proofs.saving.refuse.Goals as goal

pub returns-in_err-note-clause-plays : goal.returns-in_err-note-clause-plays
returns-in_err-note-clause-plays g c = λ m s next d tells out counts sound live stays.
    rests-front c.from_residual.ensures.0 refl (c.in_err-note.ensures.tells tells) (stays (noted_saved false s m)) sound.0
    live

pub returns-clause-sound : goal.returns-clause-sound
returns-clause-sound g c =
    λ d sound. noted_sound false c.args.runner.now c.note.new.runner d c.args.hive c.in_ok-note.ensures.machine sound

pub returns-clause-plays : goal.returns-clause-plays
returns-clause-plays g c = λ m s next d tells out counts sound live stays.
    plays-line refl (c.in_ok-note.ensures.tells tells) (plays-here refl
    (noted_left false s next c.note.new.runner out counts live c.in_ok-note.ensures.machine c.note.ensures.starts))
