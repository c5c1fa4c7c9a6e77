use Rattle.std.proofs.Common.{◌∙◌}
use Rattle.boot_run.specs.Agrees.{IsSound}
use Rattle.boot_run.specs.Saves.{noting}
use Rattle.boot_run.proofs.PlayLemmas.{plays-ok, plays-err, plays-on}
use Rattle.boot_run.proofs.SaveLemmas.{noting_stays, leaves_sound}
use Rattle.boot_run.proofs.saving.commit_save.Given.{Over}
use Rattle.boot_run.proofs.saving.commit_save.Goals as goal
use Rattle.boot_run.proofs.saving.commit_save.Goals.{In_ok-left}

sound : (g : Over) (c : In_ok-left g)
    → IsSound c.commit_live.new.runner (g.B.Disk.state c.commit_live.new.bench) c.in_ok-left.left
sound g c = leaves_sound c.args.hive c.args.runner.now c.commit_live.new.runner
    (g.B.Disk.state c.commit_live.new.bench) c.in_ok-left.left c.requires.sound.1 c.in_ok-left.ensures.sound

pub returns-in_err-left-clause-plays : goal.returns-in_err-left-clause-plays
returns-in_err-left-clause-plays g c = λ m s next tells out counts stored stays.
    plays-err c.from_residual.ensures.0 (c.in_err-left.ensures.plays m (noting c.args.numbers s next) tells counts stored
    (noting_stays c.args.numbers s next stays))

pub returns-in_err-note_behind-clause-plays : goal.returns-in_err-note_behind-clause-plays
returns-in_err-note_behind-clause-plays g c = λ m s next tells out counts stored stays.
    plays-on (c.in_ok-left.ensures.plays m (noting c.args.numbers s next) tells counts stored
    (noting_stays c.args.numbers s next stays)) (λ rest h.
    plays-err c.from_residual-in_err-note_behind.ensures.0 (c.in_err-note_behind.ensures.plays m s c.args.hive.tree next
    (g.B.Disk.state c.commit_live.new.bench) rest (c.in_ok-left.ensures.host.keeps.tells ∙ tells) out
    (sound g (goal.at.returns-in_err-note_behind-clause-plays g c).In_ok-left) h stays))

pub returns-clause-sound : goal.returns-clause-sound
returns-clause-sound g c = c.in_ok-note_behind.ensures.sound (g.B.Disk.state c.commit_live.new.bench)
    (sound g (goal.at.returns-clause-sound g c).In_ok-left)

pub returns-clause-plays : goal.returns-clause-plays
returns-clause-plays g c = λ m s next tells out counts stored stays.
    plays-on (c.in_ok-left.ensures.plays m (noting c.args.numbers s next) tells counts stored
    (noting_stays c.args.numbers s next stays)) (λ rest h.
    plays-ok (c.in_ok-note_behind.ensures.plays m s c.args.hive.tree next (g.B.Disk.state c.commit_live.new.bench) rest
    (c.in_ok-left.ensures.host.keeps.tells ∙ tells) out (sound g (goal.at.returns-clause-plays g c).In_ok-left) h stays)
    (λ more k. k))
