use Rattle.std.proofs.Common.{◌∙◌}
use Rattle.start_model.specs.Boot.{begin_start}
use Rattle.boot_run.specs.Begins.{IsUpOrDown}
use Rattle.boot_run.proofs.PlayLemmas.{plays-err, plays-on}
use Rattle.boot_run.proofs.BeginLemmas.{stays_begin, up_or_down, still_off, still_taken}
use Rattle.boot_run.proofs.beginning.begin_committed.Given.{Over}
use Rattle.boot_run.proofs.beginning.begin_committed.Goals as goal
use Rattle.boot_run.proofs.beginning.begin_committed.Goals.{In_ok-left}

up : (g : Over) (c : In_ok-left g) → IsUpOrDown (g.B.Disk.state c.commit.new.bench) c.in_ok-left.left
up g c = up_or_down c.args.hive c.args.runner.now c.commit.new.runner (g.B.Disk.state c.commit.new.bench)
    c.in_ok-left.left c.in_ok-left.ensures.sound

pub begin_behind-requires-clause-off : goal.begin_behind-requires-clause-off
begin_behind-requires-clause-off g c =
    still_off c.args.hive c.args.runner.now c.commit.new.runner (g.B.Disk.state c.commit.new.bench)
    c.in_ok-left.left c.requires.off c.in_ok-left.ensures.sound

pub begin_behind-requires-clause-taken : goal.begin_behind-requires-clause-taken
begin_behind-requires-clause-taken g c =
    still_taken c.args.hive c.args.runner.now c.commit.new.runner (g.B.Disk.state c.commit.new.bench)
    c.in_ok-left.left c.args.number c.requires.taken c.in_ok-left.ensures.sound

pub returns-in_err-left-clause-plays : goal.returns-in_err-left-clause-plays
returns-in_err-left-clause-plays g c = λ m tells counts live.
    plays-err c.from_residual.ensures.0
    (c.in_err-left.ensures.plays m (begin_start c.args.number c.args.on_good c.args.numbers) tells counts live
    (stays_begin c.args.number c.args.on_good c.args.numbers))

pub returns-clause-plays : goal.returns-clause-plays
returns-clause-plays g c = λ m tells counts live.
    plays-on (c.in_ok-left.ensures.plays m (begin_start c.args.number c.args.on_good c.args.numbers) tells counts live
    (stays_begin c.args.number c.args.on_good c.args.numbers)) (λ rest h.
    c.begin_behind.ensures.plays m c.args.hive.tree (g.B.Disk.state c.commit.new.bench) rest
    (c.in_ok-left.ensures.host.keeps.tells ∙ tells) (up g (goal.at.returns-clause-plays g c).In_ok-left) h)

pub returns-clause-sound : goal.returns-clause-sound
returns-clause-sound g c = c.begin_behind.ensures.sound (g.B.Disk.state c.commit.new.bench)
    (up g (goal.at.returns-clause-sound g c).In_ok-left)
