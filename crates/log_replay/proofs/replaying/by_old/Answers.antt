use Rattle.std.proofs.Common.{sym}
use Rattle.log_replay.specs.Seen.{old_seen}
use Rattle.log_replay.proofs.Wholes.{chosen_long}
use Rattle.log_replay.proofs.replaying.by_old.Goals as goal

pub after_old-requires : goal.after_old-requires
after_old-requires c = chosen_long c.args.logs.now _ (old_seen c.in-Some.found) c.requires.whole (sym c.in-Some.ensures)
