use Rattle.std.proofs.Common.{sym, subst}
use Rattle.salvage_file.specs.Long.{IsLongAs}
use Rattle.salvage_file.proofs.FileLemmas.{old_long}
use Rattle.salvage_file.proofs.recovery.by_logged.Goals as goal

pub by_reading-requires : goal.by_reading-requires
by_reading-requires c =
    subst (IsLongAs c.args.log.now c.args.logged.now.size) (sym c.read_old-reading.ensures) (old_long c.args.log.now c.args.logged.now _ _)
