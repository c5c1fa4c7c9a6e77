use Rattle.std.proofs.Common.{subst, sym}
use Rattle.hive_model.specs.Valid.{HoldsKeys}
use Rattle.safe_boot.proofs.HeldLemmas.{reduced_holds}
use Rattle.safe_boot.proofs.PlayLemmas.{reduced_lines}
use Rattle.safe_boot.proofs.playing.reduced_lines.Goals as goal

pub start_lines-requires : goal.start_lines-requires
start_lines-requires c = subst HoldsKeys (sym c.in_ok-reduced.ensures)
    (reduced_holds c.args.set.now c.args.mode c.args.images c.requires)

pub returns : goal.returns
returns c = reduced_lines c.start_lines.result c.args.set.now c.in_ok-reduced.reduced c.args.mode
    c.args.images c.in_ok-reduced.ensures c.start_lines.ensures
