use Rattle.std.proofs.Common.{length, refl}
use Rattle.wait_cycles.proofs.InverseLemmas.{row_within}
use Rattle.wait_cycles.proofs.reach.reach.Goals as goal

pub least_set-requires-clause-firsts : goal.least_set-requires-clause-firsts
least_set-requires-clause-firsts c =
    rw (c.row_at.ensures) (row_within c.args.rows.now c.args.start (length c.args.rows.now) c.requires refl)
