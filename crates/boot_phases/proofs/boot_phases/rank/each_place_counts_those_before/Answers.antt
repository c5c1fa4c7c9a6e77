use Rattle.boot_phases.proofs.PlaceLemmas.{place_counts}
use Rattle.boot_phases.proofs.boot_phases.rank.each_place_counts_those_before.Goals as goal

pub returns : goal.returns
returns c = place_counts
