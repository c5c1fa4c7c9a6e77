use Rattle.device_laws.proofs.LostLemmas.{lines_lost, losers_told, losses_found}
use Rattle.device_laws.proofs.FilterLemmas.{filters_lost, others_stay}
use Rattle.device_laws.proofs.laws.what_is_lost_with_a_driver.Goals as goal

pub returns : goal.returns
returns c = record { lines = lines_lost; losers = losers_told; found = losses_found; filters = filters_lost; others = others_stay }
