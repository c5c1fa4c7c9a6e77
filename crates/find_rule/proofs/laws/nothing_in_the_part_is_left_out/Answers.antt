use Rattle.find_rule.proofs.PlaceLemmas.{key_reached, value_reached, place_count}
use Rattle.find_rule.proofs.laws.nothing_in_the_part_is_left_out.Goals as goal

pub returns-clause-keys : goal.returns-clause-keys
returns-clause-keys c = key_reached

pub returns-clause-values : goal.returns-clause-values
returns-clause-values c = λ way path t c v e i. value_reached way path t c v e i

pub returns-clause-once : goal.returns-clause-once
returns-clause-once c = place_count
