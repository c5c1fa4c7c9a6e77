use Rattle.find_rule.proofs.KeyLemmas.{for_key}
use Rattle.find_rule.proofs.laws.places_stand_in_the_order_of_key.Goals as goal

pub returns : goal.returns
returns c = for_key
