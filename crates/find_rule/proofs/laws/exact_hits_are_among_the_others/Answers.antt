use Rattle.find_rule.specs.Hits.{places}
use Rattle.find_rule.proofs.NarrowLemmas.{exact_among}
use Rattle.find_rule.proofs.laws.exact_hits_are_among_the_others.Goals as goal

pub returns : goal.returns
returns c = λ w path t. exact_among w (places path t)
