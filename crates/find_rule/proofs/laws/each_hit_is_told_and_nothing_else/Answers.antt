use Rattle.find_rule.specs.Hits.{is_hit, places}
use Rattle.find_rule.proofs.ListLemmas.{kept_exactly}
use Rattle.find_rule.proofs.laws.each_hit_is_told_and_nothing_else.Goals as goal

pub returns : goal.returns
returns c = λ w path t h. kept_exactly (is_hit w) (places path t) h
