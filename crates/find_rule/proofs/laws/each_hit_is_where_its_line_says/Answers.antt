use Rattle.find_rule.proofs.FoundLemmas.{placed_so}
use Rattle.find_rule.proofs.laws.each_hit_is_where_its_line_says.Goals as goal

pub returns : goal.returns
returns c = placed_so
