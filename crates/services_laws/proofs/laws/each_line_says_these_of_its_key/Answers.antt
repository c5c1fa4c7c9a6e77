use Rattle.services_laws.proofs.WholeLemmas.{lines_say_these}
use Rattle.services_laws.proofs.laws.each_line_says_these_of_its_key.Goals as goal

pub returns : goal.returns
returns c = lines_say_these
