use Rattle.find_command.proofs.HexLemmas.{digits_alike}
use Rattle.find_command.proofs.laws.digits_of_either_case_are_one.Goals as goal

pub returns : goal.returns
returns c = digits_alike
