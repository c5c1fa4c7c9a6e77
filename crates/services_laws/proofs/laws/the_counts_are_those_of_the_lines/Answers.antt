use Rattle.services_laws.proofs.WholeLemmas.{kinds_add_up, starts_add_up}
use Rattle.services_laws.proofs.laws.the_counts_are_those_of_the_lines.Goals as goal

pub returns : goal.returns
returns c = record { kinds = kinds_add_up; starts = starts_add_up }
