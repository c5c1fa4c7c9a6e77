use Rattle.services_laws.proofs.StandsLemmas.{number_is_dword, text_is_string, other_is_whole}
use Rattle.services_laws.proofs.laws.a_field_is_what_a_start_reads.Goals as goal

pub returns : goal.returns
returns c = record { number = number_is_dword; text = text_is_string; other = other_is_whole }
