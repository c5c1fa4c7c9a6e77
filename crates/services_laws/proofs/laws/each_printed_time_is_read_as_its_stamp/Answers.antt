use Rattle.services_laws.proofs.TimeLemmas.{texts_are_times}
use Rattle.services_laws.proofs.laws.each_printed_time_is_read_as_its_stamp.Goals as goal

pub returns : goal.returns
returns c = texts_are_times
