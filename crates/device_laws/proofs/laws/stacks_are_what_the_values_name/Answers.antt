use Rattle.device_laws.proofs.StackLemmas.{stacks_named}
use Rattle.device_laws.proofs.laws.stacks_are_what_the_values_name.Goals as goal

pub returns : goal.returns
returns c = record { named = stacks_named }
