use Rattle.command_laws.proofs.AgainLemmas.{torn_stands}
use Rattle.command_laws.proofs.twin_laws.saved.a_torn_block_stands_for_nothing.Goals as goal

pub returns : goal.returns
returns c = torn_stands
