use Rattle.command_words.proofs.TellLemmas.{taken_named}
use Rattle.command_words.proofs.laws.clap_reads_what_is_read.Goals as goal

pub returns : goal.returns
returns c = taken_named
