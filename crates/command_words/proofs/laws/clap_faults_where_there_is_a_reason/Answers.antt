use Rattle.command_words.proofs.TellLemmas.{tells_named}
use Rattle.command_words.proofs.laws.clap_faults_where_there_is_a_reason.Goals as goal

pub returns : goal.returns
returns c = tells_named
