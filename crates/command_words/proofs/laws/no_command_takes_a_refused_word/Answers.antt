use Rattle.command_words.proofs.TellLemmas.{refused_named}
use Rattle.command_words.proofs.laws.no_command_takes_a_refused_word.Goals as goal

pub returns : goal.returns
returns c = refused_named
