use Rattle.command_words.proofs.FewerLemmas.{same_asked}
use Rattle.command_words.proofs.laws.unnamed_options_ask_nothing.Goals as goal

pub returns : goal.returns
returns c = same_asked
