use Rattle.command_words.proofs.LawLemmas.{same_walk}
use Rattle.command_words.proofs.laws.unnamed_options_change_nothing.Goals as goal

pub returns : goal.returns
returns c = same_walk
