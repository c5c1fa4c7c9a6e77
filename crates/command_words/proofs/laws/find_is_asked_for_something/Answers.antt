use Rattle.command_words.proofs.FindLemmas.{is_sought}
use Rattle.command_words.proofs.laws.find_is_asked_for_something.Goals as goal

pub returns : goal.returns
returns c = is_sought
