use Rattle.command_words.proofs.VerboseLemmas.{verbose_alike}
use Rattle.command_words.proofs.laws.verbose_changes_nothing.Goals as goal

pub returns : goal.returns
returns c = verbose_alike
