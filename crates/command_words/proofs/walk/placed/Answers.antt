use Rattle.command_words.proofs.ValueLemmas.{set-seen}
use Rattle.command_words.proofs.walk.placed.Goals as goal

pub returns : goal.returns
returns c = set-seen c.args.values c.args.place c.args.value
