use Rattle.command_words.proofs.walk.with_option.Goals as goal

pub returns-in-None : goal.returns-in-None
returns-in-None c = rw c.in-None.is (c.with_bare.ensures c.args.word.now)
