use Rattle.key_index.proofs.change.bins_fit.Goals as goal

pub returns : goal.returns
returns c = c.bytes-bins.ensures.sound.small
