use Rattle.failure_effects.proofs.HeldLemmas.{held_by}
use Rattle.failure_effects.proofs.switching.off_set.Goals as goal

pub returns-clause-held : goal.returns-clause-held
returns-clause-held c =
    held_by c.with_children.result c.args.name.now c.args.set.now c.in_ok-children.children c.subkeys.result.now
    c.in_ok-children.ensures c.subkeys.ensures c.with_children.ensures c.requires
