use Rattle.std.proofs.Common.{◌∙◌}
use Rattle.boot_machine.proofs.PathLemmas.{last_of-item}
use Rattle.boot_machine.proofs.edit_steps.paths.parted.Goals as goal

pub returns-clause-last : goal.returns-clause-last
returns-clause-last c = c.in_ok-copy.ensures ∙ c.last-item.is ∙ last_of-item c.args.path.now _ c.in-len1-up.len_at_least
