use Rattle.std.proofs.Common.{sym, ap, ◌∙◌}
use Rattle.std.specs.Option.{option_copied}
use Rattle.boot_machine.proofs.QueueLemmas.{some_within}
use Rattle.boot_machine.proofs.boot_machine.queue.need_at.Goals as goal

pub unwrap-requires : goal.unwrap-requires
unwrap-requires c = some_within c.need.result c.args.waiting.now.needs c.args.place c.need.ensures c.requires

pub returns : goal.returns
returns c = ap option_copied (sym c.unwrap.ensures) ∙ c.need.ensures
