use Rattle.std.specs.Option.{option_copied}
use Rattle.failure_effects.proofs.ListedLemmas.{begun_listed}
use Rattle.failure_effects.proofs.course.begin.Goals as goal

pub returns : goal.returns
returns c =
    begun_listed c.begin_listed.result c.args.lists.now c.args.taken.now (option_copied c.args.failing) c.args.machine.now
    c.note_failure.new.machine c.begin_listed.new.self c.requires c.in_ok-note_failure.ensures c.begin_listed.ensures.ok
