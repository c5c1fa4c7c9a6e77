use Rattle.std.proofs.Common.{◌∙◌, sym}
use Rattle.boot_run.proofs.GoLemmas.{enough_most}
use Rattle.boot_run.proofs.StartLemmas.{taken_running}
use Rattle.boot_run.proofs.starter.enough.Goals as goal

pub most_services-requires : goal.most_services-requires
most_services-requires c =
    taken_running c.args.runner.now.machine.start c.args.hive.now.tree (c.in-Some.number, c.in-Some.field-0-1)
    (sym c.running.ensures ∙ c.in-Some.is) c.requires

pub returns-clause-steps : goal.returns-clause-steps
returns-clause-steps c = λ m live.
    enough_most c.args.runner.now.machine.start m c.args.hive.now.tree (c.in-Some.number, c.in-Some.field-0-1)
    c.in-Ok.services (sym c.running.ensures ∙ c.in-Some.is) live c.in-Ok.ensures c.requires
