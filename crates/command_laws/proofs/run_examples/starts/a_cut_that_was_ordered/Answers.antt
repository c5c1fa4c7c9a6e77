use Rattle.std.specs.List.{Contains}
use Rattle.command_laws.specs.run_examples.Reports.{ordered_reports}
use Rattle.command_laws.proofs.OrderedLemmas.{ordered_script, ordered_events, ordered_read, ordered_said}
use Rattle.command_laws.proofs.PlainLemmas.{ran_ended, ran_said}
use Rattle.command_laws.proofs.run_examples.starts.a_cut_that_was_ordered.Goals as goal

pub returns-clause-ended : goal.returns-clause-ended
returns-clause-ended c = ran_ended ordered_script ordered_events ordered_read c.run.result c.run.ensures

pub returns-clause-said : goal.returns-clause-said
returns-clause-said c =
    ran_said ordered_script (Contains ordered_reports) ordered_events ordered_read ordered_said c.run.result
    c.run.ensures
