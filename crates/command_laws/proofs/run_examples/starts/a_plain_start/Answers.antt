use Rattle.std.proofs.Common.{◌≡◌}
use Rattle.command_laws.specs.run_examples.Reports.{plain_report}
use Rattle.command_laws.proofs.PlainLemmas.{plain_script, plain_events, plain_read, plain_said, ran_ended, ran_said}
use Rattle.command_laws.proofs.run_examples.starts.a_plain_start.Goals as goal

pub returns-clause-ended : goal.returns-clause-ended
returns-clause-ended c = ran_ended plain_script plain_events plain_read c.run.result c.run.ensures

pub returns-clause-said : goal.returns-clause-said
returns-clause-said c =
    ran_said plain_script (λ said. said ≡ plain_report) plain_events plain_read plain_said c.run.result c.run.ensures
