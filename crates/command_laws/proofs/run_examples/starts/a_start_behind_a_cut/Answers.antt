use Rattle.std.proofs.Common.{◌≡◌}
use Rattle.command_laws.specs.run_examples.Reports.{cut_report}
use Rattle.command_laws.proofs.BehindLemmas.{cut_script, cut_events, cut_read, cut_said}
use Rattle.command_laws.proofs.PlainLemmas.{ran_ended, ran_said}
use Rattle.command_laws.proofs.run_examples.starts.a_start_behind_a_cut.Goals as goal

pub returns-clause-ended : goal.returns-clause-ended
returns-clause-ended c = ran_ended cut_script cut_events cut_read c.run.result c.run.ensures

pub returns-clause-said : goal.returns-clause-said
returns-clause-said c =
    ran_said cut_script (λ said. said ≡ cut_report) cut_events cut_read cut_said c.run.result c.run.ensures
