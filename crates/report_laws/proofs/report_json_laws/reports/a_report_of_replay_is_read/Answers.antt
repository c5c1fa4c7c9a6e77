use Rattle.report_laws.proofs.ReplayLines.{replay_report}
use Rattle.report_laws.proofs.report_json_laws.reports.a_report_of_replay_is_read.Goals as goal

pub returns : goal.returns
returns c = replay_report
