use Rattle.device_command.proofs.ToldLemmas.{report_told}
use Rattle.device_command.proofs.laws.objects_tell_the_report.Goals as goal

pub returns : goal.returns
returns c = report_told
