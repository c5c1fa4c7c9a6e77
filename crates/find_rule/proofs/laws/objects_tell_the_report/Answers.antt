use Rattle.find_rule.proofs.JsonLemmas.{report_told}
use Rattle.find_rule.proofs.laws.objects_tell_the_report.Goals as goal

pub returns : goal.returns
returns c = report_told
