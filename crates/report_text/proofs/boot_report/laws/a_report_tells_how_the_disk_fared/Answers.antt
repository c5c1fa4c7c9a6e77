use Rattle.report_text.proofs.TextLemmas.{outcomes_of-text}
use Rattle.report_text.proofs.boot_report.laws.a_report_tells_how_the_disk_fared.Goals as goal

pub returns : goal.returns
returns c = λ lines rest e. outcomes_of-text lines rest e
