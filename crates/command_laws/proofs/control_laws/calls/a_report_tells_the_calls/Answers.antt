use Rattle.command_laws.proofs.ControlLawsCallLemmas.{answer_behind, ends, report_is}
use Rattle.command_laws.proofs.control_laws.calls.a_report_tells_the_calls.Goals as goal

pub returns-clause-answer : goal.returns-clause-answer
returns-clause-answer c = λ state front back command. answer_behind state front back command

pub returns-clause-end : goal.returns-clause-end
returns-clause-end c = ends

pub returns-clause-report : goal.returns-clause-report
returns-clause-report c = report_is
