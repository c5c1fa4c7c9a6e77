use Rattle.report_laws.proofs.GraphLines.{graph_told}
use Rattle.report_laws.proofs.report_json_laws.reports.the_objects_of_a_graph_tell_it.Goals as goal

pub returns : goal.returns
returns c = graph_told
