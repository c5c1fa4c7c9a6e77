use Rattle.json_laws.proofs.LineKinds.{line_prints}
use Rattle.json_laws.proofs.StartLines.{start_kind}
use Rattle.json_laws.proofs.lines.a_line_is_printed_in_ascii.Goals as goal

pub returns : goal.returns
returns c = line_prints start_kind
