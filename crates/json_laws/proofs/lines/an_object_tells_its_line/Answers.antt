use Rattle.json_laws.proofs.LineKinds.{line_told}
use Rattle.json_laws.proofs.StartLines.{start_kind}
use Rattle.json_laws.proofs.lines.an_object_tells_its_line.Goals as goal

pub returns : goal.returns
returns c = line_told start_kind
