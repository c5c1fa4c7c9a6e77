use Rattle.json_laws.proofs.LineKinds.{lines_told}
use Rattle.json_laws.proofs.StartLines.{start_kind}
use Rattle.json_laws.proofs.lines.objects_tell_their_lines.Goals as goal

pub returns : goal.returns
returns c = lines_told start_kind
