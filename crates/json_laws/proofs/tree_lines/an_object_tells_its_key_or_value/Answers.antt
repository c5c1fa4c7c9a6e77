use Rattle.json_laws.proofs.LineKinds.{line_told}
use Rattle.json_laws.proofs.TreeKind.{tree_kind}
use Rattle.json_laws.proofs.tree_lines.an_object_tells_its_key_or_value.Goals as goal

pub returns : goal.returns
returns c = line_told tree_kind
