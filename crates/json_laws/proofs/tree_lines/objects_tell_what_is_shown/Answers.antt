use Rattle.json_laws.proofs.LineKinds.{lines_told}
use Rattle.json_laws.proofs.TreeKind.{tree_kind}
use Rattle.json_laws.proofs.tree_lines.objects_tell_what_is_shown.Goals as goal

pub returns : goal.returns
returns c = lines_told tree_kind
