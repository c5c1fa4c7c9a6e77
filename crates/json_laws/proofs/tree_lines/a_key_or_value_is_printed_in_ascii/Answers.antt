use Rattle.json_laws.proofs.LineKinds.{line_prints}
use Rattle.json_laws.proofs.TreeKind.{tree_kind}
use Rattle.json_laws.proofs.tree_lines.a_key_or_value_is_printed_in_ascii.Goals as goal

pub returns : goal.returns
returns c = line_prints tree_kind
