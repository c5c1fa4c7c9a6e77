use Rattle.json_laws.proofs.TreeCounts.{line_count}
use Rattle.json_laws.proofs.tree_lines.each_key_and_value_is_an_object.Goals as goal

pub returns : goal.returns
returns c = line_count
