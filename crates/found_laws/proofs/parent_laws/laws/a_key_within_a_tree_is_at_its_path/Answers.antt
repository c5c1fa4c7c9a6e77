use Rattle.found_laws.proofs.Withins.{at-path}
use Rattle.found_laws.proofs.parent_laws.laws.a_key_within_a_tree_is_at_its_path.Goals as goal

pub returns : goal.returns
returns c = at-path
