use Rattle.std.proofs.Common.{refl}
use Rattle.std.specs.Fmt.{digits}
use Rattle.hex.specs.Hex.{encode_with}
use Rattle.start_model.specs.Lines.{unit_text}
use Rattle.tree_text.specs.TreeText.{shown_text, value_text}
use Rattle.tree_text.proofs.laws.a_system_with_one_driver_is_shown.Goals as goal

pub returns-clause-text : goal.returns-clause-text
unfolding shown_text value_text unit_text encode_with digits
returns-clause-text c = refl
