use Rattle.sweep_text.proofs.SweptLemmas.{before_said, whole_said, whole_state}
use Rattle.sweep_text.proofs.sweep_lines.laws.the_probe_parts_the_lines.Goals as goal

pub returns : goal.returns
returns c = record { before = before_said; whole = whole_said; state = whole_state }
