use Rattle.std.proofs.Common.{append_assoc}
use Rattle.mend_command.proofs.mend_command.saying.found_line.Goals as goal

pub returns : goal.returns
returns c = rw c.into_bytes.ensures.value (rw c.in_ok-format.ensures.ok (simp append_assoc))
