use Rattle.std.proofs.Common.{append_assoc}
use Rattle.command_parts.proofs.command_parts.refusal.hive_fault_line.Goals as goal

pub returns : goal.returns
returns c = rw c.into_bytes.ensures.value (rw c.in_ok-format.ensures.ok (simp append_assoc))
