use Rattle.std.proofs.Common.{◌≡◌, map, length}
use Rattle.refusal_reason.specs.reason_lines.Kinds.{reason_in}
use Rattle.refusal_reason.specs.reason_lines.Seen.{row_seen}
use Rattle.refusal_reason.proofs.reason_lines.kinds.reason_in.Given as goal

abbrev pub invariant-rows : goal.invariant-rows
invariant-rows l = reason_in (map row_seen l.rest) l.kind ≡ reason_in (map row_seen l.rows) l.kind

abbrev pub decreases-rows : goal.decreases-rows
decreases-rows l = length l.rest
