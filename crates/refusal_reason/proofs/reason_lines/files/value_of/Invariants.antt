use Rattle.std.proofs.Common.{◌≡◌, map, length}
use Rattle.refusal_reason.specs.reason_lines.Files.{value_of}
use Rattle.refusal_reason.proofs.reason_lines.files.value_of.Given as goal

abbrev pub invariant-words : goal.invariant-words
invariant-words l = value_of (map (λ w. w.now) l.rest) l.option ≡ value_of (map (λ w. w.now) l.words) l.option

abbrev pub decreases-words : goal.decreases-words
decreases-words l = length l.rest
