use Rattle.std.proofs.Common.{◌≡◌, ◌+◌, map, length}
use Rattle.std.specs.List.{position_or_len}
use Rattle.refusal_reason.specs.reason_lines.Files.{is_named}
use Rattle.refusal_reason.proofs.reason_lines.files.place_or_len.Given as goal

abbrev pub invariant-words : goal.invariant-words
invariant-words l = record {
  at : l.place + length l.rest ≡ length l.words;
  same : l.place + position_or_len (is_named l.file) (map (λ w. w.now) l.rest)
      ≡ position_or_len (is_named l.file) (map (λ w. w.now) l.words);
}

abbrev pub decreases-words : goal.decreases-words
decreases-words l = length l.rest
