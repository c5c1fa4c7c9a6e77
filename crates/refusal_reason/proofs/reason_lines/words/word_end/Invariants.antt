use Rattle.std.proofs.Common.{◌≡◌, ◌+◌, length}
use Rattle.std.specs.List.{position_or_len}
use Rattle.refusal_reason.specs.reason_lines.Texts.{ends_word}
use Rattle.refusal_reason.proofs.reason_lines.words.word_end.Given as goal

abbrev pub invariant-bytes : goal.invariant-bytes
invariant-bytes l = record {
  at : l.end + length l.rest ≡ length l.text;
  same : l.end + position_or_len ends_word l.rest ≡ position_or_len ends_word l.text;
}

abbrev pub decreases-bytes : goal.decreases-bytes
decreases-bytes l = length l.rest
