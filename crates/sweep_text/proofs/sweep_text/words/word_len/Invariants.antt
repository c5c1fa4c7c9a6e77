use Rattle.std.proofs.Common.{◌≡◌, ◌+◌, drop}
use Rattle.std.specs.List.{prefix_len}
use Rattle.sweep_text.specs.sweep_text.Words.{in_word}
use Rattle.sweep_text.proofs.sweep_text.words.word_len.Given as goal

abbrev pub invariant-loop-c : goal.invariant-loop-c
invariant-loop-c l = (l.count ≡ l.c-index)
    × (l.c-index + prefix_len in_word (drop l.c-index l.text) ≡ prefix_len in_word l.text)
