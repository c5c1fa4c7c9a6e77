use Rattle.std.proofs.Common.{◌≡◌, length}
use Rattle.boot_script.specs.boot_script.Words.{words_of}
use Rattle.boot_script.proofs.WordLemmas.{with_front, texts}
use Rattle.boot_script.proofs.boot_script.words.words_in.Given as goal

abbrev pub invariant-words : goal.invariant-words
invariant-words l = with_front (texts l.found.items) (words_of l.rest) ≡ words_of l.line

abbrev pub decreases-words : goal.decreases-words
decreases-words l = length l.rest
