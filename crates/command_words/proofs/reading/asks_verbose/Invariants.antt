use Rattle.std.proofs.Common.{◌≡◌, map, length}
use Rattle.std.specs.List.{list_any}
use Rattle.command_words.specs.Reading.{is_verbose}
use Rattle.command_words.proofs.reading.asks_verbose.Given as goal

abbrev pub invariant-words : goal.invariant-words
invariant-words l = list_any is_verbose (map (λ w. w.now) l.rest) ≡ list_any is_verbose (map (λ w. w.now) l.words)

abbrev pub decreases-words : goal.decreases-words
decreases-words l = length l.rest
