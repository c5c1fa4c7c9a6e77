use Rattle.std.proofs.Common.{◌≡◌, map, length, None}
use Rattle.command_words.specs.Walk.{no_values, walked}
use Rattle.command_words.specs.Views.{option_seen, walk_seen}
use Rattle.command_words.proofs.walk.walked.Given as goal

abbrev pub invariant-words : goal.invariant-words
invariant-words l =
    walked (map option_seen l.options) (walk_seen l.walk) (map (λ w. w.now) l.rest)
    ≡ walked (map option_seen l.options) (record { values = no_values; waiting = None }) (map (λ w. w.now) l.words)

abbrev pub decreases-words : goal.decreases-words
decreases-words l = length l.rest
