use Rattle.std.proofs.Common.{◌≡◌, ◌++◌, map, take}
use Rattle.std.specs.List.{flat_map}
use Rattle.line_parts.specs.Parts.{after_space}
use Rattle.line_parts.proofs.text.say_words.Given as goal

abbrev pub invariant-loop-word : goal.invariant-loop-word
invariant-loop-word l = l.out.items ≡ l.initial.out.items ++ flat_map after_space (map (λ w. w.now) (take l.word-index l.words))
