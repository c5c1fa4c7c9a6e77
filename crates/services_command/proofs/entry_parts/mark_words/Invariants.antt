use Rattle.std.proofs.Common.{◌≡◌, take, map}
use Rattle.services_command.specs.Lines.{mark_word}
use Rattle.services_command.proofs.entry_parts.mark_words.Given as goal

abbrev pub invariant-loop-mark : goal.invariant-loop-mark
invariant-loop-mark l = map (λ word. word.now) l.words.items ≡ map mark_word (take l.mark-index l.marks)
