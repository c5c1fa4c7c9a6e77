use Rattle.std.proofs.Common.{◌≡◌, ◌++◌, map, take}
use Rattle.report_text.specs.line_text.Quoted.{more_quoted}
use Rattle.line_parts.proofs.json.push_more_words.Given as goal

abbrev pub invariant-loop-word : goal.invariant-loop-word
invariant-loop-word l = l.out.items ≡ l.initial.out.items ++ more_quoted (map (λ w. w.now) (take l.word-index l.words))
