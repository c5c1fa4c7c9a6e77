use Rattle.std.proofs.Common.{◌≡◌, map, length}
use Rattle.std.specs.List.{list_any}
use Rattle.sweep_text.specs.sweep_text.Words.{recovers_text}
use Rattle.sweep_text.proofs.sweep_text.said.recovered.Given as goal

abbrev pub invariant-lines : goal.invariant-lines
invariant-lines l = list_any recovers_text (map (λ t. t.now) l.waiting) ≡ list_any recovers_text (map (λ t. t.now) l.said)

abbrev pub decreases-lines : goal.decreases-lines
decreases-lines l = length l.waiting
