use Rattle.std.proofs.Common.{◌≡◌, map}
use Rattle.sweep_text.proofs.sweep_lines.between.pieces.Given as goal

abbrev pub invariant-loop-piece : goal.invariant-loop-piece
invariant-loop-piece l = map (λ p. p.now) l.found.items ≡ map (λ x. x.now) l.yielded
