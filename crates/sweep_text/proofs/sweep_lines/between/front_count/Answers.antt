use Rattle.sweep_text.proofs.PieceLemmas.{verdict_front, plain_front}
use Rattle.sweep_text.proofs.sweep_lines.between.front_count.Goals as goal

pub returns-then-is_verdict : goal.returns-then-is_verdict
returns-then-is_verdict c = verdict_front (λ p. p.now) c.args.pieces.now c.if-count-lt4.false c.if-is_verdict.ensures

pub returns-else-is_verdict : goal.returns-else-is_verdict
returns-else-is_verdict c = plain_front (λ p. p.now) c.args.pieces.now c.if-count-lt4.false c.if-is_verdict.ensures
