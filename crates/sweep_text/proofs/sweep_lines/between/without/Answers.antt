use Rattle.sweep_text.proofs.PieceLemmas.{if_ok, without_is}
use Rattle.sweep_text.proofs.sweep_lines.between.without.Goals as goal

pub returns : goal.returns
returns c =
    if_ok c.from_slice.result _ _
    (λ v are. without_is (λ p. p.now) c.args.pieces.now v.items c.args.count c.min.result c.min.ensures are)
    c.from_slice.ensures.items
