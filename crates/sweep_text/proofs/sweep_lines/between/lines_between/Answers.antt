use Rattle.std.proofs.Common.{◌∙◌}
use Rattle.sweep_text.specs.sweep_lines.Pieces.{pieces_of}
use Rattle.sweep_text.proofs.PieceLemmas.{if_ok, all_between}
use Rattle.sweep_text.proofs.sweep_lines.between.lines_between.Goals as goal

pub returns : goal.returns
returns c =
    if_ok c.without.result _ _
    (λ v is. is ∙ all_between (λ p. p.now) c.in_ok-pieces.field-0.items c.as_slice.result.now c.in_ok-all.all.items
    c.as_slice-2.result.now c.truncate.new.self.items c.as_slice-3.result.now c.front_count-from.result c.front_count.result
    (pieces_of c.args.before.now) (pieces_of c.args.whole.now) c.as_slice.ensures.value c.in_ok-pieces.ensures
    c.front_count-from.ensures c.as_slice-2.ensures.value c.in_ok-all.ensures c.front_count.ensures c.truncate.ensures.items
    c.as_slice-3.ensures.value)
    c.without.ensures
