use Rattle.std.proofs.Common.{◌≡◌, [], length, sym, ◌∙◌, arith}
use Rattle.std.proofs.lemmas.List.{ext_get_or, length-map}
use Rattle.key_index.specs.Lists.{hint_in, hints_in}
use Rattle.hive_cells.specs.Sources.{cells_of}
use Rattle.key_index.proofs.hints.hints.Goals as goal

pub returns : goal.returns
returns c =
    let cells = cells_of c.args.cells.now in
    let l = c.loop-i.invariant in
    let many : length (hints_in cells c.args.offsets.now) ≡ length c.args.offsets.now =
    length-map c.args.offsets.now (hint_in cells) in
    ext_get_or [] c.loop-i.made.items (hints_in cells c.args.offsets.now) (l.long ∙ sym many)
    (λ k below. l.each k (omega (arith, below, l.long, c.loop-i-test.false)))
