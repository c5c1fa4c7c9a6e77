use Rattle.std.proofs.Common.{sym, ◌∙◌, arith}
use Rattle.std.proofs.lemmas.Result.{IfOk-weaker}
use Rattle.hive_cells.specs.Sources.{cells_of}
use Rattle.hive_edit.proofs.HoldingLemmas.{inside_is, none_is, empty_is, big_read, big_given, cell_fits, celled_is}
use Rattle.hive_edit.proofs.holding.data_are.Goals as goal

pub returns-then-size-ge2147483648 : goal.returns-then-size-ge2147483648
returns-then-size-ge2147483648 c = λ b e.
    inside_is (cells_of c.args.cells.now) c.args.size c.args.place c.args.bytes.now b c.begins.result
    (omega (arith, c.if-size-ge2147483648.true)) (rw c.to_le_bytes.ensures at c.begins.ensures) e

pub returns-then-size-eq0 : goal.returns-then-size-eq0
returns-then-size-eq0 c = λ b e.
    none_is (cells_of c.args.cells.now) c.args.size c.args.place c.args.bytes.now b c.is_empty.result c.if-size-eq0.true
    (empty_is c.args.bytes.now c.is_empty.result c.is_empty.ensures) e

pub big_are-requires : goal.big_are-requires
big_are-requires c =
    big_read (cells_of c.args.cells.now) c.args.size c.args.place c.requires.data
    (omega (arith, c.if-size-ge2147483648.false)) c.if-size-eq0.false (sym c.is_big.ensures ∙ c.if-is_big.true)

pub returns-then-is_big : goal.returns-then-is_big
returns-then-is_big c =
    IfOk-weaker c.big_are.result _ _
    (λ t test. big_given (cells_of c.args.cells.now) c.args.size c.args.place c.args.bytes.now t
    (omega (arith, c.if-size-ge2147483648.false)) c.if-size-eq0.false (sym c.is_big.ensures ∙ c.if-is_big.true) test) c.big_are.ensures

pub begins-requires-2 : goal.begins-requires-2
begins-requires-2 c =
    cell_fits (cells_of c.args.cells.now) c.args.size c.args.place c.payload.result.now c.requires.data
    (omega (arith, c.if-size-ge2147483648.false)) c.if-size-eq0.false (sym c.is_big.ensures ∙ c.if-is_big.false) c.payload.ensures

pub returns : goal.returns
returns c = λ b e.
    celled_is (cells_of c.args.cells.now) c.args.size c.args.place c.payload.result.now c.args.bytes.now b
    c.begins-2.result (omega (arith, c.if-size-ge2147483648.false)) c.if-size-eq0.false (sym c.is_big.ensures ∙ c.if-is_big.false) c.payload.ensures
    c.begins-2.ensures e
