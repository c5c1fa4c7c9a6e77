use Rattle.std.proofs.Common.{sym, subst}
use Rattle.std.proofs.lemmas.Result.{err_from_is_err_and}
use Rattle.hive_model.specs.Bins.{Cells}
use Rattle.hive_model.specs.Tree.{Tree}
use Rattle.hive_model.specs.Stands.{Stands}
use Rattle.command_parts.specs.command_parts.Placed.{image_in}
use Rattle.key_text.specs.Found.{lines_of}
use Rattle.key_text.specs.Lines.{printed_lines}
use Rattle.key_command.proofs.TextLemmas.{prints_loaded, prints_none}
use Rattle.key_command.proofs.key_command.text.text_at.Goals as goal

pub returns-in_err-cells : goal.returns-in_err-cells
returns-in_err-cells c =
    let p = err_from_is_err_and c.from_residual.result c.from_residual.ensures.1 in
    rw (p.1, p.2) (prints_none (image_in c.args.files.now)
    (λ (t : Tree). printed_lines c.args.form (lines_of t c.args.path.now c.args.depth c.args.security))
    c.in_err-cells.field-0.0 c.in_err-cells.ensures)

pub report_in-requires : goal.report_in-requires
report_in-requires c =
    let has = c.in_ok-cells.ensures.has in
    let tree = c.in_ok-cells.ensures.tree in
    record {
      held = record {
        tree = tree;
        stands = subst (λ (k : Cells). Stands k c.in_ok-cells.cells.root tree) (sym c.source.ensures) has.stands;
        keys = has.keys;
      };
    }

pub returns : goal.returns
returns c =
    let l = c.in_ok-cells.ensures in
    prints_loaded (image_in c.args.files.now)
    (λ (t : Tree). printed_lines c.args.form (lines_of t c.args.path.now c.args.depth c.args.security))
    c.in_ok-cells.cells l c.report_in.result
    (c.report_in.ensures.exact l.tree
    (subst (λ (k : Cells). Stands k c.in_ok-cells.cells.root l.tree) (sym c.source.ensures) l.has.stands))
