use Rattle.std.proofs.Common.{ℕ, ◌+◌, sym, ap, subst, ◌∙◌}
use Rattle.std.proofs.lemmas.Result.{err_from_is_err_and}
use Rattle.std.specs.Prelude.{Some}
use Rattle.hive_model.specs.Tree.{Tree}
use Rattle.hive_model.specs.Valid.{HoldsKeys}
use Rattle.key_command.specs.hive_levels.Cut.{along}
use Rattle.key_command.proofs.AlongLemmas.{along_held}
use Rattle.key_text.specs.Found.{path_lines, lines_of}
use Rattle.key_text.specs.Lines.{printed_lines}
use Rattle.key_command.proofs.FindLemmas.{shows_off}
use Rattle.key_command.proofs.LineLemmas.{way_lines}
use Rattle.key_command.proofs.key_cells.report.report_at.Goals as goal

pub key_report-requires : goal.key_report-requires
key_report-requires c =
    let w = c.requires in
    record {
      held = subst HoldsKeys (sym (c.in_ok-part.ensures w.tree w.stands)) (along_held c.args.path.now _ w.tree w.keys);
    }

pub returns-in_err-part : goal.returns-in_err-part
returns-in_err-part c = λ t s is.
    let p = err_from_is_err_and c.from_residual.result c.from_residual.ensures.1 in
    rw (p.1, p.2)
    (shows_off (along c.args.path.now (c.from-levels.result + 1) t)
    (printed_lines c.args.form (path_lines c.args.security c.args.depth t (Some c.args.path.now)))
    c.in_err-part.field-0.0 (c.in_err-part.ensures t s))

pub returns : goal.returns
returns c = λ t s is.
    let path = c.args.path.now in
    let depth = c.args.depth in
    let security = c.args.security in
    let part = c.in_ok-part.ensures t s ∙ ap (λ (n : ℕ). along path (n + 1) t) c.from-levels.ensures in
    c.in_ok-text.ensures.exact
    ∙ ap (λ (u : Tree). printed_lines c.args.form (lines_of u path depth security)) part
    ∙ ap (printed_lines c.args.form) (way_lines t path depth security is)
