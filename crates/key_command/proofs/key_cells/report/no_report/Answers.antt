use Rattle.std.proofs.Common.{ℕ, false, List, [], sym, ap, subst, ◌∙◌}
use Rattle.std.proofs.lemmas.Result.{IfOk-weaker}
use Rattle.hive_model.specs.Tree.{Tree, key, none}
use Rattle.hive_model.specs.Valid.{HoldsKeys}
use Rattle.key_command.specs.hive_levels.Cut.{bare}
use Rattle.key_text.specs.Found.{lines_of}
use Rattle.key_text.specs.Lines.{printed_lines}
use Rattle.key_command.proofs.FindLemmas.{nothing_held, nothing_lines}
use Rattle.key_command.proofs.key_cells.report.no_report.Goals as goal

pub key_report-requires : goal.key_report-requires
key_report-requires c = record { held = subst HoldsKeys (sym c.nothing-root.ensures) nothing_held }

pub returns : goal.returns
returns c =
    let path = c.in_ok-path.path in
    let same = ap (λ (t : Tree). lines_of t path 0 false) c.nothing-root.ensures
    ∙ ap (λ (p : List (List ℕ)). lines_of (key (bare []) none) p 0 false) c.in_ok-path.ensures ∙ nothing_lines in
    IfOk-weaker c.key_report.result _ _ (λ text e. e ∙ ap (printed_lines c.args.form) same) c.key_report.ensures.exact
