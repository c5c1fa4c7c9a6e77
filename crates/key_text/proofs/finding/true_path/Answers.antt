use Rattle.std.proofs.Common.{sym, ap, ◌∙◌}
use Rattle.reg_tree.proofs.Outcomes.{uncons}
use Rattle.key_text.specs.Found.{means_current}
use Rattle.key_text.proofs.PathLemmas.{current_path}
use Rattle.key_text.proofs.finding.true_path.Goals as goal

pub returns-then-means_current : goal.returns-then-means_current
returns-then-means_current c =
    let names = c.as_slice.result.now in
    let first = c.first-item.result in
    let whole = uncons names first c.in-len1-up.len_at_least c.first-item.is in
    let yes = ap (means_current c.args.root.now) (sym c.as_slice-2.ensures) ∙ sym c.means_current.ensures
    ∙ c.if-means_current.true in
    rw (current_path c.args.root.now first _ c.args.path.now (sym c.as_slice.ensures ∙ whole) yes)
    c.default_path.ensures
