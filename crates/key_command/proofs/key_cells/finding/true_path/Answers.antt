use Rattle.std.proofs.Common.{List, ℕ, sym, ap, ◌∙◌}
use Rattle.std.specs.Prelude.{Some}
use Rattle.std.proofs.lemmas.Result.{err_from_is_err_and}
use Rattle.reg_tree.proofs.Outcomes.{uncons}
use Rattle.key_text.specs.Found.{means_current, true_path}
use Rattle.key_command.proofs.FindLemmas.{shows_off, true_current, true_other}
use Rattle.key_command.proofs.key_cells.finding.true_path.Goals as goal

pub returns-in_err-current : goal.returns-in_err-current
returns-in_err-current c = λ t s.
    let p = err_from_is_err_and c.from_residual.result c.from_residual.ensures.1 in
    rw (p.1, p.2)
    (shows_off (means_current t c.as_slice-2.result.now) (true_path t c.args.path.now) c.in_err-current.field-0.0
    (c.in_err-current.ensures t s))

pub returns-then-current : goal.returns-then-current
returns-then-current c = λ t s.
    let names = c.as_slice.result.now in
    let first = c.first-item.result in
    let whole = uncons names first c.in-len1-up.len_at_least c.first-item.is in
    let means = c.in_ok-current.ensures t s ∙ ap (means_current t) c.as_slice-2.ensures in
    rw (true_current t c.args.path.now first _ c.in_ok-current.current (sym c.as_slice.ensures ∙ whole) means
    c.if-current.true) (c.default_path.ensures t s)

pub returns : goal.returns
returns c = λ t s.
    let names = c.as_slice.result.now in
    let first = c.first-item.result in
    let whole = uncons names first c.in-len1-up.len_at_least c.first-item.is in
    let means = c.in_ok-current.ensures t s ∙ ap (means_current t) c.as_slice-2.ensures in
    ap (λ (p : List (List ℕ)). Some p) c.in_ok-same.ensures
    ∙ true_other t c.args.path.now first _ c.in_ok-current.current (sym c.as_slice.ensures ∙ whole) means
    c.if-current.false
