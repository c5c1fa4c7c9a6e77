use Rattle.std.proofs.Common.{ℕ, cond, ◌∷◌, ap, ◌∙◌}
use Rattle.std.specs.Prelude.{Some, None}
use Rattle.std.proofs.lemmas.Result.{err_from_is_err_and}
use Rattle.start_model.specs.Sets.{select_numbers_of, set_name, is_usable}
use Rattle.key_text.specs.Found.{default_path}
use Rattle.key_command.proofs.FindLemmas.{shows_off, through}
use Rattle.key_command.proofs.key_cells.finding.default_path.Goals as goal

pub returns-in_err-number : goal.returns-in_err-number
returns-in_err-number c = λ t s.
    let p = err_from_is_err_and c.from_residual.result c.from_residual.ensures.1 in
    rw (p.1, p.2)
    (shows_off (select_numbers_of t).default (default_path t c.args.rest.now) c.in_err-number.field-0.0 (c.in_err-number.ensures t s))

pub returns-in_err-set : goal.returns-in_err-set
returns-in_err-set c = λ t s.
    let p = err_from_is_err_and c.from_residual-in_err-set.result c.from_residual-in_err-set.ensures.1 in
    let n = c.in_ok-number.number in
    rw (p.1, p.2)
    (shows_off (cond (is_usable t n) (Some (set_name n)) None) (default_path t c.args.rest.now) c.in_err-set.field-0.0
    (c.in_err-set.ensures t s))

pub returns : goal.returns
returns c = λ t s.
    let rest = c.args.rest.now in
    c.in_ok-path.ensures
    ∙ through t c.in_ok-number.number c.in_ok-set.set rest (c.in_ok-set.ensures t s)
    ∙ ap (λ (n : ℕ). cond (is_usable t n) (Some (set_name n ∷ rest)) None) (c.in_ok-number.ensures t s)
