use Rattle.std.proofs.Common.{ℕ, List, ap, ◌∙◌}
use Rattle.std.proofs.lemmas.Result.{err_from_is_err_and}
use Rattle.start_model.specs.Sets.{SelectNumbers, select_numbers_of}
use Rattle.key_command.specs.hive_levels.Cut.{along}
use Rattle.key_command.proofs.FindLemmas.{shows_off, numbers_along}
use Rattle.key_command.proofs.key_cells.finding.default_number.Goals as goal

pub returns-in_err-part : goal.returns-in_err-part
returns-in_err-part c = λ t s.
    let p = err_from_is_err_and c.from_residual-in_err-part.result c.from_residual-in_err-part.ensures.1 in
    rw (p.1, p.2)
    (shows_off (along c.in_ok-path.path 1 t) (select_numbers_of t).default c.in_err-part.field-0.0 (c.in_err-part.ensures t s))

pub returns : goal.returns
returns c = λ t s. ap (λ (n : SelectNumbers). n.default)
    (c.result.view_is ∙ c.select_numbers.ensures
    ∙ ap select_numbers_of (c.in_ok-part.ensures t s ∙ ap (λ (p : List (List ℕ)). along p 1 t) c.in_ok-path.ensures)
    ∙ numbers_along t)
