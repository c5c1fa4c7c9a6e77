use Rattle.std.proofs.Common.{ℕ, List, [], ap, ◌∙◌}
use Rattle.std.proofs.lemmas.Result.{err_from_is_err_and}
use Rattle.hive_model.specs.Edit.{has_child}
use Rattle.key_command.specs.hive_levels.Cut.{along}
use Rattle.key_command.proofs.FindLemmas.{shows_off}
use Rattle.key_command.proofs.LineLemmas.{along_has}
use Rattle.key_command.proofs.key_cells.finding.has_child.Goals as goal

pub returns-in_err-part : goal.returns-in_err-part
returns-in_err-part c = λ t s.
    let p = err_from_is_err_and c.from_residual-in_err-part.result c.from_residual-in_err-part.ensures.1 in
    rw (p.1, p.2)
    (shows_off (along c.in_ok-path.path 0 t) (has_child c.args.name.now t) c.in_err-part.field-0.0 (c.in_err-part.ensures t s))

pub returns : goal.returns
returns c = λ t s.
    let name = c.args.name.now in
    c.has_child.ensures
    ∙ ap (has_child name) (c.in_ok-part.ensures t s ∙ ap (λ (p : List (List ℕ)). along p 0 t) c.in_ok-path.ensures)
    ∙ along_has name [] 0 t
