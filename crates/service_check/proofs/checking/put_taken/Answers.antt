use Rattle.std.proofs.Common.{◌≡◌, ◌++◌, ◌∙◌, [], subst}
use Rattle.std.specs.Result.{OnOk}
use Rattle.start_model.specs.Sets.{SelectNumbers}
use Rattle.service_check.specs.Check.{number_lines}
use Rattle.service_check.proofs.checking.put_taken.Goals as goal

pub returns : goal.returns
returns c =
    let P : SelectNumbers → Type 0 = λ n. OnOk c.put_default-2.result (c.put_default-2.new.lines
    ≡ c.args.lines.now ++ number_lines c.args.root.now c.args.in_order n.default []) in
    subst P (c.put_default.view_is ∙ c.select_numbers.ensures) c.put_default-2.ensures
