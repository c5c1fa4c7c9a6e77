use Rattle.std.proofs.Common.{◌≡◌, ◌++◌, subst}
use Rattle.std.specs.Result.{OnOk}
use Rattle.start_model.specs.Sets.{SelectNumbers}
use Rattle.service_check.specs.Check.{four_lines}
use Rattle.service_check.proofs.checking.put_selects.Goals as goal

pub returns : goal.returns
returns c =
    let P : SelectNumbers → Type 0 = λ n. OnOk c.put_numbers.result (c.put_numbers.new.lines
    ≡ c.args.lines.now ++ four_lines c.args.root.now n.current n.default n.failed n.good) in
    subst P c.select_numbers.ensures c.put_numbers.ensures
