use Rattle.std.proofs.Common.{◌≡◌, ◌++◌, sym, subst}
use Rattle.std.specs.Prelude.{OnOk}
use Rattle.service_list.specs.declared.listing.ServiceLine.{ServiceLine}
use Rattle.services_command.specs.Lines.{printed}
use Rattle.services_command.proofs.line.push_service_line.Goals as goal

pub returns-in-Listed : goal.returns-in-Listed
returns-in-Listed c =
    subst (λ (l : ServiceLine). OnOk c.push_counts.result (c.push_counts.new.out.items ≡ c.args.out.now.items ++ printed c.args.form l))
    (sym c.in-Listed.is) c.push_counts.ensures
