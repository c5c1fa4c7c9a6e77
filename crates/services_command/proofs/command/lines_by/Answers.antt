use Rattle.std.proofs.Common.{◌≡◌, List, subst}
use Rattle.std.specs.Prelude.{IfOk}
use Rattle.service_list.specs.declared.listing.ServiceLine.{ServiceLine}
use Rattle.services_command.proofs.SetLemmas.{lines_same}
use Rattle.services_command.proofs.command.lines_by.Goals as goal

pub returns : goal.returns
returns c =
    subst (λ (lines : List ServiceLine). IfOk c.services.result (λ l. l ≡ lines))
    (lines_same c.args.hive.now.tree c.in_ok-root.root c.args.number c.args.selection c.in_ok-root.ensures.shows)
    c.services.ensures.lines
