use Rattle.std.proofs.Common.{[], ◌∷◌}
use Rattle.std.specs.Prelude.{codes}
use Rattle.report_text.specs.line_text.Objects.{Text}
use Rattle.check_text.specs.check_text.Lines.{fault_fields}
use Rattle.check_text.proofs.Fields.{more_fields}
use Rattle.check_text.proofs.check_text.json.push_about.Goals as goal

pub returns : goal.returns
returns c =
    more_fields c.push_text.result c.args.out.now.items c.push_fault.new.out.items c.push_text.new.out.items
    (fault_fields c.args.fault.now) ((codes "name", Text c.args.name.now) ∷ []) c.in_ok-push_fault.ensures
    c.push_text.ensures
