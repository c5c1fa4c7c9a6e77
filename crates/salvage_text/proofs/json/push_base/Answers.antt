use Rattle.std.proofs.Common.{ℕ, [], ◌++◌, ap, ◌∙◌}
use Rattle.std.specs.Prelude.{codes}
use Rattle.report_text.specs.line_text.Objects.{fields_text}
use Rattle.salvage_text.specs.Lines.{fault_fields}
use Rattle.salvage_text.proofs.ObjectLemmas.{ended}
use Rattle.salvage_text.proofs.json.push_base.Goals as goal

pub returns : goal.returns
returns c =
    ended c.close_object.result c.args.out.now.items c.open_object.new.out.items c.push_fault_fields.new.out.items
    c.close_object.new.out.items (codes "fault") (fault_fields c.args.fault.kind c.args.fault.at (codes "base") [])
    c.in_ok-open_object.ensures
    (c.in_ok-push_fault_fields.ensures
    ∙ ap (λ (n : ℕ). c.open_object.new.out.items ++ fields_text (fault_fields c.args.fault.kind n (codes "base") [])) c.from.ensures)
    c.close_object.ensures
