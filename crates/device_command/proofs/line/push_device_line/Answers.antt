use Rattle.std.proofs.Common.{◌≡◌, ℕ, List, [], ◌∷◌, ◌++◌, subst, sym}
use Rattle.std.specs.Prelude.{codes, OnOk}
use Rattle.line_parts.specs.Parts as parts
use Rattle.line_parts.specs.Parts.{line, Quoted}
use Rattle.device_rule.specs.declared.lines.DeviceLine.{DeviceLine}
use Rattle.device_command.specs.Lines.{printed}
use Rattle.device_command.proofs.line.push_device_line.Goals as goal

pub returns-in-NoDatabase : goal.returns-in-NoDatabase
returns-in-NoDatabase c =
    subst (λ (l : DeviceLine). OnOk c.push_line-in-NoDatabase.result (c.push_line-in-NoDatabase.new.out.items
    ≡ c.args.out.now.items ++ printed c.args.form l))
    (sym c.in-NoDatabase.is) c.push_line-in-NoDatabase.ensures

pub returns-in-Description : goal.returns-in-Description
returns-in-Description c =
    subst (λ (l : DeviceLine). OnOk c.push_line-in-Description.result (c.push_line-in-Description.new.out.items
    ≡ c.args.out.now.items ++ printed c.args.form l))
    (sym c.in-Description.is)
    (subst (λ (t : List ℕ). OnOk c.push_line-in-Description.result (c.push_line-in-Description.new.out.items
    ≡ c.args.out.now.items ++ parts.printed c.args.form (line (codes "description") (Quoted (codes "text") t ∷ []))))
    c.as_slice-in-Description.ensures c.push_line-in-Description.ensures)
