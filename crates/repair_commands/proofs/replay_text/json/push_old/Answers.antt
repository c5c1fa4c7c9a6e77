use Rattle.std.proofs.Common.{◌≡◌, ℕ, [], ◌∷◌, ◌++◌, ap, ◌∙◌, subst}
use Rattle.std.specs.Prelude.{OnOk, codes}
use Rattle.report_text.specs.line_text.Objects.{Number, field_text}
use Rattle.repair_commands.specs.replay_text.Lines.{log_fields}
use Rattle.repair_commands.proofs.Fields.{more_fields, last_field}
use Rattle.repair_commands.proofs.replay_text.json.push_old.Goals as goal

pub returns : goal.returns
returns c =
    let t = c.args.out.now.items in
    let fields = log_fields c.args.name (codes "old") [] in
    let one = more_fields t c.push_log.new.out.items c.push_number_field.new.out.items fields (codes "number") (Number c.args.number)
    c.in_ok-push_log.ensures
    (c.in_ok-push_number_field.ensures ∙ ap (λ n. c.push_log.new.out.items ++ field_text (codes "number") (Number n)) c.from.ensures) in
    let P : ℕ → Type 0 = λ n. OnOk c.push_number_field-2.result
    (c.push_number_field-2.new.out.items ≡ c.push_number_field.new.out.items ++ field_text (codes "sectors") (Number n)) in
    last_field c.push_number_field-2.result t c.push_number_field.new.out.items c.push_number_field-2.new.out.items
    (fields ++ (codes "number", Number c.args.number) ∷ []) (codes "sectors") (Number c.args.sectors) one
    (subst P c.from-2.ensures c.push_number_field-2.ensures)
