use Rattle.std.proofs.Common.{◌≡◌, ℕ, List, ◌++◌, ap, ◌∙◌, subst}
use Rattle.std.specs.Prelude.{codes, OnOk}
use Rattle.report_text.specs.line_text.Objects.{Number, Text, field_text}
use Rattle.check_text.specs.whatif_text.Lines.{judgement_word}
use Rattle.check_text.proofs.ObjectLemmas.{three_fields}
use Rattle.check_text.proofs.whatif_text.json.push_fail_fields.Goals as goal

pub returns : goal.returns
returns c =
    let t = c.args.out.now.items in
    let P : List ℕ → Type 0 = λ n. OnOk c.push_text_field.result
    (c.push_text_field.new.out.items ≡ c.push_number_field.new.out.items ++ field_text (codes "name") (Text n)) in
    three_fields c.push_text_field.result t c.push_word_field.new.out.items c.push_number_field.new.out.items
    c.push_text_field.new.out.items (codes "judgement") (Text (judgement_word c.args.judgement)) (codes "lost")
    (Number c.args.lost) (codes "name") (Text c.args.name.now)
    (c.in_ok-push_word_field.ensures ∙ ap (λ w. t ++ field_text (codes "judgement") (Text w)) c.judgement_word.ensures)
    c.in_ok-push_number_field.ensures (subst P c.as_slice.ensures c.push_text_field.ensures)
