use Rattle.std.proofs.Common.{[], ◌∷◌}
use Rattle.std.specs.Prelude.{codes}
use Rattle.report_text.specs.line_text.Objects.{Number, Text}
use Rattle.why_text.proofs.Fields.{more_fields}
use Rattle.why_text.proofs.why_text.json.push_judged.Goals as goal

pub returns : goal.returns
returns c =
    more_fields c.push_word.result c.args.out.now.items c.push_numbered.new.out.items c.push_word.new.out.items
    ((codes "word", Text c.args.word.now) ∷ (codes "number", Number c.args.number) ∷ [])
    ((codes "judgement", Text c.args.judgement.now) ∷ []) c.in_ok-push_numbered.ensures c.push_word.ensures
