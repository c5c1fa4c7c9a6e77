use Rattle.std.proofs.Common.{ℕ, List, [], ◌∷◌, ◌++◌, sym, ap, ◌∙◌, append-nil}
use Rattle.std.specs.Prelude.{codes}
use Rattle.report_text.specs.line_text.Objects.{Text, field_text}
use Rattle.salvage_text.proofs.ObjectLemmas.{ended}
use Rattle.salvage_text.proofs.json.push_refused.Goals as goal

pub returns : goal.returns
returns c =
    ended c.close_object.result c.args.out.now.items c.open_object.new.out.items c.push_word_field.new.out.items
    c.close_object.new.out.items (codes "save") ((codes "refused", Text c.args.word.now) ∷ [])
    c.in_ok-open_object.ensures
    (c.in_ok-push_word_field.ensures
    ∙ ap (λ (x : List ℕ). c.open_object.new.out.items ++ x) (sym (append-nil (field_text (codes "refused") (Text c.args.word.now)))))
    c.close_object.ensures
