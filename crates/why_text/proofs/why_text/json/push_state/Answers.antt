use Rattle.std.proofs.Common.{◌≡◌, ◌++◌, sym, subst}
use Rattle.std.specs.Prelude.{OnOk}
use Rattle.report_text.specs.line_text.Objects.{fields_text}
use Rattle.answer_lines.specs.declared.why_lines.lines.NameState.{NameState}
use Rattle.why_text.specs.why_text.Lines.{state_fields}
use Rattle.why_text.proofs.why_text.json.push_state.Goals as goal

pub returns-in-NoPhase : goal.returns-in-NoPhase
returns-in-NoPhase c =
    let P : NameState → Type 0 = λ s. OnOk c.push_word.result (c.push_word.new.out.items ≡ c.args.out.now.items ++ fields_text (state_fields s)) in
    subst P (sym c.in-NoPhase.is) c.push_word.ensures
