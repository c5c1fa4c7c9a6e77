use Rattle.std.proofs.Common.{◌≡◌, List, subst, ◌∙◌}
use Rattle.std.specs.Prelude.{IfOk}
use Rattle.command_words.specs.Views.{diff_seen}
use Rattle.answer_lines.specs.declared.diff_lines.lines.DiffLine.{DiffLine}
use Rattle.set_commands.specs.diff_command.Answer.{finding_answer}
use Rattle.set_commands.specs.diff_command.Compared.{found_lines, lines_answer}
use Rattle.set_commands.proofs.DiffCommandPartLemmas.{between_same}
use Rattle.set_commands.proofs.diff_command.comparing.found_between.Goals as goal

pub returns-clause-answer : goal.returns-clause-answer
returns-clause-answer c =
    let all = (diff_seen c.args.words).all in
    let first = c.args.first.now.tree in
    let second = c.args.second.now.tree in
    subst (λ (lines : List DiffLine). IfOk c.found.result (λ f. finding_answer f ≡ lines_answer c.args.form lines))
    (between_same all first second c.in_ok-a.a c.in_ok-b.b c.in_ok-n.n c.in_ok-m.m c.in_ok-a.ensures.stands c.in_ok-b.ensures.stands
    ∙ (λ i. found_lines all first (c.in_ok-n.ensures i) second (c.in_ok-m.ensures i)))
    c.found.ensures.answer
