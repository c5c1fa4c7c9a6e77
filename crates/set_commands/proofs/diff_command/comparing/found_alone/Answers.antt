use Rattle.std.proofs.Common.{◌≡◌, List, subst, ◌∙◌}
use Rattle.std.specs.Prelude.{IfOk}
use Rattle.command_words.specs.Views.{diff_seen}
use Rattle.answer_lines.specs.declared.diff_lines.lines.DiffLine.{DiffLine}
use Rattle.set_commands.specs.diff_command.Answer.{finding_answer}
use Rattle.set_commands.specs.diff_command.Compared.{found_lines, lines_answer}
use Rattle.set_commands.proofs.DiffCommandPartLemmas.{alone_same}
use Rattle.set_commands.proofs.diff_command.comparing.found_alone.Goals as goal

pub returns-clause-answer : goal.returns-clause-answer
returns-clause-answer c =
    let all = (diff_seen c.args.words).all in
    let tree = c.args.hive.now.tree in
    subst (λ (lines : List DiffLine). IfOk c.found.result (λ f. finding_answer f ≡ lines_answer c.args.form lines))
    (alone_same all tree c.in_ok-root.root c.in_ok-n.n c.in_ok-m.m c.in_ok-root.ensures.stands
    ∙ (λ i. found_lines all tree (c.in_ok-n.ensures i) tree (c.in_ok-m.ensures i)))
    c.found.ensures.answer
