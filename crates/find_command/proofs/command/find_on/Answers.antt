use Rattle.std.proofs.Common.{List, ℕ, subst}
use Rattle.key_text.specs.Words.{path_in}
use Rattle.command_words.specs.Views.{find_seen}
use Rattle.find_rule.specs.declared.wanted.Wanted.{Wanted}
use Rattle.find_command.specs.Asked.{wanted_by}
use Rattle.find_command.specs.Answer.{tree_answer}
use Rattle.find_command.specs.Prints.{Answers}
use Rattle.find_command.proofs.EndLemmas.{answers_lack}
use Rattle.find_command.proofs.command.find_on.Goals as goal

pub returns-in-Ok : goal.returns-in-Ok
returns-in-Ok g c =
    let a = g.H.Host.state c.args.host.now in
    let b = g.H.Host.state c.find_at.new.host in
    let asked = find_seen c.args.words.now in
    subst (λ (p : List (List ℕ)). Answers (tree_answer c.args.form (wanted_by asked) p c.args.root.now) c.find_at.result a b) c.in-Ok.ensures.path
    (subst (λ (w : Wanted). Answers (tree_answer c.args.form w c.in-Ok.path c.args.root.now) c.find_at.result a b) c.in-Ok.ensures.wanted
    c.find_at.ensures)

pub returns-in-Err : goal.returns-in-Err
returns-in-Err g c =
    let asked = find_seen c.args.words.now in
    answers_lack (tree_answer c.args.form (wanted_by asked) (path_in asked.key) c.args.root.now) (g.H.Host.state c.args.host.now)
