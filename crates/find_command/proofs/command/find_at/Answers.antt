use Rattle.std.proofs.Common.{List, ℕ, Option, subst}
use Rattle.find_rule.specs.Hits.{path_hits}
use Rattle.find_command.specs.Answer.{answer_of, tree_answer}
use Rattle.find_command.specs.Prints.{Answers}
use Rattle.find_command.proofs.EndLemmas.{answers_lack}
use Rattle.find_command.proofs.command.find_at.Goals as goal

pub returns-in-Ok : goal.returns-in-Ok
returns-in-Ok g c =
    subst (λ (o : Option (List (List ℕ))). Answers (answer_of c.args.form (path_hits c.args.wanted.now c.args.root.now o)) c.find_path.result
    (g.H.Host.state c.args.host.now) (g.H.Host.state c.find_path.new.host)) c.in-Ok.ensures c.find_path.ensures

pub returns-in-Err : goal.returns-in-Err
returns-in-Err g c =
    answers_lack (tree_answer c.args.form c.args.wanted.now c.args.path.now c.args.root.now) (g.H.Host.state c.args.host.now)
