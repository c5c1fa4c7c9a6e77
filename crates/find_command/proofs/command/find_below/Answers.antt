use Rattle.std.proofs.Common.{List, Option, Some, subst}
use Rattle.find_rule.specs.Hits.{Hit, part_hits, path_hits}
use Rattle.find_command.specs.Answer.{answer_of}
use Rattle.find_command.specs.Prints.{Answers}
use Rattle.find_command.proofs.EndLemmas.{answers_lack}
use Rattle.find_command.proofs.command.find_below.Goals as goal

pub returns-in-Ok : goal.returns-in-Ok
returns-in-Ok g c =
    subst (λ (o : Option (List Hit)). Answers (answer_of c.args.form o) c.find_part.result (g.H.Host.state c.args.host.now) (g.H.Host.state c.find_part.new.host))
    (λ i. part_hits c.args.wanted.now (c.in-Ok.ensures i) (c.find.ensures i)) c.find_part.ensures

pub returns-in-Err : goal.returns-in-Err
returns-in-Err g c =
    answers_lack (answer_of c.args.form (path_hits c.args.wanted.now c.args.root.now (Some c.args.path.now))) (g.H.Host.state c.args.host.now)
