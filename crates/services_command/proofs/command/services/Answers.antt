use Rattle.command_words.specs.Views.{services_seen}
use Rattle.services_command.specs.Answer.{question_in}
use Rattle.services_command.proofs.command.services.Goals as goal

pub returns-clause-decides : goal.returns-clause-decides
returns-clause-decides g c =
    let old = g.H.Host.state c.args.host.now in
    c.answer.ensures.decides (question_in c.args.form (services_seen c.args.words) old.files) old
    (c.seek-found.ensures.seeks c.args.form)
