use Rattle.command_words.specs.Views.{show_seen}
use Rattle.ntboot_cli.specs.Answer.{show_question_in}
use Rattle.ntboot_cli.proofs.showing.show.Goals as goal

pub returns-clause-decides : goal.returns-clause-decides
returns-clause-decides g c =
    let old = g.H.Host.state c.args.host.now in
    c.answer.ensures.decides (show_question_in c.args.form (show_seen c.args.words) old.files) old c.seek-told.ensures.seeks
