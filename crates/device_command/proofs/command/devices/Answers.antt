use Rattle.command_words.specs.Views.{devices_seen}
use Rattle.device_command.specs.Answer.{question_in}
use Rattle.device_command.proofs.command.devices.Goals as goal

pub returns-clause-decides : goal.returns-clause-decides
returns-clause-decides g c =
    let old = g.H.Host.state c.args.host.now in
    c.answer.ensures.decides (question_in c.args.form (devices_seen c.args.words) old.files) old c.seek-told.ensures.seeks
