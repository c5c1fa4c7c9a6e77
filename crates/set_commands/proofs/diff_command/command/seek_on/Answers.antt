use Rattle.command_words.specs.Views.{diff_seen}
use Rattle.command_parts.specs.command_parts.Placed.{image_in}
use Rattle.set_commands.specs.diff_command.Answer.{hive_fault, IsSecond}
use Rattle.set_commands.proofs.DiffAsks.{loaded_asked}
use Rattle.set_commands.proofs.SeekLemmas.{loaded_seeks}
use Rattle.set_commands.proofs.diff_command.command.seek_on.Goals as goal

pub returns-in-Ok-clause-seeks : goal.returns-in-Ok-clause-seeks
returns-in-Ok-clause-seeks g c =
    loaded_seeks (image_in c.args.files.now) hive_fault (IsSecond c.args.form (diff_seen c.args.words)) c.in-Ok.first.tree c.in-Ok.field-0-1
    c.in-Ok.field-0-2 c.seek_second.result (g.H.Host.state c.args.host.now) (g.H.Host.state c.seek_second.new.host)
    c.in-Ok.ensures.0 c.seek_second.ensures.seeks

pub returns-in-Ok-clause-asks : goal.returns-in-Ok-clause-asks
returns-in-Ok-clause-asks g c =
    loaded_asked c.args.files.now (diff_seen c.args.words) c.in-Ok.first.tree c.in-Ok.field-0-1 c.in-Ok.field-0-2 c.seek_second.result
    (g.H.Host.state c.args.host.now) (g.H.Host.state c.seek_second.new.host) c.in-Ok.ensures.0 c.seek_second.ensures.asks
