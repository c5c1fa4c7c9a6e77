use Rattle.command_words.specs.Views.{diff_seen}
use Rattle.set_commands.proofs.DiffAsks.{got_asked}
use Rattle.set_commands.proofs.diff_command.command.seek.Goals as goal

pub returns-in-Ok-clause-asks : goal.returns-in-Ok-clause-asks
returns-in-Ok-clause-asks g c =
    got_asked (diff_seen c.args.words) c.in-Ok.files c.seek_on.result (g.H.Host.state c.args.host.now) (g.H.Host.state c.hive_in.new.host)
    (g.H.Host.state c.seek_on.new.host) c.in-Ok.ensures.looks c.in-Ok.ensures.asks c.seek_on.ensures.asks
