use Rattle.std.specs.Prelude.{map, string_bytes}
use Rattle.command_words.specs.Reading.{reading_of}
use Rattle.ntboot_cli.proofs.UnreadLemmas.{unread_files, unread_leaves}
use Rattle.ntboot_cli.proofs.top.ntboot.Goals as goal

pub returns-in-Err-clause-answer : goal.returns-in-Err-clause-answer
returns-in-Err-clause-answer g c =
    unread_leaves (reading_of (map string_bytes c.args.words.now)) (g.H.Host.state c.args.host.now)
    (g.B.Disk.state c.args.bench.now) c.requires.fresh

pub returns-in-Err-clause-files : goal.returns-in-Err-clause-files
returns-in-Err-clause-files g c = λ tells.
    unread_files (reading_of (map string_bytes c.args.words.now)) (g.B.Disk.state c.args.bench.now)
    (g.H.Host.state c.args.host.now).files
