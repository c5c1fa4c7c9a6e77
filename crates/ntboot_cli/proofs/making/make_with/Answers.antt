use Rattle.std.proofs.Common.{◌∙◌}
use Rattle.boot_run.specs.Views.{summary_in}
use Rattle.command_words.specs.Views.{make_seen}
use Rattle.ntboot_cli.proofs.MakeLemmas.{unmade, made_part, finished_makes}
use Rattle.ntboot_cli.proofs.making.make_with.Goals as goal

pub returns-in_default-summary_line : goal.returns-in_default-summary_line
returns-in_default-summary_line g c =
    unmade c.args.form c.args.usual.now (make_seen c.args.words) (g.H.Host.state c.args.host.now)
    (g.B.Disk.state c.generate.new.bench) c.in-Ok.ensures.off
    (made_part c.args.form c.args.usual.now (make_seen c.args.words) (g.B.Disk.state c.generate.new.bench) c.in-Ok.ensures.made)

pub returns : goal.returns
returns g c =
    finished_makes c.args.form c.args.usual.now (make_seen c.args.words) (summary_in c.in-Ok.summary)
    c.as_slice.result.now c.finish.result
    (g.H.Host.state c.args.host.now) (g.H.Host.state c.finish.new.host) (g.B.Disk.state c.generate.new.bench)
    (g.B.Disk.state c.finish.new.bench)
    c.in-Ok.ensures.off c.in-Ok.ensures.summary (c.as_slice.ensures.value ∙ c.in-Ok-summary_line.ensures)
    c.in-Ok.ensures.made c.finish.ensures
