use Rattle.std.proofs.Common.{ap}
use Rattle.command_parts.specs.command_parts.Inputs.{hive_in}
use Rattle.command_parts.proofs.SeekLemmas.{seeks_after}
use Rattle.command_words.specs.Views.{show_seen}
use Rattle.ntboot_cli.specs.Answer.{shown_by, shown_on}
use Rattle.ntboot_cli.proofs.showing.seek.Goals as goal

pub returns-in-Ok-clause-seeks : goal.returns-in-Ok-clause-seeks
returns-in-Ok-clause-seeks g c =
    let old = g.H.Host.state c.args.host.now in
    let asked = show_seen c.args.words in
    let wanted = hive_in old.files asked.hive asked.log in
    seeks_after wanted c.in-Ok.files (shown_on c.args.form c.in-Ok.files) (shown_by c.args.form wanted) c.text_of.result old
    (g.H.Host.state c.hive_in.new.host) (ap (shown_by c.args.form)) c.in-Ok.ensures.looks c.text_of.ensures
