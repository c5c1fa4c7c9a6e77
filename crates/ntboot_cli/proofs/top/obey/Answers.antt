use Rattle.std.proofs.Common.{map, ap, sym, subst, ◌∙◌}
use Rattle.command_words.specs.Views.{command_seen, export_seen, replay_seen, salvage_seen}
use Rattle.command_words.specs.Words.{asks}
use Rattle.command_words.specs.Reading.{reading_of}
use Rattle.command_words.specs.declared.asked.Command.{Command}
use Rattle.report_text.specs.declared.line_text.form.ReportForm.{ReportForm}
use Rattle.command_parts.specs.command_parts.Reporting.{DecidesReport}
use Rattle.repair_commands.specs.replay_command.Answer.{report_in}
use Rattle.repair_commands.specs.salvage_command.Answer.{report_in as salvage_report_in}
use Rattle.text_commands.specs.Exported.{DecidesExport}
use Rattle.ntboot_cli.proofs.CountedLemmas.{counted}
use Rattle.ntboot_cli.proofs.TopLemmas.{by_export, by_replay, by_salvage}
use Rattle.ntboot_cli.proofs.top.obey.Goals as goal

pub make-requires-clause-some : goal.make-requires-clause-some
make-requires-clause-some g c =
    let words = map (λ w. w.now) c.args.words.now in
    let arm = c.in-Command-Make-default in
    let is = sym arm.ensures ∙ ap (λ (x : Command). asks (command_seen x) arm.json) arm.field-0-is in
    (counted words _ _ is).0

pub make-requires-clause-few : goal.make-requires-clause-few
make-requires-clause-few g c =
    let words = map (λ w. w.now) c.args.words.now in
    let arm = c.in-Command-Make-default in
    let is = sym arm.ensures ∙ ap (λ (x : Command). asks (command_seen x) arm.json) arm.field-0-is in
    (counted words _ _ is).1

pub returns-in-Command-Export-default : goal.returns-in-Command-Export-default
returns-in-Command-Export-default g c =
    let words = map (λ w. w.now) c.args.words.now in
    let arm = c.in-Command-Export-default in
    let is = sym arm.ensures ∙ ap (λ (x : Command). asks (command_seen x) arm.json) arm.field-0-is in
    let old = g.H.Host.state c.args.host.now in
    let new = g.H.Host.state c.export.new.host in
    let decides = subst (λ (f : ReportForm). DecidesExport f (export_seen arm.words) c.export.result old new)
    c.form-in-Command-Export-default.ensures c.export.ensures.decides in
    by_export (reading_of words) arm.json c.export.result old new (g.B.Disk.state c.args.bench.now)
    (export_seen arm.words) is c.requires.fresh decides c.export.ensures.asked c.export.ensures.kept

pub returns-in-Command-Replay-default : goal.returns-in-Command-Replay-default
returns-in-Command-Replay-default g c =
    let words = map (λ w. w.now) c.args.words.now in
    let arm = c.in-Command-Replay-default in
    let is = sym arm.ensures ∙ ap (λ (x : Command). asks (command_seen x) arm.json) arm.field-0-is in
    let old = g.H.Host.state c.args.host.now in
    let new = g.H.Host.state c.replay.new.host in
    let decides = subst (λ (f : ReportForm). DecidesReport (report_in f (replay_seen arm.words) old.files) (replay_seen arm.words).save_hive c.replay.result old new)
    c.form-in-Command-Replay-default.ensures c.replay.ensures.decides in
    by_replay (reading_of words) arm.json c.replay.result old new (g.B.Disk.state c.args.bench.now)
    (replay_seen arm.words) is c.requires.fresh decides c.replay.ensures.asked c.replay.ensures.kept

pub returns-in-Command-Salvage-default : goal.returns-in-Command-Salvage-default
returns-in-Command-Salvage-default g c =
    let words = map (λ w. w.now) c.args.words.now in
    let arm = c.in-Command-Salvage-default in
    let is = sym arm.ensures ∙ ap (λ (x : Command). asks (command_seen x) arm.json) arm.field-0-is in
    let old = g.H.Host.state c.args.host.now in
    let new = g.H.Host.state c.salvage.new.host in
    let decides = subst (λ (f : ReportForm). DecidesReport (salvage_report_in f (salvage_seen arm.words) old.files) (salvage_seen arm.words).save_hive c.salvage.result old new)
    c.form-in-Command-Salvage-default.ensures c.salvage.ensures.decides in
    by_salvage (reading_of words) arm.json c.salvage.result old new (g.B.Disk.state c.args.bench.now)
    (salvage_seen arm.words) is c.requires.fresh decides c.salvage.ensures.asked c.salvage.ensures.kept
