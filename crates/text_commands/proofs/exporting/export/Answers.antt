use Rattle.std.proofs.Common.{◌≡◌, sym, subst, rules, arith}
use Rattle.std.specs.Prelude.{Err}
use Rattle.command_words.specs.Views.{export_seen}
use Rattle.command_parts.specs.declared.command_parts.inputs.HiveFiles.{HiveFiles}
use Rattle.command_parts.specs.declared.command_parts.refusal.Obstacle.{Obstacle}
use Rattle.command_parts.specs.command_parts.Inputs.{hive_in}
use Rattle.command_parts.specs.declared.command_parts.status.Status.{Status}
use Rattle.command_parts.specs.command_parts.Leaves.{Looks, stopped_as}
use Rattle.text_commands.specs.Exported.{DecidesExport}
use Rattle.text_commands.proofs.ExportLemmas.{stopped_exports}
use Rattle.text_commands.proofs.exporting.export.Goals as goal

pub returns-in-Err-Stopped-clause-decides : goal.returns-in-Err-Stopped-clause-decides
returns-in-Err-Stopped-clause-decides g c =
    let old = g.H.Host.state c.args.host.now in
    let new = g.H.Host.state c.hive_in.new.host in
    let looks = subst
    (λ (o : Obstacle). Looks {A = HiveFiles}
    (hive_in old.files (export_seen c.args.words).hive (export_seen c.args.words).log) (Err o) old new)
    c.in-Err-Stopped.field-0-is c.in-Err-Stopped.ensures.looks in
    let done = stopped_exports c.args.form (export_seen c.args.words) c.in-Err-Stopped.stop old new looks in
    let status = c.stopped.ensures in
    let stop = c.in-Err-Stopped.stop-is in
    let obstacle = c.in-Err-Stopped.field-0-is in
    let told : c.stopped.result ≡ stopped_as c.in-Err-Stopped.stop =
    first_of (search (rules, status, stop, obstacle), grind (arith, status, stop, obstacle), cc) in
    subst (λ (s : Status). DecidesExport c.args.form (export_seen c.args.words) s old new) (sym told) done
