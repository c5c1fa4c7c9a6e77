use Rattle.std.proofs.Common.{◌≡◌, sym, subst}
use Rattle.std.specs.Prelude.{Err}
use Rattle.command_words.specs.Views.{import_seen}
use Rattle.command_parts.specs.declared.command_parts.inputs.HiveFiles.{HiveFiles}
use Rattle.command_parts.specs.declared.command_parts.refusal.Obstacle.{Obstacle}
use Rattle.command_parts.specs.command_parts.Inputs.{hive_in, AsksHive}
use Rattle.command_parts.specs.declared.command_parts.status.Status.{Status}
use Rattle.command_parts.specs.command_parts.Leaves.{Looks, stopped_as}
use Rattle.text_commands.specs.Asks.{AsksImport}
use Rattle.text_commands.specs.Imported.{DecidesImport}
use Rattle.text_commands.proofs.ImportAskLemmas.{found_asked, stopped_asked}
use Rattle.text_commands.proofs.ImportLemmas.{found_import, unfound_import}
use Rattle.text_commands.proofs.importing.import.Goals as goal

pub returns-in-Err-Stopped-clause-decides : goal.returns-in-Err-Stopped-clause-decides
returns-in-Err-Stopped-clause-decides g c =
    let old = g.H.Host.state c.args.host.now in
    let new = g.H.Host.state c.hive_in.new.host in
    let looks = subst
    (λ (o : Obstacle). Looks {A = HiveFiles}
    (hive_in old.files (import_seen c.args.words).hive (import_seen c.args.words).log) (Err o) old new)
    c.in-Err-Stopped.field-0-is c.in-Err-Stopped.ensures.looks in
    let done = unfound_import c.args.form (import_seen c.args.words) c.in-Err-Stopped.stop old new
    (g.B.Disk.state c.args.bench.now)
    c.requires.fresh looks in
    let told : c.stopped.result ≡ stopped_as c.in-Err-Stopped.stop =
    rw c.in-Err-Stopped.field-0-is at c.stopped.ensures in
    subst (λ (s : Status). DecidesImport c.args.form (import_seen c.args.words) s old new
    (g.B.Disk.state c.args.bench.now))
    (sym told) done

pub returns-in-Err-Stopped-clause-asked : goal.returns-in-Err-Stopped-clause-asked
returns-in-Err-Stopped-clause-asked g c =
    let old = g.H.Host.state c.args.host.now in
    let new = g.H.Host.state c.hive_in.new.host in
    let words = import_seen c.args.words in
    let looks = subst (λ (o : Obstacle). Looks {A = HiveFiles} (hive_in old.files words.hive words.log) (Err o) old new)
    c.in-Err-Stopped.field-0-is c.in-Err-Stopped.ensures.looks in
    let asks = subst (λ (o : Obstacle). AsksHive {A = HiveFiles} words.hive words.log (Err o) old new)
    c.in-Err-Stopped.field-0-is c.in-Err-Stopped.ensures.asks in
    let told : c.stopped.result ≡ stopped_as c.in-Err-Stopped.stop =
    rw c.in-Err-Stopped.field-0-is at c.stopped.ensures in
    subst (λ (s : Status). AsksImport words s old new) (sym told)
    (stopped_asked words c.in-Err-Stopped.stop old new looks asks)

pub returns-in-Ok-clause-asked : goal.returns-in-Ok-clause-asked
returns-in-Ok-clause-asked g c =
    found_asked (import_seen c.args.words) c.in-Ok.files c.import_hive.result (g.H.Host.state c.args.host.now)
    (g.H.Host.state c.hive_in.new.host)
    (g.H.Host.state c.import_hive.new.host) c.in-Ok.ensures.looks c.in-Ok.ensures.asks c.import_hive.ensures.asks

pub returns-in-Ok-clause-decides : goal.returns-in-Ok-clause-decides
returns-in-Ok-clause-decides g c =
    found_import c.args.form (import_seen c.args.words) c.in-Ok.files c.import_hive.result
    (g.H.Host.state c.args.host.now)
    (g.H.Host.state c.hive_in.new.host) (g.H.Host.state c.import_hive.new.host) (g.B.Disk.state c.import_hive.new.bench)
    c.in-Ok.ensures.looks c.import_hive.ensures
