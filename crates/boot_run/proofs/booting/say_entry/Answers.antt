use Rattle.std.proofs.Common.{◌∙◌, [], Option, ap, subst}
use Rattle.std.specs.Option.{option_map_or}
use Rattle.boot_ini.specs.declared.boot_ini.ini.OsEntry.{OsEntry}
use Rattle.report_words.specs.declared.line.Line.{Line}
use Rattle.report_words.specs.declared.line.Line.TheVariants.{Entry as EntryLine}
use Rattle.run_parts.specs.printed_parts.Parts.{TellsOr}
use Rattle.boot_run.specs.Views.{told_by}
use Rattle.boot_run.proofs.booting.say_entry.Goals as goal

pub returns-clause-tells : goal.returns-clause-tells
returns-clause-tells g c = λ tells.
    let at = ap (λ (o : Option OsEntry). option_map_or (λ (e : OsEntry). e.path) o []) c.in-Some.ensures in
    let path = c.in-Ok.ensures ∙ c.as_slice.ensures ∙ at in
    let P : Line → Type 0 = λ l.
    TellsOr l (told_by (g.H.Host.state c.args.host.now) c.args.summary.now)
    (told_by (g.H.Host.state c.say.new.host) c.say.new.summary) c.say.result in
    subst P (ap (EntryLine c.args.number) path) (c.say.ensures.tells tells)
