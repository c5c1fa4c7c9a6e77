use Rattle.std.proofs.Common.{[], ◌∷◌, ◌++◌, ◌∙◌}
use Rattle.report_words.specs.declared.line.Line.TheVariants.{Entry as EntryLine}
use Rattle.boot_ini.specs.boot_ini.Choice.{path_at}
use Rattle.report_text.specs.line_objects.Objects.{printed_lines}
use Rattle.safe_command.specs.Report.{mode_text, default_lines}
use Rattle.safe_command.proofs.TextLemmas.{three_parts}
use Rattle.safe_command.proofs.report.system_text.Goals as goal

pub returns : goal.returns
returns c =
    let root = c.args.root.now in
    let form = c.args.form in
    let entry = EntryLine c.args.number (path_at c.args.ini.now c.args.number) in
    let mode = c.mode_of-mode.ensures in
    c.from_vec.ensures
    ∙ three_parts form c.new-text.result.items c.put_entry.new.text.items c.put_mode.new.text.items
    c.put_default.new.text.items (mode_text form c.mode_of-mode.result)
    entry (default_lines root c.mode_of-mode.result c.args.images) c.new-text.ensures.items
    c.in_ok-put_entry.ensures c.in_ok-put_mode.ensures c.in_ok-put_default.ensures
    ∙ (λ i. printed_lines form (entry ∷ []) ++ mode_text form (mode i)
    ++ printed_lines form (default_lines root (mode i) c.args.images))
