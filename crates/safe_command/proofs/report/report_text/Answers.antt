use Rattle.boot_ini.specs.declared.boot_ini.choosing.Chosen.TheVariants as chosen
use Rattle.safe_command.proofs.ReportLemmas.{reports}
use Rattle.safe_command.proofs.report.report_text.Goals as goal

pub returns-in-Entry : goal.returns-in-Entry
returns-in-Entry c =
    reports c.args.form c.system_text.result c.args.inputs.now c.args.root.now c.in_ok-number.field-0
    (chosen.Entry c.in-Entry.number) c.in_ok-number.ensures.choice c.in-Entry.is c.system_text.ensures

pub returns-in-NoEntry : goal.returns-in-NoEntry
returns-in-NoEntry c =
    reports c.args.form c.verdict_text.result c.args.inputs.now c.args.root.now c.in_ok-number.field-0 chosen.NoEntry
    c.in_ok-number.ensures.choice c.in-NoEntry.is c.verdict_text.ensures

pub returns-in-OtherLoader : goal.returns-in-OtherLoader
returns-in-OtherLoader c =
    reports c.args.form c.other_text.result c.args.inputs.now c.args.root.now c.in_ok-number.field-0
    (chosen.OtherLoader c.in-OtherLoader.number) c.in_ok-number.ensures.choice c.in-OtherLoader.is
    c.other_text.ensures

pub returns-in-NoSystem : goal.returns-in-NoSystem
returns-in-NoSystem c =
    reports c.args.form c.other_text-in-NoSystem.result c.args.inputs.now c.args.root.now c.in_ok-number.field-0
    (chosen.NoSystem c.in-NoSystem.number) c.in_ok-number.ensures.choice c.in-NoSystem.is
    c.other_text-in-NoSystem.ensures
