use Rattle.std.proofs.Common.{◌≡◌, ◌++◌, take}
use Rattle.start_model.specs.Lines.{name_text}
use Rattle.report_text.proofs.boot_report.name.push_name.Given as goal

abbrev pub invariant-loop-unit : goal.invariant-loop-unit
invariant-loop-unit l = l.out.items ≡ l.fn.out.items ++ name_text (take l.unit-index l.name)
