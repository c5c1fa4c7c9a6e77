use Rattle.std.proofs.Common.{◌≡◌, ◌++◌, take}
use Rattle.start_model.specs.Lines.{path_text}
use Rattle.report_text.proofs.boot_report.name.push_path.Given as goal

abbrev pub invariant-loop-c : goal.invariant-loop-c
invariant-loop-c l = l.out.items ≡ l.fn.out.items ++ path_text (take l.c-index l.path)
