use Rattle.std.proofs.Common.{◌≡◌, ◌++◌, take}
use Rattle.report_text.specs.line_text.Quoted.{more_quoted}
use Rattle.report_text.proofs.line_text.quoted.push_more_quoted.Given as goal

abbrev pub invariant-loop-text : goal.invariant-loop-text
invariant-loop-text l = l.out.items ≡ l.fn.out.items ++ more_quoted (take l.text-index l.texts)
