use Rattle.std.proofs.Common.{◌≡◌, ◌++◌, map, take}
use Rattle.report_words.specs.declared.line.Line.TheVariants.{Unmet as UnmetLine}
use Rattle.safe_boot.specs.Lines.{line_of}
use Rattle.safe_boot.proofs.playing.push_unmet.Given as goal

abbrev pub invariant-loop-name : goal.invariant-loop-name
invariant-loop-name l = map line_of l.lines ≡ map line_of l.initial.lines ++ map UnmetLine (take l.name-index l.names)
