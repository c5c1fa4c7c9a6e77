use Rattle.std.proofs.Common.{◌≡◌, ◌+◌, ◌≤◌, length}
use Rattle.std.specs.Str.Lines.{lines}
use Rattle.boot_script.specs.sweep_script.Sweep.{no_parts, parts_from}
use Rattle.boot_script.proofs.sweep_script.reading.read_lines.Given as goal

abbrev pub invariant-loop-rest : goal.invariant-loop-rest
invariant-loop-rest l = record {
  so_far : parts_from l.number l.parts (lines l.rest) ≡ parts_from 1 no_parts (lines l.text);
  numbers : l.number + length l.rest ≤ 65537;
  few : l.parts.starts ≤ 64;
}

abbrev pub decreases-loop-rest : goal.decreases-loop-rest
decreases-loop-rest l = length l.rest
