use Rattle.std.proofs.Common.{◌≡◌, ◌+◌, ◌≤◌, length}
use Rattle.std.specs.Str.Lines.{lines}
use Rattle.control_command.specs.Commands.{commands_from}
use Rattle.boot_script.specs.boot_script.Script.{put_before}
use Rattle.control_command.proofs.reading.commands.Given as goal

abbrev pub invariant-loop-rest : goal.invariant-loop-rest
invariant-loop-rest l = record {
  so_far : put_before l.commands (commands_from l.number (lines l.rest)) ≡ commands_from 1 (lines l.text);
  numbers : l.number + length l.rest ≤ 65537;
}

abbrev pub decreases-loop-rest : goal.decreases-loop-rest
decreases-loop-rest l = length l.rest
