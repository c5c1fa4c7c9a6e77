use Rattle.std.proofs.Common.{◌≡◌, ◌+◌, ◌≤◌, length}
use Rattle.std.specs.Str.Lines.{lines}
use Rattle.boot_script.specs.boot_script.Script.{put_before, events_from}
use Rattle.boot_script.proofs.boot_script.script.events.Given as goal

abbrev pub invariant-loop-rest : goal.invariant-loop-rest
invariant-loop-rest l = record {
  so_far : put_before l.events (events_from l.number l.starts (lines l.rest)) ≡ events_from 1 0 (lines l.text);
  numbers : l.number + length l.rest ≤ 65537;
  few : l.starts ≤ 64;
}

abbrev pub decreases-loop-rest : goal.decreases-loop-rest
decreases-loop-rest l = length l.rest
