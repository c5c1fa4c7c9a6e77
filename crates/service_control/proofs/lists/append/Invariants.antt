use Rattle.std.proofs.Common.{◌≡◌, ◌++◌, take}
use Rattle.service_control.proofs.lists.append.Given as goal

abbrev pub invariant-loop-need : goal.invariant-loop-need
invariant-loop-need l = l.needs ≡ l.initial.needs ++ take l.need-index l.more
