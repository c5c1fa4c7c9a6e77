use Rattle.std.proofs.Common.{◌≡◌, ◌++◌, take, replicate}
use Rattle.service_control.proofs.causes.add.Given as goal

abbrev pub invariant-loop-cause : goal.invariant-loop-cause
invariant-loop-cause l = record {
  needs : l.needs ≡ l.initial.needs ++ take l.cause-index l.more;
  owners : l.owners.items ≡ l.initial.owners.items ++ replicate l.cause-index l.owner;
}
