use Rattle.std.proofs.Common.{◌≡◌, ◌++◌, take, map, filter}
use Rattle.set_diff.specs.Services.{only_line, is_only}
use Rattle.set_diff.proofs.service.put_only.Given as goal

abbrev pub invariant-loop-service : goal.invariant-loop-service
invariant-loop-service l = l.lines ≡ l.initial.lines ++ map (only_line l.side) (filter (is_only l.others) (take l.service-index l.services))
