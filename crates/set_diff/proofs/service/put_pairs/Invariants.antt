use Rattle.std.proofs.Common.{◌≡◌, ◌++◌, take}
use Rattle.std.specs.List.{flat_map}
use Rattle.set_diff.specs.Services.{paired_lines}
use Rattle.set_diff.proofs.service.put_pairs.Given as goal

abbrev pub invariant-loop-service : goal.invariant-loop-service
invariant-loop-service l = l.lines ≡ l.initial.lines ++ flat_map (paired_lines l.others) (take l.service-index l.services)
