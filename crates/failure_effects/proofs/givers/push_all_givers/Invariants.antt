use Rattle.std.proofs.Common.{take}
use Rattle.failure_effects.specs.Givers.{all_left_givers, Adds, AreSeen}
use Rattle.failure_effects.proofs.givers.push_all_givers.Given as goal

abbrev pub invariant-loop-name : goal.invariant-loop-name
invariant-loop-name l = record {
  adds : Adds (all_left_givers l.givers l.rest (take l.name-index l.names)) l.initial.found.items l.found.items;
  seen : AreSeen l.givers l.rest l.seen.items l.found.items;
}
