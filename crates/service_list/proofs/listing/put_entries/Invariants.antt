use Rattle.std.proofs.Common.{◌≡◌, ◌++◌, map}
use Rattle.service_list.specs.declared.listing.ServiceLine.TheVariants.{Entry}
use Rattle.service_list.proofs.listing.put_entries.Given as goal

abbrev pub invariant-loop-entry : goal.invariant-loop-entry
invariant-loop-entry l = l.lines ≡ l.initial.lines ++ map Entry l.yielded
