use Rattle.std.proofs.Common.{◌≡◌, take}
use Rattle.service_list.specs.Entries.{entries_of}
use Rattle.service_list.proofs.listing.entries_of.Given as goal

abbrev pub invariant-loop-key : goal.invariant-loop-key
invariant-loop-key l = l.entries.items ≡ entries_of l.turns l.selection (take l.key-index l.keys)
