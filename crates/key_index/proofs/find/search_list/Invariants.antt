use Rattle.std.proofs.Common.{◌≤◌, ◌-◌, length}
use Rattle.key_index.specs.Lists.{offsets_of}
use Rattle.key_index.proofs.find.search_list.Given as goal

abbrev pub invariant-halves : goal.invariant-halves
invariant-halves l = l.high ≤ length (offsets_of l.list)

abbrev pub decreases-halves : goal.decreases-halves
decreases-halves l = l.high - l.low
