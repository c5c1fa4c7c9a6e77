use Rattle.std.proofs.Common.{◌≡◌, ◌≤◌, ℕ, length}
use Rattle.mem_edge.specs.Views.{held_of, HasRoom}
use Rattle.mem_edge.proofs.image.MemImage.make_room.Given as goal

-- Files at least as long as now that have room for the rest have room for all.
abbrev pub invariant-loop-rest : goal.invariant-loop-rest
invariant-loop-rest l = record {
  same : held_of l.self ≡ held_of l.fn.self;
  room : (primary log : ℕ) → length l.self.primary.items ≤ primary → length l.self.log.items ≤ log
      → HasRoom primary log l.rest → HasRoom primary log l.flight;
}

abbrev pub decreases-loop-rest : goal.decreases-loop-rest
decreases-loop-rest l = length l.rest
