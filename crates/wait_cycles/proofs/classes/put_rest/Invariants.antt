use Rattle.std.proofs.Common.{ℕ, ◌<◌, ◌≢◌, length, get_or}
use Rattle.wait_cycles.specs.Classes.{AreClasses}
use Rattle.wait_cycles.proofs.classes.put_rest.Given as goal

abbrev pub invariant-loop-root : goal.invariant-loop-root
invariant-loop-root l = record {
  classes : AreClasses l.rows l.before.items l.classes.items;
  done : (u : ℕ) → u < l.root → get_or l.classes.items u 0 ≢ length l.rows;
}
