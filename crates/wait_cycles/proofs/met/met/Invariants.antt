use Rattle.std.proofs.Common.{◌+◌, ◌*◌, not}
use Rattle.std.specs.Prelude.{count_by, vec_len}
use Rattle.wait_cycles.specs.Working.{IsSettling, AreFirsts}
use Rattle.wait_cycles.proofs.met.met.Given as goal

abbrev pub invariant-work : goal.invariant-work
invariant-work l = record {
  settling : IsSettling l.rows l.places l.marks.items l.work.items;
  firsts : AreFirsts l.rows l.marks.items l.firsts.items;
}

abbrev pub decreases-work : goal.decreases-work
decreases-work l = 2 * count_by not l.marks.items + vec_len l.work
