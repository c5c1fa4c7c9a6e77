use Rattle.std.proofs.Common.{◌≡◌, ◌<◌, ◌*◌, ℕ, length, drop}
use Rattle.hive_model.specs.Image.{sector_of}
use Rattle.mem_edge.specs.Views.{held_in}
use Rattle.mem_edge.proofs.files.cut_up.Given as goal

abbrev pub invariant-loop-rest : goal.invariant-loop-rest
invariant-loop-rest l = record {
  behind : l.rest ≡ drop (512 * length l.sectors.items) l.bytes;
  each : (n : ℕ) → n < length l.sectors.items → held_in l.sectors.items n ≡ sector_of l.bytes n;
}

abbrev pub decreases-loop-rest : goal.decreases-loop-rest
decreases-loop-rest l = length l.rest
