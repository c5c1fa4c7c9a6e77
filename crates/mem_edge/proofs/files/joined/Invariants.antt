use Rattle.std.proofs.Common.{◌≡◌, ◌*◌, ◌<◌, ℕ, length, take, drop}
use Rattle.hive_model.specs.Image.{bytes_of}
use Rattle.mem_edge.specs.Views.{held_in}
use Rattle.mem_edge.proofs.files.joined.Given as goal

abbrev pub invariant-loop-sector : goal.invariant-loop-sector
invariant-loop-sector l = record {
  long : length l.bytes.items ≡ 512 * l.sector-index;
  each : (n : ℕ) → n < l.sector-index → bytes_of (held_in l.sectors n) ≡ take 512 (drop (512 * n) l.bytes.items);
}
