use Rattle.std.proofs.Common.{◌≡◌, ℕ, ◌<◌, ◌+◌, ◌*◌, ◌/◌, ◌++◌, length, take, get_or}
use Rattle.std.specs.Prelude.{codes}
use Rattle.hive_log.proofs.bitmap.bitmap_sector.Given as goal

abbrev pub invariant-loop-j : goal.invariant-loop-j
invariant-loop-j l = record {
  long : length l.into ≡ 512;
  each : (m : ℕ) → m < l.j → get_or l.into m 0
      ≡ get_or (codes "DIRT" ++ take (l.size / 4096) l.bitmap) (512 * l.k + m) 0;
}
