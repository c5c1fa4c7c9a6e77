use Rattle.std.proofs.Common.{◌≡◌, ℕ, ◌<◌, length, get_or}
use Rattle.key_index.specs.Lists.{offsets_of}
use Rattle.key_index.proofs.children.read_list.Given as goal

abbrev pub invariant-loop-place : goal.invariant-loop-place
invariant-loop-place l = record {
  long : length l.all.items ≡ length (offsets_of l.list);
  each : (k : ℕ) → k < l.place → get_or l.all.items k 0 ≡ get_or (offsets_of l.list) k 0;
}
