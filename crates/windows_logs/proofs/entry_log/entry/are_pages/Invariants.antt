use Rattle.std.proofs.Common.{◌≡◌, ◌≤◌, ◌+◌, ◌-◌, ◌*◌, length}
use Rattle.windows_logs.specs.entry_log.Entries.{are_pages}
use Rattle.windows_logs.proofs.entry_log.entry.are_pages.Given as goal

abbrev pub invariant-loop-i : goal.invariant-loop-i
invariant-loop-i l = record {
  inside : l.start ≤ length l.bytes;
  same : are_pages l.bytes l.size 40 (40 + 8 * l.count) l.count ≡ are_pages l.bytes l.size (40 + 8 * l.i) l.start (l.count - l.i);
}
