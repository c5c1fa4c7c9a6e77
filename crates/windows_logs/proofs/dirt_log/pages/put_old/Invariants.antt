use Rattle.std.proofs.Common.{◌≡◌, ◌+◌, ◌-◌, ◌/◌, length}
use Rattle.hive_model.specs.Recovery.{rank, first_dirty}
use Rattle.windows_logs.specs.log_parts.Pages.{put_pages}
use Rattle.windows_logs.specs.dirt_log.Dirt.{bits_of, old_pages_of, marked_pages}
use Rattle.windows_logs.proofs.dirt_log.pages.put_old.Given as goal

abbrev pub invariant-loop-i : goal.invariant-loop-i
invariant-loop-i l = record {
  same : put_pages l.initial.file (old_pages_of l.log l.size)
      ≡ put_pages l.file (marked_pages (bits_of l.log) l.log l.next l.i (l.size / 512 - l.i));
  on : l.next ≡ first_dirty l.size + rank (bits_of l.log) l.i;
  long : length l.file ≡ length l.initial.file;
}
