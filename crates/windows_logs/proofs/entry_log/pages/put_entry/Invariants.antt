use Rattle.std.proofs.Common.{◌≡◌, true, ◌+◌, ◌-◌, ◌*◌, length}
use Rattle.windows_logs.specs.log_parts.Pages.{put_pages}
use Rattle.windows_logs.specs.entry_log.Entries.{are_pages, pages_from}
use Rattle.windows_logs.proofs.entry_log.pages.put_entry.Given as goal

abbrev pub invariant-loop-i : goal.invariant-loop-i
invariant-loop-i l = record {
  same : put_pages l.initial.file (pages_from l.bytes 40 (40 + 8 * l.entry.count) l.entry.count)
      ≡ put_pages l.file (pages_from l.bytes (40 + 8 * l.i) l.start (l.entry.count - l.i));
  fit : are_pages l.bytes l.entry.size (40 + 8 * l.i) l.start (l.entry.count - l.i) ≡ true;
  long : length l.file ≡ length l.initial.file;
}
