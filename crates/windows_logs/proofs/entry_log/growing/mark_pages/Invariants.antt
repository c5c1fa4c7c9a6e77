use Rattle.std.proofs.Common.{◌≡◌, length}
use Rattle.windows_logs.specs.entry_log.Marks.{AreMarks}
use Rattle.windows_logs.proofs.entry_log.growing.mark_pages.Given as goal

abbrev pub invariant-loop-i : goal.invariant-loop-i
invariant-loop-i l = record {
  long : length l.marks ≡ length l.initial.marks;
  marks : AreMarks l.bytes l.i l.from l.marks;
}
