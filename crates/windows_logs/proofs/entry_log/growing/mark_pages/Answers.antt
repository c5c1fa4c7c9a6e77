use Rattle.std.proofs.Common.{◌+◌, refl, ◌∙◌}
use Rattle.windows_logs.proofs.Marking.{more_marks}
use Rattle.windows_logs.proofs.entry_log.growing.mark_pages.Goals as goal

pub loop-i-preserved : goal.loop-i-preserved
loop-i-preserved c = record {
  long = c.mark_page.ensures.same_length ∙ c.loop-i.invariant.long;
  marks = more_marks c.args.bytes.now c.loop-i.i (c.loop-i.i + 1) c.args.from c.u32_at.result c.u32_at-in-loop-i.result
      c.loop-i.marks
      c.mark_page.new.marks refl c.mark_page.ensures.same_length c.u32_at.ensures c.u32_at-in-loop-i.ensures
      c.loop-i.invariant.marks
      c.mark_page.ensures.more;
}
