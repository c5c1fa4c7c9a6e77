use Rattle.std.proofs.Common.{length, ◌∙◌}
use Rattle.windows_logs.proofs.Marking.{all_covered}
use Rattle.windows_logs.proofs.entry_log.growing.are_marked.Goals as goal

pub returns : goal.returns
returns c =
    c.are_all_on.ensures
    ∙ all_covered c.args.bytes.now c.args.count c.args.from (length c.args.marks.now) c.mark_pages.new.marks
    c.mark_pages.ensures.same_length c.mark_pages.ensures.marks
