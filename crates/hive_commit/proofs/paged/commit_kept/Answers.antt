use Rattle.cell_tables.specs.saved_pages.Overlay.{before}
use Rattle.hive_commit.proofs.paged.commit_kept.Goals as goal

pub write_change-requires-clause-change : goal.write_change-requires-clause-change
write_change-requires-clause-change g c = λ tells. record {
  old = (before c.args.pages.now c.args.new.now);
  carries = c.requires.clean.carries tells;
  marked = c.mark_kept.ensures;
}

pub returns-clause-made : goal.returns-clause-made
returns-clause-made g c = c.write_change.ensures.made (before c.args.pages.now c.args.new.now) c.mark_kept.ensures

pub returns-clause-committed : goal.returns-clause-committed
returns-clause-committed g c =
    c.write_change.ensures.committed (before c.args.pages.now c.args.new.now) c.mark_kept.ensures

pub returns-clause-cut : goal.returns-clause-cut
returns-clause-cut g c = λ tells. c.write_change.ensures.cut tells (record {
  old = (before c.args.pages.now c.args.new.now);
  carries = c.requires.clean.carries tells;
  marked = c.mark_kept.ensures;
})
