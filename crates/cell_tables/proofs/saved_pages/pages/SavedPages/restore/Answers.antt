use Rattle.std.proofs.Common.{sym, ◌∙◌, arith}
use Rattle.cell_tables.proofs.OverlayLemmas.{all_put}
use Rattle.cell_tables.proofs.saved_pages.pages.SavedPages.restore.Goals as goal

pub returns : goal.returns
returns c =
    sym (all_put c.args.self.now c.loop-k.bytes (c.loop-k.invariant.long ∙ c.requires)
    (λ j lt. c.loop-k.invariant.there j (omega (arith, lt, c.loop-k-test.false, c.len-k-end.ensures.count))))
    ∙ c.loop-k.invariant.before
