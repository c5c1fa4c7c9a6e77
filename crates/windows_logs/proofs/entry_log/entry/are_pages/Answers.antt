use Rattle.std.proofs.Common.{◌+◌, ◌-◌, ◌*◌, arith, sym, ◌∙◌}
use Rattle.windows_logs.proofs.Steps.{page_fits, page_is, page_is_not, no_pages}
use Rattle.windows_logs.proofs.entry_log.entry.are_pages.Goals as goal

pub returns-then-not-is_page : goal.returns-then-not-is_page
returns-then-not-is_page c =
    sym (c.loop-i.invariant.same
    ∙ page_is_not c.args.bytes.now c.args.size (40 + 8 * c.loop-i.i) c.loop-i.start c.u32_at.result c.u32_at-long.result
    (c.args.count - c.loop-i.i) (c.args.count - (c.loop-i.i + 1)) (40 + 8 * (c.loop-i.i + 1)) (omega arith) (omega arith)
    c.u32_at.ensures c.u32_at-long.ensures (sym (c.if-not-is_page.ensures)))

pub loop-i-preserved : goal.loop-i-preserved
loop-i-preserved c =
    let is = sym (c.if-not-is_page.ensures) in
    record {
      inside = (page_fits _ _ _ _ _ is).there;
      same =
          c.loop-i.invariant.same
          ∙ page_is c.args.bytes.now c.args.size (40 + 8 * c.loop-i.i) c.loop-i.start c.u32_at.result c.u32_at-long.result
          (c.args.count - c.loop-i.i) (c.args.count - (c.loop-i.i + 1)) (40 + 8 * (c.loop-i.i + 1)) (omega arith) (omega arith)
          c.u32_at.ensures c.u32_at-long.ensures is;
    }

pub returns : goal.returns
returns c = sym (c.loop-i.invariant.same ∙ no_pages _ _ _ _ _ (omega arith))
