use Rattle.std.proofs.Common.{◌+◌, refl, arith}
use Rattle.cell_tables.proofs.TopLemmas.{tops_more, tops_done}
use Rattle.cell_tables.proofs.free_index.index.FreeIndex.recount.Goals as goal

pub loop-page-preserved : goal.loop-page-preserved
loop-page-preserved g c =
    tops_more (g.N.Numbers.numbers c.args.sizes.now) c.loop-page.self c.put.new.self c.args.pages c.loop-page.page
    (c.loop-page.page + 1) c.top_of-top.result c.loop-page.invariant refl (omega (arith, c.loop-page-test.true))
    c.top_of-top.ensures c.put.ensures

pub returns : goal.returns
returns g c =
    tops_done (g.N.Numbers.numbers c.args.sizes.now) c.loop-page.self c.args.pages c.loop-page.page
    c.loop-page.invariant (omega (arith, c.loop-page-test.false)) c.requires.whole c.requires.few
