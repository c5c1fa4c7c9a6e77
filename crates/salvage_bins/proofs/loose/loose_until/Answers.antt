use Rattle.std.proofs.Common.{◌∙◌, sym, arith}
use Rattle.salvage_bins.proofs.LayoutLemmas.{pages-on, pages-off, pages-end}
use Rattle.salvage_bins.proofs.loose.loose_until.Goals as goal

pub returns-then-ends-clause-exact : goal.returns-then-ends-clause-exact
returns-then-ends-clause-exact c =
    sym (pages-off c.pages.left c.pages.from c.args.fault c.args.at c.args.bytes.now (omega arith)
    (sym c.ends.ensures ∙ c.if-ends.true)) ∙ c.pages.invariant.told

pub pages-preserved : goal.pages-preserved
pages-preserved c = record {
  told = pages-on c.pages.left c.pages.from c.args.fault c.args.at c.args.bytes.now (omega arith)
      (sym c.ends.ensures ∙ c.if-ends.false) ∙ c.pages.invariant.told;
  place = omega arith;
}

pub returns-clause-exact : goal.returns-clause-exact
returns-clause-exact c =
    sym (pages-end c.pages.left c.pages.from c.args.fault c.args.at c.args.bytes.now (omega arith)) ∙ c.pages.invariant.told
