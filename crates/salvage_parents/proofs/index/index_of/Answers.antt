use Rattle.std.proofs.Common.{sym, ◌∙◌, arith}
use Rattle.salvage_bins.specs.Ground.{ground_of}
use Rattle.salvage_parents.proofs.IndexLemmas.{listed-none, naming-none, index-next}
use Rattle.salvage_parents.proofs.index.index_of.Goals as goal

pub slots-init : goal.slots-init
slots-init c = record {
  so_far = λ p. listed-none c.new-index.result p c.new-index.ensures.empty ∙ sym (naming-none (ground_of c.args.cells.now) p 0 (omega arith));
  within = omega arith;
}

pub slots-preserved : goal.slots-preserved
slots-preserved c = record {
  so_far = λ p.
      index-next (ground_of c.args.cells.now) p c.slots.slot _ _ _ c.in_ok-parent.parent (omega arith) (c.slots.invariant.so_far p)
      c.in_ok-parent.ensures (c.in_ok-add.ensures p);
  within = omega arith;
}
