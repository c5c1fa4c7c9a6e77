use Rattle.std.proofs.Common.{sym, ◌∙◌, arith}
use Rattle.salvage_bins.specs.Ground.{ground_of}
use Rattle.salvage_walk.proofs.WalkLemmas.{least-here, least-on, least-end}
use Rattle.salvage_walk.proofs.root.least.Goals as goal

pub returns-then-branch : goal.returns-then-branch
returns-then-branch c =
    sym (least-here (ground_of c.args.cells.now) c.places.left c.places.at (omega arith)
    (sym c.in_ok-has_root_form.ensures ∙ c.if-branch.true)) ∙ c.places.invariant.told

pub places-preserved : goal.places-preserved
places-preserved c = record {
  told = least-on (ground_of c.args.cells.now) c.places.left c.places.at (omega arith)
      (sym c.in_ok-has_root_form.ensures ∙ c.if-branch.false) ∙ c.places.invariant.told;
  place = omega arith;
}

pub returns : goal.returns
returns c = sym (least-end (ground_of c.args.cells.now) c.places.left c.places.at (omega arith)) ∙ c.places.invariant.told
