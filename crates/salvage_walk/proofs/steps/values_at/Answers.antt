use Rattle.std.proofs.Common.{◌-◌, length, take, drop, get_or, sym, ◌∙◌, arith}
use Rattle.salvage_bins.specs.Ground.{ground_of}
use Rattle.salvage_walk.specs.Walked.{state_of}
use Rattle.salvage_walk.proofs.UseLemmas.{none-left, first-and-rest}
use Rattle.salvage_walk.proofs.WalkLemmas.{values-end, values-on}
use Rattle.salvage_walk.proofs.steps.values_at.Goals as goal

pub returns-in_default-clause-walked : goal.returns-in_default-clause-walked
returns-in_default-clause-walked c =
    let z = none-left c.values.rest.now c.in_default.len_below in
    sym (values-end (ground_of c.args.cells.now) c.args.path.now c.values.number c.values.rest.now c.values.values
    (state_of c.values.walk) z) ∙ c.values.invariant.told

pub values-preserved : goal.values-preserved
values-preserved c =
    let i = c.values.invariant in
    let rest = c.values.rest.now in
    let others = take (length rest - 1) (drop 1 rest) in
    let r = first-and-rest rest c.in-len1-up.len_at_least in
    record {
      told = values-on (ground_of c.args.cells.now) c.args.path.now c.values.number (get_or rest 0 0) rest others
          c.values.values _ (state_of c.values.walk) _ r c.in_ok-value.ensures.stepped ∙ i.told;
      known = c.in_ok-value.ensures.known;
      failed = c.in_ok-value.ensures.failed;
      listed = c.in_ok-value.ensures.listed;
      few = omega arith;
    }
