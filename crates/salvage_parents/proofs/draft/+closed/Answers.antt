use Rattle.std.proofs.Common.{◌<◌, arith, ◌++◌, List, sym, ap, subst, ◌∙◌}
use Rattle.std.specs.Vec.Iter.{into_iter_items}
use Rattle.hive_model.specs.Codes.{weight, weights}
use Rattle.hive_model.specs.Tree.{Tree}
use Rattle.salvage_parents.proofs.ChangeLemmas.{weight-among}
use Rattle.salvage_parents.proofs.draft.+closed.Goals as goal

pub DraftKeys::closed-closed-requires : goal.DraftKeys::closed-closed-requires
DraftKeys::closed-closed-requires t c =
    let less : weight c.in-Some.key < weights c.args.self =
    subst (λ (ts : List Tree). weight c.in-Some.key < weights ts)
    (ap (λ (ts : List Tree). c.keys.closed ++ ts) (sym c.in-Some.ensures.items) ∙ c.keys.invariant)
    (weight-among c.keys.closed (into_iter_items c.next.new.self) c.in-Some.key) in
    (omega (arith, c.decreases, less), tt)
