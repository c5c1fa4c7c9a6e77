use Rattle.std.proofs.Common.{◌≡◌, ◌++◌, filter, take}
use Rattle.start_model.specs.Demand.{starts_at}
use Rattle.dependencies.proofs.demand.put_demanded.Given as goal

abbrev pub invariant-loop-place : goal.invariant-loop-place
invariant-loop-place g l =
    l.row ≡ l.initial.row ++ filter (starts_at (g.T.NeedTable.needs l.table) 3) (take l.place-index l.places)
