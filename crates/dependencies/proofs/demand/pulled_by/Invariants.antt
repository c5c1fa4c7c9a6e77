use Rattle.std.proofs.Common.{◌≡◌, take}
use Rattle.std.specs.List.{flat_map}
use Rattle.dependencies.specs.Work.{demanded}
use Rattle.dependencies.proofs.demand.pulled_by.Given as goal

abbrev pub invariant-loop-name : goal.invariant-loop-name
invariant-loop-name g l = l.row ≡ flat_map (demanded (g.T.NeedTable.needs l.table)) (take l.name-index l.names)
