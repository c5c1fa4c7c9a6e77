use Rattle.std.proofs.Common.{length}
use Rattle.std.specs.List.{AllByRecursion}
use Rattle.hive_pack.specs.Numbers.{ItemNumbers}
use Rattle.hive_pack.proofs.numbers.values_fit.Given as goal

abbrev pub invariant-values : goal.invariant-values
invariant-values l = AllByRecursion ItemNumbers l.rest → AllByRecursion ItemNumbers l.values

abbrev pub decreases-values : goal.decreases-values
decreases-values l = length l.rest
