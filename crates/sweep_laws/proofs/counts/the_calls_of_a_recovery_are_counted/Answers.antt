use Rattle.std.proofs.Common.{arith}
use Rattle.sweep_laws.proofs.counts.the_calls_of_a_recovery_are_counted.Goals as goal

pub returns-clause-calls : goal.returns-clause-calls
returns-clause-calls c = λ sectors. omega arith

pub returns-clause-after : goal.returns-clause-after
returns-clause-after c = λ sectors. omega arith
