use Rattle.std.proofs.Common.{◌+◌, length, arith}
use Rattle.std.proofs.lemmas.List.FromFn.{length-range_with_len}
use Rattle.sweep_laws.proofs.counts.the_calls_of_a_commit_are_counted.Goals as goal

pub returns-clause-calls : goal.returns-clause-calls
returns-clause-calls c = λ bitmap sectors. omega (arith, length-range_with_len 0 (1 + bitmap + length sectors))

pub returns-clause-after : goal.returns-clause-after
returns-clause-after c = λ bitmap sectors. omega arith

pub returns-clause-before : goal.returns-clause-before
returns-clause-before c = λ bitmap sectors. omega (arith, length-range_with_len 0 (1 + bitmap + length sectors))
