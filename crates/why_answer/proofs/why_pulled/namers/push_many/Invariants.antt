use Rattle.std.proofs.Common.{◌≡◌, ◌++◌, replicate}
use Rattle.why_answer.proofs.why_pulled.namers.push_many.Given as goal

abbrev pub invariant-loop : goal.invariant-loop
invariant-loop l = l.out ≡ l.initial.out ++ replicate l.counter l.number
