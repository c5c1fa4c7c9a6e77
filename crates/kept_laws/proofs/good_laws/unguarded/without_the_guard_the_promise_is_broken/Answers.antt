use Rattle.std.proofs.Common.{refl}
use Rattle.hive_model.specs.Edit.{edited}
use Rattle.kept_laws.proofs.UnguardedLemmas.{broken}
use Rattle.kept_laws.proofs.good_laws.unguarded.without_the_guard_the_promise_is_broken.Goals as goal

pub returns-clause-edited : goal.returns-clause-edited
unfolding edited
returns-clause-edited c = refl

pub returns-clause-broken : goal.returns-clause-broken
returns-clause-broken c = λ after disk k. broken after disk k
