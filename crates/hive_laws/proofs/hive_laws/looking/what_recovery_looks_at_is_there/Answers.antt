use Rattle.std.specs.Prelude.{IsSome}
use Rattle.std.proofs.Common.{◌≡◌, true, Option, Some, None, refl, ⊎_elim}
use Rattle.hive_model.specs.Asked.{is_readable}
use Rattle.hive_model.specs.Image.{Content}
use Rattle.hive_laws.proofs.Found.{all_found}
use Rattle.hive_laws.proofs.hive_laws.looking.what_recovery_looks_at_is_there.Goals as goal

some : (o : Option Content) → is_readable o ≡ true → IsSome o
some None e = absurd cc
some (Some c) e = refl

pub returns-clause-there : goal.returns-clause-there
returns-clause-there c = λ image r a ok looks. ⊎_elim
    (λ yes. some (image a) yes)
    (λ first. first.1)
    (all_found image r ok a looks)

pub returns-clause-readable : goal.returns-clause-readable
returns-clause-readable c = λ image r a ok looks behind. ⊎_elim
    (λ yes. yes)
    (λ first. absurd (behind first.0))
    (all_found image r ok a looks)
