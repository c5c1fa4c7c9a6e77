-- What the logic asks of a type that a model has as its value: a code that distinguishes values (this project's own).
use Rattle.std.specs.Prelude.{ℕ, Bool, refl}
use Rattle.std.specs.Coded.{Coded, code_by, coded×, coded_ℕ, coded_bool}
use Rattle.hive_model.specs.Tree.{Tree}
use Rattle.hive_model.specs.Codes.{coded_tree}
use Rattle.failure_effects.specs.declared.opening.Taken.{Taken}

abbrev pub coded_taken : Coded Taken
coded_taken =
    code_by (ℕ × (Bool × (Bool × Tree))) (coded× coded_ℕ (coded× coded_bool (coded× coded_bool coded_tree)))
    (λ t. (t.number, (t.on_good, (t.usable, t.set))))
    (λ p. record { number = p.0; on_good = p.1.0; usable = p.1.1.0; set = p.1.1.1 }) (λ _. refl)
