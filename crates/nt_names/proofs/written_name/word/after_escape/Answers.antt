use Rattle.std.proofs.Common.{◌≡◌, ℕ, ◌-◌, List, [], ◌∷◌, drop, ap, refl, Option, Some, None, IfSome}
use Rattle.std.proofs.lemmas.List.{take_rest}
use Rattle.std.specs.Option.{option_map_or}
use Rattle.nt_names.specs.written_name.Written.{escaped_in, unescaped, with_escapes_read}
use Rattle.nt_names.proofs.written_name.word.after_escape.Goals as goal

by_escape : (u : ℕ) (us rest : List ℕ) (o : Option ℕ) → unescaped 5 us ≡ unescaped 0 rest
    → IfSome o (λ unit. option_map_or (λ x. x ∷ unescaped 5 us) o (u ∷ unescaped 0 us) ≡ unit ∷ unescaped 0 rest)
by_escape u us rest None e = tt
by_escape u us rest (Some unit) e = ap (λ (t : List ℕ). unit ∷ t) e

after_six : (units : List ℕ) → IfSome (escaped_in units) (λ unit. with_escapes_read units ≡ unit ∷ with_escapes_read (drop 6 units))
after_six [] = tt
after_six (a ∷ []) = tt
after_six (a ∷ b ∷ []) = tt
after_six (a ∷ b ∷ c ∷ []) = tt
after_six (a ∷ b ∷ c ∷ d ∷ []) = tt
after_six (a ∷ b ∷ c ∷ d ∷ e ∷ []) = tt
after_six (a ∷ b ∷ c ∷ d ∷ e ∷ f ∷ rest) = by_escape a (b ∷ c ∷ d ∷ e ∷ f ∷ rest) rest (escaped_in (a ∷ b ∷ c ∷ d ∷ e ∷ f ∷ rest)) refl

pub returns-clause-read : goal.returns-clause-read
returns-clause-read c = rw (take_rest c.args.units.now 6) (after_six c.args.units.now)
