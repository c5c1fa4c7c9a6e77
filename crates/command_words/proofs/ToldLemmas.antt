-- `clap` is given each command so that its faults are known exactly.
use Rattle.std.proofs.Common.{◌≡◌, ◌≢◌, ◌==◌, ◌&&◌, ℕ, Bool, true, false, List, [], ◌∷◌, refl, ap, true≢false, sym}
use Rattle.std.proofs.lemmas.Bool.Decides.{Decides-eqb}
use Rattle.std.specs.List.{list_all}
use Rattle.clap.specs.Faults.{is_simple_and_free}
use Rattle.command_words.specs.Commands.{CommandRow, commands}
use Rattle.command_words.specs.Clap.{app_for, is_told, without_hyphen}

pub and_left : (a b : Bool) → (a && b) ≡ true → a ≡ true
and_left true b e = refl
and_left false b e = e

pub and_right : (a b : Bool) → (a && b) ≡ true → b ≡ true
and_right true b e = e
and_right false b e = absurd (true≢false (sym e))

pub simple_told : (c : CommandRow) → is_told c ≡ true → is_simple_and_free (app_for c) ≡ true
simple_told c e = and_left (is_simple_and_free (app_for c)) _ e

-- each command of the table
pub all_told : list_all is_told commands ≡ true
all_told = refl

-- a text that begins with no hyphen is kept
pub kept : (name : List ℕ) → ((rest : List ℕ) → name ≢ 45 ∷ rest) → name ≡ without_hyphen name
kept [] none = refl
kept (c ∷ cs) none = go (c == 45) refl
  where
    go : (b : Bool) → (c == 45) ≡ b → (c ∷ cs) ≡ without_hyphen (c ∷ cs)
    go true e = absurd (none cs (ap (λ (x : ℕ). x ∷ cs) ((Decides-eqb c 45).0 e)))
    go false e = rw e refl
