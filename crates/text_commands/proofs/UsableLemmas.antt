-- Whether a number names a set.
use Rattle.std.proofs.Common.{◌≡◌, ◌≤◌, ℕ, Bool, true, false, cond, List, [], ◌∷◌, Some, None, refl, sym, ap, ◌∙◌}
use Rattle.std.specs.Prelude.{◌&&◌, nat_le}
use Rattle.std.specs.Option.{is_some}
use Rattle.std.proofs.lemmas.Bool.{le-leb}
use Rattle.hive_model.specs.Tree.{Tree, find_key}
use Rattle.start_model.specs.Sets.{set_name, set_of}
use Rattle.text_commands.specs.Imports.{usable_in}

there_is : (k : ℕ) (t : Tree) (path : List (List ℕ)) (there has : Bool) → path ≡ set_name k ∷ []
    → there ≡ is_some (find_key path t) → there ≡ has → is_some (set_of t k) ≡ has
there_is k t path there has named asked is =
    sym (ap (λ (p : List (List ℕ)). is_some (find_key p t)) named) ∙ sym asked ∙ is

-- the number from 1 to 999 whose set was found
pub usable : (n k : ℕ) (t : Tree) (path : List (List ℕ)) (there : Bool) → k ≡ n → 1 ≤ k → k ≤ 999
    → path ≡ set_name k ∷ [] → there ≡ is_some (find_key path t) → there ≡ true → Some k ≡ usable_in n t
usable n k t path there same low high named asked is =
    rw (sym same) (rw (le-leb 1 k low, le-leb k 999 high, there_is k t path there true named asked is) refl)

none_with : (a b : Bool) (k : ℕ) → None ≡ cond (a && b && false) (Some k) None
none_with true true k = refl
none_with true false k = refl
none_with false b k = refl

-- the number whose set was not
pub unusable : (n k : ℕ) (t : Tree) (path : List (List ℕ)) (there : Bool) → k ≡ n → path ≡ set_name k ∷ []
    → there ≡ is_some (find_key path t) → there ≡ false → None ≡ usable_in n t
unusable n k t path there same named asked is =
    rw (sym same) (rw (there_is k t path there false named asked is) (none_with (nat_le 1 k) (nat_le k 999) k))
