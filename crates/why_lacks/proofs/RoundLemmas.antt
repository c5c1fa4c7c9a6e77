-- A walk from item to item.
use Rattle.std.proofs.Common.{◌≡◌, ℕ, suc, List, [], ◌∷◌, ◌++◌, length, drop, cond, ltb, Option, Some, None, Bool, true, false, refl, sym, ap, ◌∙◌}
use Rattle.std.specs.Prelude.{nat_eq, position}
use Rattle.std.specs.Option.{option_map_or}
use Rattle.indexmap.specs.IndexSet.{insert_key}
use Rattle.std.specs.List.{list_any, position_or_len}
use Rattle.boot_phases.proofs.TriedLemmas.{within}
use Rattle.why_lacks.specs.why_cycle.Walk.{gone_round}

-- ---- the path

no_place : (b : Bool) (n : ℕ) → cond b (Some n) None ≡ None → b ≡ false
no_place true n h = cc
no_place false n h = refl

pub not_on : {X : Type 0} (p : X → Bool) (xs : List X) → position p xs ≡ None → list_any p xs ≡ false
not_on p xs h = sym (within p xs) ∙ no_place (ltb (position_or_len p xs) (length xs)) (position_or_len p xs) h

-- what is not on it goes last
pub put_last : (p : ℕ) (path new : List ℕ) → position (nat_eq p) path ≡ None → new ≡ insert_key nat_eq path p → new ≡ path ++ p ∷ []
put_last p path new h put = put ∙ ap (λ b. cond b path (path ++ p ∷ [])) (not_on (nat_eq p) path h)

-- ---- steps

went : (next : ℕ → Option ℕ) (n k p : ℕ) (path : List ℕ) (at to : Option ℕ) → n ≡ suc k → position (nat_eq p) path ≡ at → next p ≡ to
    → gone_round next n path p ≡ option_map_or (λ i. drop i path) at (option_map_or (gone_round next k (path ++ p ∷ [])) to [])
unfolding gone_round
went next n k p path at to count is goes =
    ap (λ (x : ℕ). gone_round next x path p) count
    ∙ (λ j. option_map_or (λ i. drop i path) (is j) (option_map_or (gone_round next k (path ++ p ∷ [])) (goes j) []))

-- it goes on
pub went_on : (next : ℕ → Option ℕ) (n k p q : ℕ) (path new : List ℕ) → n ≡ suc k → None ≡ position (nat_eq p) path
    → Some q ≡ next p → new ≡ path ++ p ∷ [] → gone_round next k new q ≡ gone_round next n path p
went_on next n k p q path new count is goes put =
    ap (λ (x : List ℕ). gone_round next k x q) put ∙ sym (went next n k p path None (Some q) count (sym is) (sym goes))

-- it came back
pub went_round : (next : ℕ → Option ℕ) (n k p i : ℕ) (path : List ℕ) → n ≡ suc k → Some i ≡ position (nat_eq p) path
    → drop i path ≡ gone_round next n path p
went_round next n k p i path count is = sym (went next n k p path (Some i) (next p) count (sym is) refl)

-- there is no step
pub went_nowhere : (next : ℕ → Option ℕ) (n k p : ℕ) (path : List ℕ) → n ≡ suc k → None ≡ position (nat_eq p) path → None ≡ next p
    → [] ≡ gone_round next n path p
went_nowhere next n k p path count is goes = sym (went next n k p path None None count (sym is) (sym goes))

pub went_far : (next : ℕ → Option ℕ) (p : ℕ) (path : List ℕ) → [] ≡ gone_round next 0 path p
unfolding gone_round
went_far next p path = refl
