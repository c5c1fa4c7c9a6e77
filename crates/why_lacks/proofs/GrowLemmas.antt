-- Looking at one entry after the other.
use Rattle.std.proofs.Common.{◌≡◌, ℕ, suc, ◌+◌, List, Option, Some, None, refl, sym, ap, ◌∙◌}
use Rattle.std.specs.Prelude.{nat_eq, slice_get}
use Rattle.std.specs.Option.{option_map_or}
use Rattle.indexmap.specs.IndexSet.{insert_all}
use Rattle.why_lacks.specs.why_items.Items.{grown}

stepped : (next : ℕ → List ℕ) (n k at : ℕ) (found : List ℕ) (o : Option ℕ) → n ≡ suc k → slice_get found at ≡ o
    → grown next n at found ≡ option_map_or (λ v. grown next k (at + 1) (insert_all nat_eq found (next v))) o found
unfolding grown
stepped next n k at found o count is =
    ap (λ (x : ℕ). grown next x at found) count
    ∙ ap (λ (x : Option ℕ). option_map_or (λ v. grown next k (at + 1) (insert_all nat_eq found (next v))) x found) is

-- one was looked at
pub grown_more : (next : ℕ → List ℕ) (n k at v : ℕ) (found more new : List ℕ) → n ≡ suc k → Some v ≡ slice_get found at
    → more ≡ next v → new ≡ insert_all nat_eq found more → grown next k (at + 1) new ≡ grown next n at found
grown_more next n k at v found more new count is names put =
    ap (λ (x : List ℕ). grown next k (at + 1) x) (put ∙ ap (insert_all nat_eq found) names)
    ∙ sym (stepped next n k at found (Some v) count (sym is))

-- there is none any more
pub grown_over : (next : ℕ → List ℕ) (n k at : ℕ) (found : List ℕ) → n ≡ suc k → None ≡ slice_get found at → found ≡ grown next n at found
grown_over next n k at found count is = sym (stepped next n k at found None count (sym is))

pub grown_none : (next : ℕ → List ℕ) (at : ℕ) (found : List ℕ) → found ≡ grown next 0 at found
unfolding grown
grown_none next at found = refl
