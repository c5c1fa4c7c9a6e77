-- The last plan that has a name.
use Rattle.std.proofs.Common.{◌≡◌, ℕ, suc, List, Option, Some, None, refl, sym, ap, ◌∙◌}
use Rattle.std.specs.Option.{option_or}
use Rattle.why_needs.specs.declared.why_state.views.PhaseView.{PhaseView}
use Rattle.why_needs.specs.why_state.States.{placed_at, placed_below}

stepped : (views : List PhaseView) (n k : ℕ) (name : List ℕ) (o : Option (ℕ × ℕ)) → n ≡ suc k → placed_at views k name ≡ o
    → placed_below views n name ≡ option_or o (placed_below views k name)
unfolding placed_below
stepped views n k name o count is =
    ap (λ (x : ℕ). placed_below views x name) count ∙ ap (λ (x : Option (ℕ × ℕ)). option_or x (placed_below views k name)) is

-- it is no plan that has it
pub below_more : (views : List PhaseView) (n k : ℕ) (name : List ℕ) → n ≡ suc k → placed_at views k name ≡ None
    → placed_below views k name ≡ placed_below views n name
below_more views n k name count is = sym (stepped views n k name None count is)

-- it is the last one that has it
pub below_here : (views : List PhaseView) (n k : ℕ) (name : List ℕ) (place : ℕ × ℕ) → n ≡ suc k → placed_at views k name ≡ Some place
    → Some place ≡ placed_below views n name
below_here views n k name place count is = sym (stepped views n k name (Some place) count is)

pub below_none : (views : List PhaseView) (name : List ℕ) → None ≡ placed_below views 0 name
unfolding placed_below
below_none views name = refl
