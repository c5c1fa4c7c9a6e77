-- Which number has the entry at a place of a plan, among the entries of all plans? (this project's own)
--
-- The entries of the first plan come first, each plan's in its order.
use Rattle.std.specs.Prelude.{ℕ, ◌+◌, ◌-◌, nat_lt, List, [], ◌∷◌, length, take, Option, None, Some, if◌then◌else◌}
use Rattle.why_needs.specs.declared.why_state.views.PhaseView.{PhaseView}

-- how many entries these plans have
abbrev pub entry_count : List PhaseView → ℕ
entry_count [] = 0
entry_count (v ∷ vs) = length v.plan + entry_count vs

-- the number of the entry at a place of the plan at a place
abbrev pub number_of : List PhaseView → ℕ × ℕ → ℕ
number_of views place = entry_count (take place.0 views) + place.1

-- the places of the entry of a number, where these are the plans from this place on
abbrev pub places_from : ℕ → List PhaseView → ℕ → Option (ℕ × ℕ)
places_from at [] n = None
places_from at (v ∷ vs) n = if nat_lt n (length v.plan) then Some (at, n) else places_from (at + 1) vs (n - length v.plan)
