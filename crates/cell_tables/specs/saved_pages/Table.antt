-- How do the pages that were kept stand in memory? (This project's own.)
use Rattle.std.specs.Prelude.{◌≡◌, ◌*◌, ◌≤◌, ℕ, zero, suc, List, [], ◌∷◌, length, map}
use Rattle.cell_tables.specs.saved_pages.Overlay.{page_at}

-- how many slots name a page
abbrev pub taken : List ℕ → ℕ
taken [] = 0
taken (zero ∷ slots) = taken slots
taken (suc n ∷ slots) = suc (taken slots)

-- the page that a slot names: 0 names none, and n + 1 the one of number n
abbrev pub named_in : List ℕ → ℕ → List ℕ
named_in room zero = []
named_in room (suc n) = page_at n room

-- for each page of the old bytes what was kept of it
abbrev pub pages_in : List ℕ → List ℕ → List (List ℕ)
pages_in room slots = map (named_in room) slots

-- each slot names one of that many pages, or none
abbrev pub AreNamed : ℕ → List ℕ → Type 0
AreNamed n [] = Unit {0}
AreNamed n (s ∷ slots) = (s ≤ n) × AreNamed n slots

-- as many pages stand in the room as slots name one, each slot names one of them or none, and there is room for one of each slot
pub record IsTable (slots room : List ℕ) (room_for : ℕ) : Type 0 where
  pub long : length room ≡ 4096 * taken slots
  pub named : AreNamed (taken slots) slots
  pub few : length slots ≤ 4096
  pub fits : 4096 * length slots ≤ room_for
