-- Which bytes of a hive's file do pages leave? (this project's own)
use Rattle.std.specs.Prelude.{◌⊎◌, ◌<◌, ◌≤◌, ◌+◌, ℕ, List, [], ◌∷◌, length}
use Rattle.windows_logs.specs.log_parts.Pages.{Page}

-- the byte after a page in the hive's file
abbrev pub end_of : Page → ℕ
end_of page = (4096 + page.place) + length page.bytes

-- each page is within a file of this length
abbrev pub AreWithin : ℕ → List Page → Type 0
AreWithin size [] = Unit {0}
AreWithin size (page ∷ pages) = (end_of page ≤ size) × AreWithin size pages

-- the byte is in none of the pages
abbrev pub IsOutside : ℕ → List Page → Type 0
IsOutside q [] = Unit {0}
IsOutside q (page ∷ pages) = ((q < 4096 + page.place) ⊎ (end_of page ≤ q)) × IsOutside q pages
