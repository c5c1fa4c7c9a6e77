-- What were the bytes, by what was kept of them? For each of their pages of 4096 bytes the old page was kept, or nothing
-- where it is still there. (This project's own.)
use Rattle.std.specs.Prelude.{◌≡◌, ◌⊎◌, ◌<◌, ◌≤◌, ◌+◌, ◌*◌, ℕ, zero, suc, List, [], ◌∷◌, ◌++◌, length, take, drop}

-- the page of this number
abbrev pub page_at : ℕ → List ℕ → List ℕ
page_at k bytes = take 4096 (drop (4096 * k) bytes)

-- what was kept of the page of this number
abbrev pub kept_at : List (List ℕ) → ℕ → List ℕ
kept_at [] k = []
kept_at (p ∷ ps) zero = p
kept_at (p ∷ ps) (suc k) = kept_at ps k

-- a page that was kept in place of what was kept of that number
abbrev pub with_kept : List (List ℕ) → ℕ → List ℕ → List (List ℕ)
with_kept [] k page = []
with_kept (p ∷ ps) zero page = page ∷ ps
with_kept (p ∷ ps) (suc k) page = p ∷ with_kept ps k page

-- the page that was kept, or else the one that is there
abbrev pub page_or : List ℕ → List ℕ → List ℕ
page_or [] now = now
page_or (x ∷ xs) now = x ∷ xs

-- the bytes as they were, by those that are there now
abbrev pub before : List (List ℕ) → List ℕ → List ℕ
before [] bytes = []
before (p ∷ ps) bytes = page_or p (take 4096 bytes) ++ before ps (drop 4096 bytes)

-- nothing, or a whole page
abbrev pub IsWhole : List ℕ → Type 0
IsWhole page = (page ≡ []) ⊎ (length page ≡ 4096)

-- each page that was kept is whole
abbrev pub AreWhole : List (List ℕ) → Type 0
AreWhole pages = (k : ℕ) → IsWhole (kept_at pages k)

-- each page of which nothing was kept is there, among that many bytes
abbrev pub IsCovered : List (List ℕ) → ℕ → Type 0
IsCovered pages long = (k : ℕ) → k < length pages → kept_at pages k ≡ [] → 4096 * k + 4096 ≤ long
