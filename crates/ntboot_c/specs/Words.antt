-- Which words does a caller give? (this project's own)
use Rattle.std.specs.Prelude.{◌≡◌, ◌⊎◌, ℕ, List, []}
use Rattle.std.specs.List.{All}
use Rattle.std.specs.Str.Lines.{lines}
use Rattle.std.specs.Str.{IsUtf8}

-- they are the lines of the text; or one of the lines is no UTF-8, and there are none
abbrev pub AreWords : List ℕ → List (List ℕ) → Type 0
AreWords text words = (words ≡ lines text) ⊎ ((words ≡ []) × (All IsUtf8 (lines text) → ⊥))
