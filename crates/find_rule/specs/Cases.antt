-- What is the same but for the case of letters? (this project's own)
use Rattle.std.specs.Prelude.{◌≡◌, ℕ, true, List, Some}
use Rattle.std.specs.List.{AllZip}
use Rattle.nt_bytes.specs.Folding.{folds_same}
use Rattle.find_rule.specs.declared.wanted.Wanted.{Wanted}

-- another text looked for in the same way
abbrev pub with_text : Wanted → List ℕ → Wanted
with_text w text = record w { text = Some text }

-- the names of two paths fold to the same, one by one
abbrev pub AreSameNames : List (List ℕ) → List (List ℕ) → Type 0
AreSameNames p q = AllZip (λ a b. folds_same a b ≡ true) p q
