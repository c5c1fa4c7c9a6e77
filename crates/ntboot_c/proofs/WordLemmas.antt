-- A line that is no UTF-8 is among the lines of its text.
use Rattle.std.proofs.Common.{◌≡◌, ◌++◌, ◌∷◌, ℕ, List, [], sym, subst, ap, ◌∙◌}
use Rattle.std.specs.List.{All}
use Rattle.std.specs.Str.{IsUtf8}
use Rattle.std.specs.Str.Lines.{lines}
use Rattle.std.proofs.lemmas.List.Elements.{All-head, All-tail}

holds_at : (done : List (List ℕ)) (line : List ℕ) (rest : List (List ℕ)) → All IsUtf8 (done ++ line ∷ rest) → IsUtf8 line
holds_at [] line rest h = All-head IsUtf8 line rest h
holds_at (x ∷ done) line rest h = holds_at done line rest (All-tail IsUtf8 x (done ++ line ∷ rest) h)

pub unread : (text rest line after : List ℕ) (done : List (List ℕ)) → done ++ lines rest ≡ lines text
    → lines rest ≡ line ∷ lines after → (IsUtf8 line → ⊥) → All IsUtf8 (lines text) → ⊥
unread text rest line after done is first not all = not (holds_at done line (lines after)
    (subst (All IsUtf8) (sym is ∙ ap (λ (ls : List (List ℕ)). done ++ ls) first) all))
