-- A text in UTF-8 and the same text in UTF-16.
use Rattle.std.proofs.Common.{◌≡◌, ℕ, Bool, true, false, cond, List, Some, None, refl, sym, ap, subst, ◌∙◌}
use Rattle.std.specs.Str.{is_utf8, IsUtf8}
use Rattle.std.proofs.lemmas.Str.{is_utf8-from_IsUtf8, IsUtf8-from_is_utf8}
use Rattle.import_steps.specs.Encoding.{unmarked, wide_text, utf16_of}

pub same_text : (text rest read wide : List ℕ) → rest ≡ unmarked text → read ≡ rest → IsUtf8 rest
    → wide ≡ wide_text read
    → Some wide ≡ utf16_of text
same_text text rest read wide is same utf8 made =
    let whole : is_utf8 (unmarked text) ≡ true = subst (λ (t : List ℕ). is_utf8 t
    ≡ true) is (is_utf8-from_IsUtf8 rest utf8) in
    rw whole (ap (λ (t : List ℕ). Some t) (made ∙ ap wide_text (same ∙ is)))

pub no_text : (text rest : List ℕ) → rest ≡ unmarked text → (IsUtf8 rest → ⊥) → None ≡ utf16_of text
no_text text rest is none = go (is_utf8 (unmarked text)) refl
  where
    go : (b : Bool) → is_utf8 (unmarked text) ≡ b → None ≡ cond b (Some (wide_text (unmarked text))) None
    go true e = absurd (none (subst IsUtf8 (sym is) (IsUtf8-from_is_utf8 (unmarked text) e)))
    go false e = refl
