-- The first word of a text, among its switches.
use Rattle.std.proofs.Common.{◌≡◌, ℕ, ◌≤◌, Bool, true, false, cond, ltb, List, [], ◌∷◌, ◌++◌, length, filter, arith, refl, ◌∙◌, ap, sym, append_assoc}
use Rattle.std.specs.List.{position_or_len, before_first, after_first, All}
use Rattle.std.proofs.lemmas.List.{take_all, drop_all}
use Rattle.std.proofs.lemmas.List.Elements.{All-from_get_or}
use Rattle.std.proofs.lemmas.List.Sums.{fails_before_first}
use Rattle.std.proofs.lemmas.List.Splits.{slice_split_first, slice_split_none}
use Rattle.std.proofs.lemmas.Bool.{ltb-true, ltb-false}
use Rattle.nt_bytes.specs.Text.{is_blank}
use Rattle.boot_ini.specs.boot_ini.Entries.{is_switch, switches_in}

no_blank : (text : List ℕ) → length text ≤ position_or_len is_blank text → All (λ c. is_blank c ≡ false) text
no_blank text all = All-from_get_or (λ c. is_blank c ≡ false) text 0
    (λ i lt. fails_before_first is_blank text i 0 (omega arith))

-- a word is a switch or no part of the answer, and the rest comes after it
abbrev WithWord : List ℕ → List (List ℕ) → List (List ℕ)
WithWord word more = cond (is_switch word) (word ∷ more) more

next_by : (text : List ℕ) (b : Bool) → ltb (position_or_len is_blank text) (length text) ≡ b
    → switches_in text ≡ WithWord (before_first is_blank text) (switches_in (after_first is_blank text))
next_by text true e = ap (filter is_switch) (slice_split_first is_blank text 0 (ltb-true _ _ e))
next_by text false e =
    let le : length text ≤ position_or_len is_blank text = ltb-false _ _ e in
    let whole : before_first is_blank text ≡ text = take_all _ text le in
    let none : after_first is_blank text ≡ [] = drop_all _ text (omega arith) in
    ap (filter is_switch) (slice_split_none is_blank text (no_blank text le)) ∙ rw (whole, none) refl

pub next_word : (text : List ℕ)
    → switches_in text ≡ WithWord (before_first is_blank text) (switches_in (after_first is_blank text))
next_word text = next_by text (ltb (position_or_len is_blank text) (length text)) refl

-- a word that is a switch was added
pub switch_found : (text word behind : List ℕ) (found more total : List (List ℕ)) (b : Bool)
    → word ≡ before_first is_blank text → behind ≡ after_first is_blank text
    → b ≡ is_switch word → b ≡ true → more ≡ found ++ word ∷ [] → found ++ switches_in text ≡ total
    → more ++ switches_in behind ≡ total
switch_found text word behind found more total b is after test holds pushed so_far =
    let one : switches_in text ≡ word ∷ switches_in behind = next_word text ∙ rw (← is, ← after, ← test, holds) refl in
    rw pushed (append_assoc found (word ∷ []) (switches_in behind)) ∙ ap (λ (xs : List (List ℕ)). found ++ xs) (sym one)
    ∙ so_far

-- a word that is no switch was passed by
pub word_passed : (text word behind : List ℕ) (found total : List (List ℕ)) (b : Bool)
    → word ≡ before_first is_blank text → behind ≡ after_first is_blank text
    → b ≡ is_switch word → b ≡ false → found ++ switches_in text ≡ total → found ++ switches_in behind ≡ total
word_passed text word behind found total b is after test fails so_far =
    let one : switches_in text ≡ switches_in behind = next_word text ∙ rw (← is, ← after, ← test, fails) refl in
    ap (λ (xs : List (List ℕ)). found ++ xs) (sym one) ∙ so_far
