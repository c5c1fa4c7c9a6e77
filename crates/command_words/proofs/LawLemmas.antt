-- What holds of the walk: the first fault decides, and options that no word names change nothing.
use Rattle.std.proofs.Common.{◌≡◌, ◌∙◌, ◌+◌, ◌||◌, ℕ, Bool, true, false, List, [], ◌∷◌, ◌++◌, Option, Some, None, Result, Ok, Err, if◌then◌else◌, bytes_eq, refl, sym, ap, subst}
use Rattle.std.specs.List.{list_any}
use Rattle.command_words.specs.Words.{Text, Reason, begins_with_hyphen}
use Rattle.command_words.specs.Table.{OptionRow, Known, is_free, known_from, option_known, free_known}
use Rattle.command_words.specs.Laws.{names_one, steps}
use Rattle.command_words.specs.Walk.{State, Values, and_then, attached_in, name_in, walked, with_free, with_known, with_next, with_step}

pub first_fault : (rows : List OptionRow) (state reached : State) (before after : List Text) (word : Text) (reason : Reason)
    → steps rows state before ≡ Ok reached → with_step rows reached.values word reached.waiting ≡ Err reason
    → walked rows state (before ++ word ∷ after) ≡ Err reason
first_fault rows state reached [] after word reason is wrong =
    let same : state ≡ reached = cc in
    let stops : with_step rows state.values word state.waiting ≡ Err reason =
    subst (λ (s : State). with_step rows s.values word s.waiting ≡ Err reason) (sym same) wrong in
    ap (λ (r : Result State Reason). and_then r (λ next. walked rows next after)) stops
first_fault rows state reached (w ∷ before) after word reason is wrong =
    go (with_step rows state.values w state.waiting) is (λ next from. first_fault rows next reached before after word reason from wrong)
  where
    go : (r : Result State Reason) → and_then r (λ next. steps rows next before) ≡ Ok reached
        → ((next : State) → steps rows next before ≡ Ok reached → walked rows next (before ++ word ∷ after) ≡ Err reason)
        → and_then r (λ next. walked rows next (before ++ word ∷ after)) ≡ Err reason
    go (Ok next) from rest = rest next from
    go (Err e) from rest = cc

none_known : (place : ℕ) (passes : OptionRow → Bool) (rows : List OptionRow) → list_any passes rows ≡ false → known_from place passes rows ≡ None
none_known place passes [] none = refl
none_known place passes (row ∷ rows) none = go (passes row) none (none_known (place + 1) passes rows)
  where
    go : (t : Bool) → (t || list_any passes rows) ≡ false → (list_any passes rows ≡ false → known_from (place + 1) passes rows ≡ None)
        → (if t then Some (record { place = place; row = row }) else known_from (place + 1) passes rows) ≡ None
    go true h rest = cc
    go false h rest = rest h

same_known : (place : ℕ) (passes : OptionRow → Bool) (rows extra : List OptionRow) → list_any passes extra ≡ false
    → known_from place passes (rows ++ extra) ≡ known_from place passes rows
same_known place passes [] extra none = none_known place passes extra none
same_known place passes (row ∷ rows) extra none =
    ap (λ (rest : Option Known). if passes row then Some (record { place = place; row = row }) else rest)
    (same_known (place + 1) passes rows extra none)

same_next : (rows extra : List OptionRow) (values : Values) (word : Text) → names_one extra word ≡ false
    → list_any (λ row. is_free row.takes) extra ≡ false → with_next (rows ++ extra) values word ≡ with_next rows values word
same_next rows extra values word unnamed unfree =
    ap (λ (known : Option Known). if begins_with_hyphen word then with_known values word (attached_in word) known
    else with_free values word (free_known (rows ++ extra)))
    (same_known 0 (λ row. bytes_eq row.name (name_in word)) rows extra unnamed)
    ∙ ap (λ (known : Option Known). if begins_with_hyphen word
    then with_known values word (attached_in word) (option_known (name_in word) rows) else with_free values word known)
    (same_known 0 (λ row. is_free row.takes) rows extra unfree)

same_step : (rows extra : List OptionRow) (values : Values) (word : Text) (waiting : Option Known) → names_one extra word ≡ false
    → list_any (λ row. is_free row.takes) extra ≡ false → with_step (rows ++ extra) values word waiting ≡ with_step rows values word waiting
same_step rows extra values word None unnamed unfree = same_next rows extra values word unnamed unfree
same_step rows extra values word (Some known) unnamed unfree = refl

neither : (a b : Bool) → (a || b) ≡ false → (a ≡ false) × (b ≡ false)
neither true b h = cc
neither false b h = (refl, h)

pub same_walk : (rows extra : List OptionRow) (state : State) (words : List Text) → list_any (names_one extra) words ≡ false
    → list_any (λ row. is_free row.takes) extra ≡ false → walked (rows ++ extra) state words ≡ walked rows state words
same_walk rows extra state [] unnamed unfree = refl
same_walk rows extra state (word ∷ words) unnamed unfree =
    let parts = neither (names_one extra word) (list_any (names_one extra) words) unnamed in
    ap (λ (r : Result State Reason). and_then r (λ next. walked (rows ++ extra) next words))
    (same_step rows extra state.values word state.waiting parts.0 unfree)
    ∙ go (with_step rows state.values word state.waiting) (λ next. same_walk rows extra next words parts.1 unfree)
  where
    go : (r : Result State Reason) → ((next : State) → walked (rows ++ extra) next words ≡ walked rows next words)
        → and_then r (λ next. walked (rows ++ extra) next words) ≡ and_then r (λ next. walked rows next words)
    go (Ok next) rest = rest next
    go (Err e) rest = refl
