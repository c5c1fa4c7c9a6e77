-- That options which no word names change nothing of what is asked: they get no value.
use Rattle.std.proofs.Common.{◌≡◌, ◌∙◌, ◌+◌, ◌<◌, ◌≤◌, ℕ, Bool, true, false, List, [], ◌∷◌, ◌++◌, length, set, suc}
use Rattle.std.proofs.Common.{Option, Some, None, Result, Ok, Err, if◌then◌else◌, bytes_eq, option_and_then}
use Rattle.std.proofs.Common.{refl, ap, arith}
use Rattle.std.specs.List.{list_any}
use Rattle.command_words.specs.declared.asked.CommandName.{CommandName}
use Rattle.command_words.specs.Words.{Text, Reason}
use Rattle.command_words.specs.Table.{OptionRow, Known, is_free, known_from}
use Rattle.command_words.specs.Walk.{State, Values, and_then, no_values, value_at, value_named, finished, walked}
use Rattle.command_words.specs.Walk.{with_step}
use Rattle.command_words.specs.Reading.{asked_by, asked_of}
use Rattle.command_words.specs.Laws.{names_one}
use Rattle.command_words.proofs.LawLemmas.{same_walk}
use Rattle.command_words.proofs.VerboseLemmas.{IsElsewhere, IsAlike, asked_in, from_least, none_given, step_between}

-- ---- places

-- a row that is known has a place among the rows
pub known_within : (n : ℕ) (passes : OptionRow → Bool) (rows : List OptionRow) (known : Known)
    → known_from n passes rows ≡ Some known → known.place < n + length rows
known_within n passes [] known is = absurd cc
known_within n passes (row ∷ rows) known is = go (passes row) (known_within (n + 1) passes rows known) is
  where
    go : (t : Bool) → (known_from (n + 1) passes rows ≡ Some known → known.place < n + 1 + length rows)
        → (if t then Some (record { place = n; row = row }) else known_from (n + 1) passes rows) ≡ Some known
        → known.place < n + suc (length rows)
    go true later at = let same : n ≡ known.place = cc in omega (arith, same)
    go false later at = let more = later at in omega (arith, more)

-- what is known of rows is not at a place after them
within_elsewhere : (place : ℕ) (passes : OptionRow → Bool) (rows : List OptionRow) → length rows ≤ place
    → IsElsewhere place (known_from 0 passes rows)
within_elsewhere place passes rows past = go (known_from 0 passes rows) refl
  where
    go : (k : Option Known) → known_from 0 passes rows ≡ k → IsElsewhere place k
    go None at = tt
    go (Some known) at = let within = known_within 0 passes rows known at in λ e. omega (arith, within, past, e)

-- ---- the walk

finished_kept : (place : ℕ) (values ended : Values) (waiting : Option Known) → finished values waiting ≡ Ok ended
    → value_at place ended ≡ value_at place values
finished_kept place values ended None is = let same : values ≡ ended = cc in cc
finished_kept place values ended (Some known) is = absurd cc

-- no word gives a value to a place after the rows
walk_kept : (rows : List OptionRow) (place : ℕ) (state : State) (words : List Text) (ended : Values)
    → length rows ≤ place → IsElsewhere place state.waiting → walked rows state words ≡ Ok ended
    → value_at place ended ≡ value_at place state.values
walk_kept rows place state [] ended past other is = finished_kept place state.values ended state.waiting is
walk_kept rows place state (word ∷ words) ended past other is =
    go (with_step rows state.values word state.waiting)
    (with_step rows (set state.values place (Some [])) word state.waiting)
    (step_between rows place [] state.values word state.waiting
    (λ passes. within_elsewhere place passes rows past) other) is
    (λ next e from. walk_kept rows place next words ended past e from)
  where
    go : (r s : Result State Reason) → IsAlike place [] state.values r s
        → and_then r (λ next. walked rows next words) ≡ Ok ended
        → ((next : State) → IsElsewhere place next.waiting → walked rows next words ≡ Ok ended
        → value_at place ended ≡ value_at place next.values)
        → value_at place ended ≡ value_at place state.values
    go (Err e) s h from rest = absurd cc
    go (Ok next) s h from rest = rest next h.1 from ∙ h.2

-- ---- what is asked

-- what is known of rows with more after them is known of the rows, or is after them
known_more : (n : ℕ) (passes : OptionRow → Bool) (rows extra : List OptionRow) (f : Known → Option Text)
    → ((known : Known) → n + length rows ≤ known.place → f known ≡ None)
    → option_and_then f (known_from n passes (rows ++ extra)) ≡ option_and_then f (known_from n passes rows)
known_more n passes [] extra f none =
    go (known_from n passes extra)
    (λ known at. let past = from_least n passes extra known at in none known (omega (arith, past))) refl
  where
    go : (k : Option Known) → ((known : Known) → known_from n passes extra ≡ Some known → f known ≡ None)
        → known_from n passes extra ≡ k → option_and_then f k ≡ None
    go None rest at = refl
    go (Some known) rest at = rest known at
known_more n passes (row ∷ rows) extra f none =
    go (passes row) (known_more (n + 1) passes rows extra f (λ known past. none known (omega (arith, past))))
  where
    go : (t : Bool)
        → option_and_then f (known_from (n + 1) passes (rows ++ extra))
        ≡ option_and_then f (known_from (n + 1) passes rows)
        → option_and_then f (if t then Some (record { place = n; row = row })
        else known_from (n + 1) passes (rows ++ extra))
        ≡ option_and_then f (if t then Some (record { place = n; row = row }) else known_from (n + 1) passes rows)
    go true rest = refl
    go false rest = rest

look_more : (rows extra : List OptionRow) (values : Values)
    → ((place : ℕ) → length rows ≤ place → value_at place values ≡ None)
    → value_named (rows ++ extra) values ≡ value_named rows values
look_more rows extra values none = λ i name. named name i
  where
    named : (name : Text) → value_named (rows ++ extra) values name ≡ value_named rows values name
    named name =
        known_more 0 (λ row. bytes_eq row.name name) rows extra (λ known. value_at known.place values)
        (λ known past. none known.place (omega (arith, past)))

pub same_asked : (name : Text) (command : CommandName) (rows extra : List OptionRow) (words : List Text)
    → list_any (names_one extra) words ≡ false → list_any (λ row. is_free row.takes) extra ≡ false
    → asked_of (record { name = name; command = command; options = rows ++ extra }) words
    ≡ asked_of (record { name = name; command = command; options = rows }) words
same_asked name command rows extra words unnamed unfree =
    let start : State = record { values = no_values; waiting = None } in
    ap (λ (r : Result Values Reason). and_then r
    (asked_by (record { name = name; command = command; options = rows ++ extra })))
    (same_walk rows extra start words unnamed unfree)
    ∙ go (walked rows start words) refl
  where
    go : (r : Result Values Reason) → walked rows (record { values = no_values; waiting = None }) words ≡ r
        → and_then r (asked_by (record { name = name; command = command; options = rows ++ extra }))
        ≡ and_then r (asked_by (record { name = name; command = command; options = rows }))
    go (Err e) is = refl
    go (Ok values) is =
        ap (asked_in command) (look_more rows extra values (λ place past.
        walk_kept rows place (record { values = no_values; waiting = None }) words values past tt is
        ∙ none_given place no_values refl))
