-- That `--verbose` changes nothing of what is asked: its value has its own place, and nothing that is asked reads it.
use Rattle.std.proofs.Common.{◌≡◌, ◌≢◌, ◌∙◌, ◌+◌, ◌≤◌, ◌||◌, ◌&&◌, ◌⊎◌, inl, inr, cond, ℕ, zero, suc, Bool, true, false}
use Rattle.std.proofs.Common.{List, [], ◌∷◌, ◌++◌, Option, Some, None}
use Rattle.std.proofs.Common.{Result, Ok, Err, if◌then◌else◌, is_some, codes, find, bytes_eq, set, option_and_then}
use Rattle.std.proofs.Common.{refl, sym, ap, subst, arith}
use Rattle.std.specs.Prelude.{⊤}
use Rattle.std.specs.List.{list_any}
use Rattle.std.proofs.lemmas.List.{get_or-set_other, set_comm}
use Rattle.std.proofs.lemmas.Slice.Eq.{bytes_eq-Decides}
use Rattle.command_words.specs.declared.asked.CommandName.{CommandName}
use Rattle.command_words.specs.declared.asked.CommandName.TheVariants as names
use Rattle.command_words.specs.Words.{Text, Asked, Reason, no_value, twice, left_over, unknown_option, bad_value}
use Rattle.command_words.specs.Words.{is_empty_text, begins_with_hyphen}
use Rattle.command_words.specs.Table.{OptionRow, Known, accepts, is_flag, is_free, known_from, option_known, free_known}
use Rattle.command_words.specs.Walk.{State, Values, and_then, attached_in, name_in, no_values, value_at, value_named, flag_value}
use Rattle.command_words.specs.Walk.{finished, walked, with_free, with_known, with_next, with_option, with_step}
use Rattle.command_words.specs.Walk.{with_taken, with_value, with_word}
use Rattle.command_words.specs.Commands.{CommandRow, Look, asks_of, commands, flag, flag_in, row_named}
use Rattle.command_words.specs.Reading.{asked_by, asked_of, asked_read, asks_help, command_read, is_help, is_verbose}
use Rattle.command_words.specs.Reading.{page_of_row}
use Rattle.command_words.specs.Words.{help}
use Rattle.command_words.specs.Laws.{names_one, steps}

-- ---- places

pub from_least : (n : ℕ) (passes : OptionRow → Bool) (rows : List OptionRow) (known : Known)
    → known_from n passes rows ≡ Some known → n ≤ known.place
from_least n passes [] known is = absurd cc
from_least n passes (row ∷ rows) known is = go (passes row) (from_least (n + 1) passes rows known) is
  where
    go : (t : Bool) → (known_from (n + 1) passes rows ≡ Some known → n + 1 ≤ known.place)
        → (if t then Some (record { place = n; row = row }) else known_from (n + 1) passes rows) ≡ Some known
        → n ≤ known.place
    go true later at = let same : n ≡ known.place = cc in omega (arith, same)
    go false later at = let more = later at in omega (arith, more)

-- two rows of which the one does not pass as the other have two places
apart : (n : ℕ) (one other : OptionRow → Bool) (rows : List OptionRow) (a b : Known)
    → known_from n one rows ≡ Some a → known_from n other rows ≡ Some b → other a.row ≡ false → b.place ≢ a.place
apart n one other [] a b at bt unlike = absurd cc
apart n one other (row ∷ rows) a b at bt unlike =
    go (one row) (other row) refl (λ at bt. apart (n + 1) one other rows a b at bt unlike) at bt
  where
    go : (s t : Bool) → other row ≡ t
        → (known_from (n + 1) one rows ≡ Some a → known_from (n + 1) other rows ≡ Some b → b.place ≢ a.place)
        → (if s then Some (record { place = n; row = row }) else known_from (n + 1) one rows) ≡ Some a
        → (if t then Some (record { place = n; row = row }) else known_from (n + 1) other rows) ≡ Some b
        → b.place ≢ a.place
    go true true t rest at bt = let same : row ≡ a.row = cc in absurd cc
    go true false t rest at bt =
        let here : n ≡ a.place = cc in
        let more = from_least (n + 1) other rows b bt in
        λ e. omega (arith, here, more, e)
    go false true t rest at bt =
        let here : n ≡ b.place = cc in
        let more = from_least (n + 1) one rows a at in
        λ e. omega (arith, here, more, e)
    go false false t rest at bt = rest at bt

-- ---- one step

-- the flag, at this place
abbrev pub flag_at : ℕ → Known
flag_at place = record { place = place; row = flag (codes "--verbose") }

-- the options have the flag at this place
abbrev pub HasFlagAt : ℕ → List OptionRow → Type 0
HasFlagAt place rows = option_known (codes "--verbose") rows ≡ Some (flag_at place)

-- the state with the flag given
abbrev with_flag : ℕ → Text → State → State
with_flag place value state = record { values = set state.values place (Some value); waiting = state.waiting }

-- the option, where there is one, is not at this place
abbrev pub IsElsewhere : ℕ → Option Known → Type 0
IsElsewhere place None = ⊤
IsElsewhere place (Some known) = known.place ≢ place

-- a step with the flag given ends as the one without
abbrev pub IsAlike : ℕ → Text → Values → Result State Reason → Result State Reason → Type 0
IsAlike place value before (Err reason) other = other ≡ Err reason
IsAlike place value before (Ok next) other =
    (other ≡ Ok (with_flag place value next)) × IsElsewhere place next.waiting
    × (value_at place next.values ≡ value_at place before)

placed_alike : (place : ℕ) (value : Text) (values : Values) (known : Known) (text : Text) → known.place ≢ place
    → IsAlike place value values (Ok (with_value values known text))
    (Ok (with_value (set values place (Some value)) known text))
placed_alike place value values known text other = (
  ap (λ (v : Values). Ok (record { values = v; waiting = None }))
      (set_comm values place known.place (Some value) (Some text) (λ e. other (sym e))),
  tt,
  get_or-set_other values known.place place (Some text) None (λ e. other (sym e)),
)

taken_alike : (place : ℕ) (value : Text) (values : Values) (known : Known) (text : Text) → known.place ≢ place
    → IsAlike place value values (with_taken values known text) (with_taken (set values place (Some value)) known text)
taken_alike place value values known text other = go (accepts known.row.takes text)
  where
    go : (t : Bool)
        → IsAlike place value values
        (if t then Ok (with_value values known text) else Err (bad_value known.row.name text))
        (if t then Ok (with_value (set values place (Some value)) known text) else Err (bad_value known.row.name text))
    go true = placed_alike place value values known text other
    go false = refl

word_alike : (place : ℕ) (value : Text) (values : Values) (known : Known) (word : Text) → known.place ≢ place
    → IsAlike place value values (with_word values known word) (with_word (set values place (Some value)) known word)
word_alike place value values known word other =
    go (is_empty_text word || begins_with_hyphen word) (taken_alike place value values known word other)
  where
    go : (t : Bool)
        → IsAlike place value values (with_taken values known word)
        (with_taken (set values place (Some value)) known word)
        → IsAlike place value values (if t then Err (no_value known.row.name) else with_taken values known word)
        (if t then Err (no_value known.row.name) else with_taken (set values place (Some value)) known word)
    go true h = refl
    go false h = h

option_alike : (place : ℕ) (value : Text) (values : Values) (known : Known) (word : Text) (attached : Option Text)
    → known.place ≢ place
    → IsAlike place value values (with_option values known word attached)
    (with_option (set values place (Some value)) known word attached)
option_alike place value values known word None other = go (is_flag known.row.takes)
  where
    go : (t : Bool)
        → IsAlike place value values
        (if t then Ok (with_value values known flag_value) else Ok (record { values = values; waiting = Some known }))
        (if t then Ok (with_value (set values place (Some value)) known flag_value)
        else Ok (record { values = set values place (Some value); waiting = Some known }))
    go true = placed_alike place value values known flag_value other
    go false = (refl, other, refl)
option_alike place value values known word (Some text) other =
    go (is_empty_text text) (taken_alike place value values known text other)
  where
    go : (t : Bool)
        → IsAlike place value values (with_taken values known text)
        (with_taken (set values place (Some value)) known text)
        → IsAlike place value values (if t then Err (no_value known.row.name) else with_taken values known text)
        (if t then Err (no_value known.row.name) else with_taken (set values place (Some value)) known text)
    go true h = refl
    go false h = h

known_alike : (place : ℕ) (value : Text) (values : Values) (word : Text) (attached : Option Text) (known : Option Known)
    → IsElsewhere place known
    → IsAlike place value values (with_known values word attached known)
    (with_known (set values place (Some value)) word attached known)
known_alike place value values word attached None other = refl
known_alike place value values word attached (Some known) other =
    go (is_flag known.row.takes && is_some attached) (is_some (value_at known.place values))
    (is_some (value_at known.place (set values place (Some value))))
    (ap is_some (get_or-set_other values place known.place (Some value) None other))
    (option_alike place value values known word attached other)
  where
    go : (s t u : Bool) → u ≡ t
        → IsAlike place value values (with_option values known word attached)
        (with_option (set values place (Some value)) known word attached)
        → IsAlike place value values
        (if s then Err (unknown_option word) else if t then Err (twice known.row.name)
        else with_option values known word attached)
        (if s then Err (unknown_option word) else if u then Err (twice known.row.name)
        else with_option (set values place (Some value)) known word attached)
    go true t u e h = refl
    go false true true e h = refl
    go false true false e h = absurd cc
    go false false true e h = absurd cc
    go false false false e h = h

free_alike : (place : ℕ) (value : Text) (values : Values) (word : Text) (known : Option Known) → IsElsewhere place known
    → IsAlike place value values (with_free values word known) (with_free (set values place (Some value)) word known)
free_alike place value values word None other = refl
free_alike place value values word (Some known) other =
    go (is_empty_text word) (is_some (value_at known.place values))
    (is_some (value_at known.place (set values place (Some value))))
    (ap is_some (get_or-set_other values place known.place (Some value) None other))
    (taken_alike place value values known word other)
  where
    go : (s t u : Bool) → u ≡ t
        → IsAlike place value values (with_taken values known word)
        (with_taken (set values place (Some value)) known word)
        → IsAlike place value values (if s || t then Err (left_over word) else with_taken values known word)
        (if s || u then Err (left_over word) else with_taken (set values place (Some value)) known word)
    go true t u e h = refl
    go false true true e h = refl
    go false true false e h = absurd cc
    go false false true e h = absurd cc
    go false false false e h = h

-- an option that the flag does not pass as is elsewhere
found_elsewhere : (place : ℕ) (rows : List OptionRow) (passes : OptionRow → Bool) → HasFlagAt place rows
    → passes (flag (codes "--verbose")) ≡ false → IsElsewhere place (known_from 0 passes rows)
found_elsewhere place rows passes there unlike = go (known_from 0 passes rows) refl
  where
    go : (k : Option Known) → known_from 0 passes rows ≡ k → IsElsewhere place k
    go None at = tt
    go (Some known) at =
        apart 0 (λ row. bytes_eq row.name (codes "--verbose")) passes rows (flag_at place) known there at unlike

-- the word does not name the flag
abbrev names_flag : Text → Bool
names_flag = names_one (flag (codes "--verbose") ∷ [])

not_named : (b : Bool) → (b || false) ≡ false → b ≡ false
not_named true h = h
not_named false h = h

next_alike : (rows : List OptionRow) (place : ℕ) (value : Text) (values : Values) (word : Text)
    → IsElsewhere place (option_known (name_in word) rows) → IsElsewhere place (free_known rows)
    → IsAlike place value values (with_next rows values word) (with_next rows (set values place (Some value)) word)
next_alike rows place value values word named free =
    go (begins_with_hyphen word)
    (known_alike place value values word (attached_in word) (option_known (name_in word) rows) named)
    (free_alike place value values word (free_known rows) free)
  where
    go : (t : Bool)
        → IsAlike place value values (with_known values word (attached_in word) (option_known (name_in word) rows))
        (with_known (set values place (Some value)) word (attached_in word) (option_known (name_in word) rows))
        → IsAlike place value values (with_free values word (free_known rows))
        (with_free (set values place (Some value)) word (free_known rows))
        → IsAlike place value values
        (if t then with_known values word (attached_in word) (option_known (name_in word) rows)
        else with_free values word (free_known rows))
        (if t then with_known (set values place (Some value)) word (attached_in word) (option_known (name_in word) rows)
        else with_free (set values place (Some value)) word (free_known rows))
    go true h k = h
    go false h k = k

-- the same, where no row that is known is at the place
pub step_between : (rows : List OptionRow) (place : ℕ) (value : Text) (values : Values) (word : Text)
    (waiting : Option Known)
    → ((passes : OptionRow → Bool) → IsElsewhere place (known_from 0 passes rows)) → IsElsewhere place waiting
    → IsAlike place value values (with_step rows values word waiting)
    (with_step rows (set values place (Some value)) word waiting)
step_between rows place value values word None none other =
    next_alike rows place value values word (none (λ row. bytes_eq row.name (name_in word)))
    (none (λ row. is_free row.takes))
step_between rows place value values word (Some known) none other = word_alike place value values known word other

step_alike : (rows : List OptionRow) (place : ℕ) (value : Text) (values : Values) (word : Text) (waiting : Option Known)
    → HasFlagAt place rows → IsElsewhere place waiting → names_flag word ≡ false
    → IsAlike place value values (with_step rows values word waiting)
    (with_step rows (set values place (Some value)) word waiting)
step_alike rows place value values word None there other unlike =
    next_alike rows place value values word
    (found_elsewhere place rows (λ row. bytes_eq row.name (name_in word)) there
    (not_named (bytes_eq (codes "--verbose") (name_in word)) unlike))
    (found_elsewhere place rows (λ row. is_free row.takes) there refl)
step_alike rows place value values word (Some known) there other unlike = word_alike place value values known word other

-- ---- several words

neither : (a b : Bool) → (a || b) ≡ false → (a ≡ false) × (b ≡ false)
neither true b h = cc
neither false b h = (refl, h)

-- the values with the flag given
abbrev flagged : ℕ → Text → Values → Result Values Reason
flagged place value values = Ok (set values place (Some value))

finished_alike : (place : ℕ) (value : Text) (values : Values) (waiting : Option Known)
    → finished (set values place (Some value)) waiting ≡ and_then (finished values waiting) (flagged place value)
finished_alike place value values None = refl
finished_alike place value values (Some known) = refl

walk_alike : (rows : List OptionRow) (place : ℕ) (value : Text) (state : State) (words : List Text)
    → HasFlagAt place rows → IsElsewhere place state.waiting → list_any names_flag words ≡ false
    → walked rows (with_flag place value state) words ≡ and_then (walked rows state words) (flagged place value)
walk_alike rows place value state [] there other unlike = finished_alike place value state.values state.waiting
walk_alike rows place value state (word ∷ words) there other unlike =
    let parts = neither (names_flag word) (list_any names_flag words) unlike in
    go (with_step rows state.values word state.waiting)
    (with_step rows (set state.values place (Some value)) word state.waiting)
    (step_alike rows place value state.values word state.waiting there other parts.0)
    (λ next e. walk_alike rows place value next words there e parts.1)
  where
    go : (r s : Result State Reason) → IsAlike place value state.values r s
        → ((next : State) → IsElsewhere place next.waiting
        → walked rows (with_flag place value next) words ≡ and_then (walked rows next words) (flagged place value))
        → and_then s (λ next. walked rows next words)
        ≡ and_then (and_then r (λ next. walked rows next words)) (flagged place value)
    go (Err e) s h rest = ap (λ (r : Result State Reason). and_then r (λ next. walked rows next words)) h
    go (Ok next) s h rest =
        ap (λ (r : Result State Reason). and_then r (λ next. walked rows next words)) h.0 ∙ rest next h.1

kept : (rows : List OptionRow) (place : ℕ) (state reached : State) (words : List Text)
    → HasFlagAt place rows → IsElsewhere place state.waiting → list_any names_flag words ≡ false
    → steps rows state words ≡ Ok reached → value_at place reached.values ≡ value_at place state.values
kept rows place state reached [] there other unlike is = let same : state ≡ reached = cc in cc
kept rows place state reached (word ∷ words) there other unlike is =
    let parts = neither (names_flag word) (list_any names_flag words) unlike in
    go (with_step rows state.values word state.waiting)
    (with_step rows (set state.values place (Some [])) word state.waiting)
    (step_alike rows place [] state.values word state.waiting there other parts.0) is
    (λ next e from. kept rows place next reached words there e parts.1 from)
  where
    go : (r s : Result State Reason) → IsAlike place [] state.values r s
        → and_then r (λ next. steps rows next words) ≡ Ok reached
        → ((next : State) → IsElsewhere place next.waiting → steps rows next words ≡ Ok reached
        → value_at place reached.values ≡ value_at place next.values)
        → value_at place reached.values ≡ value_at place state.values
    go (Err e) s h from rest = absurd cc
    go (Ok next) s h from rest = rest next h.1 from ∙ h.2

walk_from : (rows : List OptionRow) (state reached : State) (before after : List Text)
    → steps rows state before ≡ Ok reached
    → walked rows state (before ++ after) ≡ walked rows reached after
walk_from rows state reached [] after is =
    let same : state ≡ reached = cc in ap (λ (s : State). walked rows s after) same
walk_from rows state reached (word ∷ before) after is =
    go (with_step rows state.values word state.waiting) is (λ next from. walk_from rows next reached before after from)
  where
    go : (r : Result State Reason) → and_then r (λ next. steps rows next before) ≡ Ok reached
        → ((next : State) → steps rows next before ≡ Ok reached
        → walked rows next (before ++ after) ≡ walked rows reached after)
        → and_then r (λ next. walked rows next (before ++ after)) ≡ walked rows reached after
    go (Ok next) from rest = rest next from
    go (Err e) from rest = absurd cc

-- the word that gives the flag
is_written : (word : Text) → is_verbose word ≡ true → (word ≡ codes "-v") ⊎ (word ≡ codes "--verbose")
is_written word is = go (bytes_eq word (codes "-v")) refl is
  where
    go : (t : Bool) → bytes_eq word (codes "-v") ≡ t → (t || bytes_eq word (codes "--verbose")) ≡ true
        → (word ≡ codes "-v") ⊎ (word ≡ codes "--verbose")
    go true e h = inl ((bytes_eq-Decides word (codes "-v")).0 e)
    go false e h = inr ((bytes_eq-Decides word (codes "--verbose")).0 h)

flag_given : (place : ℕ) (values : Values) (word : Text) (k : Option Known) → k ≡ Some (flag_at place)
    → value_at place values ≡ None
    → with_known values word None k ≡ Ok (record { values = set values place (Some flag_value); waiting = None })
flag_given place values word k there free =
    ap (λ (k : Option Known). with_known values word None k) there
    ∙ ap (λ (given : Option Text). if is_some given then Err (twice (codes "--verbose"))
    else Ok (record { values = set values place (Some flag_value); waiting = None })) free

flag_step : (rows : List OptionRow) (place : ℕ) (values : Values) (word : Text) → HasFlagAt place rows
    → value_at place values ≡ None → (word ≡ codes "-v") ⊎ (word ≡ codes "--verbose")
    → with_next rows values word ≡ Ok (record { values = set values place (Some flag_value); waiting = None })
flag_step rows place values word there free (inl e) =
    subst (λ (w : Text). with_next rows values w
    ≡ Ok (record { values = set values place (Some flag_value); waiting = None })) (sym e)
    (flag_given place values (codes "-v") (option_known (codes "--verbose") rows) there free)
flag_step rows place values word there free (inr e) =
    subst (λ (w : Text). with_next rows values w
    ≡ Ok (record { values = set values place (Some flag_value); waiting = None })) (sym e)
    (flag_given place values (codes "--verbose") (option_known (codes "--verbose") rows) there free)

walk_with : (rows : List OptionRow) (place : ℕ) (state reached : State) (before after : List Text) (word : Text)
    → HasFlagAt place rows → IsElsewhere place state.waiting → value_at place state.values ≡ None
    → steps rows state before ≡ Ok reached → reached.waiting ≡ None → is_verbose word ≡ true
    → list_any names_flag before ≡ false → list_any names_flag after ≡ false
    → walked rows state (before ++ word ∷ after) ≡ and_then (walked rows state (before ++ after)) (flagged place flag_value)
walk_with rows place state reached before after word there other free is idle verbose unlike none =
    let free_there : value_at place reached.values ≡ None =
    kept rows place state reached before there other unlike is ∙ free in
    let step : with_step rows reached.values word reached.waiting ≡ Ok (with_flag place flag_value reached) =
    ap (λ (w : Option Known). with_step rows reached.values word w) idle
    ∙ flag_step rows place reached.values word there free_there (is_written word verbose)
    ∙ ap (λ (w : Option Known). Ok (record { values = set reached.values place (Some flag_value); waiting = w }))
    (sym idle) in
    walk_from rows state reached before (word ∷ after) is
    ∙ ap (λ (r : Result State Reason). and_then r (λ next. walked rows next after)) step
    ∙ walk_alike rows place flag_value reached after there (subst (IsElsewhere place) (sym idle) tt) none
    ∙ ap (λ (r : Result Values Reason). and_then r (flagged place flag_value))
    (sym (walk_from rows state reached before after is))

-- ---- what is asked

-- the values without that of the flag
abbrev masked : Look → Look
masked look name = if bytes_eq (codes "--verbose") name then None else look name

unasked : (command : CommandName) (look : Look) → asks_of command look ≡ asks_of command (masked look)
unasked names.Run look = refl
unasked names.Show look = refl
unasked names.Make look = refl
unasked names.Safe look = refl
unasked names.Control look = refl
unasked names.Twin look = refl
unasked names.Export look = refl
unasked names.Import look = refl
unasked names.Key look = refl
unasked names.Replay look = refl
unasked names.Check look = refl
unasked names.Whatif look = refl
unasked names.Salvage look = refl
unasked names.Diff look = refl
unasked names.Why look = refl
unasked names.Graph look = refl
unasked names.Sweep look = refl
unasked names.Devices look = refl
unasked names.Find look = refl
unasked names.Services look = refl

named_alike : (rows : List OptionRow) (place : ℕ) (value : Text) (values : Values) (name : Text) → HasFlagAt place rows
    → bytes_eq (codes "--verbose") name ≡ false
    → value_named rows (set values place (Some value)) name ≡ value_named rows values name
named_alike rows place value values name there unlike =
    go (option_known name rows) (found_elsewhere place rows (λ row. bytes_eq row.name name) there unlike)
  where
    go : (k : Option Known) → IsElsewhere place k
        → option_and_then (λ known. value_at known.place (set values place (Some value))) k
        ≡ option_and_then (λ known. value_at known.place values) k
    go None other = refl
    go (Some known) other = get_or-set_other values place known.place (Some value) None other

masked_alike : (rows : List OptionRow) (place : ℕ) (value : Text) (values : Values) (name : Text) → HasFlagAt place rows
    → masked (value_named rows (set values place (Some value))) name ≡ masked (value_named rows values) name
masked_alike rows place value values name there =
    go (bytes_eq (codes "--verbose") name) (λ unlike. named_alike rows place value values name there unlike)
  where
    go : (t : Bool) → (t ≡ false → value_named rows (set values place (Some value)) name ≡ value_named rows values name)
        → (if t then None else value_named rows (set values place (Some value)) name)
        ≡ (if t then None else value_named rows values name)
    go true rest = refl
    go false rest = rest refl

-- what the look asks of the command, and whether for JSON
abbrev pub asked_in : CommandName → Look → Result (Asked × Bool) Reason
asked_in command look = and_then (asks_of command look) (λ asked. Ok (asked, flag_in look (codes "--json")))

asked_masked : (command : CommandName) (look : Look) → asked_in command look ≡ asked_in command (masked look)
asked_masked command look =
    ap (λ (r : Result Asked Reason). and_then r (λ asked. Ok (asked, flag_in look (codes "--json"))))
    (unasked command look)

asked_alike : (row : CommandRow) (place : ℕ) (value : Text) (values : Values) → HasFlagAt place row.options
    → asked_by row (set values place (Some value)) ≡ asked_by row values
asked_alike row place value values there =
    let same : masked (value_named row.options (set values place (Some value)))
    ≡ masked (value_named row.options values) =
    λ i name. masked_alike row.options place value values name there i in
    asked_masked row.command (value_named row.options (set values place (Some value))) ∙ ap (asked_in row.command) same
    ∙ sym (asked_masked row.command (value_named row.options values))

asked_with : (row : CommandRow) (place : ℕ) (value : Text) (r : Result Values Reason) → HasFlagAt place row.options
    → and_then (and_then r (flagged place value)) (asked_by row) ≡ and_then r (asked_by row)
asked_with row place value (Ok values) there = asked_alike row place value values there
asked_with row place value (Err e) there = refl

-- ---- the commands

abbrev HasFlag : CommandRow → Type 0
HasFlag row = (place : ℕ) × HasFlagAt place row.options

abbrev AllHave : List CommandRow → Type 0
AllHave [] = ⊤
AllHave (row ∷ rows) = HasFlag row × AllHave rows

has_flag : (passes : CommandRow → Bool) (rows : List CommandRow) (row : CommandRow) → AllHave rows
    → find passes rows ≡ Some row
    → HasFlag row
has_flag passes [] row all is = absurd cc
has_flag passes (r ∷ rows) row all is = go (passes r) (λ more. has_flag passes rows row all.1 more) is
  where
    go : (t : Bool) → (find passes rows ≡ Some row → HasFlag row)
        → cond t (Some r) (find passes rows) ≡ Some row → HasFlag row
    go true more e = let same : r ≡ row = cc in subst HasFlag same all.0
    go false more e = more e

all_have : AllHave commands
all_have = (
  (8, refl),
  (
    (3, refl),
    (
      (3, refl),
      (
        (7, refl),
        (
          (4, refl),
          (
            (7, refl),
            (
              (5, refl),
              ((9, refl), ((6, refl), ((6, refl), ((5, refl), ((6, refl), ((5, refl), ((8, refl), ((7, refl), ((7, refl), ((6, refl), ((8, refl), ((9, refl), ((8, refl), tt))))))))))))),
            ),
          ),
        ),
      ),
    ),
  ),
)

pub none_given : (place : ℕ) (values : Values) → list_any is_some values ≡ false → value_at place values ≡ None
none_given place [] none = refl
none_given zero (None ∷ values) none = refl
none_given zero (Some text ∷ values) none = absurd cc
none_given (suc place) (None ∷ values) none = none_given place values none
none_given (suc place) (Some text ∷ values) none = absurd cc

-- ---- the reading

any_parts : (passes : Text → Bool) (before after : List Text) → list_any passes (before ++ after) ≡ false
    → (list_any passes before ≡ false) × (list_any passes after ≡ false)
any_parts passes [] after none = (refl, none)
any_parts passes (word ∷ before) after none = go (passes word) (any_parts passes before after) none
  where
    go : (t : Bool)
        → (list_any passes (before ++ after) ≡ false
        → (list_any passes before ≡ false) × (list_any passes after ≡ false))
        → (t || list_any passes (before ++ after)) ≡ false
        → ((t || list_any passes before) ≡ false) × (list_any passes after ≡ false)
    go true rest h = absurd cc
    go false rest h = rest h

help_alike : (before after : List Text) (word : Text) → is_help word ≡ false
    → asks_help (before ++ word ∷ after) ≡ asks_help (before ++ after)
help_alike [] after word unlike = ap (λ (t : Bool). t || asks_help after) unlike
help_alike (w ∷ before) after word unlike = ap (λ (t : Bool). is_help w || t) (help_alike before after word unlike)

no_help : (word : Text) → (word ≡ codes "-v") ⊎ (word ≡ codes "--verbose") → is_help word ≡ false
no_help word (inl e) = ap is_help e
no_help word (inr e) = ap is_help e

pub verbose_alike : (first : Text) (row : CommandRow) (reached : State) (before after : List Text) (word : Text)
    → row_named first ≡ Some row
    → steps row.options (record { values = no_values; waiting = None }) before ≡ Ok reached → reached.waiting ≡ None
    → is_verbose word ≡ true → list_any names_flag (before ++ after) ≡ false
    → command_read first (before ++ word ∷ after) (Some row) ≡ command_read first (before ++ after) (Some row)
verbose_alike first row reached before after word named is idle verbose none =
    let has = has_flag (λ c. bytes_eq c.name first) commands row all_have named in
    let parts = any_parts names_flag before after none in
    let start : State = record { values = no_values; waiting = None } in
    let walk : walked row.options start (before ++ word ∷ after)
    ≡ and_then (walked row.options start (before ++ after)) (flagged has.0 flag_value) =
    walk_with row.options has.0 start reached before after word has.1 tt (none_given has.0 no_values refl)
    is idle verbose parts.0 parts.1 in
    let asked : asked_of row (before ++ word ∷ after) ≡ asked_of row (before ++ after) =
    ap (λ (r : Result Values Reason). and_then r (asked_by row)) walk
    ∙ asked_with row has.0 flag_value (walked row.options start (before ++ after)) has.1 in
    ap (λ (t : Bool). if t then help (page_of_row row) else asked_read (asked_of row (before ++ word ∷ after)))
    (help_alike before after word (no_help word (is_written word verbose)))
    ∙ ap (λ (r : Result (Asked × Bool) Reason). if asks_help (before ++ after) then help (page_of_row row)
    else asked_read r) asked
