-- The words after a command's name, as `clap` walks over them.
use Rattle.std.proofs.Common.{◌≡◌, ◌∙◌, ◌&&◌, ℕ, Bool, true, false, List, [], ◌∷◌, Option, Some, None, refl}
use Rattle.std.specs.Prelude.{bytes_eq}
use Rattle.std.specs.Str.{chars}
use Rattle.clap.specs.Words.{Kinds, Row, Rule, Shape}
use Rattle.clap.specs.Lexer.{long_of, short_of}
use Rattle.clap.specs.Walk.{Held, Waiting, Walk, idle, option, positional, arg_by_id, arg_by_index, arg_by_long, arg_by_short, bundle_met, is_pending, most_values, next_position, pushed, reacted, settled, takes_values, walked}
use Rattle.clap.specs.Faults.{flags_fault, react_fault, settle_fault, turn_fault}
use Rattle.clap.specs.Kinds.{or_else}
use Rattle.clap.specs.Simple.{built}
use Rattle.command_words.specs.Words.{Text}
use Rattle.command_words.specs.Clap.{plain_app}
use Rattle.command_words.proofs.RowLemmas.{free_built, is_none, never, or_nil}

-- a command with these rules, as it is built
abbrev pub shape : Text → List Rule → Shape
shape name rules = record (built (plain_app name)).top { rules = rules }

abbrev pub stands : Waiting → ℕ → Held → Walk
stands waiting p h = record { held = h; waiting = waiting; position = p; is_trailing = false; stopped = None }

-- the faults of the words from here on, and of what is pending after them
unfoldable pub whole : Text → List Rule → Walk → List Text → Kinds
whole name rules w [] = settle_fault rules false w.held
whole name rules w (word ∷ words) =
    or_else (turn_fault (shape name rules) [] w word) (whole name rules (walked rules [] w word) words)

-- what is held after the words
unfoldable pub final : List Rule → Walk → List Text → Held
final rules w [] = settled rules w.held
final rules w (word ∷ words) = final rules (walked rules [] w word) words

abbrev pub pending : List Row → Text → List Text → Held
pending rows n vs = record { rows = rows; pending = Some (n, vs); skip = 0 }

pub or_blocked : (a b : Kinds) → is_none a ≡ false → is_none (or_else a b) ≡ false
or_blocked [] b e = never e
or_blocked (k ∷ ks) b e = refl

pub blocked : (name : Text) (rules : List Rule) (w : Walk) (word : Text) (words : List Text)
    → is_none (turn_fault (shape name rules) [] w word) ≡ false
    → is_none (whole name rules w (word ∷ words)) ≡ false
unfolding whole
blocked name rules w word words e =
    or_blocked (turn_fault (shape name rules) [] w word) (whole name rules (walked rules [] w word) words) e

pub whole_next : (name : Text) (rules : List Rule) (w next : Walk) (word : Text) (words : List Text)
    → turn_fault (shape name rules) [] w word ≡ [] → walked rules [] w word ≡ next
    → whole name rules w (word ∷ words) ≡ whole name rules next words
unfolding whole
whole_next name rules w next word words t e = rw (t, e) refl

pub final_next : (rules : List Rule) (w next : Walk) (word : Text) (words : List Text)
    → walked rules [] w word ≡ next → final rules w (word ∷ words) ≡ final rules next words
unfolding final
final_next rules w next word words e = rw e refl

-- ---- the turn of one word

pub turn_unknown : (name : Text) (rules : List Rule) (waiting : Waiting) (p : ℕ) (h : Held) (w n : Text)
    (x : Option Text)
    → bytes_eq w (45 ∷ 45 ∷ []) ≡ false → long_of w ≡ Some (n, x) → arg_by_long rules n ≡ None
    → is_none (turn_fault (shape name rules) [] (stands waiting p h) w) ≡ false
turn_unknown name rules idle p h w n x ne long found = rw (ne, long, found) refl
turn_unknown name rules (option id) p h w n x ne long found = rw (ne, long, found) refl
turn_unknown name rules positional p h w n x ne long found = rw (ne, long, found) refl

pub turn_attached : (name : Text) (rules : List Rule) (waiting : Waiting) (p : ℕ) (h : Held) (w n v : Text) (a : Rule)
    → bytes_eq w (45 ∷ 45 ∷ []) ≡ false → long_of w ≡ Some (n, Some v) → arg_by_long rules n ≡ Some a
    → takes_values a ≡ true
    → turn_fault (shape name rules) [] (stands waiting p h) w ≡ react_fault rules false a (v ∷ []) h
turn_attached name rules idle p h w n v a ne long found takes =
    rw (ne, long, found, takes) (or_nil (react_fault rules false a (v ∷ []) h))
turn_attached name rules (option id) p h w n v a ne long found takes =
    rw (ne, long, found, takes) (or_nil (react_fault rules false a (v ∷ []) h))
turn_attached name rules positional p h w n v a ne long found takes =
    rw (ne, long, found, takes) (or_nil (react_fault rules false a (v ∷ []) h))

pub turn_alone : (name : Text) (rules : List Rule) (waiting : Waiting) (p : ℕ) (h : Held) (w n : Text) (a : Rule)
    → bytes_eq w (45 ∷ 45 ∷ []) ≡ false → long_of w ≡ Some (n, None) → arg_by_long rules n ≡ Some a
    → takes_values a ≡ true
    → turn_fault (shape name rules) [] (stands waiting p h) w ≡ settle_fault rules false h
turn_alone name rules idle p h w n a ne long found takes =
    rw (ne, long, found, takes) (or_nil (settle_fault rules false h))
turn_alone name rules (option id) p h w n a ne long found takes =
    rw (ne, long, found, takes) (or_nil (settle_fault rules false h))
turn_alone name rules positional p h w n a ne long found takes =
    rw (ne, long, found, takes) (or_nil (settle_fault rules false h))

pub walked_attached : (rules : List Rule) (p : ℕ) (h : Held) (w n v : Text) (a : Rule)
    → bytes_eq w (45 ∷ 45 ∷ []) ≡ false → long_of w ≡ Some (n, Some v) → arg_by_long rules n ≡ Some a
    → takes_values a ≡ true
    → walked rules [] (stands idle p h) w ≡ stands idle p (reacted rules a (v ∷ []) h)
unfolding walked
walked_attached rules p h w n v a ne long found takes = rw (ne, long, found, takes) refl

pub walked_alone : (rules : List Rule) (p : ℕ) (h : Held) (w n : Text) (a : Rule)
    → bytes_eq w (45 ∷ 45 ∷ []) ≡ false → long_of w ≡ Some (n, None) → arg_by_long rules n ≡ Some a
    → takes_values a ≡ true
    → walked rules [] (stands idle p h) w
    ≡ stands (option a.id) p (record (settled rules h) { pending = Some (a.id, []) })
unfolding walked
walked_alone rules p h w n a ne long found takes = rw (ne, long, found, takes) refl

-- a word that is no option
pub turn_stray : (name : Text) (rules : List Rule) (p : ℕ) (h : Held) (w : Text)
    → bytes_eq w (45 ∷ 45 ∷ []) ≡ false → long_of w ≡ None → short_of w ≡ None → arg_by_index rules p ≡ None
    → is_none (turn_fault (shape name rules) [] (stands idle p h) w) ≡ false
turn_stray name rules p h w ne long short found = rw (ne, long, short, found) refl

and_false : (b : Bool) → (b && false) ≡ false
and_false true = refl
and_false false = refl

pub turn_free : (name : Text) (rules : List Rule) (p i : ℕ) (h : Held) (w n : Text)
    → bytes_eq w (45 ∷ 45 ∷ []) ≡ false → long_of w ≡ None → short_of w ≡ None
    → arg_by_index rules p ≡ Some (free_built i n)
    → turn_fault (shape name rules) [] (stands idle p h) w ≡ settle_fault rules false h
turn_free name rules p i h w n ne long short found =
    rw (ne, long, short, found, and_false (is_pending (free_built i n) h.pending)) refl

pub walked_free : (rules : List Rule) (p i : ℕ) (h : Held) (w n : Text)
    → bytes_eq w (45 ∷ 45 ∷ []) ≡ false → long_of w ≡ None → short_of w ≡ None
    → arg_by_index rules p ≡ Some (free_built i n)
    → walked rules [] (stands idle p h) w
    ≡ stands idle (next_position (free_built i n) p) (pushed n w (settled rules h))
unfolding walked
walked_free rules p i h w n ne long short found =
    rw (ne, long, short, found, and_false (is_pending (free_built i n) h.pending)) refl

-- the value of an option, in a word of its own
pub turn_value : (name : Text) (rules : List Rule) (p : ℕ) (h : Held) (w n : Text) (a : Rule)
    → bytes_eq w (45 ∷ 45 ∷ []) ≡ false → long_of w ≡ None → short_of w ≡ None → arg_by_id rules n ≡ Some a
    → turn_fault (shape name rules) [] (stands (option n) p h) w ≡ []
turn_value name rules p h w n a ne long short found = rw (ne, long, short) refl

pub walked_value : (rules : List Rule) (p : ℕ) (g : List Row) (w n : Text) (a : Rule)
    → bytes_eq w (45 ∷ 45 ∷ []) ≡ false → long_of w ≡ None → short_of w ≡ None → arg_by_id rules n ≡ Some a
    → bytes_eq n a.id ≡ true → most_values a ≡ 1
    → walked rules [] (stands (option n) p (pending g n [])) w ≡ stands idle p (pending g n (w ∷ []))
unfolding walked
walked_value rules p g w n a ne long short found same most = rw (ne, long, short, found, same, most) refl

-- ---- a flag

pub turn_flag : (name : Text) (rules : List Rule) (waiting : Waiting) (p : ℕ) (h : Held) (w n : Text) (a : Rule)
    → bytes_eq w (45 ∷ 45 ∷ []) ≡ false → long_of w ≡ Some (n, None) → arg_by_long rules n ≡ Some a
    → takes_values a ≡ false
    → turn_fault (shape name rules) [] (stands waiting p h) w ≡ react_fault rules false a [] h
turn_flag name rules idle p h w n a ne long found takes =
    rw (ne, long, found, takes) (or_nil (react_fault rules false a [] h))
turn_flag name rules (option id) p h w n a ne long found takes =
    rw (ne, long, found, takes) (or_nil (react_fault rules false a [] h))
turn_flag name rules positional p h w n a ne long found takes =
    rw (ne, long, found, takes) (or_nil (react_fault rules false a [] h))

pub turn_flag_value : (name : Text) (rules : List Rule) (waiting : Waiting) (p : ℕ) (h : Held) (w n v : Text) (a : Rule)
    → bytes_eq w (45 ∷ 45 ∷ []) ≡ false → long_of w ≡ Some (n, Some v) → arg_by_long rules n ≡ Some a
    → takes_values a ≡ false
    → is_none (turn_fault (shape name rules) [] (stands waiting p h) w) ≡ false
turn_flag_value name rules idle p h w n v a ne long found takes = rw (ne, long, found, takes) refl
turn_flag_value name rules (option id) p h w n v a ne long found takes = rw (ne, long, found, takes) refl
turn_flag_value name rules positional p h w n v a ne long found takes = rw (ne, long, found, takes) refl

pub walked_flag : (rules : List Rule) (p : ℕ) (h : Held) (w n : Text) (a : Rule)
    → bytes_eq w (45 ∷ 45 ∷ []) ≡ false → long_of w ≡ Some (n, None) → arg_by_long rules n ≡ Some a
    → takes_values a ≡ false
    → walked rules [] (stands idle p h) w ≡ stands idle p (reacted rules a [] h)
unfolding walked
walked_flag rules p h w n a ne long found takes = rw (ne, long, found, takes) refl

-- the flag by its letter
abbrev pub letter : Text
letter = 45 ∷ 118 ∷ []

pub turn_letter : (name : Text) (rules : List Rule) (waiting : Waiting) (p : ℕ) (rows : List Row)
    (pend : Option (Text × List Text)) (a : Rule)
    → arg_by_short rules 118 ≡ Some a → takes_values a ≡ false
    → turn_fault (shape name rules) [] (stands waiting p (record { rows = rows; pending = pend; skip = 0 })) letter
    ≡ react_fault rules false a [] (record { rows = rows; pending = pend; skip = 0 })
unfolding flags_fault bundle_met chars
turn_letter name rules idle p rows pend a found takes =
    rw (found, takes) (or_nil (or_else (react_fault rules false a [] (record { rows = rows; pending = pend; skip = 0 })) []) ∙ or_nil (react_fault rules false a [] (record { rows = rows; pending = pend; skip = 0 })))
turn_letter name rules (option id) p rows pend a found takes =
    rw (found, takes) (or_nil (or_else (react_fault rules false a [] (record { rows = rows; pending = pend; skip = 0 })) []) ∙ or_nil (react_fault rules false a [] (record { rows = rows; pending = pend; skip = 0 })))
turn_letter name rules positional p rows pend a found takes =
    rw (found, takes) (or_nil (or_else (react_fault rules false a [] (record { rows = rows; pending = pend; skip = 0 })) []) ∙ or_nil (react_fault rules false a [] (record { rows = rows; pending = pend; skip = 0 })))

pub walked_letter : (rules : List Rule) (p : ℕ) (rows : List Row) (pend : Option (Text × List Text)) (a : Rule)
    → arg_by_short rules 118 ≡ Some a → takes_values a ≡ false
    → walked rules [] (stands idle p (record { rows = rows; pending = pend; skip = 0 })) letter
    ≡ stands idle p (reacted rules a [] (record { rows = rows; pending = pend; skip = 0 }))
unfolding walked bundle_met chars
walked_letter rules p rows pend a found takes = rw (found, takes) refl
