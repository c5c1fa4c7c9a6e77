-- `clap` has a fault exactly where our walk has a reason, where each option takes any value.
use Rattle.std.proofs.Common.{◌≡◌, ◌∙◌, ◌⊎◌, inl, inr, ℕ, Bool, true, false, List, [], ◌∷◌, Option, Some, None, Result, Ok, Err, refl, sym, ap, ap₂, subst, is_some, codes, bytes_eq, set, length}
use Rattle.std.specs.List.{list_any, before_first}
use Rattle.std.proofs.lemmas.List.{get_or-set_same, length-set}
use Rattle.clap.specs.Words.{Kinds, Row}
use Rattle.clap.specs.Lexer.{long_of, short_of}
use Rattle.clap.specs.Walk.{Held, Waiting, Walk, idle, option, arg_by_index, has_row, next_position, reacted, settled, used}
use Rattle.clap.specs.Faults.{react_fault, settle_fault, turn_fault, use_fault}
use Rattle.clap.specs.Kinds.{or_else}
use Rattle.nt_bytes.specs.Text.{is_equals}
use Rattle.command_words.specs.Words.{Text, Reason, begins_with_hyphen, is_empty_text, left_over, no_value, twice, unknown_option}
use Rattle.command_words.specs.Table.{Known, OptionRow, free_known, is_flag, is_free, option_known}
use Rattle.command_words.specs.Walk.{State, Values, and_then, attached_in, flag_value, value_at, walked, with_free, with_known, with_step, with_value, with_word}
use Rattle.command_words.specs.Clap.{is_empty_value, is_refused}
use Rattle.command_words.proofs.RowLemmas.{IsSingle, free_built, free_no_flag, is_none, or_left, or_right}
use Rattle.command_words.proofs.WalkLemmas.{blocked, final, letter, shape, stands, turn_alone, turn_attached, turn_flag, turn_flag_value, turn_free, turn_letter, turn_stray, turn_unknown, turn_value, walked_alone, walked_attached, walked_flag, walked_free, walked_letter, walked_value, whole}
use Rattle.command_words.proofs.NamedLemmas.{free_none, free_some, no_second, passes_it, same_row}
use Rattle.command_words.proofs.WordForms.{Looks, as_letter, as_long, as_plain, looks, name_long}
use Rattle.command_words.proofs.RelLemmas.{Rel, Told, fresh_row}
use Rattle.command_words.proofs.ClaimLemmas.{Agrees, Dead, Met, follow, held, long_dead, met_by, met_long, rules_in, unmet_long}
use Rattle.command_words.proofs.StepLemmas.{Holds, Place, is_open, is_shut, dead_empty, dead_pending, flag_once, flag_twice, holds_pending, letter_dead, lettered, place_set, single_once, single_twice, state, unfree, within}

abbrev turn : Text → List OptionRow → Waiting → ℕ → Held → Text → Kinds
turn name rows waiting p h word = turn_fault (shape name (rules_in rows)) [] (stands waiting p h) word

abbrev next_walk : List OptionRow → Waiting → ℕ → Held → Text → Walk
next_walk rows waiting p h word = Rattle.clap.specs.Walk.walked (rules_in rows) [] (stands waiting p h) word

pub stop : (name : Text) (rows : List OptionRow) (waiting : Waiting) (p : ℕ) (h : Held) (word : Text) (words : List Text)
    (vs : Values) (waits : Option Known) (e : Reason)
    → with_step rows vs word waits ≡ Err e → is_none (turn name rows waiting p h word) ≡ false
    → Agrees name rows (stands waiting p h) (word ∷ words) (walked rows (state vs waits) (word ∷ words))
stop name rows waiting p h word words vs waits e step bad =
    subst (Agrees name rows (stands waiting p h) (word ∷ words))
    (sym (ap (λ (r : Result State Reason). and_then r (λ next. walked rows next words)) step))
    (blocked name (rules_in rows) (stands waiting p h) word words bad)

pub pass : (name : Text) (rows : List OptionRow) (waiting : Waiting) (p : ℕ) (h : Held) (word : Text) (words : List Text)
    (vs : Values) (waits : Option Known) (ours : State) (clap : Walk)
    → with_step rows vs word waits ≡ Ok ours → turn name rows waiting p h word ≡ [] → next_walk rows waiting p h word ≡ clap
    → Agrees name rows clap words (walked rows ours words)
    → Agrees name rows (stands waiting p h) (word ∷ words) (walked rows (state vs waits) (word ∷ words))
pass name rows waiting p h word words vs waits ours clap step good next rest =
    subst (Agrees name rows (stands waiting p h) (word ∷ words))
    (sym (ap (λ (r : Result State Reason). and_then r (λ next. walked rows next words)) step))
    (follow name rows (stands waiting p h) clap word words (walked rows ours words) good next rest)

abbrev pub ClaimIdle : Text → List OptionRow → List Text → Type 0
ClaimIdle name rows words =
    (p : ℕ) (crows : List Row) (pend : Option (Text × List Text)) (vs : Values) → Holds rows crows pend vs → Place rows p vs
    → Agrees name rows (stands idle p (held crows pend)) words (walked rows (state vs None) words)

abbrev pub ClaimWaiting : Text → List OptionRow → List Text → Type 0
ClaimWaiting name rows words =
    (p : ℕ) (crows : List Row) (vs : Values) (k : Known) (m : Met rows k) → is_flag k.row.takes ≡ false → is_free k.row.takes ≡ false
    → Rel rows vs crows → length vs ≡ 12 → is_some (value_at k.place vs) ≡ false → Place rows p vs
    → Agrees name rows (stands (option k.row.name) p (held crows (Some (k.row.name, [])))) words
    (walked rows (state vs (Some k)) words)

-- a dead end, between options
idle_dead : (name : Text) (rows : List OptionRow) → Told rows → (p : ℕ) (crows : List Row) (pend : Option (Text × List Text))
    → ((arg_by_index (rules_in rows) p ≡ None) ⊎ ((n : Text) × (arg_by_index (rules_in rows) p ≡ Some (free_built 1 n))))
    → Dead rows crows pend → (words : List Text) → list_any is_refused words ≡ false
    → is_none (whole name (rules_in rows) (stands idle p (held crows pend)) words) ≡ false
unfolding whole
idle_dead name rows told p crows pend at dead [] sound = dead
idle_dead name rows told p crows pend at dead (w ∷ words) sound =
    go (looks w (or_left (is_refused w) (list_any is_refused words) sound)) at
  where
    go : Looks w → ((arg_by_index (rules_in rows) p ≡ None) ⊎ ((n : Text) × (arg_by_index (rules_in rows) p ≡ Some (free_built 1 n))))
        → is_none (whole name (rules_in rows) (stands idle p (held crows pend)) (w ∷ words)) ≡ false
    go (as_long x is ne long full) at =
        blocked name (rules_in rows) (stands idle p (held crows pend)) w words
        (subst (λ (t : Text). is_none (turn name rows idle p (held crows pend) t) ≡ false) (sym is)
        (long_dead name rows told idle p crows pend (45 ∷ 45 ∷ x) (before_first is_equals x) (attached_in x) ne long dead))
    go (as_letter is) at =
        blocked name (rules_in rows) (stands idle p (held crows pend)) w words
        (subst (λ (t : Text). is_none (turn name rows idle p (held crows pend) t) ≡ false) (sym is)
        (letter_dead name rows told idle p crows pend dead))
    go (as_plain ne long short first full) (inl none) =
        blocked name (rules_in rows) (stands idle p (held crows pend)) w words
        (turn_stray name (rules_in rows) p (held crows pend) w ne long short none)
    go (as_plain ne long short first full) (inr (n, found)) =
        blocked name (rules_in rows) (stands idle p (held crows pend)) w words
        (ap is_none (turn_free name (rules_in rows) p 1 (held crows pend) w n ne long short found) ∙ dead)

place_rule : (rows : List OptionRow) (p : ℕ) (vs : Values) → Place rows p vs
    → (arg_by_index (rules_in rows) p ≡ None) ⊎ ((n : Text) × (arg_by_index (rules_in rows) p ≡ Some (free_built 1 n)))
place_rule rows p vs (is_shut none given) = inl none
place_rule rows p vs (is_open first free) = go (free_known rows) refl
  where
    go : (o : Option Known) → free_known rows ≡ o
        → (arg_by_index (rules_in rows) p ≡ None) ⊎ ((n : Text) × (arg_by_index (rules_in rows) p ≡ Some (free_built 1 n)))
    go None is = inl (ap (arg_by_index (rules_in rows)) first ∙ free_none rows 1 1 0 is)
    go (Some k) is = inr (k.row.name, ap (arg_by_index (rules_in rows)) first ∙ free_some rows 0 k is)

-- a dead end, where an option that was given waits for its value
waiting_dead : (name : Text) (rows : List OptionRow) → Told rows → (p : ℕ) (crows : List Row) (k : Known) (m : Met rows k)
    → ((arg_by_index (rules_in rows) p ≡ None) ⊎ ((n : Text) × (arg_by_index (rules_in rows) p ≡ Some (free_built 1 n))))
    → IsSingle m.rule k.row.name → has_row k.row.name crows ≡ true → (words : List Text) → list_any is_refused words ≡ false
    → is_none (whole name (rules_in rows) (stands (option k.row.name) p (held crows (Some (k.row.name, [])))) words) ≡ false
unfolding whole
waiting_dead name rows told p crows k m at s given [] sound = dead_empty rows crows k m s
waiting_dead name rows told p crows k m at s given (w ∷ words) sound =
    go (looks w (or_left (is_refused w) (list_any is_refused words) sound))
  where
    go : Looks w → is_none (whole name (rules_in rows) (stands (option k.row.name) p (held crows (Some (k.row.name, [])))) (w ∷ words)) ≡ false
    go (as_long x is ne long full) =
        blocked name (rules_in rows) (stands (option k.row.name) p (held crows (Some (k.row.name, [])))) w words
        (subst (λ (t : Text). is_none (turn name rows (option k.row.name) p (held crows (Some (k.row.name, []))) t) ≡ false) (sym is)
        (long_dead name rows told (option k.row.name) p crows (Some (k.row.name, [])) (45 ∷ 45 ∷ x) (before_first is_equals x) (attached_in x) ne long
        (dead_empty rows crows k m s)))
    go (as_letter is) =
        blocked name (rules_in rows) (stands (option k.row.name) p (held crows (Some (k.row.name, [])))) w words
        (subst (λ (t : Text). is_none (turn name rows (option k.row.name) p (held crows (Some (k.row.name, []))) t) ≡ false) (sym is)
        (letter_dead name rows told (option k.row.name) p crows (Some (k.row.name, [])) (dead_empty rows crows k m s)))
    go (as_plain ne long short first full) =
        let same : bytes_eq k.row.name m.rule.id ≡ true =
        (Rattle.std.proofs.lemmas.Slice.Eq.bytes_eq-Decides k.row.name m.rule.id).1 (sym s.id) in
        ap is_none (Rattle.command_words.proofs.WalkLemmas.whole_next name (rules_in rows) (stands (option k.row.name) p (held crows (Some (k.row.name, []))))
        (stands idle p (held crows (Some (k.row.name, w ∷ [])))) w words
        (turn_value name (rules_in rows) p (held crows (Some (k.row.name, []))) w k.row.name m.rule ne long short m.by_id)
        (walked_value (rules_in rows) p crows w k.row.name m.rule ne long short m.by_id same s.most))
        ∙ idle_dead name rows told p crows (Some (k.row.name, w ∷ [])) at (dead_pending rows crows k m w s given) words
        (or_right (is_refused w) (list_any is_refused words) sound)

-- ---- the steps between options

holds_used : (rows : List OptionRow) (crows : List Row) (vs : Values) → Rel rows vs crows → length vs ≡ 12 → Holds rows crows None vs
holds_used rows crows vs rel size = record { fault = refl; rel = rel; size = size }

-- a flag, however it is written
flag_step : (name : Text) (rows : List OptionRow) → Told rows → (w : Text) (words : List Text) → ClaimIdle name rows words
    → (p : ℕ) (crows : List Row) (pend : Option (Text × List Text)) (vs : Values) → Holds rows crows pend vs → Place rows p vs
    → (n : Text) (k : Known) (m : Met rows k) → is_flag k.row.takes ≡ true → is_free k.row.takes ≡ false
    → with_step rows vs w None ≡ with_known vs w None (Some k)
    → turn name rows idle p (held crows pend) w ≡ react_fault (rules_in rows) false m.rule [] (held crows pend)
    → next_walk rows idle p (held crows pend) w ≡ stands idle p (reacted (rules_in rows) m.rule [] (held crows pend))
    → Agrees name rows (stands idle p (held crows pend)) (w ∷ words) (walked rows (state vs None) (w ∷ words))
flag_step name rows told w words if_idle p crows pend vs holds place n k m flag free step turn_is next_is =
    go (is_some (value_at k.place vs)) refl
  where
    fault_is : turn name rows idle p (held crows pend) w ≡ use_fault false m.rule [] (settled (rules_in rows) (held crows pend)).rows
    fault_is = turn_is ∙ ap (λ (f : Kinds). or_else f (use_fault false m.rule [] (settled (rules_in rows) (held crows pend)).rows)) holds.fault

    go : (b : Bool) → is_some (value_at k.place vs) ≡ b
        → Agrees name rows (stands idle p (held crows pend)) (w ∷ words) (walked rows (state vs None) (w ∷ words))
    go true e =
        stop name rows idle p (held crows pend) w words vs None (twice k.row.name) (step ∙ rw (flag, e) refl)
        (ap is_none fault_is ∙ flag_twice m.rule k.row.name _ (m.of.flag flag)
        (fresh_row rows vs _ k.row.name k holds.rel m.known ∙ e))
    go false e =
        let s = m.of.flag flag in
        let crows2 = (settled (rules_in rows) (held crows pend)).rows in
        pass name rows idle p (held crows pend) w words vs None (with_value vs k flag_value)
        (stands idle p (held (used m.rule [] crows2) None))
        (step ∙ rw (flag, e) refl)
        (fault_is ∙ flag_once m.rule k.row.name _ s (fresh_row rows vs _ k.row.name k holds.rel m.known ∙ e))
        next_is
        (if_idle p (used m.rule [] crows2) None (set vs k.place (Some flag_value))
        (holds_used rows (used m.rule [] crows2) (set vs k.place (Some flag_value))
        (subst (Rel rows (set vs k.place (Some flag_value))) (sym (s.uses crows2))
        (Rattle.command_words.proofs.RelLemmas.rel_added rows vs crows2 k.row.name flag_value k holds.rel m.known
        (within rows told vs holds.size k.row.name k m.known) e))
        (length-set vs k.place (Some flag_value) ∙ holds.size))
        (place_set rows p vs k.row.name flag_value k m.known free place))

-- an option with its value in its own word
attached_step : (name : Text) (rows : List OptionRow) → Told rows → (w v : Text) (words : List Text) → ClaimIdle name rows words
    → (p : ℕ) (crows : List Row) (pend : Option (Text × List Text)) (vs : Values) → Holds rows crows pend vs → Place rows p vs
    → (n : Text) (k : Known) (m : Met rows k) → is_flag k.row.takes ≡ false → is_free k.row.takes ≡ false
    → is_empty_text v ≡ false → with_step rows vs w None ≡ with_known vs w (Some v) (Some k)
    → turn name rows idle p (held crows pend) w ≡ react_fault (rules_in rows) false m.rule (v ∷ []) (held crows pend)
    → next_walk rows idle p (held crows pend) w ≡ stands idle p (reacted (rules_in rows) m.rule (v ∷ []) (held crows pend))
    → Agrees name rows (stands idle p (held crows pend)) (w ∷ words) (walked rows (state vs None) (w ∷ words))
attached_step name rows told w v words if_idle p crows pend vs holds place n k m flag free full step turn_is next_is =
    go (is_some (value_at k.place vs)) refl
  where
    fault_is : turn name rows idle p (held crows pend) w ≡ use_fault false m.rule (v ∷ []) (settled (rules_in rows) (held crows pend)).rows
    fault_is = turn_is ∙ ap (λ (f : Kinds). or_else f (use_fault false m.rule (v ∷ []) (settled (rules_in rows) (held crows pend)).rows)) holds.fault

    go : (b : Bool) → is_some (value_at k.place vs) ≡ b
        → Agrees name rows (stands idle p (held crows pend)) (w ∷ words) (walked rows (state vs None) (w ∷ words))
    go true e =
        stop name rows idle p (held crows pend) w words vs None (twice k.row.name) (step ∙ rw (flag, e) refl)
        (ap is_none fault_is ∙ single_twice m.rule k.row.name v _ (m.of.single flag)
        (fresh_row rows vs _ k.row.name k holds.rel m.known ∙ e))
    go false e =
        let s = m.of.single flag in
        let crows2 = (settled (rules_in rows) (held crows pend)).rows in
        pass name rows idle p (held crows pend) w words vs None (with_value vs k v)
        (stands idle p (held (used m.rule (v ∷ []) crows2) None))
        (step ∙ rw (flag, e, full, told.loose (λ r. bytes_eq r.name k.row.name) k v m.known) refl)
        (fault_is ∙ single_once m.rule k.row.name v _ s (fresh_row rows vs _ k.row.name k holds.rel m.known ∙ e))
        next_is
        (if_idle p (used m.rule (v ∷ []) crows2) None (set vs k.place (Some v))
        (holds_used rows (used m.rule (v ∷ []) crows2) (set vs k.place (Some v))
        (subst (Rel rows (set vs k.place (Some v))) (sym (s.uses v crows2))
        (Rattle.command_words.proofs.RelLemmas.rel_added rows vs crows2 k.row.name v k holds.rel m.known
        (within rows told vs holds.size k.row.name k m.known) e))
        (length-set vs k.place (Some v) ∙ holds.size))
        (place_set rows p vs k.row.name v k m.known free place))

-- an option whose value is the next word
alone_step : (name : Text) (rows : List OptionRow) → Told rows → (w : Text) (words : List Text) → list_any is_refused words ≡ false
    → ClaimWaiting name rows words
    → (p : ℕ) (crows : List Row) (pend : Option (Text × List Text)) (vs : Values) → Holds rows crows pend vs → Place rows p vs
    → (k : Known) (m : Met rows k) → is_flag k.row.takes ≡ false → is_free k.row.takes ≡ false
    → with_step rows vs w None ≡ with_known vs w None (Some k)
    → turn name rows idle p (held crows pend) w ≡ settle_fault (rules_in rows) false (held crows pend)
    → next_walk rows idle p (held crows pend) w
    ≡ stands (option k.row.name) p (held (settled (rules_in rows) (held crows pend)).rows (Some (k.row.name, [])))
    → Agrees name rows (stands idle p (held crows pend)) (w ∷ words) (walked rows (state vs None) (w ∷ words))
alone_step name rows told w words sound if_waiting p crows pend vs holds place k m flag free step turn_is next_is =
    go (is_some (value_at k.place vs)) refl
  where
    go : (b : Bool) → is_some (value_at k.place vs) ≡ b
        → Agrees name rows (stands idle p (held crows pend)) (w ∷ words) (walked rows (state vs None) (w ∷ words))
    go true e =
        let crows2 = (settled (rules_in rows) (held crows pend)).rows in
        let ours : with_step rows vs w None ≡ Err (twice k.row.name) = step ∙ rw (flag, e) refl in
        subst (Agrees name rows (stands idle p (held crows pend)) (w ∷ words))
        (sym (ap (λ (r : Result State Reason). and_then r (λ next. walked rows next words)) ours))
        (follow name rows (stands idle p (held crows pend)) (stands (option k.row.name) p (held crows2 (Some (k.row.name, [])))) w words
        (Err (twice k.row.name)) (turn_is ∙ holds.fault) next_is
        (waiting_dead name rows told p crows2 k m (place_rule rows p vs place) (m.of.single flag)
        (fresh_row rows vs crows2 k.row.name k holds.rel m.known ∙ e) words sound))
    go false e =
        let crows2 = (settled (rules_in rows) (held crows pend)).rows in
        pass name rows idle p (held crows pend) w words vs None (state vs (Some k))
        (stands (option k.row.name) p (held crows2 (Some (k.row.name, []))))
        (step ∙ rw (flag, e) refl) (turn_is ∙ holds.fault) next_is
        (if_waiting p crows2 vs k m flag free holds.rel holds.size e place)

ours_long : (rows : List OptionRow) (vs : Values) (x : Text)
    → with_step rows vs (45 ∷ 45 ∷ x) None
    ≡ with_known vs (45 ∷ 45 ∷ x) (attached_in x) (option_known (45 ∷ 45 ∷ before_first is_equals x) rows)
ours_long rows vs x = ap (λ (n : Text). with_known vs (45 ∷ 45 ∷ x) (attached_in x) (option_known n rows)) (name_long x)

long_step : (name : Text) (rows : List OptionRow) → Told rows → (x : Text) (words : List Text) → list_any is_refused words ≡ false
    → bytes_eq (45 ∷ 45 ∷ x) (45 ∷ 45 ∷ []) ≡ false → (v : Option Text) → attached_in x ≡ v
    → long_of (45 ∷ 45 ∷ x) ≡ Some (before_first is_equals x, v) → is_empty_value v ≡ false
    → ClaimIdle name rows words → ClaimWaiting name rows words → ClaimIdle name rows ((45 ∷ 45 ∷ x) ∷ words)
long_step name rows told x words sound ne v attached long full if_idle if_waiting p crows pend vs holds place =
    go (option_known (45 ∷ 45 ∷ before_first is_equals x) rows) refl
  where
    known : (k : Known) → option_known (45 ∷ 45 ∷ before_first is_equals x) rows ≡ Some k → (b : Bool) → is_flag k.row.takes ≡ b
        → (v : Option Text) → long_of (45 ∷ 45 ∷ x) ≡ Some (before_first is_equals x, v) → is_empty_value v ≡ false
        → with_step rows vs (45 ∷ 45 ∷ x) None ≡ with_known vs (45 ∷ 45 ∷ x) v (Some k)
        → Agrees name rows (stands idle p (held crows pend)) ((45 ∷ 45 ∷ x) ∷ words) (walked rows (state vs None) ((45 ∷ 45 ∷ x) ∷ words))
    known k is true flag None long full step =
        let m = met_long rows told (before_first is_equals x) k is in
        let takes = (m.met.of.flag flag).takes in
        flag_step name rows told (45 ∷ 45 ∷ x) words if_idle p crows pend vs holds place (before_first is_equals x) k m.met flag
        (unfree rows told (45 ∷ before_first is_equals x) k is) step
        (turn_flag name (rules_in rows) idle p (held crows pend) (45 ∷ 45 ∷ x) (before_first is_equals x) m.met.rule ne long m.long takes)
        (walked_flag (rules_in rows) p (held crows pend) (45 ∷ 45 ∷ x) (before_first is_equals x) m.met.rule ne long m.long takes)
    known k is true flag (Some t) long full step =
        let m = met_long rows told (before_first is_equals x) k is in
        stop name rows idle p (held crows pend) (45 ∷ 45 ∷ x) words vs None (unknown_option (45 ∷ 45 ∷ x)) (step ∙ rw flag refl)
        (turn_flag_value name (rules_in rows) idle p (held crows pend) (45 ∷ 45 ∷ x) (before_first is_equals x) t m.met.rule ne long
        m.long (m.met.of.flag flag).takes)
    known k is false flag None long full step =
        let m = met_long rows told (before_first is_equals x) k is in
        let takes = (m.met.of.single flag).takes in
        alone_step name rows told (45 ∷ 45 ∷ x) words sound if_waiting p crows pend vs holds place k m.met flag
        (unfree rows told (45 ∷ before_first is_equals x) k is) step
        (turn_alone name (rules_in rows) idle p (held crows pend) (45 ∷ 45 ∷ x) (before_first is_equals x) m.met.rule ne long m.long takes)
        (walked_alone (rules_in rows) p (held crows pend) (45 ∷ 45 ∷ x) (before_first is_equals x) m.met.rule ne long m.long takes
        ∙ ap (λ (i : Text). stands (option i) p (held (settled (rules_in rows) (held crows pend)).rows (Some (i, [])))) m.met.of.id)
    known k is false flag (Some t) long full step =
        let m = met_long rows told (before_first is_equals x) k is in
        let takes = (m.met.of.single flag).takes in
        attached_step name rows told (45 ∷ 45 ∷ x) t words if_idle p crows pend vs holds place (before_first is_equals x) k m.met flag
        (unfree rows told (45 ∷ before_first is_equals x) k is) full step
        (turn_attached name (rules_in rows) idle p (held crows pend) (45 ∷ 45 ∷ x) (before_first is_equals x) t m.met.rule ne long m.long takes)
        (walked_attached (rules_in rows) p (held crows pend) (45 ∷ 45 ∷ x) (before_first is_equals x) t m.met.rule ne long m.long takes)

    step_is : (o : Option Known) → option_known (45 ∷ 45 ∷ before_first is_equals x) rows ≡ o
        → with_step rows vs (45 ∷ 45 ∷ x) None ≡ with_known vs (45 ∷ 45 ∷ x) v o
    step_is o is = ours_long rows vs x ∙ ap₂ (λ (u : Option Text) (q : Option Known). with_known vs (45 ∷ 45 ∷ x) u q) attached is

    go : (o : Option Known) → option_known (45 ∷ 45 ∷ before_first is_equals x) rows ≡ o
        → Agrees name rows (stands idle p (held crows pend)) ((45 ∷ 45 ∷ x) ∷ words) (walked rows (state vs None) ((45 ∷ 45 ∷ x) ∷ words))
    go None is =
        stop name rows idle p (held crows pend) (45 ∷ 45 ∷ x) words vs None (unknown_option (45 ∷ 45 ∷ x)) (step_is None is)
        (turn_unknown name (rules_in rows) idle p (held crows pend) (45 ∷ 45 ∷ x) (before_first is_equals x) v ne long
        (unmet_long rows told (before_first is_equals x) is))
    go (Some k) is = known k is (is_flag k.row.takes) refl v long full (step_is (Some k) is)

letter_step : (name : Text) (rows : List OptionRow) → Told rows → (words : List Text)
    → ClaimIdle name rows words → ClaimIdle name rows (letter ∷ words)
letter_step name rows told words if_idle p crows pend vs holds place =
    let k = (lettered rows told).0 in
    let l = (lettered rows told).1 in
    let takes = (l.met.of.flag l.flag).takes in
    flag_step name rows told letter words if_idle p crows pend vs holds place (codes "verbose") k l.met l.flag
    (unfree rows told (45 ∷ 118 ∷ 101 ∷ 114 ∷ 98 ∷ 111 ∷ 115 ∷ 101 ∷ []) k l.is)
    (ap (with_known vs letter None) l.is)
    (turn_letter name (rules_in rows) idle p crows pend l.met.rule l.short takes)
    (walked_letter (rules_in rows) p crows pend l.met.rule l.short takes)

-- a word without an option
free_step : (name : Text) (rows : List OptionRow) → Told rows → (w : Text) (words : List Text)
    → bytes_eq w (45 ∷ 45 ∷ []) ≡ false → long_of w ≡ None → short_of w ≡ None → begins_with_hyphen w ≡ false
    → is_empty_text w ≡ false → ClaimIdle name rows words → ClaimIdle name rows (w ∷ words)
free_step name rows told w words ne long short first full if_idle p crows pend vs holds place =
    go (free_known rows) refl place
  where
    step_is : (o : Option Known) → free_known rows ≡ o → with_step rows vs w None ≡ with_free vs w o
    step_is o is = rw first (ap (with_free vs w) is)

    found : (k : Known) → free_known rows ≡ Some k → Met rows k → p ≡ 1 → is_some (value_at k.place vs) ≡ false
        → Agrees name rows (stands idle p (held crows pend)) (w ∷ words) (walked rows (state vs None) (w ∷ words))
    found k is m one empty =
        let free : is_free k.row.takes ≡ true = passes_it 0 (λ r. is_free r.takes) rows k is in
        let s = m.of.single (free_no_flag k.row.takes free) in
        let at : arg_by_index (rules_in rows) p ≡ Some (free_built 1 k.row.name) =
        ap (arg_by_index (rules_in rows)) one ∙ free_some rows 0 k is in
        let crows2 = (settled (rules_in rows) (held crows pend)).rows in
        let second : arg_by_index (rules_in rows) (next_position (free_built 1 k.row.name) p) ≡ None =
        ap (λ (q : ℕ). arg_by_index (rules_in rows) (next_position (free_built 1 k.row.name) q)) one ∙ no_second rows told.few in
        pass name rows idle p (held crows pend) w words vs None (with_value vs k w)
        (stands idle (next_position (free_built 1 k.row.name) p) (held crows2 (Some (k.row.name, w ∷ []))))
        (step_is (Some k) is ∙ rw (full, empty, told.loose (λ r. is_free r.takes) k w is) refl)
        (turn_free name (rules_in rows) p 1 (held crows pend) w k.row.name ne long short at ∙ holds.fault)
        (walked_free (rules_in rows) p 1 (held crows pend) w k.row.name ne long short at)
        (if_idle (next_position (free_built 1 k.row.name) p) crows2 (Some (k.row.name, w ∷ [])) (set vs k.place (Some w))
        (holds_pending rows told crows2 vs k m w s holds.rel holds.size empty)
        (is_shut second (λ j at_j.
        let same : k.place ≡ j.place = cc in
        ap (λ (q : ℕ). is_some (value_at q (set vs k.place (Some w)))) (sym same)
        ∙ ap (λ (o : Option Text). is_some o) (get_or-set_same vs k.place (Some w) None
        (within rows told vs holds.size k.row.name k m.known)))))

    met_free : (k : Known) → free_known rows ≡ Some k → Met rows k
    met_free k is =
        let f = told.frees k is in
        let row : f.0.row ≡ k.row = same_row 0 (λ r. bytes_eq r.name k.row.name) (λ r. is_free r.takes) rows f.0 k (f.1) is (f.2) in
        let whole_is : f.0 ≡ k = ap₂ (λ (q : ℕ) (r : OptionRow). record { place = q; row = r }) (f.2) row in
        (met_by rows told k.row.name k (subst (λ (j : Known). option_known k.row.name rows ≡ Some j) whole_is (f.1))).0

    go : (o : Option Known) → free_known rows ≡ o → Place rows p vs
        → Agrees name rows (stands idle p (held crows pend)) (w ∷ words) (walked rows (state vs None) (w ∷ words))
    go None is (is_open one empty) =
        stop name rows idle p (held crows pend) w words vs None (left_over w) (step_is None is)
        (turn_stray name (rules_in rows) p (held crows pend) w ne long short
        (ap (arg_by_index (rules_in rows)) one ∙ free_none rows 1 1 0 is))
    go None is (is_shut none given) =
        stop name rows idle p (held crows pend) w words vs None (left_over w) (step_is None is)
        (turn_stray name (rules_in rows) p (held crows pend) w ne long short none)
    go (Some k) is (is_shut none given) =
        stop name rows idle p (held crows pend) w words vs None (left_over w) (step_is (Some k) is ∙ rw (full, given k is) refl)
        (turn_stray name (rules_in rows) p (held crows pend) w ne long short none)
    go (Some k) is (is_open one empty) = found k is (met_free k is) one (empty k is)

-- ---- all words

idle_end : (name : Text) (rows : List OptionRow) → ClaimIdle name rows []
unfolding whole final
idle_end name rows p crows pend vs holds place = (holds.fault, holds.rel)

waiting_end : (name : Text) (rows : List OptionRow) → ClaimWaiting name rows []
unfolding whole
waiting_end name rows p crows vs k m flag free rel size empty place = dead_empty rows crows k m (m.of.single flag)

waiting_step : (name : Text) (rows : List OptionRow) → Told rows → (w : Text) (words : List Text) → Looks w
    → ClaimIdle name rows words → ClaimWaiting name rows (w ∷ words)
waiting_step name rows told w words (as_long x is ne long full) if_idle p crows vs k m flag free rel size empty place =
    stop name rows (option k.row.name) p (held crows (Some (k.row.name, []))) w words vs (Some k) (no_value k.row.name)
    (subst (λ (t : Text). with_word vs k t ≡ Err (no_value k.row.name)) (sym is) refl)
    (subst (λ (t : Text). is_none (turn name rows (option k.row.name) p (held crows (Some (k.row.name, []))) t) ≡ false) (sym is)
    (long_dead name rows told (option k.row.name) p crows (Some (k.row.name, [])) (45 ∷ 45 ∷ x) (before_first is_equals x) (attached_in x) ne long
    (dead_empty rows crows k m (m.of.single flag))))
waiting_step name rows told w words (as_letter is) if_idle p crows vs k m flag free rel size empty place =
    stop name rows (option k.row.name) p (held crows (Some (k.row.name, []))) w words vs (Some k) (no_value k.row.name)
    (subst (λ (t : Text). with_word vs k t ≡ Err (no_value k.row.name)) (sym is) refl)
    (subst (λ (t : Text). is_none (turn name rows (option k.row.name) p (held crows (Some (k.row.name, []))) t) ≡ false) (sym is)
    (letter_dead name rows told (option k.row.name) p crows (Some (k.row.name, [])) (dead_empty rows crows k m (m.of.single flag))))
waiting_step name rows told w words (as_plain ne long short first full) if_idle p crows vs k m flag free rel size empty place =
    let s = m.of.single flag in
    let same : bytes_eq k.row.name m.rule.id ≡ true =
    (Rattle.std.proofs.lemmas.Slice.Eq.bytes_eq-Decides k.row.name m.rule.id).1 (sym s.id) in
    pass name rows (option k.row.name) p (held crows (Some (k.row.name, []))) w words vs (Some k) (with_value vs k w)
    (stands idle p (held crows (Some (k.row.name, w ∷ []))))
    (rw (full, first, told.loose (λ r. bytes_eq r.name k.row.name) k w m.known) refl)
    (turn_value name (rules_in rows) p (held crows (Some (k.row.name, []))) w k.row.name m.rule ne long short m.by_id)
    (walked_value (rules_in rows) p crows w k.row.name m.rule ne long short m.by_id same s.most)
    (if_idle p crows (Some (k.row.name, w ∷ [])) (set vs k.place (Some w)) (holds_pending rows told crows vs k m w s rel size empty)
    (place_set rows p vs k.row.name w k m.known free place))

idle_step : (name : Text) (rows : List OptionRow) → Told rows → (w : Text) (words : List Text) → list_any is_refused words ≡ false
    → Looks w → ClaimIdle name rows words → ClaimWaiting name rows words → ClaimIdle name rows (w ∷ words)
idle_step name rows told w words sound (as_long x is ne long full) if_idle if_waiting =
    subst (λ (t : Text). ClaimIdle name rows (t ∷ words)) (sym is)
    (long_step name rows told x words sound ne (attached_in x) refl long full if_idle if_waiting)
idle_step name rows told w words sound (as_letter is) if_idle if_waiting =
    subst (λ (t : Text). ClaimIdle name rows (t ∷ words)) (sym is) (letter_step name rows told words if_idle)
idle_step name rows told w words sound (as_plain ne long short first full) if_idle if_waiting =
    free_step name rows told w words ne long short first full if_idle

pub claims : (name : Text) (rows : List OptionRow) → Told rows → (words : List Text) → list_any is_refused words ≡ false
    → ClaimIdle name rows words × ClaimWaiting name rows words
claims name rows told [] sound = (idle_end name rows, waiting_end name rows)
claims name rows told (w ∷ words) sound =
    let look = looks w (or_left (is_refused w) (list_any is_refused words) sound) in
    let sound_rest = or_right (is_refused w) (list_any is_refused words) sound in
    let rest = claims name rows told words sound_rest in
    (idle_step name rows told w words sound_rest look rest.0 rest.1, waiting_step name rows told w words look rest.0)
