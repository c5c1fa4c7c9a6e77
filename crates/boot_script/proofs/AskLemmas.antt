-- A text is read as a script exactly where it spells it.
use Rattle.std.proofs.Common.{◌≡◌, ◌⊎◌, inl, inr, ℕ, suc, ◌+◌, ◌<◌, ◌≤◌, Bool, true, false, cond, eqb, ltb, List, [], ◌∷◌, ◌++◌, length, take, drop, Option, Some, None, Result, Ok, Err, refl, sym, ap, subst, ◌∙◌, arith}
use Rattle.std.specs.Prelude.{option_to_list}
use Rattle.std.specs.Prelude.{IfOk}
use Rattle.std.specs.List.{All, prefix_len, slice_split, onto_first}
use Rattle.std.specs.Str.Lines.{lines, lines_of_parts}
use Rattle.std.proofs.lemmas.Bool.{false≢true, eqb-true, ne_eqb, le-ltb, ltb-false}
use Rattle.std.proofs.lemmas.List.{take-append-drop, length-append}
use Rattle.std.proofs.lemmas.List.Elements.{All-nil, All-cons}
use Rattle.std.proofs.lemmas.List.Splits.{length-slice_split}
use Rattle.nt_bytes.specs.Reading.{◌>>=◌}
use Rattle.boot_script.specs.declared.boot_script.event.Event.{Event}
use Rattle.boot_script.specs.declared.boot_script.event.Event.TheVariants.{Boot, Go, Fail, Vital, Set, Delete, Make, Remove, Flush, Logon, Off, CutNow, ArmCut, ArmFault}
use Rattle.boot_script.specs.declared.boot_script.stop.ScriptFaultKind.{ScriptFaultKind}
use Rattle.boot_script.specs.declared.boot_script.stop.ScriptFaultKind.TheVariants.{TooLong, TooManyStarts}
use Rattle.boot_script.specs.declared.boot_script.stop.ScriptFault.{ScriptFault}
use Rattle.boot_script.specs.declared.boot_script.stop.ScriptStop.{ScriptStop}
use Rattle.boot_script.specs.boot_script.Words.{words_of, word_at, without_spaces, is_space}
use Rattle.boot_script.specs.boot_script.Commands.{command_of, event_of}
use Rattle.boot_script.specs.boot_script.Script.{trimmed_event, line_event, starts, starts_in, at_line, put_before, after_line, events_from, script_of, HasCounts, IsBounded, GivesScript}
use Rattle.boot_script.specs.boot_script.Events.{IsSpelledBy}
use Rattle.boot_script.specs.boot_script.Spelling.{IsBare, IsQuoted, Opens, IsLineOf, IsSilent, AsksFor, AskFor, IsScript}
use Rattle.boot_script.proofs.WordLemmas.{next_word}
use Rattle.boot_script.proofs.SpellingLemmas.{front_passes, all_pass, all_dropped, empty, comment_stops, word_starts, spaces_dropped, found, reads}
use Rattle.boot_script.proofs.EventLemmas.{bind_ok, command_found, event_read}

abbrev is_lf : ℕ → Bool
is_lf c = eqb c 10

-- ---- a line without the spaces before it

split_spaces : (line text : List ℕ) → without_spaces line ≡ text → line ≡ take (prefix_len is_space line) line ++ text
split_spaces line text e =
    let k : ℕ = prefix_len is_space line in
    sym (take-append-drop k line) ∙ ap (λ (t : List ℕ). take k line ++ t) e

no_front : (p : ℕ → Bool) (xs : List ℕ) → prefix_len p (drop (prefix_len p xs) xs) ≡ 0
no_front p [] = refl
no_front p (x ∷ xs) = by_test (p x) refl (no_front p xs)
  where
    one : 1 + prefix_len p xs ≡ suc (prefix_len p xs)
    one = omega arith

    by_test : (b : Bool) → p x ≡ b → prefix_len p (drop (prefix_len p xs) xs) ≡ 0
        → prefix_len p (drop (cond b (1 + prefix_len p xs) 0) (x ∷ xs)) ≡ 0
    by_test true is rest = rw one rest
    by_test false is rest = rw is refl

spaces_once : (line : List ℕ) → without_spaces (without_spaces line) ≡ without_spaces line
spaces_once line = ap (λ (k : ℕ). drop k (without_spaces line)) (no_front is_space line)

-- the words of a line are those after the spaces before it
same_words : (line : List ℕ) → 0 < length (without_spaces line) → words_of (without_spaces line) ≡ words_of line
same_words line some =
    next_word (without_spaces line) (rw (spaces_once line) some)
    ∙ ap (λ (t : List ℕ). word_at t >>= λ first. words_of first.1 >>= λ others. Ok (first.0 ∷ others))
    (spaces_once line)
    ∙ sym (next_word line some)

-- ---- what a line was found to ask for

event_found : (words : List (List ℕ)) (event : Option Event) (line : List ℕ) → event_of words ≡ Ok event
    → IsLineOf words line
    → AsksFor event line
unfolding event_of
event_found [] None line e is = inl is
event_found [] (Some event) line e is = absurd cc
event_found (name ∷ words) None line e is = let c = bind_ok (command_of name words) (λ e. Ok (Some e)) None e in
    absurd cc
event_found (name ∷ words) (Some event) line e is =
    let c = bind_ok (command_of name words) (λ e. Ok (Some e)) (Some event) e in
    let same : c.0 ≡ event = cc in
    (name ∷ words, is, subst (λ (x : Event). IsSpelledBy x (name ∷ words)) same (command_found name words c.0 c.1))

silent_is : (event : Option Event) (line : List ℕ) → event ≡ None → IsSilent line → AsksFor event line
silent_is None line e is = is
silent_is (Some event) line e is = absurd cc

comment_found : (c : ℕ) (text line : List ℕ) → without_spaces line ≡ c ∷ text → eqb c 35 ≡ true → IsSilent line
comment_found c text line e is =
    let k : ℕ = prefix_len is_space line in
    inr (
      take k line,
      text,
      front_passes is_space line,
      split_spaces line (c ∷ text) e
          ∙ ap (λ (n : ℕ). take k line ++ n ∷ text) (eqb-true c 35 is),
    )

trimmed_found : (text line : List ℕ) (event : Option Event) → without_spaces line ≡ text → trimmed_event text ≡ Ok event
    → AsksFor event line
unfolding trimmed_event
trimmed_found [] line event e f = let none : event ≡ None = cc in
    silent_is event line none (inl (all_pass is_space line (ap length e)))
trimmed_found (c ∷ text) line event e f = by_test (eqb c 35) refl f
  where
    by_test : (b : Bool) → eqb c 35 ≡ b → cond b (Ok None) (words_of (c ∷ text) >>= event_of) ≡ Ok event
        → AsksFor event line
    by_test true is g = let none : event ≡ None = cc in silent_is event line none (comment_found c text line e is)
    by_test false is g =
        let w = bind_ok (words_of (c ∷ text)) event_of event g in
        let some : 0 < length (without_spaces line) = omega (arith, ap length e) in
        let here : words_of line ≡ Ok w.0 = sym (same_words line some) ∙ ap words_of e ∙ w.1 in
        event_found w.0 event line w.2 (found w.0 line here)

line_found : (line : List ℕ) (event : Option Event) → line_event line ≡ Ok event → AsksFor event line
line_found line event e = trimmed_found (without_spaces line) line event refl e

-- ---- what a line spells is read

-- no word of a command begins with `#`
is_comment : List (List ℕ) → Bool
is_comment [] = true
is_comment ([] ∷ words) = true
is_comment ((c ∷ name) ∷ words) = eqb c 35

spells_command : (event : Event) (words : List (List ℕ)) → IsSpelledBy event words → is_comment words ≡ false
unfolding is_comment
spells_command (Boot None good) words h = rw h.2 refl
spells_command (Boot (Some n) good) words h = rw h.2 refl
spells_command (Go None) words h = rw h.2 refl
spells_command (Go (Some n)) words h = rw h.2 refl
spells_command (Fail name count) words h = rw h.2 refl
spells_command (Vital name) words h = rw h refl
spells_command (Set path name kind bytes) words h = rw h.4 refl
spells_command (Delete path name) words h = rw h.2 refl
spells_command (Make path) words h = rw h.2 refl
spells_command (Remove path) words h = rw h.2 refl
spells_command Flush words h = rw h refl
spells_command Logon words h = rw h refl
spells_command Off words h = rw h refl
spells_command (CutNow keep) words h = rw h refl
spells_command (ArmCut call n keep) words h = rw h.2 refl
spells_command (ArmFault call n) words h = rw h.2 refl

-- a line that begins with a word, but with no `#`, is read by its words
read_by_words : (word shown rest : List ℕ) (words : List (List ℕ)) → IsBare word shown ⊎ IsQuoted word shown
    → is_comment (word ∷ words) ≡ false → trimmed_event (shown ++ rest) ≡ (words_of (shown ++ rest) >>= event_of)
unfolding trimmed_event is_comment
read_by_words [] shown rest words (inl bare) named = absurd (false≢true (sym named))
read_by_words (c ∷ word) shown rest words (inl bare) named =
    let P : List ℕ → Type 0 = λ s. trimmed_event (s ++ rest) ≡ (words_of (s ++ rest) >>= event_of) in
    let here : P (c ∷ word) = rw named refl in
    subst P (sym bare.0) here
read_by_words word shown rest words (inr quoted) named =
    let P : List ℕ → Type 0 = λ s. trimmed_event (s ++ rest) ≡ (words_of (s ++ rest) >>= event_of) in
    let here : P (34 ∷ word ++ 34 ∷ []) = refl in
    subst P (sym quoted.0) here

no_event : (event : Event) → IsSpelledBy event [] → ⊥
unfolding is_comment
no_event event spelled = false≢true (sym (spells_command event [] spelled))

shown_some : (word shown : List ℕ) → IsBare word shown ⊎ IsQuoted word shown → 0 < length shown
shown_some word shown (inl bare) = let some : 0 < length word = bare.1 in omega (arith, ap length bare.0)
shown_some word shown (inr quoted) = omega (arith, ap length quoted.0)

words_read : (words : List (List ℕ)) (line : List ℕ) (event : Event) → IsLineOf words line → IsSpelledBy event words
    → line_event line ≡ Ok (Some event)
words_read [] line event is spelled = absurd (no_event event spelled)
words_read (word ∷ words) line event is spelled =
    let rest : List ℕ = is.0 in
    let o : Opens word line rest = is.1 in
    let text : List ℕ = o.shown ++ rest in
    let behind : without_spaces line ≡ text =
    ap without_spaces o.spelled ∙ spaces_dropped o.gap text o.spaces (word_starts word o.shown rest o.is_shown) in
    let shown : 0 < length o.shown = shown_some word o.shown o.is_shown in
    let some : 0 < length (without_spaces line) = rw behind (omega (arith, length-append o.shown rest)) in
    let here : words_of text ≡ Ok (word ∷ words) =
    ap words_of (sym behind) ∙ same_words line some ∙ reads (word ∷ words) line is in
    let by_words = read_by_words word o.shown rest words o.is_shown (spells_command event (word ∷ words) spelled) in
    ap trimmed_event behind ∙ by_words ∙ ap (λ (r : Result (List (List ℕ)) ScriptFaultKind). r >>= event_of) here
    ∙ event_read event (word ∷ words) spelled

silent_read : (line : List ℕ) → IsSilent line → line_event line ≡ Ok None
unfolding trimmed_event
silent_read line (inl all) = rw (empty (without_spaces line) (all_dropped line all)) refl
silent_read line (inr h) =
    ap trimmed_event (ap without_spaces h.3 ∙ spaces_dropped h.0 (35 ∷ h.1) h.2 (comment_stops h.1))

line_read : (event : Option Event) (line : List ℕ) → AsksFor event line → line_event line ≡ Ok event
line_read None line is = silent_read line is
line_read (Some event) line is = words_read is.0 line event is.1 is.2

-- ---- the whole text

starts-append : (event : Option Event) (events : List Event)
    → starts_in (option_to_list event ++ events) ≡ starts event + starts_in events
starts-append None events = omega arith
starts-append (Some event) events = refl

record AfterLine (events : List Event) (boots : ℕ) (event : Option Event)
    (rest : Result (List Event) ScriptFault) : Type 0 where
  others : List Event
  few : boots + starts event ≤ 64
  read : rest ≡ Ok others
  whole : events ≡ option_to_list event ++ others

put_found : (front events : List Event) (r : Result (List Event) ScriptFault) → put_before front r ≡ Ok events
    → (others : List Event) × (r ≡ Ok others) × (events ≡ front ++ others)
put_found front events (Ok others) e = (others, refl, cc)
put_found front events (Err f) e = absurd cc

after_found : (n boots : ℕ) (r : Result (Option Event) ScriptFaultKind) (next : ℕ → Result (List Event) ScriptFault)
    (events : List Event) → after_line n boots r next ≡ Ok events
    → (event : Option Event) × (r ≡ Ok event) × AfterLine events boots event (next (boots + starts event))
after_found n boots (Ok event) next events e = (event, refl, by_test (ltb 64 (boots + starts event)) refl e)
  where
    by_test : (b : Bool) → ltb 64 (boots + starts event) ≡ b
        → cond b (at_line n TooManyStarts) (put_before (option_to_list event) (next (boots + starts event))) ≡ Ok events
        → AfterLine events boots event (next (boots + starts event))
    by_test true is f = absurd cc
    by_test false is f =
        let p = put_found (option_to_list event) events (next (boots + starts event)) f in
        record { others = p.0; few = ltb-false 64 _ is; read = p.1; whole = p.2 }
after_found n boots (Err k) next events e = absurd cc

record Found (boots : ℕ) (events : List Event) (ls : List (List ℕ)) : Type 0 where
  few : boots + starts_in events ≤ 64
  asked : AskFor events ls

events_found : (n boots : ℕ) (ls : List (List ℕ)) (events : List Event) → boots ≤ 64
    → events_from n boots ls ≡ Ok events
    → Found boots events ls
unfolding events_from
events_found n boots [] events le e =
    let none : events ≡ [] = cc in
    subst (λ (es : List Event). Found boots es []) (sym none) (record { few = omega arith; asked = refl })
events_found n boots (line ∷ ls) events le e =
    let a = after_found n boots (line_event line) (λ boots. events_from (n + 1) boots ls) events e in
    let more : AfterLine events boots a.0 (events_from (n + 1) (boots + starts a.0) ls) = a.2 in
    let rest : Found (boots + starts a.0) more.others ls =
    events_found (n + 1) (boots + starts a.0) ls more.others more.few more.read in
    let sum : starts_in events ≡ starts a.0 + starts_in more.others =
    ap starts_in more.whole ∙ starts-append a.0 more.others in
    let few : boots + starts a.0 + starts_in more.others ≤ 64 = rest.few in
    record { few = omega arith; asked = (a.0, more.others, line_found line a.0 a.1, more.whole, rest.asked) }

events_read : (n boots : ℕ) (ls : List (List ℕ)) (events : List Event) → boots + starts_in events ≤ 64
    → AskFor events ls
    → events_from n boots ls ≡ Ok events
unfolding events_from
events_read n boots [] events few none = ap (λ (es : List Event). Ok es) (sym none)
events_read n boots (line ∷ ls) events few h =
    let event : Option Event = h.0 in
    let others : List Event = h.1 in
    let sum : starts_in events ≡ starts event + starts_in others = ap starts_in h.3 ∙ starts-append event others in
    let here : ltb 64 (boots + starts event) ≡ false = le-ltb 64 (boots + starts event) (omega arith) in
    let rest : events_from (n + 1) (boots + starts event) ls ≡ Ok others =
    events_read (n + 1) (boots + starts event) ls others (omega arith) h.4 in
    rw (line_read event line h.2, here, rest) (ap (λ (es : List Event). Ok es) (sym h.3))

pub script_found : (text : List ℕ) (events : List Event) → script_of text ≡ Ok events → IsScript text events
unfolding script_of
script_found text events e = by_test (ltb 65536 (length text)) refl e
  where
    by_test : (b : Bool) → ltb 65536 (length text) ≡ b
        → cond b (at_line 0 TooLong) (events_from 1 0 (lines text)) ≡ Ok events
        → IsScript text events
    by_test true is f = absurd cc
    by_test false is f =
        let all : Found 0 events (lines text) = events_found 1 0 (lines text) events (omega arith) f in
        let few : 0 + starts_in events ≤ 64 = all.few in
        record { short = ltb-false 65536 (length text) is; few = omega arith; asked = all.asked }

pub script_read : (text : List ℕ) (events : List Event) → IsScript text events → script_of text ≡ Ok events
unfolding script_of
script_read text events is =
    let few : starts_in events ≤ 64 = is.few in
    rw (le-ltb 65536 (length text) is.short) (events_read 1 0 (lines text) events (omega arith) is.asked)

-- ---- bounds

counted : (event : Event) (words : List (List ℕ)) → IsSpelledBy event words → HasCounts event
counted (Boot None good) words h = tt
counted (Boot (Some n) good) words h = let number = h.1 in (number.2.least, number.2.most)
counted (Go None) words h = tt
counted (Go (Some n)) words h = let number = h.1 in (number.2.least, number.2.most)
counted (Fail name count) words h = h.1.most
counted (Vital name) words h = tt
counted (Set path name kind bytes) words h = tt
counted (Delete path name) words h = tt
counted (Make path) words h = tt
counted (Remove path) words h = tt
counted Flush words h = tt
counted Logon words h = tt
counted Off words h = tt
counted (CutNow keep) words h = tt
counted (ArmCut call n keep) words h = (h.1.least, h.1.most)
counted (ArmFault call n) words h = (h.1.least, h.1.most)

record Few (events : List Event) (ls : List (List ℕ)) : Type 0 where
  counts : All HasCounts events
  few : length events ≤ length ls

one_more : (event : Option Event) (line : List ℕ) (others : List Event) (ls : List (List ℕ)) → AsksFor event line
    → Few others ls
    → Few (option_to_list event ++ others) (line ∷ ls)
one_more None line others ls asks rest = let few : length others ≤ length ls = rest.few in
    record { counts = rest.counts; few = omega arith }
one_more (Some event) line others ls asks rest =
    let few : length others ≤ length ls = rest.few in
    record { counts = All-cons HasCounts event others (counted event asks.0 asks.2) rest.counts; few = omega arith }

few_events : (events : List Event) (ls : List (List ℕ)) → AskFor events ls → Few events ls
few_events events [] none =
    subst (λ (es : List Event). Few es []) (sym none) (record { counts = All-nil HasCounts; few = omega arith })
few_events events (line ∷ ls) h =
    subst (λ (es : List Event). Few es (line ∷ ls)) (sym h.3) (one_more h.0 line h.1 ls h.2 (few_events h.1 ls h.4))

-- one more byte makes at most one more line
line_more : (c n : ℕ) (parts : List (List ℕ)) (b : Bool) → 0 < length parts → length (lines_of_parts parts) ≤ n
    → length (lines_of_parts (cond b ([] ∷ parts) (onto_first c parts))) ≤ n + 1
line_more c n [] b some few = absurd (omega arith)
line_more c n (p ∷ parts) true some few = omega arith
line_more c n (p ∷ []) false some few = rw (ne_eqb (length (c ∷ p)) 0 (λ z. absurd (omega arith))) (omega arith)
line_more c n (p ∷ q ∷ parts) false some few = omega arith

few_lines : (text : List ℕ) → length (lines text) ≤ length text
few_lines [] = omega arith
few_lines (c ∷ text) =
    let some : 0 < length (slice_split is_lf text) = omega (arith, length-slice_split is_lf text) in
    let more : length (lines (c ∷ text)) ≤ length text + 1 =
    line_more c (length text) (slice_split is_lf text) (is_lf c) some (few_lines text) in
    omega arith

bounded : (text : List ℕ) (events : List Event) → IsScript text events → IsBounded events
bounded text events is =
    let all : Few events (lines text) = few_events events (lines text) is.asked in
    let few : length events ≤ length (lines text) = all.few in
    let short : length text ≤ 65536 = is.short in
    record { counts = all.counts; few_starts = is.few; few_events = omega (arith, few_lines text) }

-- a script that was read has the bounds
pub read_is_bounded : (r : Result (List Event) ScriptStop) (text : List ℕ) → length text ≤ 65536
    → GivesScript r (events_from 1 0 (lines text)) → IfOk r IsBounded
unfolding script_of
read_is_bounded (Ok events) text short e =
    bounded text events (script_found text events (rw (le-ltb 65536 (length text) short) e))
read_is_bounded (Err stop) text short e = tt
