-- What is read up to the first line that orders the disk is the script.
use Rattle.std.proofs.Common.{◌≡◌, ℕ, ◌+◌, ◌≤◌, Bool, true, false, cond, ltb, List, [], ◌∷◌, length, Option, Some, None, Result, Ok, Err, refl, sym, ap, ◌∙◌, arith}
use Rattle.std.specs.Prelude.{option_to_list}
use Rattle.std.specs.Str.Lines.{lines}
use Rattle.std.proofs.lemmas.Bool.{lt-ltb, le-ltb}
use Rattle.boot_script.specs.declared.boot_script.event.Event.{Event}
use Rattle.boot_script.specs.declared.boot_script.stop.ScriptFaultKind.{ScriptFaultKind}
use Rattle.boot_script.specs.declared.boot_script.stop.ScriptFaultKind.TheVariants.{Word, TooManyStarts}
use Rattle.boot_script.specs.declared.boot_script.stop.ScriptFault.{ScriptFault}
use Rattle.boot_script.specs.boot_script.Script.{line_event, starts, at_line, put_before, after_line, events_from, script_of}
use Rattle.boot_script.specs.quiet_script.Quiet.{is_order, quiet_events, quiet_script_of, first_order, up_to}

-- the fault is of line n or of one after it
abbrev FaultsFrom : ℕ → Result (List Event) ScriptFault → Type 0
FaultsFrom n (Ok events) = Unit {0}
FaultsFrom n (Err f) = n ≤ f.line

later : (n : ℕ) (r : Result (List Event) ScriptFault) → FaultsFrom (n + 1) r → FaultsFrom n r
later n (Ok events) from = tt
later n (Err f) from = omega (arith, from)

put_later : (n : ℕ) (front : List Event) (r : Result (List Event) ScriptFault) → FaultsFrom n r
    → FaultsFrom n (put_before front r)
put_later n front (Ok events) from = tt
put_later n front (Err f) from = from

after_from : (n boots : ℕ) (r : Result (Option Event) ScriptFaultKind) (next : ℕ → Result (List Event) ScriptFault)
    → ((k : ℕ) → FaultsFrom n (next k)) → FaultsFrom n (after_line n boots r next)
after_from n boots (Err kind) next from = omega arith
after_from n boots (Ok event) next from = by_test (ltb 64 (boots + starts event))
  where
    by_test : (b : Bool)
        → FaultsFrom n (cond b (at_line n TooManyStarts) (put_before (option_to_list event) (next (boots + starts event))))
    by_test true = omega arith
    by_test false = put_later n (option_to_list event) (next (boots + starts event)) (from (boots + starts event))

faults_from : (n boots : ℕ) (ls : List (List ℕ)) → FaultsFrom n (events_from n boots ls)
unfolding events_from
faults_from n boots [] = tt
faults_from n boots (line ∷ ls) =
    after_from n boots (line_event line) (λ boots. events_from (n + 1) boots ls)
    (λ k. later n (events_from (n + 1) k ls) (faults_from (n + 1) k ls))

-- no line before n orders the disk
abbrev OrdersFrom : ℕ → Option ℕ → Type 0
OrdersFrom n None = Unit {0}
OrdersFrom n (Some m) = n ≤ m

later_order : (n : ℕ) (m : Option ℕ) → OrdersFrom (n + 1) m → OrdersFrom n m
later_order n None from = tt
later_order n (Some m) from = omega (arith, from)

first_from : (n : ℕ) (b : Bool) (later : Option ℕ) → OrdersFrom (n + 1) later → OrdersFrom n (cond b (Some n) later)
first_from n true later from = omega arith
first_from n false later from = later_order n later from

orders_from : (n : ℕ) (ls : List (List ℕ)) → OrdersFrom n (first_order n ls)
unfolding first_order
orders_from n [] = tt
orders_from n (line ∷ ls) = first_from n (is_order line) (first_order (n + 1) ls) (orders_from (n + 1) ls)

-- ---- a line that orders the disk is the fault

here : (n : ℕ) (r : Result (List Event) ScriptFault) → FaultsFrom n r → up_to (Some n) r ≡ at_line n Word
here n (Ok events) from = refl
here n (Err f) from = rw (le-ltb f.line n from) refl

-- ---- one that doesn't

put_up_to : (m : Option ℕ) (front : List Event) (r : Result (List Event) ScriptFault)
    → up_to m (put_before front r) ≡ put_before front (up_to m r)
put_up_to None front r = refl
put_up_to (Some m) front (Ok events) = refl
put_up_to (Some m) front (Err f) = by_test (ltb f.line m)
  where
    by_test : (b : Bool) → cond b (Err f) (at_line m Word) ≡ put_before front (cond b (Err f) (at_line m Word))
    by_test true = refl
    by_test false = refl

before : (n : ℕ) (kind : ScriptFaultKind) (m : Option ℕ) → OrdersFrom (n + 1) m
    → up_to m (at_line n kind) ≡ at_line n kind
before n kind None from = refl
before n kind (Some m) from = rw (lt-ltb n m (omega (arith, from))) refl

onward : (n boots : ℕ) (r : Result (Option Event) ScriptFaultKind) (m : Option ℕ)
    (next quiet : ℕ → Result (List Event) ScriptFault) → OrdersFrom (n + 1) m
    → ((k : ℕ) → up_to m (next k) ≡ quiet k) → up_to m (after_line n boots r next) ≡ after_line n boots r quiet
onward n boots (Err kind) m next quiet from all = before n kind m from
onward n boots (Ok event) m next quiet from all = by_test (ltb 64 (boots + starts event))
  where
    k : ℕ
    k = boots + starts event

    by_test : (b : Bool)
        → up_to m (cond b (at_line n TooManyStarts) (put_before (option_to_list event) (next k)))
        ≡ cond b (at_line n TooManyStarts) (put_before (option_to_list event) (quiet k))
    by_test true = before n TooManyStarts m from
    by_test false =
        put_up_to m (option_to_list event) (next k) ∙ ap (put_before (option_to_list event)) (all k)

-- ---- all lines

one_line : (n boots : ℕ) (b : Bool) (r : Result (Option Event) ScriptFaultKind) (m : Option ℕ)
    (next quiet : ℕ → Result (List Event) ScriptFault) → OrdersFrom (n + 1) m → FaultsFrom n (after_line n boots r next)
    → ((k : ℕ) → up_to m (next k) ≡ quiet k)
    → up_to (cond b (Some n) m) (after_line n boots r next) ≡ after_line n boots (cond b (Err Word) r) quiet
one_line n boots true r m next quiet from faults all = here n (after_line n boots r next) faults
one_line n boots false r m next quiet from faults all = onward n boots r m next quiet from all

after_faults : (n boots : ℕ) (line : List ℕ) (ls : List (List ℕ))
    → FaultsFrom n (after_line n boots (line_event line) (λ boots. events_from (n + 1) boots ls))
after_faults n boots line ls =
    after_from n boots (line_event line) (λ boots. events_from (n + 1) boots ls)
    (λ k. later n (events_from (n + 1) k ls) (faults_from (n + 1) k ls))

pub lines_quiet : (n boots : ℕ) (ls : List (List ℕ))
    → up_to (first_order n ls) (events_from n boots ls) ≡ quiet_events n boots ls
unfolding events_from quiet_events first_order
lines_quiet n boots [] = refl
lines_quiet n boots (line ∷ ls) =
    one_line n boots (is_order line) (line_event line) (first_order (n + 1) ls) (λ boots. events_from (n + 1) boots ls)
    (λ boots. quiet_events (n + 1) boots ls) (orders_from (n + 1) ls) (after_faults n boots line ls)
    (λ k. lines_quiet (n + 1) k ls)

-- a text that is not too long
pub script_quiet : (text : List ℕ) → length text ≤ 65536
    → up_to (first_order 1 (lines text)) (script_of text) ≡ quiet_script_of text
unfolding script_of quiet_script_of
script_quiet text short = rw (le-ltb 65536 (length text) short) (lines_quiet 1 0 (lines text))

-- ---- the loop over the lines

pub found_here : (n : ℕ) (text line rest : List ℕ) (total : Option ℕ) → lines text ≡ line ∷ lines rest
    → is_order line ≡ true → first_order n (lines text) ≡ total → Some n ≡ total
unfolding first_order
found_here n text line rest total first is so_far =
    let one : first_order n (lines text) ≡ Some n = rw (first, is) refl in
    sym one ∙ so_far

pub found_after : (n : ℕ) (text line rest : List ℕ) (total : Option ℕ) → lines text ≡ line ∷ lines rest
    → is_order line ≡ false → first_order n (lines text) ≡ total → first_order (n + 1) (lines rest) ≡ total
unfolding first_order
found_after n text line rest total first is so_far =
    let one : first_order n (lines text) ≡ first_order (n + 1) (lines rest) = rw (first, is) refl in
    sym one ∙ so_far

pub none_left : (n : ℕ) (text : List ℕ) (total : Option ℕ) → length text ≡ 0
    → first_order n (lines text) ≡ total → None ≡ total
unfolding first_order
none_left n [] total none so_far = so_far
none_left n (c ∷ text) total none so_far = absurd (omega arith)
