-- Lines in sequence as the loop reads them, and what holds of all that was read.
use Rattle.std.proofs.Common.{◌≡◌, ℕ, ◌+◌, ◌<◌, ◌≤◌, Bool, true, false, cond, ltb, List, [], ◌∷◌, ◌++◌, length, Option, Some, None, Result, Ok, Err, refl, sym, ap, subst, ◌∙◌, arith}
use Rattle.std.specs.Prelude.{IfSome, IfOk, option_to_list}
use Rattle.std.specs.List.{All}
use Rattle.std.specs.Option.{IsSome}
use Rattle.std.specs.Str.Lines.{lines}
use Rattle.std.proofs.lemmas.Bool.{false≢true, ltb-false, le-ltb}
use Rattle.std.proofs.lemmas.List.Elements.{All-nil, All-cons, All-head, All-tail, All-push}
use Rattle.boot_script.specs.declared.boot_script.event.Event.{Event}
use Rattle.boot_script.specs.declared.boot_script.event.Event.TheVariants.{Boot, Go, Fail, Vital, Set, Delete, Make, Remove, Flush, Logon, Off, CutNow, ArmCut, ArmFault}
use Rattle.boot_script.specs.declared.boot_script.stop.ScriptFaultKind.{ScriptFaultKind}
use Rattle.boot_script.specs.declared.boot_script.stop.ScriptFaultKind.TheVariants.{TooLong}
use Rattle.boot_script.specs.declared.boot_script.stop.ScriptFault.{ScriptFault}
use Rattle.boot_script.specs.declared.boot_script.stop.ScriptStop.{ScriptStop}
use Rattle.boot_script.specs.declared.boot_script.stop.ScriptStop.TheVariants as stops
use Rattle.boot_script.specs.boot_script.Words.{words_of}
use Rattle.boot_script.specs.boot_script.Script.{script_of, events_from, starts, at_line, HasCounts}
use Rattle.boot_script.proofs.AskLemmas.{read_is_bounded}
use Rattle.boot_script.specs.declared.sweep_script.line.Role.{Role}
use Rattle.boot_script.specs.declared.sweep_script.line.Role.TheVariants.{Mark, Barred, Plain}
use Rattle.boot_script.specs.declared.sweep_script.parts.Parts.{Parts}
use Rattle.boot_script.specs.declared.sweep_script.reading.SweepScript.{SweepScript}
use Rattle.boot_script.specs.declared.sweep_script.stop.SweepStop.{SweepStop}
use Rattle.boot_script.specs.sweep_script.Sweep.{role_of, last_of, unordered, event_of, no_parts, first_event, placed, with_event, after_event, after_role, after_line, and_then, parts_from, sweep_on, sweep_by, sweep_of, events_of, IsUnordered, IsPlayable, Refuses, GivesSweep}

-- ---- the last of a list

pub last-append : (es : List Event) (e : Event) → last_of (es ++ e ∷ []) ≡ Some e
last-append [] e = refl
last-append (d ∷ []) e = refl
last-append (d ∷ f ∷ es) e = last-append (f ∷ es) e

pub last-popped : (es left : List Event) (o : Option Event) → es ≡ left ++ option_to_list o
    → (0 < length es → IsSome o) → o ≡ last_of es
last-popped es left (Some e) split some = sym (last-append left e) ∙ ap last_of (sym split)
last-popped [] left None split some = refl
last-popped (d ∷ es) left None split some = absurd (false≢true (some (omega arith)))

All-last : (P : Event → Type 0) (es : List Event) → All P es → IfSome (last_of es) P
All-last P [] all = tt
All-last P (e ∷ []) all = All-head P e [] all
All-last P (e ∷ f ∷ es) all = All-last P (f ∷ es) (All-tail P e (f ∷ es) all)

-- ---- what was tested

passed : {A E : Type 0} (b : Bool) (k : E) (r : Result A E) (y : A) → cond b (Err k) r ≡ Ok y → (b ≡ false) × (r ≡ Ok y)
passed true k r y e = absurd cc
passed false k r y e = (refl, e)

ok_is : {A E : Type 0} (x y : A) → (let r : Result A E = Ok x in r) ≡ Ok y → x ≡ y
ok_is x y e = cc

-- ---- the loop

pub goes_on : (n : ℕ) (p q : Parts) (text line rest : List ℕ) (total : Result Parts ScriptFault)
    → lines text ≡ line ∷ lines rest → after_line n p line ≡ Ok q → parts_from n p (lines text) ≡ total
    → parts_from (n + 1) q (lines rest) ≡ total
unfolding parts_from
goes_on n p q text line rest total first taken so_far =
    let one : parts_from n p (lines text) ≡ and_then (after_line n p line) (λ (x : Parts). parts_from (n + 1) x (lines rest)) =
    rw first refl in
    sym (ap (λ (r : Result Parts ScriptFault). and_then r (λ (x : Parts). parts_from (n + 1) x (lines rest))) taken) ∙ sym one ∙ so_far

pub refuses : (stop : ScriptStop) (n : ℕ) (p : Parts) (text line rest : List ℕ) (total : Result Parts ScriptFault)
    → lines text ≡ line ∷ lines rest → Refuses (after_line n p line) stop → parts_from n p (lines text) ≡ total
    → Refuses total stop
unfolding parts_from
refuses stops.Memory n p text line rest total first refused so_far = tt
refuses (stops.Fault f) n p text line rest total first refused so_far =
    let one : parts_from n p (lines text) ≡ and_then (after_line n p line) (λ (x : Parts). parts_from (n + 1) x (lines rest)) =
    rw first refl in
    sym so_far ∙ one ∙ ap (λ (r : Result Parts ScriptFault). and_then r (λ (x : Parts). parts_from (n + 1) x (lines rest))) refused

pub ends : (n : ℕ) (p : Parts) (text : List ℕ) (total : Result Parts ScriptFault) → length text ≡ 0
    → parts_from n p (lines text) ≡ total → total ≡ Ok p
unfolding parts_from
ends n p [] total none so_far = sym so_far
ends n p (c ∷ text) total none so_far = absurd (omega arith)

-- ---- the count of starts

placed-starts : (e : Event) (p : Parts) → (placed e p).starts ≡ p.starts
placed-starts e p = by_shape p.marked refl
  where
    by_shape : (b : Bool) → p.marked ≡ b → (placed e p).starts ≡ p.starts
    by_shape true is = rw is refl
    by_shape false is = rw is refl

with_event-starts : (e : Option Event) (count : ℕ) (p : Parts) → (with_event e count p).starts ≡ count
with_event-starts None count p = refl
with_event-starts (Some e) count p = placed-starts e (record p { starts = count })

few_event : (n : ℕ) (p q : Parts) (r : Result (Option Event) ScriptFaultKind) → after_event n p r ≡ Ok q → p.starts ≤ 64
    → q.starts ≤ 64
few_event n p q (Err kind) taken few = absurd cc
few_event n p q (Ok e) taken few =
    let count : ℕ = p.starts + starts e in
    let tested = passed (ltb 64 count) _ (Ok (with_event e count p)) q taken in
    let small : count ≤ 64 = ltb-false 64 count tested.0 in
    let is : with_event e count p ≡ q = ok_is {E = ScriptFault} _ _ tested.1 in
    let same : q.starts ≡ count = sym (ap (λ (x : Parts). x.starts) is) ∙ with_event-starts e count p in
    omega (arith, small, same)

few_role : (n : ℕ) (p q : Parts) (line : List ℕ) (role : Role) → after_role n p line role ≡ Ok q → p.starts ≤ 64
    → q.starts ≤ 64
few_role n p q line Mark taken few =
    let tested = passed p.marked _ (Ok (record p { marked = true })) q taken in
    let is : record p { marked = true } ≡ q = ok_is {E = ScriptFault} _ _ tested.1 in
    subst (λ (x : Parts). x.starts ≤ 64) is few
few_role n p q line Barred taken few = absurd cc
few_role n p q line Plain taken few = few_event n p q (event_of (script_of line)) taken few

pub few_line : (n : ℕ) (p q : Parts) (line : List ℕ) → after_line n p line ≡ Ok q → p.starts ≤ 64 → q.starts ≤ 64
few_line n p q line taken few = few_role n p q line (role_of (words_of line)) taken few

-- ---- each event can be played

-- the events that were read
pub record AreSound (p : Parts) : Type 0 where
  pub before : All IsPlayable p.before
  pub event : IfSome p.event IsPlayable

line_bounded : (line : List ℕ) (es : List Event) → script_of line ≡ Ok es → All HasCounts es
unfolding script_of
line_bounded line es e =
    let tested = passed (ltb 65536 (length line)) _ (events_from 1 0 (lines line)) es e in
    (read_is_bounded (Ok es) line (ltb-false 65536 (length line) tested.0) tested.1).counts

-- the event that is left is the one that was there, and orders no stop
left_unordered : (o : Option Event) (e : Event) → unordered o ≡ Ok (Some e) → IfSome o HasCounts → IsPlayable e
left_unordered None e is counts = absurd cc
left_unordered (Some (CutNow keep)) e is counts = absurd cc
left_unordered (Some (ArmCut call n keep)) e is counts = absurd cc
left_unordered (Some (ArmFault call n)) e is counts = absurd cc
left_unordered (Some (Boot entry good)) e is counts =
    subst IsPlayable (let same : Boot entry good ≡ e = cc in same) (record { counts = counts; unordered = tt })
left_unordered (Some (Go steps)) e is counts =
    subst IsPlayable (let same : Go steps ≡ e = cc in same) (record { counts = counts; unordered = tt })
left_unordered (Some (Fail name count)) e is counts =
    subst IsPlayable (let same : Fail name count ≡ e = cc in same) (record { counts = counts; unordered = tt })
left_unordered (Some (Vital name)) e is counts =
    subst IsPlayable (let same : Vital name ≡ e = cc in same) (record { counts = counts; unordered = tt })
left_unordered (Some (Set path name kind bytes)) e is counts =
    subst IsPlayable (let same : Set path name kind bytes ≡ e = cc in same) (record { counts = counts; unordered = tt })
left_unordered (Some (Delete path name)) e is counts =
    subst IsPlayable (let same : Delete path name ≡ e = cc in same) (record { counts = counts; unordered = tt })
left_unordered (Some (Make path)) e is counts =
    subst IsPlayable (let same : Make path ≡ e = cc in same) (record { counts = counts; unordered = tt })
left_unordered (Some (Remove path)) e is counts =
    subst IsPlayable (let same : Remove path ≡ e = cc in same) (record { counts = counts; unordered = tt })
left_unordered (Some Flush) e is counts =
    subst IsPlayable (let same : Flush ≡ e = cc in same) (record { counts = counts; unordered = tt })
left_unordered (Some Logon) e is counts =
    subst IsPlayable (let same : Logon ≡ e = cc in same) (record { counts = counts; unordered = tt })
left_unordered (Some Off) e is counts =
    subst IsPlayable (let same : Off ≡ e = cc in same) (record { counts = counts; unordered = tt })

event_playable : (line : List ℕ) (r : Result (List Event) ScriptFault) (e : Event) → script_of line ≡ r → event_of r ≡ Ok (Some e)
    → IsPlayable e
event_playable line (Err fault) e read is = absurd cc
event_playable line (Ok es) e read is = left_unordered (last_of es) e is (All-last HasCounts es (line_bounded line es read))

first_playable : (o : Option Event) (e : Event) → IfSome o IsPlayable → IsPlayable e → IfSome (first_event o e) IsPlayable
first_playable None e old new = new
first_playable (Some first) e old new = old

placed_sound : (e : Event) (p : Parts) → IsPlayable e → AreSound p → AreSound (placed e p)
placed_sound e p is sound = by_shape p.marked refl
  where
    by_shape : (b : Bool) → p.marked ≡ b → AreSound (placed e p)
    by_shape true marked = rw marked (record { before = sound.before; event = first_playable p.event e sound.event is })
    by_shape false marked = rw marked (record { before = All-push IsPlayable p.before e sound.before is; event = sound.event })

event_sound : (n : ℕ) (p q : Parts) (line : List ℕ) (r : Result (Option Event) ScriptFaultKind)
    → event_of (script_of line) ≡ r → after_event n p r ≡ Ok q → AreSound p → AreSound q
event_sound n p q line (Err kind) read taken sound = absurd cc
event_sound n p q line (Ok None) read taken sound =
    let count : ℕ = p.starts + 0 in
    let tested = passed (ltb 64 count) _ (Ok (with_event None count p)) q taken in
    let is : with_event None count p ≡ q = ok_is {E = ScriptFault} _ _ tested.1 in
    subst AreSound is (record { before = sound.before; event = sound.event })
event_sound n p q line (Ok (Some e)) read taken sound =
    let count : ℕ = p.starts + starts (Some e) in
    let tested = passed (ltb 64 count) _ (Ok (with_event (Some e) count p)) q taken in
    let is : with_event (Some e) count p ≡ q = ok_is {E = ScriptFault} _ _ tested.1 in
    let counted : AreSound (record p { starts = count }) = record { before = sound.before; event = sound.event } in
    subst AreSound is
    (placed_sound e (record p { starts = count }) (event_playable line (script_of line) e refl read) counted)

role_sound : (n : ℕ) (p q : Parts) (line : List ℕ) (role : Role) → after_role n p line role ≡ Ok q → AreSound p → AreSound q
role_sound n p q line Mark taken sound =
    let tested = passed p.marked _ (Ok (record p { marked = true })) q taken in
    let is : record p { marked = true } ≡ q = ok_is {E = ScriptFault} _ _ tested.1 in
    subst AreSound is (record { before = sound.before; event = sound.event })
role_sound n p q line Barred taken sound = absurd cc
role_sound n p q line Plain taken sound = event_sound n p q line (event_of (script_of line)) refl taken sound

lines_sound : (n : ℕ) (p q : Parts) (ls : List (List ℕ)) → parts_from n p ls ≡ Ok q → AreSound p → AreSound q
unfolding parts_from
lines_sound n p q [] read sound = subst AreSound (ok_is {E = ScriptFault} _ _ read) sound
lines_sound n p q (line ∷ ls) read sound =
    by_line (λ x further one. lines_sound (n + 1) x q ls further one) (after_line n p line) refl read
  where
    by_line : ((x : Parts) → parts_from (n + 1) x ls ≡ Ok q → AreSound x → AreSound q)
        → (r : Result Parts ScriptFault) → after_line n p line ≡ r
        → and_then r (λ (x : Parts). parts_from (n + 1) x ls) ≡ Ok q → AreSound q
    by_line go (Err fault) is further = absurd cc
    by_line go (Ok x) is further = go x further (role_sound n p x line (role_of (words_of line)) is sound)

sweep_on_sound : (before : List Event) (o : Option Event) (s : SweepScript) → sweep_on before o ≡ Ok s
    → All IsPlayable before → IfSome o IsPlayable → All IsPlayable (events_of s)
sweep_on_sound before None s read all one = absurd cc
sweep_on_sound before (Some e) s read all one =
    let is : record { before = before; event = e } ≡ s = cc in
    subst (λ (x : SweepScript). All IsPlayable (events_of x)) is (All-push IsPlayable before e all one)

by_parts : (r : Result Parts ScriptFault) (s : SweepScript) (ls : List (List ℕ)) → parts_from 1 no_parts ls ≡ r
    → sweep_by r ≡ Ok s → All IsPlayable (events_of s)
by_parts (Err fault) s ls read is = absurd cc
by_parts (Ok p) s ls read is =
    let sound = lines_sound 1 no_parts p ls read (record { before = All-nil IsPlayable; event = tt }) in
    sweep_on_sound p.before p.event s is sound.before sound.event

-- each event of a script can be played
pub all_playable : (text : List ℕ) (s : SweepScript) → sweep_of text ≡ Ok s → All IsPlayable (events_of s)
unfolding sweep_of
all_playable text s read = by_length (ltb 65536 (length text)) read
  where
    by_length : (b : Bool) → cond b (sweep_by (at_line 0 TooLong)) (sweep_by (parts_from 1 no_parts (lines text))) ≡ Ok s
        → All IsPlayable (events_of s)
    by_length true is = absurd cc
    by_length false is = by_parts (parts_from 1 no_parts (lines text)) s (lines text) refl is

pub all_counted : (es : List Event) → All IsPlayable es → All HasCounts es
all_counted [] all = All-nil HasCounts
all_counted (e ∷ es) all =
    All-cons HasCounts e es (All-head IsPlayable e es all).counts (all_counted es (All-tail IsPlayable e es all))

pub all_unordered : (es : List Event) → All IsPlayable es → All IsUnordered es
all_unordered [] all = All-nil IsUnordered
all_unordered (e ∷ es) all =
    All-cons IsUnordered e es (All-head IsPlayable e es all).unordered (all_unordered es (All-tail IsPlayable e es all))

-- ---- what the call answers

pub answer_counted : (text : List ℕ) (r : Result SweepScript SweepStop) → GivesSweep r (sweep_of text)
    → IfOk r (λ s. All HasCounts (events_of s))
answer_counted text (Ok s) read = all_counted (events_of s) (all_playable text s read)
answer_counted text (Err stop) read = tt

pub answer_unordered : (text : List ℕ) (r : Result SweepScript SweepStop) → GivesSweep r (sweep_of text)
    → IfOk r (λ s. All IsUnordered (events_of s))
answer_unordered text (Ok s) read = all_unordered (events_of s) (all_playable text s read)
answer_unordered text (Err stop) read = tt

-- a text that is not too long is what its lines are
pub by_lines : (text : List ℕ) (r : Result Parts ScriptFault) → length text ≤ 65536
    → parts_from 1 no_parts (lines text) ≡ r → sweep_of text ≡ sweep_by r
unfolding sweep_of
by_lines text r short is = rw (le-ltb 65536 (length text) short) (ap sweep_by is)
