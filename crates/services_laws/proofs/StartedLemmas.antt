-- What the turns of a start tell of its lines.
use Rattle.std.proofs.Common.{◌≡◌, ◌<◌, ◌≤◌, ℕ, zero, suc, ◌+◌, Bool, true, false, not, cond, List, [], ◌∷◌, ◌++◌, length, get_or, Option, Some, None, refl, sym, ap, ◌∙◌, append-nil, append_assoc, arith}
use Rattle.std.specs.Prelude.{slice_get, position, unwrap_or, nat_lt, option_map}
use Rattle.std.specs.List.{filter_map, range_with_len, position_or_len}
use Rattle.std.proofs.lemmas.Bool.{false≢true, ltb-false}
use Rattle.std.proofs.lemmas.Option.{slice_get-map, slice_get_within, get_or_from_slice_get}
use Rattle.std.proofs.lemmas.List.{length_push}
use Rattle.nt_bytes.specs.Folding.{folds_same}
use Rattle.nt_names.proofs.FoldLemmas.{alike}
use Rattle.report_words.specs.declared.line.Line.{Line}
use Rattle.report_words.specs.declared.line.Line.TheVariants.{Phase as PhaseLine, Try as TryLine, Unmet as UnmetLine}
use Rattle.boot_phases.specs.declared.boot_phases.phase.Phase.{Phase}
use Rattle.boot_phases.specs.declared.boot_phases.phase.Phase.TheVariants.{Boot}
use Rattle.service_list.specs.declared.turns.Place.{Place}
use Rattle.service_list.specs.declared.turns.Place.TheVariants.{Attempted, Unmet, Untaken}
use Rattle.service_list.specs.declared.turns.Turn.{Turn}
use Rattle.service_list.specs.Turns.{phase_named, turn_of, no_turns, turns_from, turn_names, turn_at, place_at}
use Rattle.services_laws.specs.Started.{InPhase, tries_in, unmet_in, turns_in, place_of, AttemptsAreTries, TriesAreAttempts, UnmetIsUnmet, LeftAreUnmet, number_of, NumbersCount}

-- ---- the turns of lines, that many attempts after the beginning

abbrev turns_told : Phase → ℕ → List Line → List Turn
turns_told phase n [] = []
turns_told phase n (PhaseLine word ∷ lines) = turns_told (phase_named word) n lines
turns_told phase n (TryLine name outcome ∷ lines) = turn_of name (Attempted phase (n + 1)) ∷ turns_told phase (n + 1) lines
turns_told phase n (UnmetLine name ∷ lines) = turn_of name (Unmet phase) ∷ turns_told phase n lines
turns_told phase n (line ∷ lines) = turns_told phase n lines

-- the turns after lines that were told in this phase, where these turns and attempts were told before
abbrev told_after : Phase → List Turn → List ℕ → List Line → List Turn
told_after phase turns attempts lines = (turns_from (record no_turns { phase = phase; turns = turns; attempts = attempts }) lines).turns

told_from : (lines : List Line) (phase : Phase) (turns : List Turn) (attempts : List ℕ)
    → told_after phase turns attempts lines ≡ turns ++ turns_told phase (length attempts) lines
told_from [] phase turns attempts = sym (append-nil turns)
told_from (PhaseLine word ∷ lines) phase turns attempts = told_from lines (phase_named word) turns attempts
told_from (TryLine name outcome ∷ lines) phase turns attempts =
    let x : Turn = turn_of name (Attempted phase (length attempts + 1)) in
    told_from lines phase (turns ++ x ∷ []) (attempts ++ length turns ∷ [])
    ∙ ap (λ (n : ℕ). (turns ++ x ∷ []) ++ turns_told phase n lines) (length_push attempts (length turns))
    ∙ append_assoc turns (x ∷ []) (turns_told phase (length attempts + 1) lines)
told_from (UnmetLine name ∷ lines) phase turns attempts =
    let x : Turn = turn_of name (Unmet phase) in
    told_from lines phase (turns ++ x ∷ []) attempts ∙ append_assoc turns (x ∷ []) (turns_told phase (length attempts) lines)
told_from (line ∷ lines) phase turns attempts = told_from lines phase turns attempts

turns_are : (lines : List Line) → turns_in lines ≡ turns_told Boot 0 lines
turns_are lines = told_from lines Boot [] []

-- ---- parts

abbrev phase_part : Place → Phase
phase_part (Attempted phase number) = phase
phase_part (Unmet phase) = phase
phase_part Untaken = Boot

abbrev number_part : Place → ℕ
number_part (Attempted phase number) = number
number_part (Unmet phase) = 0
number_part Untaken = 0

abbrev turn_or : Turn → Option Turn → Turn
turn_or d None = d
turn_or d (Some turn) = turn

-- a turn that is there in place of another
its_name : (x y : Turn) → Some x ≡ Some y → x.name ≡ y.name
its_name x y e = ap (λ (o : Option Turn). (turn_or x o).name) e

its_place : (x y : Turn) → Some x ≡ Some y → x.place ≡ y.place
its_place x y e = ap (λ (o : Option Turn). (turn_or x o).place) e

-- ---- a turn is that of a line

record Tried (phase : Phase) (n : ℕ) (lines : List Line) (name : List ℕ) (at : Phase) (number : ℕ) : Type 0 where
  before : ℕ
  counted : number ≡ n + before + 1
  there : slice_get (tries_in phase lines) before ≡ Some (record { phase = at; name = name })

told_try : (lines : List Line) (phase : Phase) (n k : ℕ) (turn : Turn) (at : Phase) (number : ℕ)
    → slice_get (turns_told phase n lines) k ≡ Some turn → turn.place ≡ Attempted at number → Tried phase n lines turn.name at number
told_try [] phase n k turn at number e p = absurd cc
told_try (PhaseLine word ∷ lines) phase n k turn at number e p =
    let r = told_try lines (phase_named word) n k turn at number e p in
    record { before = r.before; counted = r.counted; there = r.there }
told_try (TryLine name outcome ∷ lines) phase n zero turn at number e p =
    let is : Attempted phase (n + 1) ≡ Attempted at number =
    its_place (turn_of name (Attempted phase (n + 1))) turn e ∙ p in
    let named : name ≡ turn.name = its_name (turn_of name (Attempted phase (n + 1))) turn e in
    let same : n + 1 ≡ number = ap number_part is in
    record {
      before = 0;
      counted = omega (arith, same);
      there = λ i. Some (record { phase = phase_part (is i); name = named i });
    }
told_try (TryLine name outcome ∷ lines) phase n (suc k) turn at number e p =
    let r = told_try lines phase (n + 1) k turn at number e p in
    record { before = suc r.before; counted = omega (arith, r.counted); there = r.there }
told_try (UnmetLine name ∷ lines) phase n zero turn at number e p =
    let is : Unmet phase ≡ Attempted at number = its_place (turn_of name (Unmet phase)) turn e ∙ p in absurd cc
told_try (UnmetLine name ∷ lines) phase n (suc k) turn at number e p =
    let r = told_try lines phase n k turn at number e p in
    record { before = r.before; counted = r.counted; there = r.there }
told_try (line ∷ lines) phase n k turn at number e p =
    let r = told_try lines phase n k turn at number e p in
    record { before = r.before; counted = r.counted; there = r.there }

record Lay (phase : Phase) (lines : List Line) (name : List ℕ) (in_phase : Phase) : Type 0 where
  at : ℕ
  there : slice_get (unmet_in phase lines) at ≡ Some (record { phase = in_phase; name = name })

told_unmet : (lines : List Line) (phase : Phase) (n k : ℕ) (turn : Turn) (in_phase : Phase)
    → slice_get (turns_told phase n lines) k ≡ Some turn → turn.place ≡ Unmet in_phase → Lay phase lines turn.name in_phase
told_unmet [] phase n k turn in_phase e p = absurd cc
told_unmet (PhaseLine word ∷ lines) phase n k turn in_phase e p =
    let r = told_unmet lines (phase_named word) n k turn in_phase e p in record { at = r.at; there = r.there }
told_unmet (TryLine name outcome ∷ lines) phase n zero turn in_phase e p =
    let is : Attempted phase (n + 1) ≡ Unmet in_phase =
    its_place (turn_of name (Attempted phase (n + 1))) turn e ∙ p in absurd cc
told_unmet (TryLine name outcome ∷ lines) phase n (suc k) turn in_phase e p =
    let r = told_unmet lines phase (n + 1) k turn in_phase e p in record { at = r.at; there = r.there }
told_unmet (UnmetLine name ∷ lines) phase n zero turn in_phase e p =
    let is : Unmet phase ≡ Unmet in_phase = its_place (turn_of name (Unmet phase)) turn e ∙ p in
    let named : name ≡ turn.name = its_name (turn_of name (Unmet phase)) turn e in
    record { at = 0; there = λ i. Some (record { phase = phase_part (is i); name = named i }) }
told_unmet (UnmetLine name ∷ lines) phase n (suc k) turn in_phase e p =
    let r = told_unmet lines phase n k turn in_phase e p in record { at = suc r.at; there = r.there }
told_unmet (line ∷ lines) phase n k turn in_phase e p =
    let r = told_unmet lines phase n k turn in_phase e p in record { at = r.at; there = r.there }

-- ---- and each `try` line and each `unmet` line has its turn

record HasTurn (phase : Phase) (n : ℕ) (lines : List Line) (name : List ℕ) (its : Place) : Type 0 where
  place : ℕ
  there : slice_get (turns_told phase n lines) place ≡ Some (turn_of name its)

abbrev name_part : Option InPhase → List ℕ
name_part None = []
name_part (Some line) = line.name

abbrev phase_in : Option InPhase → Phase
phase_in None = Boot
phase_in (Some line) = line.phase

try_told : (lines : List Line) (phase : Phase) (n before : ℕ) (name : List ℕ) (at : Phase)
    → slice_get (tries_in phase lines) before ≡ Some (record { phase = at; name = name })
    → HasTurn phase n lines name (Attempted at (n + before + 1))
try_told [] phase n before name at e = absurd cc
try_told (PhaseLine word ∷ lines) phase n before name at e =
    let r = try_told lines (phase_named word) n before name at e in record { place = r.place; there = r.there }
try_told (TryLine spelled outcome ∷ lines) phase n zero name at e =
    let count : n + 1 ≡ n + 0 + 1 = omega arith in
    record { place = 0; there = λ i. Some (turn_of (name_part (e i)) (Attempted (phase_in (e i)) (count i))) }
try_told (TryLine spelled outcome ∷ lines) phase n (suc before) name at e =
    let r = try_told lines phase (n + 1) before name at e in
    let count : n + 1 + before + 1 ≡ n + suc before + 1 = omega arith in
    record { place = suc r.place; there = r.there ∙ ap (λ (m : ℕ). Some (turn_of name (Attempted at m))) count }
try_told (UnmetLine spelled ∷ lines) phase n before name at e =
    let r = try_told lines phase n before name at e in record { place = suc r.place; there = r.there }
try_told (line ∷ lines) phase n before name at e =
    let r = try_told lines phase n before name at e in record { place = r.place; there = r.there }

left_told : (lines : List Line) (phase : Phase) (n k : ℕ) (name : List ℕ) (at : Phase)
    → slice_get (unmet_in phase lines) k ≡ Some (record { phase = at; name = name }) → HasTurn phase n lines name (Unmet at)
left_told [] phase n k name at e = absurd cc
left_told (PhaseLine word ∷ lines) phase n k name at e =
    let r = left_told lines (phase_named word) n k name at e in record { place = r.place; there = r.there }
left_told (TryLine spelled outcome ∷ lines) phase n k name at e =
    let r = left_told lines phase (n + 1) k name at e in record { place = suc r.place; there = r.there }
left_told (UnmetLine spelled ∷ lines) phase n zero name at e =
    record { place = 0; there = λ i. Some (turn_of (name_part (e i)) (Unmet (phase_in (e i)))) }
left_told (UnmetLine spelled ∷ lines) phase n (suc k) name at e =
    let r = left_told lines phase n k name at e in record { place = suc r.place; there = r.there }
left_told (line ∷ lines) phase n k name at e =
    let r = left_told lines phase n k name at e in record { place = r.place; there = r.there }

-- ---- the place of a name is that of the first turn of this name

module _ (p : List ℕ → Bool) where
  abbrev place_where : List Turn → Place
  place_where [] = Untaken
  place_where (t ∷ ts) = cond (p t.name) t.place (place_where ts)

  within : (names : List (List ℕ)) → position_or_len p names ≤ length names
  within [] = omega arith
  within (x ∷ xs) = by_case (p x) (within xs)
    where
      by_case : (b : Bool) → position_or_len p xs ≤ length xs
          → cond (not b) (1 + position_or_len p xs) 0 ≤ length (x ∷ xs)
      by_case true deep = omega arith
      by_case false deep = omega (arith, deep)

  place_first : (ts : List Turn) → place_at ts (position_or_len p (turn_names ts)) ≡ place_where ts
  place_first [] = refl
  place_first (t ∷ ts) = by_case (p t.name) (place_first ts)
    where
      by_case : (b : Bool) → place_at ts (position_or_len p (turn_names ts)) ≡ place_where ts
          → place_at (t ∷ ts) (cond (not b) (1 + position_or_len p (turn_names ts)) 0) ≡ cond b t.place (place_where ts)
      by_case true deep = refl
      by_case false deep =
          let next : 1 + position_or_len p (turn_names ts) ≡ suc (position_or_len p (turn_names ts)) = omega arith in
          ap (place_at (t ∷ ts)) next ∙ deep

  as_long : (ts : List Turn) → length (turn_names ts) ≡ length ts
  as_long [] = refl
  as_long (t ∷ ts) = ap suc (as_long ts)

  found_at : (ts : List Turn) → unwrap_or (position p (turn_names ts)) (length ts) ≡ position_or_len p (turn_names ts)
  found_at ts =
      by_case (position_or_len p (turn_names ts)) (length (turn_names ts)) (within (turn_names ts)) (as_long ts)
      (nat_lt (position_or_len p (turn_names ts)) (length (turn_names ts))) refl
    where
      by_case : (n m : ℕ) → n ≤ m → m ≡ length ts → (b : Bool) → nat_lt n m ≡ b → unwrap_or (cond b (Some n) None) (length ts) ≡ n
      by_case n m le long true e = refl
      by_case n m le long false e = omega (arith, long, le, ltb-false n m e)

  -- a turn of the name
  record IsHeld (ts : List Turn) (place : Place) : Type 0 where
    at : ℕ
    turn : Turn
    there : slice_get ts at ≡ Some turn
    passes : p turn.name ≡ true
    its : turn.place ≡ place

  found : (ts : List Turn) (place : Place) → place_where ts ≡ place → (place ≡ Untaken → ⊥) → IsHeld ts place
  found [] place e taken = absurd (taken (sym e))
  found (t ∷ ts) place e taken = by_case (p t.name) refl e (found ts place)
    where
      by_case : (b : Bool) → p t.name ≡ b → cond b t.place (place_where ts) ≡ place
          → (place_where ts ≡ place → (place ≡ Untaken → ⊥) → IsHeld ts place) → IsHeld (t ∷ ts) place
      by_case true passes same deep = record { at = 0; turn = t; there = refl; passes = passes; its = same }
      by_case false passes same deep =
          let f = deep same taken in
          record { at = suc f.at; turn = f.turn; there = f.there; passes = f.passes; its = f.its }

pub place_is : (ts : List Turn) (name : List ℕ) → place_at ts (turn_at ts name) ≡ place_where (folds_same name) ts
place_is ts name =
    ap (place_at ts) (found_at (folds_same name) ts) ∙ place_first (folds_same name) ts

-- ---- the laws

told_place : (lines : List Line) (name : List ℕ) (place : Place) → place_of lines name ≡ place
    → place_where (folds_same name) (turns_told Boot 0 lines) ≡ place
told_place lines name place e =
    ap (place_where (folds_same name)) (sym (turns_are lines)) ∙ sym (place_is (turns_in lines) name) ∙ e

pub attempts_are_tries : AttemptsAreTries
attempts_are_tries lines name phase number e =
    let f = found (folds_same name) (turns_told Boot 0 lines) (Attempted phase number)
    (told_place lines name (Attempted phase number) e) (λ u. absurd cc) in
    let r = told_try lines Boot 0 f.at f.turn phase number f.there f.its in
    record {
      before = r.before;
      counted = omega (arith, r.counted);
      spelled = f.turn.name;
      there = r.there;
      named = f.passes;
    }

pub unmet_is_unmet : UnmetIsUnmet
unmet_is_unmet lines name phase e =
    let f = found (folds_same name) (turns_told Boot 0 lines) (Unmet phase)
    (told_place lines name (Unmet phase) e) (λ u. absurd cc) in
    let r = told_unmet lines Boot 0 f.at f.turn phase f.there f.its in
    record { spelled = f.turn.name; at = r.at; there = r.there; named = f.passes }

-- no earlier turn is of the name of this one
first_alone : (name : List ℕ) (ts : List Turn) (k : ℕ) (turn : Turn) → slice_get ts k ≡ Some turn → folds_same name turn.name ≡ true
    → ((i j : ℕ) (d : List ℕ) → i < j → j < length (turn_names ts)
    → folds_same (get_or (turn_names ts) i d) (get_or (turn_names ts) j d) ≡ false)
    → place_where (folds_same name) ts ≡ turn.place
first_alone name [] k turn e same apart = absurd cc
first_alone name (t ∷ ts) zero turn e same apart =
    let here : folds_same name t.name ≡ true = ap (folds_same name) (its_name t turn e) ∙ same in
    ap (λ b. cond b t.place (place_where (folds_same name) ts)) here ∙ its_place t turn e
first_alone name (t ∷ ts) (suc k) turn e same apart =
    by_case (folds_same name t.name) refl
    (first_alone name ts k turn e same (λ i j d less long. apart (suc i) (suc j) d (omega arith) (omega (arith, long))))
  where
    later : folds_same t.name turn.name ≡ false
    later =
        let at = slice_get-map (λ (x : Turn). x.name) ts k ∙ ap (option_map (λ (x : Turn). x.name)) e in
        let long : k < length (turn_names ts) = slice_get_within (turn_names ts) k turn.name at in
        ap (folds_same t.name) (sym (get_or_from_slice_get (turn_names ts) k turn.name turn.name at))
        ∙ apart 0 (suc k) turn.name (omega arith) (omega (arith, long))

    by_case : (b : Bool) → folds_same name t.name ≡ b → place_where (folds_same name) ts ≡ turn.place
        → cond b t.place (place_where (folds_same name) ts) ≡ turn.place
    by_case true here deep = absurd (false≢true (sym later ∙ sym (alike name t.name here turn.name) ∙ same))
    by_case false here deep = deep

pub tries_are_attempts : TriesAreAttempts
tries_are_attempts lines apart name phase number try =
    let r = try_told lines Boot 0 try.before try.spelled phase try.there in
    let number_is : 0 + try.before + 1 ≡ number = omega (arith, try.counted) in
    let turn : Turn = turn_of try.spelled (Attempted phase (0 + try.before + 1)) in
    let there : slice_get (turns_in lines) r.place ≡ Some turn =
    ap (λ (ts : List Turn). slice_get ts r.place) (turns_are lines) ∙ r.there in
    place_is (turns_in lines) name
    ∙ first_alone name (turns_in lines) r.place turn there try.named (λ i j d less long. apart i j d less long)
    ∙ ap (λ (m : ℕ). Attempted phase m) number_is

pub left_are_unmet : LeftAreUnmet
left_are_unmet lines apart name phase lay =
    let r = left_told lines Boot 0 lay.at lay.spelled phase lay.there in
    let turn : Turn = turn_of lay.spelled (Unmet phase) in
    let there : slice_get (turns_in lines) r.place ≡ Some turn =
    ap (λ (ts : List Turn). slice_get ts r.place) (turns_are lines) ∙ r.there in
    place_is (turns_in lines) name
    ∙ first_alone name (turns_in lines) r.place turn there lay.named (λ i j d less long. apart i j d less long)

numbers_told : (lines : List Line) (phase : Phase) (n : ℕ)
    → filter_map number_of (turns_told phase n lines) ≡ range_with_len (n + 1) (length (tries_in phase lines))
numbers_told [] phase n = refl
numbers_told (PhaseLine word ∷ lines) phase n = numbers_told lines (phase_named word) n
numbers_told (TryLine name outcome ∷ lines) phase n = ap (λ (ns : List ℕ). (n + 1) ∷ ns) (numbers_told lines phase (n + 1))
numbers_told (UnmetLine name ∷ lines) phase n = numbers_told lines phase n
numbers_told (line ∷ lines) phase n = numbers_told lines phase n

pub numbers_count : NumbersCount
numbers_count lines = ap (filter_map number_of) (turns_are lines) ∙ numbers_told lines Boot 0
