-- The next of those that wait, and those that wait when there is none.
use Rattle.std.proofs.Common.{◌≡◌, ℕ, zero, suc, ◌+◌, ◌<◌, Bool, true, false, cond, ltb, ◌||◌, List, [], ◌∷◌, ◌++◌, length, get_or, set, Option, Some, None, refl, sym, ap, ◌∙◌, arith}
use Rattle.std.specs.Prelude.{slice_get, count_by}
use Rattle.std.specs.List.{items_where_true, list_any, position_or_len}
use Rattle.std.specs.Option.{option_and_then, option_map_or}
use Rattle.std.proofs.lemmas.Bool.{false≢true}
use Rattle.std.proofs.lemmas.List.{append_assoc, append-nil}
use Rattle.std.proofs.lemmas.List.Sums.{sum_by-set}
use Rattle.std.proofs.lemmas.List.Quantifiers.{position-Some}
use Rattle.std.proofs.lemmas.Option.{get_or_from_slice_get, slice_get-get_or}
use Rattle.start_model.specs.Demand.{member}
use Rattle.start_model.specs.Ready.{is_ready, next_of}
use Rattle.dependencies.specs.Waiting.{WaitingState, waiting_in, places_in, next_place_in, after_trying}
use Rattle.dependencies.proofs.PickedLemmas.{as_many, picked}
use Rattle.boot_phases.proofs.TriedLemmas.{within}
use Rattle.service_control.specs.Turns.{turns}
use Rattle.service_control.proofs.SpreadState.{none}
use Rattle.dependencies.proofs.KeptLemmas.{within_waits}

-- ---- the next one is ready

pub record IsNext (w : WaitingState) (at : ℕ) : Type 0 where
  pub inside : at < length w.needs
  pub ready : is_ready w.started (get_or w.needs at none) ≡ true

next_by : (w : WaitingState) (at : ℕ) (o : Option ℕ) → next_of w.started (waiting_in w) ≡ o
    → option_and_then (slice_get (places_in w)) o ≡ Some at → IsNext w at
next_by w at None e h = absurd cc
next_by w at (Some k) e h =
    let p = picked w.waits w.needs 0 k at h in
    let here : p.j ≡ at = omega (arith, p.here) in
    let found = position-Some (is_ready w.started) (waiting_in w) k none e in
    let item : slice_get (waiting_in w) k ≡ Some (get_or (waiting_in w) k none) =
    slice_get-get_or (waiting_in w) k none found.0 in
    let same : slice_get w.needs at ≡ Some (get_or (waiting_in w) k none) =
    ap (slice_get w.needs) (sym here) ∙ sym p.same ∙ item in
    record {
      inside = omega (arith, p.within, here);
      ready = ap (is_ready w.started) (get_or_from_slice_get w.needs at (get_or (waiting_in w) k none) none same)
          ∙ found.1;
    }

pub next_ready : (w : WaitingState) (at : ℕ) → Some at ≡ next_place_in w → IsNext w at
next_ready w at h = next_by w at (next_of w.started (waiting_in w)) refl (sym h)

-- ---- when there is none

there_at : {X : Type 0} (xs : List X) (k : ℕ) → k < length xs → slice_get xs k ≡ None → ⊥
there_at [] k lt e = omega (arith, lt)
there_at (x ∷ xs) zero lt e = cc
there_at (x ∷ xs) (suc k) lt e = there_at xs k (omega (arith, lt)) e

pub no_place : (b : Bool) (n : ℕ) → cond b (Some n) None ≡ None → b ≡ false
no_place true n h = absurd cc
no_place false n h = refl

no_next : (w : WaitingState) (o : Option ℕ) → next_of w.started (waiting_in w) ≡ o
    → option_and_then (slice_get (places_in w)) o ≡ None → list_any (is_ready w.started) (waiting_in w) ≡ false
no_next w None e h =
    sym (within (is_ready w.started) (waiting_in w))
    ∙ no_place (ltb (position_or_len (is_ready w.started) (waiting_in w)) (length (waiting_in w)))
    (position_or_len (is_ready w.started) (waiting_in w)) e
no_next w (Some k) e h =
    let found = position-Some (is_ready w.started) (waiting_in w) k none e in
    absurd (there_at (places_in w) k (omega (arith, found.0, as_many w.waits w.needs 0)) h)

or_first : (a b : Bool) → (a || b) ≡ false → a ≡ false
or_first true b h = h
or_first false b h = refl

or_second : (a b : Bool) → (a || b) ≡ false → b ≡ false
or_second true b h = absurd (false≢true (sym h))
or_second false b h = h

pub none_passes : {X : Type 0} (p : X → Bool) (bs : List Bool) (xs : List X) (c : ℕ) (d : X)
    → list_any p (items_where_true bs xs) ≡ false → c < length xs → member bs c ≡ true → p (get_or xs c d) ≡ false
none_passes p [] xs c d h lt m = absurd (false≢true m)
none_passes p (b ∷ bs) [] c d h lt m = absurd (omega (arith, lt))
none_passes p (true ∷ bs) (x ∷ xs) zero d h lt m = or_first (p x) _ h
none_passes p (false ∷ bs) (x ∷ xs) zero d h lt m = absurd (false≢true m)
none_passes p (true ∷ bs) (x ∷ xs) (suc c) d h lt m =
    none_passes p bs xs c d (or_second (p x) _ h) (omega (arith, lt)) m
none_passes p (false ∷ bs) (x ∷ xs) (suc c) d h lt m = none_passes p bs xs c d h (omega (arith, lt)) m

-- none of those that wait is ready
pub none_ready : (w : WaitingState) → None ≡ next_place_in w → (c : ℕ) → c < length w.needs → member w.waits c ≡ true
    → is_ready w.started (get_or w.needs c none) ≡ false
none_ready w h c lt m = none_passes (is_ready w.started) w.waits w.needs c none
    (no_next w (next_of w.started (waiting_in w)) refl (sym h)) lt m

-- ---- how many wait

pub one_fewer : (bs : List Bool) (k : ℕ) → member bs k ≡ true
    → count_by (λ b. b) bs ≡ count_by (λ b. b) (set bs k false) + 1
one_fewer bs k m =
    let s : ◌≡◌ {A = ℕ} (count_by (λ b. b) (set bs k false) + cond (member bs k) 1 0) (count_by (λ b. b) bs + 0) =
    sum_by-set (λ (b : Bool). cond b 1 0) bs k false false (within_waits bs k m) in
    let one : ◌≡◌ {A = ℕ} (cond (member bs k) 1 0) 1 = ap (λ b. cond b 1 0) m in
    omega (arith, s, one)

-- ---- turns

-- one more turn
pub turn_more : (w w' : WaitingState) (places places' all : List ℕ) (at : ℕ) → Some at ≡ next_place_in w
    → w' ≡ after_trying w at true → member w.waits at ≡ true → places' ≡ places ++ at ∷ []
    → places ++ turns (count_by (λ b. b) w.waits) w ≡ all → places' ++ turns (count_by (λ b. b) w'.waits) w' ≡ all
unfolding turns
turn_more w w' places places' all at next after m p h =
    let fewer : count_by (λ b. b) w.waits ≡ suc (count_by (λ b. b) w'.waits) =
    omega (arith, one_fewer w.waits at m, ap (λ (v : WaitingState). count_by (λ b. b) v.waits) after) in
    let step : turns (count_by (λ b. b) w.waits) w ≡ at ∷ turns (count_by (λ b. b) w'.waits) w' =
    ap (λ n. turns n w) fewer
    ∙ ap (λ o. option_map_or (λ at. at ∷ turns (count_by (λ b. b) w'.waits) (after_trying w at true)) o [])
    (sym next) ∙ ap (λ v. at ∷ turns (count_by (λ b. b) w'.waits) v) (sym after) in
    ap (λ l. l ++ turns (count_by (λ b. b) w'.waits) w') p
    ∙ append_assoc places (at ∷ []) (turns (count_by (λ b. b) w'.waits) w') ∙ ap (λ l. places ++ l) (sym step) ∙ h

-- no turn is left
pub turns_over : (w : WaitingState) (places all : List ℕ) (n : ℕ) → None ≡ next_place_in w → places ++ turns n w ≡ all
    → places ≡ all
unfolding turns
turns_over w places all zero next h = sym (append-nil places) ∙ h
turns_over w places all (suc n) next h =
    sym (append-nil places) ∙ ap (λ o. places ++ option_map_or (λ at. at ∷ turns n (after_trying w at true)) o []) next
    ∙ h
