-- Steps that lead on.
use Rattle.std.proofs.Common.{◌≡◌, ℕ, ◌<◌, Bool, true, false, List, [], ◌∷◌, length, cond, sym, ap, ◌∙◌, inl, inr}
use Rattle.std.specs.List.{range_with_len}
use Rattle.std.proofs.lemmas.Bool.{false≢true, cases_Bool, and_parts}
use Rattle.start_model.specs.Demand.{member}
use Rattle.wait_cycles.specs.Waits.{leads, comes_to, are_in_cycle, begins_with, cycle_from}
use Rattle.wait_cycles.proofs.MetLemmas.{range_in}
use Rattle.wait_cycles.proofs.CycleLemmas.{comes_from, comes_gives, filter_none}

pub step_comes : (step : ℕ → ℕ → Bool) (n p q : ℕ) → q < n → step p q ≡ true → comes_to step n p q ≡ true
step_comes step n p q lq st = comes_from step n p q (λ s by. by.begun q lq st)

pub comes_through : (step : ℕ → ℕ → Bool) (n p q r : ℕ) → q < n → comes_to step n p q ≡ true → r < n
    → comes_to step n q r ≡ true → comes_to step n p r ≡ true
comes_through step n p q r lq h lr k = comes_from step n p r (λ s by.
    (let on = comes_gives step n p q h (member s) by lq in
    comes_gives step n q r k (member s) (record {
      begun = λ x lx st. by.closed q x lq lx on st;
      closed = by.closed;
    }) lr))

-- a place from which there is no step is in no cycle
pub nowhere : (waits : List (List (List ℕ))) (p : ℕ) → ((q : ℕ) → q < length waits → leads waits p q ≡ false)
    → cycle_from waits p ≡ []
nowhere waits p f =
    ap (λ (c : List ℕ). cond (begins_with p c) (c ∷ []) [])
    (filter_none (are_in_cycle waits p) (range_with_len 0 (length waits)) (λ q i.
    elim (cases_Bool (are_in_cycle waits p q)) [
      | inl on ↦ absurd (false≢true (comes_gives (leads waits) (length waits) p q
          (and_parts (comes_to (leads waits) (length waits) p q) (comes_to (leads waits) (length waits) q p) on).0 (λ _. false)
          (record {
            begun = λ x lx st. sym (f x lx) ∙ st;
            closed = λ m x lm lx on st. on;
          }) (range_in (length waits) q i)))
      | inr off ↦ off
    ]))
