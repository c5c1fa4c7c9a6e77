-- Who starts as the turns come is who starts of a run.
use Rattle.std.proofs.Common.{◌≡◌, ℕ, zero, suc, ◌+◌, ◌≤◌, true, false, List, [], ◌∷◌, ◌++◌, length, map, set, Option, Some, None, refl, sym, ap, ◌∙◌, subst, arith}
use Rattle.std.specs.Prelude.{Contains, slice_get, remove}
use Rattle.std.specs.Option.{option_map, option_map_or, option_and_then, option_to_list}
use Rattle.std.specs.List.{filter_map, cons_option, items_where_true}
use Rattle.std.proofs.lemmas.List.Quantifiers.{position-Some}
use Rattle.start_model.specs.Demand.{Need}
use Rattle.start_model.specs.Ready.{Label, is_ready, next_of}
use Rattle.dependencies.specs.Waiting.{WaitingState, waiting_in, places_in, label_of, after_trying}
use Rattle.dependencies.specs.Attempts.{all_waiting}
use Rattle.dependencies.proofs.PickedLemmas.{all_picked, as_many, picked}
use Rattle.service_control.specs.State.{labels_of}
use Rattle.service_control.specs.Turns.{turns, starts_of}
use Rattle.service_control.proofs.SpreadState.{none}
use Rattle.check_laws.proofs.TurnLemmas.{Ran, none_ran, with_new, run, IsPhase, ran, ran_phase}
use Rattle.check_laws.proofs.RowLemmas.{stands_at}

abbrev itself : Need → Need
itself n = n

map_same : (xs : List Need) → map itself xs ≡ xs
map_same [] = refl
map_same (x ∷ xs) = ap (λ (l : List Need). x ∷ l) (map_same xs)

abbrev Goes : ℕ → Type 0
Goes n = (w : WaitingState) → filter_map (slice_get w.needs) (turns n w) ≡ (run itself n w.started (waiting_in w)).new

abbrev one_run : ℕ → WaitingState → ℕ → Option Need → Ran Need
one_run n w k o =
    option_map_or (λ x. with_new x (run itself n (w.started ++ label_of x ∷ []) (remove (waiting_in w) k))) o (none_ran (waiting_in w))

turn_one : (n : ℕ) → Goes n → (w : WaitingState) (k at : ℕ) (x : Need) → slice_get (places_in w) k ≡ Some at
    → slice_get (waiting_in w) k ≡ Some x
    → cons_option (slice_get w.needs at) (filter_map (slice_get w.needs) (turns n (after_trying w at true)))
    ≡ (one_run n w k (slice_get (waiting_in w) k)).new
turn_one n rest w k at x place is =
    let p = picked w.waits w.needs 0 k at place in
    let here : p.j ≡ at = omega (arith, p.here) in
    let entry : slice_get w.needs at ≡ Some x = ap (slice_get w.needs) (sym here) ∙ sym p.same ∙ is in
    let others : waiting_in (after_trying w at true) ≡ remove (waiting_in w) k =
    ap (λ j. items_where_true (set w.waits j false) w.needs) (sym here) ∙ p.others in
    let labels : (after_trying w at true).started ≡ w.started ++ label_of x ∷ [] =
    ap (λ (o : Option Need). w.started ++ option_to_list (option_map label_of o)) entry in
    ap (λ (o : Option Need). cons_option o (filter_map (slice_get w.needs) (turns n (after_trying w at true)))) entry
    ∙ ap (λ (l : List Need). x ∷ l) (rest (after_trying w at true) ∙ (λ j. (run itself n (labels j) (others j)).new))
    ∙ sym (ap (λ (o : Option Need). (one_run n w k o).new) is)

turn_next : (n : ℕ) → Goes n → (w : WaitingState) (o : Option ℕ) → next_of w.started (waiting_in w) ≡ o
    → filter_map (slice_get w.needs) (option_map_or (λ at. at ∷ turns n (after_trying w at true)) (option_and_then (slice_get (places_in w)) o) [])
    ≡ (option_map_or (λ k. one_run n w k (slice_get (waiting_in w) k)) o (none_ran (waiting_in w))).new
turn_next n rest w None next = refl
turn_next n rest w (Some k) next =
    let lt = (position-Some (is_ready w.started) (waiting_in w) k none next).0 in
    let at = stands_at (places_in w) k (omega (arith, lt, as_many w.waits w.needs 0)) in
    let x = stands_at (waiting_in w) k lt in
    ap (λ (o : Option ℕ). filter_map (slice_get w.needs) (option_map_or (λ at. at ∷ turns n (after_trying w at true)) o [])) at.1
    ∙ turn_one n rest w k at.0 x.0 at.1 x.1

turn_all : (n : ℕ) → Goes n
unfolding run turns
turn_all zero w = refl
turn_all (suc n) w =
    turn_next n (turn_all n) w (next_of w.started (waiting_in w)) refl
    ∙ ap (λ (ws : List Need). (option_map_or (λ k. one_run n w k (slice_get (waiting_in w) k)) (next_of w.started ws) (none_ran (waiting_in w))).new)
    (sym (map_same (waiting_in w)))

starts_run : (needs : List Need) (started : List Label) → starts_of needs started ≡ (run itself (length needs) started needs).new
starts_run needs started =
    turn_all (length needs) (all_waiting needs started)
    ∙ ap (λ (ws : List Need). (run itself (length needs) started ws).new) (all_picked needs)

-- those that start of the needs, those that are left, and how many they are
pub record IsStarts (needs pre : List Need) : Type 0 where
  pub left : List Need
  pub phase : IsPhase (Contains needs) pre (starts_of needs (labels_of pre)) left
  pub count : length (starts_of needs (labels_of pre)) + length left ≡ length needs

same_length : (n : ℕ) → n ≤ n
same_length n = omega arith

pub starts : (needs pre : List Need) → IsStarts needs pre
starts needs pre =
    let r : Ran Need = run itself (length needs) (labels_of pre) needs in
    let done = ran itself (length needs) (labels_of pre) pre needs refl (same_length (length needs)) in
    let phase = ran_phase itself pre needs r.new r.left done in
    let new : map itself r.new ≡ starts_of needs (labels_of pre) = map_same r.new ∙ sym (starts_run needs (labels_of pre)) in
    let same : length (starts_of needs (labels_of pre)) ≡ length r.new = ap length (starts_run needs (labels_of pre)) in
    record {
      left = r.left;
      phase = subst (λ (l : List Need). IsPhase (Contains needs) pre (starts_of needs (labels_of pre)) l) (map_same r.left)
          (subst (λ (l : List Need). IsPhase (Contains needs) pre l (map itself r.left)) new
          (subst (λ (l : List Need). IsPhase (Contains l) pre (map itself r.new) (map itself r.left)) (map_same needs) phase));
      count = omega (arith, done.count, same);
    }
