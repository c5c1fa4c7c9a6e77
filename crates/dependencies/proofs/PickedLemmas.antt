-- The entries that wait, among all entries of a phase; the two ways to the next one lead to the same.
use Rattle.std.proofs.Common.{◌≡◌, ℕ, zero, suc, ◌+◌, ◌<◌, Bool, true, false, List, [], ◌∷◌, ◌++◌, length, set, replicate, Option, Some, None, refl, sym, ap, ◌∙◌, arith}
use Rattle.std.specs.Prelude.{slice_get, remove, if◌then◌else◌}
use Rattle.std.specs.List.{items_where_true, range_with_len}
use Rattle.std.specs.Option.{option_map, option_map_or, option_and_then, option_to_list}
use Rattle.std.proofs.lemmas.Bool.{false≢true}
use Rattle.std.proofs.lemmas.List.Quantifiers.{position-Some}
use Rattle.start_model.specs.Demand.{Need}
use Rattle.start_model.specs.Ready.{Label, is_ready, next_of}
use Rattle.dependencies.specs.Waiting.{WaitingState, waiting_in, places_in, label_of, labels_at, after_trying}
use Rattle.dependencies.specs.Attempts.{all_waiting, tried_by_place, tried_plainly}

-- ---- the items that are picked

pub all_picked : {X : Type 0} (xs : List X) → items_where_true (replicate (length xs) true) xs ≡ xs
all_picked [] = refl
all_picked (x ∷ xs) = ap (λ l. x ∷ l) (all_picked xs)

pub as_many : {X : Type 0} (bs : List Bool) (xs : List X) (i : ℕ)
    → length (items_where_true bs (range_with_len i (length xs))) ≡ length (items_where_true bs xs)
as_many [] xs i = refl
as_many (b ∷ bs) [] i = refl
as_many (true ∷ bs) (x ∷ xs) i = ap suc (as_many bs xs (i + 1))
as_many (false ∷ bs) (x ∷ xs) i = as_many bs xs (i + 1)

-- the k-th of those that are picked, and the others
pub record IsPicked {X : Type 0} (bs : List Bool) (xs : List X) (i k at : ℕ) : Type 0 where
  pub j : ℕ
  pub here : at ≡ i + j
  pub within : j < length xs
  pub same : slice_get (items_where_true bs xs) k ≡ slice_get xs j
  pub others : items_where_true (set bs j false) xs ≡ remove (items_where_true bs xs) k

pub some_is : (a b : ℕ) → Some a ≡ Some b → a ≡ b
some_is a b e = cc

-- what is picked at place k is at some place of the list, and without it the others stay
pub picked : {X : Type 0} (bs : List Bool) (xs : List X) (i k at : ℕ)
    → slice_get (items_where_true bs (range_with_len i (length xs))) k ≡ Some at → IsPicked bs xs i k at
picked [] xs i k at h = absurd cc
picked (b ∷ bs) [] i k at h = absurd cc
picked (true ∷ bs) (x ∷ xs) i zero at h =
    record {
      j = 0;
      here = (let e = some_is i at h in omega (arith, e));
      within = omega arith;
      same = refl;
      others = refl;
    }
picked (true ∷ bs) (x ∷ xs) i (suc k) at h =
    let p = picked bs xs (i + 1) k at h in
    record {
      j = suc p.j;
      here = omega (arith, p.here);
      within = omega (arith, p.within);
      same = p.same;
      others = ap (λ l. x ∷ l) p.others;
    }
picked (false ∷ bs) (x ∷ xs) i k at h =
    let p = picked bs xs (i + 1) k at h in
    record {
      j = suc p.j;
      here = omega (arith, p.here);
      within = omega (arith, p.within);
      same = p.same;
      others = p.others;
    }

-- ---- one attempt after another

none_within : (xs : List ℕ) (k : ℕ) → k < length xs → slice_get xs k ≡ None → (b : Bool) → b ≡ true
none_within [] k lt h b = absurd (omega (arith, lt))
none_within (x ∷ xs) zero lt h b = absurd cc
none_within (x ∷ xs) (suc k) lt h b = none_within xs k (omega (arith, lt)) h b

-- what the plain way attempts, and then
abbrev plain_step : Bool → List Bool → List Label → List Need → ℕ → List Need
plain_step ok oks started waiting k =
    option_to_list (slice_get waiting k)
    ++ tried_plainly oks (if ok then started ++ labels_at waiting k else started) (remove waiting k)

-- what the way by places attempts, and then
abbrev place_step : Bool → List Bool → WaitingState → ℕ → List Need
place_step ok oks w place = option_to_list (slice_get w.needs place) ++ tried_by_place oks (after_trying w place ok)

-- one attempt is the same by both ways, if what follows it is
same_step : (oks : List Bool) → ((w : WaitingState) → tried_by_place oks w ≡ tried_plainly oks w.started (waiting_in w))
    → (w : WaitingState) (ok : Bool) (k place : ℕ) → slice_get (places_in w) k ≡ Some place
    → place_step ok oks w place ≡ plain_step ok oks w.started (waiting_in w) k
same_step oks rest w ok k place h =
    let p = picked w.waits w.needs 0 k place h in
    let here : p.j ≡ place = omega (arith, p.here) in
    let entry : slice_get w.needs place ≡ slice_get (waiting_in w) k = sym (p.same ∙ ap (slice_get w.needs) here) in
    let others : waiting_in (after_trying w place ok) ≡ remove (waiting_in w) k =
    ap (λ j. items_where_true (set w.waits j false) w.needs) (sym here) ∙ p.others in
    let labels : labels_at w.needs place ≡ labels_at (waiting_in w) k =
    ap (λ o. option_to_list (option_map label_of o)) entry in
    ap (λ o. option_to_list o ++ tried_by_place oks (after_trying w place ok)) entry
    ∙ ap (λ l. option_to_list (slice_get (waiting_in w) k) ++ l)
    (rest (after_trying w place ok)
    ∙ ap (tried_plainly oks (if ok then w.started ++ labels_at w.needs place else w.started)) others
    ∙ ap (λ l. tried_plainly oks (if ok then w.started ++ l else w.started) (remove (waiting_in w) k)) labels)

at_place : (oks : List Bool) → ((w : WaitingState) → tried_by_place oks w ≡ tried_plainly oks w.started (waiting_in w))
    → (w : WaitingState) (ok : Bool) (k : ℕ) (o : Option ℕ) → k < length (places_in w) → slice_get (places_in w) k ≡ o
    → option_map_or (place_step ok oks w) o [] ≡ plain_step ok oks w.started (waiting_in w) k
at_place oks rest w ok k None lt h = absurd (false≢true (none_within (places_in w) k lt h false))
at_place oks rest w ok k (Some place) lt h = same_step oks rest w ok k place h

-- so it is at the next ready entry; where none is ready both ways end
at_next : (oks : List Bool) → ((w : WaitingState) → tried_by_place oks w ≡ tried_plainly oks w.started (waiting_in w))
    → (w : WaitingState) (ok : Bool) (o : Option ℕ) → next_of w.started (waiting_in w) ≡ o
    → option_map_or (place_step ok oks w) (option_and_then (slice_get (places_in w)) o) []
    ≡ option_map_or (plain_step ok oks w.started (waiting_in w)) o []
at_next oks rest w ok None h = refl
at_next oks rest w ok (Some k) h = at_place oks rest w ok k (slice_get (places_in w) k) within refl
  where
    none : Need
    none = record { name = []; start = 0; group = None; services = []; groups = [] }

    within : k < length (places_in w)
    within = omega (arith, as_many w.waits w.needs 0, (position-Some (is_ready w.started) (waiting_in w) k none h).0)

-- both ways attempt the same entries
tried_alike : (oks : List Bool) (w : WaitingState) → tried_by_place oks w ≡ tried_plainly oks w.started (waiting_in w)
tried_alike [] w = refl
tried_alike (ok ∷ oks) w = at_next oks (tried_alike oks) w ok (next_of w.started (waiting_in w)) refl

-- so from the start of a phase both ways attempt the same
pub both_ways : (needs : List Need) (started : List Label) (oks : List Bool)
    → tried_by_place oks (all_waiting needs started) ≡ tried_plainly oks started needs
both_ways needs started oks =
    tried_alike oks (all_waiting needs started) ∙ ap (tried_plainly oks started) (all_picked needs)
