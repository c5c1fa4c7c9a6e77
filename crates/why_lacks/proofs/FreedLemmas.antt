-- What is met in the graph is the least set of freed items.
use Rattle.std.proofs.Common.{◌≡◌, ℕ, zero, suc, ◌<◌, ◌≤◌, Bool, true, false, not, ◌&&◌, ◌||◌, List, [], ◌∷◌, length, take, map, get_or, cond, refl, sym, ap, ◌∙◌, inl, inr, arith}
use Rattle.std.specs.Prelude.{nat_lt}
use Rattle.std.specs.List.{list_any, list_all, range_with_len}
use Rattle.std.proofs.lemmas.Bool.{cases_lt, lt-ltb, le-ltb}
use Rattle.std.proofs.lemmas.List.{get_or-take, length-map, length-take-le}
use Rattle.start_model.specs.Demand.{member, all_sets}
use Rattle.dependencies.proofs.PulledLemmas.{then_true, then_gives, same_bool, all_true, all_below, sets_have}
use Rattle.dependencies.proofs.KeptLemmas.{within_waits}
use Rattle.wait_cycles.specs.Waits.{needs_at}
use Rattle.wait_cycles.specs.Graph.{row_at, AreWaits, waits_in, IsMetBy, IsMet}
use Rattle.wait_cycles.proofs.MetLemmas.{all_from, all_gives, any_gives, any_from, range_in, ripe_by_all, ripe_by_one, ripe_all, ripe_one}
use Rattle.why_lacks.specs.why_cycle.Freed.{frees, has_freed, is_freed}

-- ---- lists

mapped_at : {X Y : Type 0} (f : X → Y) (xs : List X) (i : ℕ) (d : X) (e : Y) → i < length xs
    → get_or (map f xs) i e ≡ f (get_or xs i d)
mapped_at f [] i d e lt = absurd (omega (arith, lt))
mapped_at f (x ∷ xs) zero d e lt = refl
mapped_at f (x ∷ xs) (suc i) d e lt = mapped_at f xs i d e (omega (arith, lt))

all_map : {X Y : Type 0} (p : Y → Bool) (f : X → Y) (xs : List X) → list_all p (map f xs) ≡ list_all (λ x. p (f x)) xs
all_map p f [] = refl
all_map p f (x ∷ xs) = ap (λ b. p (f x) && b) (all_map p f xs)

-- the first of the marks
front_marked : (n : ℕ) (marks : List Bool) (p : ℕ) → n ≤ length marks → member (take n marks) p ≡ true → (p < n) × (member marks p ≡ true)
front_marked n marks p fits on =
    let lt : p < n = omega (arith, within_waits (take n marks) p on, length-take-le n marks fits) in
    (lt, sym (get_or-take n marks p false lt) ∙ on)

marked_front : (n : ℕ) (marks : List Bool) (p : ℕ) → p < n → member marks p ≡ true → member (take n marks) p ≡ true
marked_front n marks p lt on = get_or-take n marks p false lt ∙ on

module _ (rows : List (List ℕ)) (places : ℕ) (marks : List Bool) (waits : AreWaits places rows) (met : IsMet rows places marks) where
  length-waits : length (waits_in places rows) ≡ places
  length-waits = length-map (take places rows) (λ needs. map (row_at rows) needs) ∙ length-take-le places rows waits.fits

  needs_are : (p : ℕ) → p < places → needs_at (waits_in places rows) p ≡ map (row_at rows) (row_at rows p)
  needs_are p lt =
      mapped_at (λ needs. map (row_at rows) needs) (take places rows) p [] []
      (omega (arith, lt, length-take-le places rows waits.fits))
      ∙ ap (map (row_at rows)) (get_or-take places rows p [] lt)

  -- a set frees an item where each need has a way in it
  frees_is : (set : ℕ → Bool) (p : ℕ) → p < places
      → frees (waits_in places rows) set p ≡ list_all (λ v. list_any set (row_at rows v)) (row_at rows p)
  frees_is set p lt =
      ap (list_all (λ ways. list_any set ways)) (needs_are p lt)
      ∙ all_map (λ ways. list_any set ways) (row_at rows) (row_at rows p)

  -- ---- what is marked is closed

  front : List Bool
  front = take places marks

  length-front : length front ≡ places
  unfolding front
  length-front = length-take-le places marks (omega (arith, met.len, waits.fits))

  in_front : (p : ℕ) → p < places → member marks p ≡ true → member front p ≡ true
  unfolding front
  in_front p lt on = marked_front places marks p lt on

  front_in : (p : ℕ) → member front p ≡ true → (p < places) × (member marks p ≡ true)
  unfolding front
  front_in p on = front_marked places marks p (omega (arith, met.len, waits.fits)) on

  marks_free : (p : ℕ) → p < places → frees (waits_in places rows) (member front) p ≡ true → member front p ≡ true
  marks_free p lt h =
      in_front p lt (met.closed p (omega (arith, lt, waits.fits)) (ripe_by_all rows places (member marks) p lt (λ v edge.
      (let need = waits.needs p v lt edge in
      let way = any_gives (member front) (row_at rows v)
      (all_gives (λ v. list_any (member front) (row_at rows v)) (row_at rows p) v (sym (frees_is (member front) p lt) ∙ h) edge) in
      met.closed v need.1 (ripe_by_one rows places (member marks) v way.0 need.0 way.1 (front_in way.0 way.2).1)))))

  marks_closed : has_freed (waits_in places rows) (member front) ≡ true
  marks_closed =
      all_from (λ p. not (frees (waits_in places rows) (member front) p) || member front p)
      (range_with_len 0 (length (waits_in places rows))) (λ p i.
      then_true (frees (waits_in places rows) (member front) p) (member front p)
      (marks_free p (omega (arith, range_in (length (waits_in places rows)) p i, length-waits))))

  -- ---- what is marked is in each closed set

  -- the set, and the needs that have a way there
  widened : List Bool → ℕ → Bool
  widened s v = cond (nat_lt v places) (member s v) (list_any (member s) (row_at rows v))

  widened_item : (s : List Bool) (v : ℕ) → v < places → widened s v ≡ member s v
  unfolding widened
  widened_item s v lt = ap (λ b. cond b (member s v) (list_any (member s) (row_at rows v))) (lt-ltb v places lt)

  widened_need : (s : List Bool) (v : ℕ) → places ≤ v → widened s v ≡ list_any (member s) (row_at rows v)
  unfolding widened
  widened_need s v ge = ap (λ b. cond b (member s v) (list_any (member s) (row_at rows v))) (le-ltb v places ge)

  closed_by : (s : List Bool) → has_freed (waits_in places rows) (member s) ≡ true → IsMetBy rows places (widened s)
  closed_by s closed u lt ripe = elim (cases_lt u places) [
    | inl small ↦ widened_item s u small
        ∙ then_gives (frees (waits_in places rows) (member s) u) (member s u)
        (all_below (λ p. not (frees (waits_in places rows) (member s) p) || member s p) (length (waits_in places rows)) u
        (omega (arith, small, length-waits)) closed)
        (frees_is (member s) u small
        ∙ all_from (λ v. list_any (member s) (row_at rows v)) (row_at rows u) (λ v edge.
        sym (widened_need s v (waits.needs u v small edge).0) ∙ ripe_all rows places (widened s) u v small ripe edge))
    | inr ge ↦ (let way = ripe_one rows places (widened s) u ge ripe in
        widened_need s u ge ∙ any_from (member s) (row_at rows u) way.0 way.1
        (sym (widened_item s way.0 (waits.ways u way.0 ge way.1)) ∙ way.2))
  ]

  marked_each : (p : ℕ) → member front p ≡ true → (s : List Bool) → has_freed (waits_in places rows) (member s) ≡ true
      → member s p ≡ true
  marked_each p on s closed =
      let is = front_in p on in
      sym (widened_item s p is.0) ∙ met.least (widened s) (closed_by s closed) p is.1

  -- ---- the whole

  freed_gives : (p : ℕ) → is_freed (waits_in places rows) p ≡ true → member front p ≡ true
  unfolding is_freed
  freed_gives p h =
      let test : List Bool → Bool = λ s. not (has_freed (waits_in places rows) (member s)) || member s p in
      then_gives (has_freed (waits_in places rows) (member front)) (member front p)
      (sets_have test front (ap (λ k. list_all test (all_sets k)) (length-front ∙ sym length-waits) ∙ h)) marks_closed

  freed_from : (p : ℕ) → member front p ≡ true → is_freed (waits_in places rows) p ≡ true
  unfolding is_freed
  freed_from p on =
      all_true (λ s. not (has_freed (waits_in places rows) (member s)) || member s p) (all_sets (length (waits_in places rows)))
      (λ s. then_true (has_freed (waits_in places rows) (member s)) (member s p) (marked_each p on s))

  pub front_is : (p : ℕ) → member (take places marks) p ≡ is_freed (waits_in places rows) p
  unfolding front
  front_is p = same_bool (member front p) (is_freed (waits_in places rows) p) (freed_from p) (freed_gives p)

-- the marks of the items
pub freed_are : (rows : List (List ℕ)) (places : ℕ) (marks cut : List Bool) → AreWaits places rows → IsMet rows places marks
    → cut ≡ take places marks → member cut ≡ is_freed (waits_in places rows)
freed_are rows places marks cut waits met first = ap member first ∙ (λ j p. front_is rows places marks waits met p j)
