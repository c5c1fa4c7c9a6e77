-- A walk that can always go on comes back.
use Rattle.std.proofs.Common.{◌≡◌, ◌⊎◌, ℕ, zero, suc, ◌<◌, nat_eq, Bool, true, false, not, ◌&&◌, ◌||◌, List, [], ◌∷◌, ◌++◌, length, drop, set, cond, Option, Some, None, refl, sym, ap, subst, ◌∙◌, inl, inr, arith}
use Rattle.std.specs.Prelude.{Contains, position, count_by, find}
use Rattle.std.specs.Option.{option_map_or, is_some}
use Rattle.std.specs.List.{list_any, list_all}
use Rattle.indexmap.specs.IndexSet.{insert_all, insert_key}
use Rattle.std.proofs.lemmas.Bool.{false≢true, cases_Bool, eq-eqb, eqb-true}
use Rattle.std.proofs.lemmas.List.{length-set}
use Rattle.std.proofs.lemmas.List.Elements.{Contains-push, Contains-push_cases, Contains-append_left}
use Rattle.std.proofs.lemmas.List.Quantifiers.{position-Some}
use Rattle.boot_phases.proofs.TriedLemmas.{some_place}
use Rattle.start_model.specs.Demand.{member, all_sets}
use Rattle.dependencies.proofs.PulledLemmas.{then_true, then_gives, all_below}
use Rattle.wait_cycles.specs.Waits.{needs_at}
use Rattle.wait_cycles.proofs.InverseLemmas.{none_in}
use Rattle.wait_cycles.proofs.ReachLemmas.{one_fewer, set_mark}
use Rattle.wait_cycles.proofs.MetLemmas.{first_in, later_in, any_from, any_gives, all_from, all_gives, all_weaker, any_weaker}
use Rattle.why_lacks.specs.why_cycle.Freed.{frees, has_freed, is_freed}
use Rattle.why_lacks.specs.why_cycle.Walk.{gone_round}

-- ---- a place in a list

pub place_of : (xs : List ℕ) (x : ℕ) → Contains xs x → (k : ℕ) × (position (nat_eq x) xs ≡ Some k)
place_of xs x c = by (position (nat_eq x) xs) refl
  where
    by : (o : Option ℕ) → position (nat_eq x) xs ≡ o → (k : ℕ) × (position (nat_eq x) xs ≡ Some k)
    by (Some k) is = (k, is)
    by None is =
        absurd (false≢true (sym (ap is_some is) ∙ some_place (nat_eq x) xs ∙ any_from (nat_eq x) xs x c (eq-eqb x x refl)))

-- ---- items that are put in

pub put_keeps : (ks xs : List ℕ) (x : ℕ) → Contains ks x → Contains (insert_all nat_eq ks xs) x
put_keeps ks [] x c = c
put_keeps ks (y ∷ xs) x c = by (list_any (nat_eq y) ks) (λ ks c. put_keeps ks xs x c)
  where
    by : (b : Bool) → ((ks : List ℕ) → Contains ks x → Contains (insert_all nat_eq ks xs) x)
        → Contains (insert_all nat_eq (cond b ks (ks ++ y ∷ [])) xs) x
    by true deep = deep ks c
    by false deep = deep (ks ++ y ∷ []) (Contains-append_left ks (y ∷ []) x c)

pub put_in : (ks xs : List ℕ) (x : ℕ) → Contains xs x → Contains (insert_all nat_eq ks xs) x
put_in ks [] x c = absurd (none_in x c)
put_in ks (y ∷ xs) x (suc k, lt, e) = put_in (insert_key nat_eq ks y) xs x (k, omega (arith, lt), e)
put_in ks (y ∷ xs) x (zero, lt, e) =
    put_keeps (insert_key nat_eq ks y) xs x (subst (λ (z : ℕ). Contains (insert_key nat_eq ks y) z) e (here (list_any (nat_eq y) ks) refl))
  where
    here : (b : Bool) → list_any (nat_eq y) ks ≡ b → Contains (cond b ks (ks ++ y ∷ [])) y
    here true is =
        let a = any_gives (nat_eq y) ks is in subst (λ (z : ℕ). Contains ks z) (sym (eqb-true y a.0 a.2)) a.1
    here false is = Contains-push ks y

pub put_only : (ks xs : List ℕ) (x : ℕ) → Contains (insert_all nat_eq ks xs) x → Contains ks x ⊎ Contains xs x
put_only ks [] x c = inl c
put_only ks (y ∷ xs) x c = elim (put_only (insert_key nat_eq ks y) xs x c) [
  | inl i ↦ by (list_any (nat_eq y) ks) i
  | inr i ↦ inr (later_in y xs x i)
]
  where
    by : (b : Bool) → Contains (cond b ks (ks ++ y ∷ [])) x → Contains ks x ⊎ Contains (y ∷ xs) x
    by true i = inl i
    by false i = elim (Contains-push_cases ks y x i) [
      | inl old ↦ inl old
      | inr e ↦ inr (subst (λ (z : ℕ). Contains (y ∷ xs) z) e (first_in y xs))
    ]

pub put_listed : (xs : List ℕ) (x : ℕ) → Contains (insert_all nat_eq [] xs) x → Contains xs x
put_listed xs x c = elim (put_only [] xs x c) [
  | inl none ↦ absurd (none_in x none)
  | inr c ↦ c
]

-- the first one stays the first
pub put_first : (k : ℕ) (ks xs : List ℕ) → (rest : List ℕ) × (insert_all nat_eq (k ∷ ks) xs ≡ k ∷ rest)
put_first k ks [] = (ks, refl)
put_first k ks (y ∷ xs) = by (list_any (nat_eq y) (k ∷ ks)) (λ ks. put_first k ks xs)
  where
    by : (b : Bool) → ((ks : List ℕ) → (rest : List ℕ) × (insert_all nat_eq (k ∷ ks) xs ≡ k ∷ rest))
        → (rest : List ℕ) × (insert_all nat_eq (cond b (k ∷ ks) ((k ∷ ks) ++ y ∷ [])) xs ≡ k ∷ rest)
    by true deep = deep ks
    by false deep = deep (ks ++ y ∷ [])

-- ---- the least set

-- it has each item that it frees
pub freed_closed : (waits : List (List (List ℕ))) (p : ℕ) → p < length waits → frees waits (is_freed waits) p ≡ true → is_freed waits p ≡ true
unfolding is_freed
freed_closed waits p lt free =
    all_from (λ s. not (has_freed waits (member s)) || member s p) (all_sets (length waits)) (λ s i.
    then_true (has_freed waits (member s)) (member s p) (λ closed.
    then_gives (frees waits (member s) p) (member s p)
    (all_below (λ p. not (frees waits (member s) p) || member s p) (length waits) p lt closed)
    (all_weaker (λ ways. list_any (is_freed waits) ways) (λ ways. list_any (member s) ways) (needs_at waits p) (λ ways j.
    any_weaker (is_freed waits) (member s) ways (λ q k on.
    then_gives (has_freed waits (member s)) (member s q)
    (all_gives (λ s. not (has_freed waits (member s)) || member s q) (all_sets (length waits)) s on i) closed)) free)))

-- ---- the walk

-- the first that fails is found
pub first_failed : (q : List ℕ → Bool) (xs : List (List ℕ)) → list_all q xs ≡ false
    → (x : List ℕ) × (find (λ x. not (q x)) xs ≡ Some x) × Contains xs x × (q x ≡ false)
first_failed q [] h = absurd (false≢true (sym h))
first_failed q (x ∷ xs) h = by (q x) refl h (first_failed q xs)
  where
    by : (b : Bool) → q x ≡ b → (b && list_all q xs) ≡ false
        → (list_all q xs ≡ false → (y : List ℕ) × (find (λ x. not (q x)) xs ≡ Some y) × Contains xs y × (q y ≡ false))
        → (y : List ℕ) × (cond (not b) (Some x) (find (λ x. not (q x)) xs) ≡ Some y) × Contains (x ∷ xs) y × (q y ≡ false)
    by true is h deep = let r = deep h in (r.0, r.1, later_in x xs r.0 r.2, r.3)
    by false is h deep = (x, refl, first_in x xs, is)

dropped : (i : ℕ) (path : List ℕ) → i < length path → (x : ℕ) × (xs : List ℕ) × (drop i path ≡ x ∷ xs)
dropped i [] lt = absurd (omega (arith, lt))
dropped zero (x ∷ path) lt = (x, path, refl)
dropped (suc i) (x ∷ path) lt = dropped i path (omega (arith, lt))

-- where each good place leads to a good one of a number of them, a walk from one comes back
module _ (next : ℕ → Option ℕ) (count : ℕ) (Good : ℕ → Type 0) (within : (p : ℕ) → Good p → p < count)
    (on : (p : ℕ) → Good p → (q : ℕ) × (next p ≡ Some q) × Good q) where
  pub comes_back : (fuel : ℕ) (path : List ℕ) (p : ℕ) (marks : List Bool) → Good p → length marks ≡ count
      → ((k : ℕ) → member marks k ≡ true → Contains path k) → count_by not marks < fuel
      → (x : ℕ) × (xs : List ℕ) × (gone_round next fuel path p ≡ x ∷ xs)
  unfolding gone_round
  comes_back zero path p marks good len marked few = absurd (omega (arith, few))
  comes_back (suc fuel) path p marks good len marked few =
      by (position (nat_eq p) path) refl (on p good) (comes_back fuel (path ++ p ∷ []))
    where
      went : (q : ℕ) → next p ≡ Some q → (x : ℕ) × (xs : List ℕ) × (gone_round next fuel (path ++ p ∷ []) q ≡ x ∷ xs)
          → (x : ℕ) × (xs : List ℕ) × (option_map_or (gone_round next fuel (path ++ p ∷ [])) (next p) [] ≡ x ∷ xs)
      went q is r = (r.0, r.1, ap (λ (o : Option ℕ). option_map_or (gone_round next fuel (path ++ p ∷ [])) o []) is ∙ r.2)

      by : (o : Option ℕ) → position (nat_eq p) path ≡ o → (step : (q : ℕ) × (next p ≡ Some q) × Good q)
          → ((q : ℕ) (marks : List Bool) → Good q → length marks ≡ count → ((k : ℕ) → member marks k ≡ true → Contains (path ++ p ∷ []) k)
          → count_by not marks < fuel → (x : ℕ) × (xs : List ℕ) × (gone_round next fuel (path ++ p ∷ []) q ≡ x ∷ xs))
          → (x : ℕ) × (xs : List ℕ)
          × (option_map_or (λ at. drop at path) o (option_map_or (gone_round next fuel (path ++ p ∷ [])) (next p) []) ≡ x ∷ xs)
      by (Some i) at step deep = dropped i path (position-Some (nat_eq p) path i 0 at).0
      by None at step deep =
          let off : member marks p ≡ false = elim (cases_Bool (member marks p)) [
            | inl is ↦ (let z = place_of path p (marked p is) in let none : ◌≡◌ {A = Option ℕ} None (Some z.0) = sym at ∙ z.1 in absurd cc)
            | inr is ↦ is
          ] in
          let fewer = one_fewer marks p (omega (arith, len, within p good)) off in
          let r = deep step.0 (set marks p true) step.2 (length-set marks p true ∙ len)
          (λ k is. elim (set_mark marks p k is) [
            | inl old ↦ Contains-append_left path (p ∷ []) k (marked k old)
            | inr e ↦ subst (λ (z : ℕ). Contains (path ++ p ∷ []) z) (sym e) (Contains-push path p)
          ]) (omega (arith, fewer, few)) in
          went step.0 step.1 r
