-- What the two ways of saying a closed set have to do with each other.
use Rattle.std.proofs.Common.{◌≡◌, ℕ, zero, suc, ◌+◌, ◌<◌, Bool, nat_eq, true, false, not, ◌&&◌, ◌||◌, List, [], ◌∷◌, ◌++◌, length, get_or, map, filter, Option, Some, None, refl, sym, ap, ◌∙◌, inl, inr, cond, add-zero, zero-add, add-one, append-nil, arith}
use Rattle.std.specs.Prelude.{slice_get}
use Rattle.std.specs.Option.{option_map_or}
use Rattle.std.specs.List.{list_any, list_all, range_with_len}
use Rattle.std.proofs.lemmas.Bool.{false≢true, and_parts, and_from, or_cases, or_left, or_right}
use Rattle.std.proofs.lemmas.List.Folds.{list_all-append, list_all-map, list_any_at}
use Rattle.std.proofs.lemmas.List.FromFn.{get_or-range_with_len, length-range_with_len, get_or-map-range_with_len, length-map-range_with_len}
use Rattle.std.proofs.lemmas.List.Sums.{AllPass-from_list_all}
use Rattle.std.proofs.lemmas.List.Elements.{filter_agree, filter-append}
use Rattle.nt_bytes.specs.Folding.{folds_same}
use Rattle.start_model.specs.Demand.{Need}
use Rattle.start_model.specs.Demand.{starts_at, pulls, IsClosed, is_due, is_closed, member, all_sets, is_taken, automatic_of}
use Rattle.dependencies.specs.Work.{IsLeast}

-- `not a || b` is "if a then b"
pub then_true : (a b : Bool) → (a ≡ true → b ≡ true) → (not a || b) ≡ true
then_true true b f = f refl
then_true false b f = refl

pub then_gives : (a b : Bool) → (not a || b) ≡ true → a ≡ true → b ≡ true
then_gives true b h g = h
then_gives false b h g = absurd (false≢true g)

pub same_bool : (a b : Bool) → (a ≡ true → b ≡ true) → (b ≡ true → a ≡ true) → a ≡ b
same_bool true b f g = sym (f refl)
same_bool false true f g = g refl
same_bool false false f g = refl

pub all_true : {X : Type 0} (p : X → Bool) (xs : List X) → ((x : X) → p x ≡ true) → list_all p xs ≡ true
all_true p [] f = refl
all_true p (x ∷ xs) f = and_from (p x) (list_all p xs) (f x) (all_true p xs f)

pub all_below : (p : ℕ → Bool) (n q : ℕ) → q < n → list_all p (range_with_len 0 n) ≡ true → p q ≡ true
all_below p n q lt h =
    let at : get_or (range_with_len 0 n) q 0 ≡ q = omega (arith, get_or-range_with_len 0 n q 0 lt) in
    ap p (sym at) ∙ AllPass-from_list_all p (range_with_len 0 n) h q 0 (omega (arith, length-range_with_len 0 n))

pub any_below : (p : ℕ → Bool) (n q : ℕ) → q < n → p q ≡ true → list_any p (range_with_len 0 n) ≡ true
any_below p n q lt h =
    let at : get_or (range_with_len 0 n) q 0 ≡ q = omega (arith, get_or-range_with_len 0 n q 0 lt) in
    list_any_at p (range_with_len 0 n) q 0 (omega (arith, length-range_with_len 0 n)) (ap p at ∙ h)

-- each set of the places below n is among all sets
pub sets_have : (p : List Bool → Bool) (t : List Bool) → list_all p (all_sets (length t)) ≡ true → p t ≡ true
unfolding all_sets
sets_have p [] h = (and_parts (p []) true h).0
sets_have p (true ∷ t) h =
    let us = map (λ s. true ∷ s) (all_sets (length t)) in
    let vs = map (λ s. false ∷ s) (all_sets (length t)) in
    let e : (list_all p us && list_all p vs) ≡ true = sym (list_all-append p us vs) ∙ h in
    sets_have (λ s. p (true ∷ s)) t
    (sym (list_all-map p (λ s. true ∷ s) (all_sets (length t))) ∙ (and_parts (list_all p us) (list_all p vs) e).0)
sets_have p (false ∷ t) h =
    let us = map (λ s. true ∷ s) (all_sets (length t)) in
    let vs = map (λ s. false ∷ s) (all_sets (length t)) in
    let e : (list_all p us && list_all p vs) ≡ true = sym (list_all-append p us vs) ∙ h in
    sets_have (λ s. p (false ∷ s)) t
    (sym (list_all-map p (λ s. false ∷ s) (all_sets (length t))) ∙ (and_parts (list_all p us) (list_all p vs) e).1)

map_or_within : {X : Type 0} (f : X → Bool) (xs : List X) (i : ℕ) → option_map_or f (slice_get xs i) false ≡ true
    → i < length xs
map_or_within f [] i h = absurd (false≢true h)
map_or_within f (x ∷ xs) zero h = omega arith
map_or_within f (x ∷ xs) (suc i) h = omega (arith, map_or_within f xs i h)

pub starts_within : (table : List Need) (v q : ℕ) → starts_at table v q ≡ true → q < length table
starts_within table v q h = map_or_within (λ n. nat_eq n.start v) table q h

pub pulls_within : (table : List Need) (p q : ℕ) → pulls table p q ≡ true → (p < length table) × (q < length table)
pulls_within table p q h = (map_or_within _ table p h, inner (slice_get table p) h)
  where
    inner : (o : Option Need)
        → option_map_or (λ (a : Need). option_map_or
        (λ (b : Need). nat_eq b.start 3 && list_any (folds_same b.name) a.services) (slice_get table q) false) o false
        ≡ true → q < length table
    inner None h = absurd (false≢true h)
    inner (Some a) h = map_or_within _ table q h

-- a closed set has what any of its places pulls in
any_pulled : (table : List Need) (set : ℕ → Bool) (q : ℕ) (ps : List ℕ) → IsClosed table set
    → list_any (λ p. set p && pulls table p q) ps ≡ true → set q ≡ true
any_pulled table set q [] closed h = absurd (false≢true h)
any_pulled table set q (p ∷ ps) closed h =
    elim (or_cases (set p && pulls table p q) _ h) [
      | inl e ↦ closed.pulled p q (and_parts (set p) _ e).0 (and_parts (set p) _ e).1
      | inr e ↦ any_pulled table set q ps closed e
    ]

-- what is closed passes the test
closed_passes : (table : List Need) (set : ℕ → Bool) → IsClosed table set → is_closed table set ≡ true
closed_passes table set closed =
    all_true _ (range_with_len 0 (length table)) (λ q. then_true (is_due table set q) (set q) (λ due.
    elim (or_cases (starts_at table 2 q) _ due) [
      | inl e ↦ closed.starts q e
      | inr e ↦ any_pulled table set q (range_with_len 0 (length table)) closed e
    ]))

-- what passes the test is closed
passes_closed : (table : List Need) (set : ℕ → Bool) → is_closed table set ≡ true → IsClosed table set
passes_closed table set h = record {
  starts = λ q e. then_gives (is_due table set q) (set q)
      (all_below _ (length table) q (starts_within table 2 q e) h)
      (or_left (starts_at table 2 q) _ e);
  pulled = λ p q m e.
      let within = pulls_within table p q e in
      then_gives (is_due table set q) (set q)
      (all_below _ (length table) q within.1 h)
      (or_right (starts_at table 2 q) _
      (any_below (λ p. set p && pulls table p q) (length table) p within.0 (and_from (set p) _ m e)));
}

-- in all closed sets is what is in the least of them
pub is_taken-least : (table : List Need) (taken : List Bool) → IsLeast table taken → (q : ℕ)
    → is_taken table q ≡ member taken q
unfolding is_taken
is_taken-least table taken is q =
    same_bool (is_taken table q) (member taken q)
    (λ h. then_gives (is_closed table (member taken)) (member taken q)
    (sets_have (λ s. not (is_closed table (member s)) || member s q) taken (rw is.len h))
    (closed_passes table (member taken) is.closed))
    (λ m. all_true _ (all_sets (length table)) (λ s. then_true (is_closed table (member s)) (member s q)
    (λ c. is.least (member s) (passes_closed table (member s) c) q m)))

-- the places that are taken are those that are in the least set
pub automatic_of-least : (table : List Need) (taken : List Bool) → IsLeast table taken
    → automatic_of table ≡ filter (member taken) (range_with_len 0 (length table))
automatic_of-least table taken is = filter_agree _ _ (is_taken-least table taken is) (range_with_len 0 (length table))

range_suc : (a n : ℕ) → range_with_len a (suc n) ≡ range_with_len a n ++ (a + n) ∷ []
range_suc a zero = ap (λ k. k ∷ []) (sym (add-zero a))
range_suc a (suc n) =
    let e : a + 1 + n ≡ a + suc n = omega arith in
    ap (λ xs. a ∷ xs) (range_suc (a + 1) n ∙ ap (λ k. range_with_len (a + 1) n ++ k ∷ []) e)

-- a filtered range grows by its last place, if that passes
pub filter-range_more : (p : ℕ → Bool) (n : ℕ)
    → filter p (range_with_len 0 (n + 1)) ≡ filter p (range_with_len 0 n) ++ cond (p n) (n ∷ []) []
filter-range_more p n =
    let all : range_with_len 0 (n + 1) ≡ range_with_len 0 n ++ n ∷ [] =
    ap (range_with_len 0) (add-one n) ∙ range_suc 0 n ∙ ap (λ k. range_with_len 0 n ++ k ∷ []) (zero-add n) in
    ap (filter p) all ∙ filter-append p (range_with_len 0 n) (n ∷ [])

pub filter-range_push : (p : ℕ → Bool) (n : ℕ) (xs : List ℕ) → xs ≡ filter p (range_with_len 0 n) → p n ≡ true
    → xs ++ n ∷ [] ≡ filter p (range_with_len 0 (n + 1))
filter-range_push p n xs e t =
    ap (λ xs. xs ++ n ∷ []) e
    ∙ sym (filter-range_more p n ∙ ap (λ b. filter p (range_with_len 0 n) ++ cond b (n ∷ []) []) t)

pub filter-range_skip : (p : ℕ → Bool) (n : ℕ) (xs : List ℕ) → xs ≡ filter p (range_with_len 0 n) → p n ≡ false
    → xs ≡ filter p (range_with_len 0 (n + 1))
filter-range_skip p n xs e f =
    e ∙ sym (append-nil (filter p (range_with_len 0 n)))
    ∙ sym (filter-range_more p n ∙ ap (λ b. filter p (range_with_len 0 n) ++ cond b (n ∷ []) []) f)

from_all : {X : Type 0} (p : X → Bool) (xs : List X) (q : X → Bool) → list_all p xs ≡ true
    → ((x : X) → p x ≡ true → q x ≡ true) → list_all q xs ≡ true
from_all p [] q h f = refl
from_all p (x ∷ xs) q h f =
    and_from (q x) (list_all q xs) (f x (and_parts (p x) _ h).0) (from_all p xs q (and_parts (p x) _ h).1 f)

-- what is in each closed set is itself closed
pub is_taken-closed : (table : List Need) → IsClosed table (is_taken table)
unfolding is_taken
is_taken-closed table = record {
  starts = λ q e. all_true _ (all_sets (length table))
      (λ s. then_true (is_closed table (member s)) (member s q) (λ c. (passes_closed table (member s) c).starts q e));
  pulled = λ p q t e. from_all (λ s. not (is_closed table (member s)) || member s p) (all_sets (length table))
      (λ s. not (is_closed table (member s)) || member s q) t
      (λ s here. then_true (is_closed table (member s)) (member s q)
      (λ c. (passes_closed table (member s) c).pulled p q (then_gives (is_closed table (member s)) (member s p) here c)
      e));
}

pub listed_member : (set : ℕ → Bool) (n q : ℕ) → q < n → member (map set (range_with_len 0 n)) q ≡ set q
listed_member set n q lt = get_or-map-range_with_len set 0 n q q false lt (zero-add q)

-- and is part of each closed set, so it is the least of them
pub is_taken-least_of_all : (table : List Need) (set : ℕ → Bool) → IsClosed table set → (q : ℕ) → q < length table
    → is_taken table q ≡ true → set q ≡ true
unfolding is_taken
is_taken-least_of_all table set closed q lt t =
    let n = length table in
    let s = map set (range_with_len 0 n) in
    let len : length s ≡ n = length-map-range_with_len set 0 n in
    let is : IsClosed table (member s) = record {
      starts = λ q e. listed_member set n q (starts_within table 2 q e) ∙ closed.starts q e;
      pulled = λ p q m e.
          (let within = pulls_within table p q e in
          listed_member set n q within.1 ∙ closed.pulled p q (sym (listed_member set n p within.0) ∙ m) e);
    } in
    let test : List Bool → Bool = λ s. not (is_closed table (member s)) || member s q in
    let all : list_all test (all_sets (length s)) ≡ true = ap (λ k. list_all test (all_sets k)) len ∙ t in
    sym (listed_member set n q lt)
    ∙ then_gives (is_closed table (member s)) (member s q) (sets_have test s all)
    (closed_passes table (member s) is)
