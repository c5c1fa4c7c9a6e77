-- What leans on a service is the least of the closed sets.
use Rattle.std.proofs.Common.{◌≡◌, ℕ, suc, ◌<◌, Bool, true, false, not, ◌||◌, List, [], ◌∷◌, length, get_or, map, refl, sym, ap, ◌∙◌, inl, inr, arith}
use Rattle.std.specs.Prelude.{Contains}
use Rattle.std.specs.List.{list_any, list_all, range_with_len}
use Rattle.std.proofs.lemmas.Bool.{false≢true, and_from, or_cases, or_left, or_right}
use Rattle.std.proofs.lemmas.List.Sums.{AllPass-from_list_all}
use Rattle.std.proofs.lemmas.List.FromFn.{length-map-range_with_len}
use Rattle.nt_bytes.specs.Folding.{folds_same}
use Rattle.start_model.specs.Demand.{Need, member, all_sets}
use Rattle.service_control.specs.Leaning.{has, has_all, leans, is_due, IsClosed, is_closed, is_leaning}
use Rattle.service_control.proofs.SpreadState.{none}
use Rattle.service_control.proofs.LeanLemmas.{has_by, has_some, has_all_by, has_all_some, has_all_each, due_is, due_within, lean_seed, lean_name, lean_service, lean_group}
use Rattle.service_control.proofs.SpreadLemmas.{closed_passes, passes_closed}
use Rattle.dependencies.proofs.KeptLemmas.{within_waits}
use Rattle.dependencies.proofs.PulledLemmas.{then_true, then_gives, sets_have, listed_member}

all_in : {X : Type 0} (p : X → Bool) (xs : List X) → ((x : X) → Contains xs x → p x ≡ true) → list_all p xs ≡ true
all_in p [] f = refl
all_in p (x ∷ xs) f = and_from (p x) (list_all p xs) (f x (0, omega arith, refl))
    (all_in p xs (λ y c. f y (suc c.0, omega (arith, c.1), c.2)))

all_out : {X : Type 0} (p : X → Bool) (xs : List X) (x : X) → list_all p xs ≡ true → Contains xs x → p x ≡ true
all_out p xs x h c = ap p (sym c.2) ∙ AllPass-from_list_all p xs h c.0 x c.1

any_more : {X : Type 0} (p q : X → Bool) (xs : List X) → ((x : X) → p x ≡ true → q x ≡ true) → list_any p xs ≡ true
    → list_any q xs ≡ true
any_more p q [] f h = absurd (false≢true h)
any_more p q (x ∷ xs) f h = elim (or_cases (p x) (list_any p xs) h) [
  | inl here ↦ or_left (q x) (list_any q xs) (f x here)
  | inr rest ↦ or_right (q x) (list_any q xs) (any_more p q xs f rest)
]

-- a greater set makes no fewer lean
module _ (r : List Need) (s : List ℕ) (set other : ℕ → Bool) (more : (q : ℕ) → set q ≡ true → other q ≡ true) where
  has_grows : (d : List ℕ) → has r set d ≡ true → has r other d ≡ true
  has_grows d h = let p = has_some r set d h in has_by r other d p.place p.inside (more p.place p.in_set) p.same

  has_all_grows : (g : List ℕ) → has_all r set g ≡ true → has_all r other g ≡ true
  has_all_grows g h =
      let p = has_all_some r set g h in
      has_all_by r other g p.0 p.1 p.2 (λ k lt of. has_grows (get_or r k none).name (has_all_each r set g h k lt of))

  leans_grows : (n : Need) → leans r s set n ≡ true → leans r s other n ≡ true
  leans_grows n h =
      elim (or_cases (folds_same s n.name || has r set n.name)
      (list_any (has r set) n.services || list_any (has_all r set) n.groups) h) [
        | inl one ↦ elim (or_cases (folds_same s n.name) (has r set n.name) one) [
          | inl seed ↦ lean_seed r s other n seed
          | inr had ↦ lean_name r s other n (has_grows n.name had)
        ]
        | inr two ↦ elim (or_cases (list_any (has r set) n.services) (list_any (has_all r set) n.groups) two) [
          | inl services ↦ lean_service r s other n (any_more (has r set) (has r other) n.services has_grows services)
          | inr groups ↦ lean_group r s other n
              (any_more (has_all r set) (has_all r other) n.groups has_all_grows groups)
        ]
      ]

  due_grows : (q : ℕ) → is_due r s set q ≡ true → is_due r s other q ≡ true
  due_grows q h = let lt = due_within r s set q h in
      due_is r s other q lt ∙ leans_grows (get_or r q none) (sym (due_is r s set q lt) ∙ h)

pub leaning_closed : (r : List Need) (s : List ℕ) → IsClosed r s (is_leaning r s)
unfolding is_leaning
leaning_closed r s q due =
    all_in (λ t. not (is_closed r s (member t)) || member t q) (all_sets (length r))
    (λ t there. then_true (is_closed r s (member t)) (member t q)
    (λ closed. passes_closed r s (member t) closed q
    (due_grows r s (is_leaning r s) (member t)
    (λ p leans. then_gives (is_closed r s (member t)) (member t p)
    (all_out (λ t. not (is_closed r s (member t)) || member t p) (all_sets (length r)) t leans there) closed)
    q due)))

pub leaning_least : (r : List Need) (s : List ℕ) (set : ℕ → Bool) → IsClosed r s set → (q : ℕ) → q < length r
    → is_leaning r s q ≡ true → set q ≡ true
unfolding is_leaning
leaning_least r s set closed q lt h =
    let n = length r in
    let t = map set (range_with_len 0 n) in
    let len : length t ≡ n = length-map-range_with_len set 0 n in
    let is : IsClosed r s (member t) = λ p due.
    (let within = due_within r s (member t) p due in
    listed_member set n p within ∙ closed p (due_grows r s (member t) set in_set p due)) in
    let test : List Bool → Bool = λ t. not (is_closed r s (member t)) || member t q in
    let all : list_all test (all_sets (length t)) ≡ true = ap (λ k. list_all test (all_sets k)) len ∙ h in
    sym (listed_member set n q lt) ∙ then_gives (is_closed r s (member t)) (member t q) (sets_have test t all)
    (closed_passes r s (member t) is)
  where
    past : (set : ℕ → Bool) (n p : ℕ) → member (map set (range_with_len 0 n)) p ≡ true → p < n
    past set n p m = omega (arith, length-map-range_with_len set 0 n, within_waits (map set (range_with_len 0 n)) p m)

    in_set : (p : ℕ) → member (map set (range_with_len 0 (length r))) p ≡ true → set p ≡ true
    in_set p m = sym (listed_member set (length r) p (past set (length r) p m)) ∙ m
