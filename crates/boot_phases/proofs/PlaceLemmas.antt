-- The place of a rank is the number of ranks before it.
use Rattle.std.proofs.Common.{◌≡◌, ℕ, zero, suc, ◌+◌, ◌<◌, ◌≤◌, Bool, true, false, cond, List, [], ◌∷◌, length, get_or, refl, sym, ap, ◌∙◌, subst, arith}
use Rattle.std.specs.Prelude.{count_by, sum_by, AllPairs}
use Rattle.std.specs.List.{AllByRecursion}
use Rattle.std.specs.Ordering.{is_eq}
use Rattle.std.proofs.lemmas.List.Elements.{All-from_recursion}
use Rattle.std.proofs.lemmas.List.Sums.{sum_by-cons}
use Rattle.start_model.specs.Order.{Rank, rank_order, is_before, placed, ordered_of}
use Rattle.boot_phases.proofs.RankLemmas.{rank_weak, InOrder, in_order_ordered, one, count, count_ordered, one_self, tie, same_rank, Equal-from_is_eq}

-- each sum over a list is that over the ordered list
sum_placed : (f : Rank → ℕ) (r : Rank) (rs : List Rank) → sum_by f (placed r rs) ≡ f r + sum_by f rs
sum_placed f r [] = sum_by-cons f r []
sum_placed f r (s ∷ rs) = by_case (is_before r s) (sum_placed f r rs)
  where
    by_case : (b : Bool) → sum_by f (placed r rs) ≡ f r + sum_by f rs
        → sum_by f (cond b (r ∷ s ∷ rs) (s ∷ placed r rs)) ≡ f r + sum_by f (s ∷ rs)
    by_case true deep = sum_by-cons f r (s ∷ rs)
    by_case false deep = omega (arith, deep, sum_by-cons f s (placed r rs), sum_by-cons f s rs)

sum_ordered : (f : Rank → ℕ) (rs : List Rank) → sum_by f (ordered_of rs) ≡ sum_by f rs
sum_ordered f [] = refl
sum_ordered f (r ∷ rs) = sum_placed f r (ordered_of rs) ∙ omega (arith, sum_ordered f rs, sum_by-cons f r rs)

-- each rank is before each later one
abbrev Strict : List Rank → Type 0
Strict [] = Unit {0}
Strict (r ∷ rs) = AllByRecursion (λ s. is_before r s ≡ true) rs × Strict rs

strict_far : (r : Rank) (rs : List Rank) → AllByRecursion (λ s. is_before s r ≡ false) rs → count r rs ≡ 0
    → AllByRecursion (λ s. is_before r s ≡ true) rs
strict_far r [] all none = tt
strict_far r (s ∷ rs) all none =
    (by_case (is_before r s) refl, strict_far r rs all.1 (omega (arith, none, sum_by-cons (one r) s rs)))
  where
    by_case : (b : Bool) → is_before r s ≡ b → is_before r s ≡ true
    by_case true e = e
    by_case false e =
        let same : r ≡ s = tie r s e all.0 in
        let n : ◌≡◌ {A = ℕ} (one r s) 1 = ap (one r) (sym same) ∙ one_self r in
        absurd (omega (arith, none, n, sum_by-cons (one r) s rs))

strict : (rs : List Rank) → InOrder rs → ((z : Rank) → count z rs ≤ 1) → Strict rs
strict [] h few = tt
strict (r ∷ rs) h few = (
  strict_far r rs h.0 (omega (arith, few r, one_self r, sum_by-cons (one r) r rs)),
  strict rs h.1 (λ z. omega (arith, few z, sum_by-cons (one z) r rs)),
)

-- places that rise
abbrev pub Rises : List Rank → Type 0
Rises [] = Unit {0}
Rises (r ∷ rs) = AllByRecursion (λ s. r.place < s.place) rs × Rises rs

rises_far : (r : Rank) (rs : List Rank) → ((k : ℕ) (d : Rank) → k < length rs → r.place < (get_or rs k d).place)
    → AllByRecursion (λ s. r.place < s.place) rs
rises_far r [] h = tt
rises_far r (s ∷ rs) h = (h 0 r (omega arith), rises_far r rs (λ k d lt. h (suc k) d (omega arith)))

rises : (rs : List Rank) → AllPairs (λ a b. a.place < b.place) rs → Rises rs
rises [] h = tt
rises (r ∷ rs) h = (
  rises_far r rs (λ k d lt. h 0 (suc k) d (omega arith) (omega arith)),
  rises rs (λ i j d lt below. h (suc i) (suc j) d (omega arith) (omega arith)),
)

none_later : (z : Rank) (rs : List Rank) → AllByRecursion (λ s. z.place < s.place) rs → count z rs ≡ 0
none_later z [] h = refl
none_later z (s ∷ rs) h = by_case (is_eq (rank_order z s)) refl (none_later z rs h.1)
  where
    by_case : (b : Bool) → is_eq (rank_order z s) ≡ b → count z rs ≡ 0 → count z (s ∷ rs) ≡ 0
    by_case true e deep = absurd
        (let same : z.place ≡ s.place = ap (λ r. r.place) (same_rank z s (Equal-from_is_eq _ e)) in
        omega (arith, h.0, same))
    by_case false e deep =
        let n : ◌≡◌ {A = ℕ} (one z s) 0 = ap (λ b. cond b 1 0) e in
        omega (arith, n, deep, sum_by-cons (one z) s rs)

few_of_each : (z : Rank) (rs : List Rank) → Rises rs → count z rs ≤ 1
few_of_each z [] h = omega arith
few_of_each z (r ∷ rs) h = by_case (is_eq (rank_order z r)) refl (few_of_each z rs h.1)
  where
    by_case : (b : Bool) → is_eq (rank_order z r) ≡ b → count z rs ≤ 1 → count z (r ∷ rs) ≤ 1
    by_case true e deep =
        let same : z ≡ r = same_rank z r (Equal-from_is_eq _ e) in
        let P : Rank → Type 0 = λ r. AllByRecursion (λ s. r.place < s.place) rs in
        let none : count z rs ≡ 0 = none_later z rs (subst P (sym same) h.0) in
        let n : ◌≡◌ {A = ℕ} (one z r) 1 = ap (λ b. cond b 1 0) e in
        omega (arith, n, none, sum_by-cons (one z) r rs)
    by_case false e deep =
        let n : ◌≡◌ {A = ℕ} (one z r) 0 = ap (λ b. cond b 1 0) e in
        omega (arith, n, deep, sum_by-cons (one z) r rs)

abbrev ahead : Rank → Rank → ℕ
ahead r s = cond (is_before s r) 1 0

not_before_self : (r : Rank) → is_before r r ≡ false
not_before_self r = by_case (is_before r r) refl
  where
    by_case : (b : Bool) → is_before r r ≡ b → is_before r r ≡ false
    by_case true e = rank_weak.one_way r r e
    by_case false e = e

none_ahead : (r : Rank) (rs : List Rank) → AllByRecursion (λ s. is_before r s ≡ true) rs → sum_by (ahead r) rs ≡ 0
none_ahead r [] h = refl
none_ahead r (s ∷ rs) h =
    let n : ◌≡◌ {A = ℕ} (ahead r s) 0 = ap (λ b. cond b 1 0) (rank_weak.one_way r s h.0) in
    omega (arith, n, none_ahead r rs h.1, sum_by-cons (ahead r) s rs)

as_many_ahead : (rs : List Rank) (k : ℕ) (d : Rank) → Strict rs → k < length rs → sum_by (ahead (get_or rs k d)) rs ≡ k
as_many_ahead [] k d h lt = absurd (omega arith)
as_many_ahead (r ∷ rs) zero d h lt =
    let n : ◌≡◌ {A = ℕ} (ahead r r) 0 = ap (λ b. cond b 1 0) (not_before_self r) in
    omega (arith, n, none_ahead r rs h.0, sum_by-cons (ahead r) r rs)
as_many_ahead (r ∷ rs) (suc k) d h lt =
    let t = get_or rs k d in
    let n : ◌≡◌ {A = ℕ} (ahead t r) 1 =
    ap (λ b. cond b 1 0) (All-from_recursion (λ s. is_before r s ≡ true) rs h.0 k d (omega arith)) in
    omega (arith, n, as_many_ahead rs k d h.1 (omega arith), sum_by-cons (ahead t) r rs)

pub place_counts : (ranks : List Rank) → AllPairs (λ a b. a.place < b.place) ranks → (k : ℕ) (d : Rank)
    → k < length (ordered_of ranks)
    → count_by (λ s. is_before s (get_or (ordered_of ranks) k d)) ranks ≡ k
place_counts ranks apart k d lt =
    let rs = ordered_of ranks in
    let few : (z : Rank) → count z rs ≤ 1 =
    λ z. omega (arith, few_of_each z ranks (rises ranks apart), count_ordered z ranks) in
    sym (sum_ordered (ahead (get_or rs k d)) ranks) ∙ as_many_ahead rs k d (strict rs (in_order_ordered ranks) few) lt

pair_at : (rs : List Rank) → Strict rs → (i j : ℕ) (d : Rank) → i < j → j < length rs
    → is_before (get_or rs i d) (get_or rs j d) ≡ true
pair_at [] h i j d lt below = absurd (omega arith)
pair_at (r ∷ rs) h zero zero d lt below = absurd (omega arith)
pair_at (r ∷ rs) h zero (suc j) d lt below = All-from_recursion (λ s. is_before r s ≡ true) rs h.0 j d (omega arith)
pair_at (r ∷ rs) h (suc i) zero d lt below = absurd (omega arith)
pair_at (r ∷ rs) h (suc i) (suc j) d lt below = pair_at rs h.1 i j d (omega arith) (omega arith)

-- where the places rise, each rank is before each later one
pub each_before_the_later : (ranks : List Rank) → Rises ranks
    → AllPairs (λ a b. is_before a b ≡ true) (ordered_of ranks)
each_before_the_later ranks up =
    pair_at (ordered_of ranks)
    (strict (ordered_of ranks) (in_order_ordered ranks)
    (λ z. omega (arith, few_of_each z ranks up, count_ordered z ranks)))
