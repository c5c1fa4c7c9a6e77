-- What a sort leaves is what putting each rank in its place leaves.
use Rattle.std.proofs.Common.{◌≡◌, ℕ, suc, ◌+◌, ◌<◌, Bool, true, false, cond, List, [], ◌∷◌, length, get_or, refl, sym, ap, ◌∙◌, subst, arith}
use Rattle.std.specs.Prelude.{sum_by, IsPermutation}
use Rattle.std.specs.declared.cmp.Ordering.{Ordering}
use Rattle.std.specs.declared.cmp.Ordering.TheVariants.{Less, Equal, Greater}
use Rattle.std.specs.Ordering.{nat_cmp, is_lt, is_eq, ordering_reverse, ordering_then}
use Rattle.std.specs.Cmp.{IsTotalOrder, IsStrictWeakOrder}
use Rattle.std.specs.List.{AllByRecursion}
use Rattle.std.specs.List.Sorted.{IsSortedBy}
use Rattle.std.proofs.lemmas.Bool.{false≢true}
use Rattle.std.proofs.lemmas.Cmp.{nat_cmp_total, on_total, then_total, tied_itself, ranked}
use Rattle.std.proofs.lemmas.List.Sorted.{ranks_by, sorted_far, sum_by-IsPermutation}
use Rattle.std.proofs.lemmas.List.Sums.{sum_by-cons}
use Rattle.start_model.specs.Order.{Rank, rank_order, is_before, placed, ordered_of}

rank_total : IsTotalOrder rank_order
rank_total = then_total (on_total (λ (r : Rank). r.group) nat_cmp_total)
    (then_total (on_total (λ (r : Rank). r.tag) nat_cmp_total) (on_total (λ (r : Rank). r.place) nat_cmp_total))

pub rank_weak : IsStrictWeakOrder is_before
rank_weak = ranks_by rank_total (λ r. r)

-- no rank is before one that stands ahead of it
abbrev pub InOrder : List Rank → Type 0
InOrder [] = Unit {0}
InOrder (r ∷ rs) = AllByRecursion (λ s. is_before s r ≡ false) rs × InOrder rs

far : (r : Rank) (rs : List Rank) → ((k : ℕ) (d : Rank) → k < length rs → is_before (get_or rs k d) r ≡ false)
    → AllByRecursion (λ s. is_before s r ≡ false) rs
far r [] h = tt
far r (s ∷ rs) h = (h 0 r (omega arith), far r rs (λ k d lt. h (suc k) d (omega arith)))

in_order_from_sorted : (rs : List Rank) → IsSortedBy is_before rs → InOrder rs
in_order_from_sorted [] h = tt
in_order_from_sorted (r ∷ rs) h = (
  far r rs (λ k d lt. sorted_far is_before rank_weak (r ∷ rs) h 0 (suc k) d (omega arith) (omega arith)),
  in_order_from_sorted rs (λ k d low high.
      (let e : suc k + 1 ≡ suc (k + 1) = omega arith in
      let P : ℕ → Type 0 = λ m. is_before (get_or (r ∷ rs) m d) (get_or rs k d) ≡ false in
      subst P e (h (suc k) d (omega arith) (omega arith)))),
)

all_placed : (r s : Rank) (rs : List Rank) → is_before s r ≡ false → AllByRecursion (λ t. is_before t r ≡ false) rs
    → AllByRecursion (λ t. is_before t r ≡ false) (placed s rs)
all_placed r s [] h hs = (h, tt)
all_placed r s (t ∷ rs) h hs =
    by_case (is_before s t) (all_placed r s rs h hs.1)
  where
    by_case : (b : Bool) → AllByRecursion (λ t. is_before t r ≡ false) (placed s rs)
        → AllByRecursion (λ t. is_before t r ≡ false) (cond b (s ∷ t ∷ rs) (t ∷ placed s rs))
    by_case true deep = (h, hs)
    by_case false deep = (hs.0, deep)

weaker : (r s : Rank) (rs : List Rank) → is_before s r ≡ false → AllByRecursion (λ t. is_before t s ≡ false) rs
    → AllByRecursion (λ t. is_before t r ≡ false) rs
weaker r s [] h hs = tt
weaker r s (t ∷ rs) h hs = (rank_weak.chain t s r hs.0 h, weaker r s rs h hs.1)

in_order_placed : (r : Rank) (rs : List Rank) → InOrder rs → InOrder (placed r rs)
in_order_placed r [] h = (tt, tt)
in_order_placed r (s ∷ rs) h = by_case (is_before r s) refl (in_order_placed r rs h.1)
  where
    by_case : (b : Bool) → is_before r s ≡ b → InOrder (placed r rs) → InOrder (cond b (r ∷ s ∷ rs) (s ∷ placed r rs))
    by_case true e deep = ((rank_weak.one_way r s e, weaker r s rs (rank_weak.one_way r s e) h.0), h)
    by_case false e deep = (all_placed s r rs e h.0, deep)

pub in_order_ordered : (rs : List Rank) → InOrder (ordered_of rs)
in_order_ordered [] = tt
in_order_ordered (r ∷ rs) = in_order_placed r (ordered_of rs) (in_order_ordered rs)

-- how often a rank is in a list
abbrev pub one : Rank → Rank → ℕ
one z r = cond (is_eq (rank_order z r)) 1 0

abbrev pub count : Rank → List Rank → ℕ
count z rs = sum_by (one z) rs

count_placed : (z r : Rank) (rs : List Rank) → count z (placed r rs) ≡ one z r + count z rs
count_placed z r [] = sum_by-cons (one z) r []
count_placed z r (s ∷ rs) = by_case (is_before r s) (count_placed z r rs)
  where
    by_case : (b : Bool) → count z (placed r rs) ≡ one z r + count z rs
        → count z (cond b (r ∷ s ∷ rs) (s ∷ placed r rs)) ≡ one z r + count z (s ∷ rs)
    by_case true deep = sum_by-cons (one z) r (s ∷ rs)
    by_case false deep = omega (arith, deep, sum_by-cons (one z) s (placed r rs), sum_by-cons (one z) s rs)

pub count_ordered : (z : Rank) (rs : List Rank) → count z (ordered_of rs) ≡ count z rs
count_ordered z [] = refl
count_ordered z (r ∷ rs) =
    count_placed z r (ordered_of rs) ∙ omega (arith, count_ordered z rs, sum_by-cons (one z) r rs)

pub one_self : (z : Rank) → ◌≡◌ {A = ℕ} (one z z) 1
one_self z = ap (λ o. cond (is_eq o) 1 0) (tied_itself rank_total z)

pub Equal-from_is_eq : (o : Ordering) → is_eq o ≡ true → o ≡ Equal
Equal-from_is_eq Less h = absurd (false≢true h)
Equal-from_is_eq Equal h = refl
Equal-from_is_eq Greater h = absurd (false≢true h)

equal_not_before : (o : Ordering) → is_eq o ≡ true → is_lt o ≡ false
equal_not_before Less h = absurd (false≢true h)
equal_not_before Equal h = refl
equal_not_before Greater h = absurd (false≢true h)

-- what is in a list is not before what the list is not before
not_before_deep : (z r : Rank) (rs : List Rank) → AllByRecursion (λ s. is_before s r ≡ false) rs → 0 < count z rs
    → is_before z r ≡ false
not_before_deep z r [] all some = absurd (omega arith)
not_before_deep z r (s ∷ rs) all some = by_case (is_eq (rank_order z s)) refl (not_before_deep z r rs all.1)
  where
    by_case : (b : Bool) → is_eq (rank_order z s) ≡ b → (0 < count z rs → is_before z r ≡ false) → is_before z r ≡ false
    by_case true e deep = rank_weak.chain z s r (equal_not_before (rank_order z s) e) all.0
    by_case false e deep =
        let n : ◌≡◌ {A = ℕ} (one z s) 0 = ap (λ b. cond b 1 0) e in
        deep (omega (arith, some, n, sum_by-cons (one z) s rs))

not_before_first : (z r : Rank) (rs : List Rank) → AllByRecursion (λ s. is_before s r ≡ false) rs
    → 0 < one z r + count z rs → is_before z r ≡ false
not_before_first z r rs all some = by_case (is_eq (rank_order z r)) refl
  where
    by_case : (b : Bool) → is_eq (rank_order z r) ≡ b → is_before z r ≡ false
    by_case true e = equal_not_before (rank_order z r) e
    by_case false e =
        let n : ◌≡◌ {A = ℕ} (one z r) 0 = ap (λ b. cond b 1 0) e in
        not_before_deep z r rs all (omega (arith, some, n))

nat_tie : (a b : ℕ) → nat_cmp a b ≡ Equal → a ≡ b
nat_tie a b h = ranked a b Equal (sym h)

then_ties : (o p : Ordering) → ordering_then o p ≡ Equal → (o ≡ Equal) × (p ≡ Equal)
then_ties Less p h = absurd cc
then_ties Equal p h = (refl, h)
then_ties Greater p h = absurd cc

pub same_rank : (a b : Rank) → rank_order a b ≡ Equal → a ≡ b
same_rank a b h =
    let g = then_ties _ _ h in
    let t = then_ties _ _ g.1 in
    λ j. record {
      group = nat_tie a.group b.group g.0 j;
      tag = nat_tie a.tag b.tag t.0 j;
      place = nat_tie a.place b.place t.1 j;
    }

pub tie : (a b : Rank) → is_before a b ≡ false → is_before b a ≡ false → a ≡ b
tie a b g h = by_case (rank_order a b) refl
  where
    by_case : (o : Ordering) → rank_order a b ≡ o → a ≡ b
    by_case Less e = absurd (false≢true (sym g ∙ ap is_lt e))
    by_case Equal e = same_rank a b e
    by_case Greater e = absurd (false≢true (sym h ∙ ap is_lt (rank_total.antisymm b a ∙ ap ordering_reverse e)))

pub in_order_unique : (rs ss : List Rank) → InOrder rs → InOrder ss → ((z : Rank) → count z rs ≡ count z ss) → rs ≡ ss
in_order_unique [] [] g h same = refl
in_order_unique [] (s ∷ ss) g h same = absurd (omega (arith, same s, sum_by-cons (one s) s ss, one_self s))
in_order_unique (r ∷ rs) [] g h same = absurd (omega (arith, same r, sum_by-cons (one r) r rs, one_self r))
in_order_unique (r ∷ rs) (s ∷ ss) g h same =
    let first : r ≡ s = tie r s
    (not_before_first r s ss h.0
    (omega (arith, same r, sum_by-cons (one r) r rs, sum_by-cons (one r) s ss, one_self r)))
    (not_before_first s r rs g.0
    (omega (arith, same s, sum_by-cons (one s) r rs, sum_by-cons (one s) s ss, one_self s))) in
    let rest : rs ≡ ss = in_order_unique rs ss g.1 h.1 (λ z.
    (let e : ◌≡◌ {A = ℕ} (one z r) (one z s) = ap (one z) first in
    omega (arith, same z, sum_by-cons (one z) r rs, sum_by-cons (one z) s ss))) in
    λ j. first j ∷ rest j

pub sorted_is_ordered : (rs ss : List Rank) → IsPermutation rs ss → IsSortedBy is_before ss → ss ≡ ordered_of rs
sorted_is_ordered rs ss moved up =
    in_order_unique ss (ordered_of rs) (in_order_from_sorted ss up) (in_order_ordered rs)
    (λ z. sum_by-IsPermutation (one z) rs ss moved ∙ sym (count_ordered z rs))
