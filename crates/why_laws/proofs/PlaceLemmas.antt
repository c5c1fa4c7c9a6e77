-- A place of a plan counts the entries that are before it.
use Rattle.std.proofs.Common.{◌≡◌, ℕ, zero, suc, Bool, true, false, cond, List, [], ◌∷◌, length, filter, slice_get, Some, refl, sym, ap, subst, ◌∙◌, arith}
use Rattle.std.specs.Prelude.{AllPairs}
use Rattle.std.proofs.lemmas.Option.{same_Some}
use Rattle.start_model.specs.Order.{Rank, is_before, ranks_of}
use Rattle.boot_phases.proofs.PlaceLemmas.{each_before_the_later}
use Rattle.boot_phases.proofs.RankLemmas.{rank_weak}
use Rattle.boot_phases.proofs.RisingLemmas.{ranks_rise}
use Rattle.reg_tree.proofs.Unlike.{Each, each_from}
use Rattle.why_laws.specs.why_laws.Places.{ranks_in, RanksAreInOrder, IsAt, PlaceIsCount}

abbrev Strict : List Rank → Type 0
Strict [] = Unit {0}
Strict (r ∷ rs) = Each (λ (s : Rank). is_before r s ≡ true) rs × Strict rs

strict : (rs : List Rank) → AllPairs (λ (a b : Rank). is_before a b ≡ true) rs → Strict rs
strict [] h = tt
strict (r ∷ rs) h = (
  each_from (λ (s : Rank). is_before r s ≡ true) rs (λ k d lt. h 0 (suc k) d (omega arith) (omega arith)),
  strict rs (λ i j d lt below. h (suc i) (suc j) d (omega arith) (omega arith)),
)

not_self : (r : Rank) → is_before r r ≡ false
not_self r = by (is_before r r) refl
  where
    by : (b : Bool) → is_before r r ≡ b → b ≡ false
    by false is = refl
    by true is = sym is ∙ rank_weak.one_way r r is

-- one of an order is before none and after all, where each of them is after it
none_ahead : (r : Rank) (rs : List Rank) → Each (λ (s : Rank). is_before r s ≡ true) rs → filter (λ (q : Rank). is_before q r) rs ≡ []
none_ahead r [] h = refl
none_ahead r (s ∷ rs) h =
    ap (λ (b : Bool). cond b (s ∷ filter (λ (q : Rank). is_before q r) rs) (filter (λ (q : Rank). is_before q r) rs)) (rank_weak.one_way r s h.0)
    ∙ none_ahead r rs h.1

all_behind : (r : Rank) (rs : List Rank) → Each (λ (s : Rank). is_before r s ≡ true) rs → filter (λ (q : Rank). is_before r q) rs ≡ rs
all_behind r [] h = refl
all_behind r (s ∷ rs) h =
    ap (λ (b : Bool). cond b (s ∷ filter (λ (q : Rank). is_before r q) rs) (filter (λ (q : Rank). is_before r q) rs)) h.0
    ∙ ap (λ (l : List Rank). s ∷ l) (all_behind r rs h.1)

each_at : (P : Rank → Type 0) (rs : List Rank) (p : ℕ) (r : Rank) → Each P rs → slice_get rs p ≡ Some r → P r
each_at P [] p r h is = absurd cc
each_at P (x ∷ xs) zero r h is = subst P (same_Some x r is) h.0
each_at P (x ∷ xs) (suc p) r h is = each_at P xs p r h.1 is

-- with one that is ahead, or that is after
filter_on : (test : Rank → Bool) (x : Rank) (xs : List Rank) → test x ≡ true → filter test (x ∷ xs) ≡ x ∷ filter test xs
filter_on test x xs is = ap (λ (b : Bool). cond b (x ∷ filter test xs) (filter test xs)) is

filter_off : (test : Rank → Bool) (x : Rank) (xs : List Rank) → test x ≡ false → filter test (x ∷ xs) ≡ filter test xs
filter_off test x xs is = ap (λ (b : Bool). cond b (x ∷ filter test xs) (filter test xs)) is

is_at : (rs : List Rank) (p : ℕ) (r : Rank) → Strict rs → slice_get rs p ≡ Some r → IsAt rs p r
is_at [] p r h is = absurd cc
is_at (x ∷ xs) zero r h is =
    let P : Rank → Type 0 = IsAt (x ∷ xs) zero in
    let none = filter_off (λ (q : Rank). is_before q x) x xs (not_self x) ∙ none_ahead x xs h.0 in
    subst P (same_Some x r is) (record {
      count = ap length none;
      ahead = none;
      behind = filter_off (λ (q : Rank). is_before x q) x xs (not_self x) ∙ all_behind x xs h.0;
    })
is_at (x ∷ xs) (suc p) r h is =
    let rest = is_at xs p r h.1 is in
    let on = each_at (λ (s : Rank). is_before x s ≡ true) xs p r h.0 is in
    let more = filter_on (λ (q : Rank). is_before q r) x xs on in
    record {
      count = ap length more ∙ ap suc rest.count;
      ahead = more ∙ ap (λ (l : List Rank). x ∷ l) rest.ahead;
      behind = filter_off (λ (q : Rank). is_before r q) x xs (rank_weak.one_way x r on) ∙ rest.behind;
    }

pub in_order : RanksAreInOrder
in_order set phase tried = each_before_the_later (ranks_of set phase tried) (ranks_rise set phase tried)

pub place_is_count : PlaceIsCount
place_is_count set phase tried p r is = is_at (ranks_in set phase tried) p r (strict (ranks_in set phase tried) (in_order set phase tried)) is
