-- Two lists in order that have the same ranks are one.
use Rattle.std.proofs.Common.{◌≡◌, ◌⊎◌, inl, inr, ℕ, suc, ◌<◌, Bool, true, false, cond, List, [], ◌∷◌, length, get_or, refl, sym, ap, ◌∙◌, subst, arith}
use Rattle.std.specs.Prelude.{AllPairs, Contains, slice_get, filter_map}
use Rattle.std.specs.List.{AllByRecursion}
use Rattle.std.proofs.lemmas.Bool.{false≢true}
use Rattle.std.proofs.lemmas.List.Elements.{All-from_recursion, Contains-append_left, Contains-append_right, Contains-append_cases, Contains-push, Contains-push_cases}
use Rattle.hive_model.specs.Tree.{Tree}
use Rattle.start_model.specs.Entries.{Phase, entries_of}
use Rattle.start_model.specs.Order.{Rank, is_before, placed, ordered_of, ranks_of, plan_of}
use Rattle.boot_phases.proofs.PlaceLemmas.{each_before_the_later}
use Rattle.boot_phases.proofs.RankLemmas.{rank_weak}
use Rattle.boot_phases.proofs.RisingLemmas.{ranks_rise}

-- each rank is before each later one
abbrev Strict : List Rank → Type 0
Strict [] = Unit {0}
Strict (r ∷ rs) = AllByRecursion (λ s. is_before r s ≡ true) rs × Strict rs

far : (r : Rank) (rs : List Rank) → ((k : ℕ) (d : Rank) → k < length rs → is_before r (get_or rs k d) ≡ true)
    → AllByRecursion (λ s. is_before r s ≡ true) rs
far r [] h = tt
far r (s ∷ rs) h = (h 0 r (omega arith), far r rs (λ k d lt. h (suc k) d (omega arith)))

strict : (rs : List Rank) → AllPairs (λ a b. is_before a b ≡ true) rs → Strict rs
strict [] h = tt
strict (r ∷ rs) h = (
  far r rs (λ k d lt. h 0 (suc k) d (omega arith) (omega arith)),
  strict rs (λ i j d lt below. h (suc i) (suc j) d (omega arith) (omega arith)),
)

-- ---- members

empty_has_none : (z : Rank) → Contains [] z → ⊥
empty_has_none z h = omega (arith, h.1)

first_of_all : (x : Rank) (xs : List Rank) → Contains (x ∷ xs) x
first_of_all x xs = Contains-append_left (x ∷ []) xs x (Contains-push [] x)

later : (x : Rank) (xs : List Rank) (z : Rank) → Contains xs z → Contains (x ∷ xs) z
later x xs z h = Contains-append_right (x ∷ []) xs z h

alone : (x z : Rank) → Contains (x ∷ []) z → x ≡ z
alone x z h = elim (Contains-push_cases [] x z h) [
  | inl none ↦ absurd (empty_has_none z none)
  | inr same ↦ same
]

first_or_later : (x : Rank) (xs : List Rank) (z : Rank) → Contains (x ∷ xs) z → (x ≡ z) ⊎ Contains xs z
first_or_later x xs z h = elim (Contains-append_cases (x ∷ []) xs z h) [
  | inl here ↦ inl (alone x z here)
  | inr there ↦ inr there
]

all_have : (P : Rank → Type 0) (xs : List Rank) (z : Rank) → AllByRecursion P xs → Contains xs z → P z
all_have P xs z h c = subst P c.2 (All-from_recursion P xs h c.0 z c.1)

-- ---- putting a rank in its place changes no members

-- putting a rank in its place loses no member and adds none
placed_has : (r : Rank) (rs : List Rank) (z : Rank) → Contains (r ∷ rs) z → Contains (placed r rs) z
placed_has r [] z h = h
placed_has r (s ∷ rs) z h = by_case (is_before r s) (placed_has r rs z)
  where
    deeper : (Contains (r ∷ rs) z → Contains (placed r rs) z) → (r ≡ z) ⊎ Contains (s ∷ rs) z
        → Contains (s ∷ placed r rs) z
    deeper more (inl here) = later s (placed r rs) z
        (more (let P : Rank → Type 0 = λ t. Contains (r ∷ rs) t in subst P here (first_of_all r rs)))
    deeper more (inr there) = elim (first_or_later s rs z there) [
      | inl same ↦ (let P : Rank → Type 0 = λ t. Contains (s ∷ placed r rs) t in
          subst P same (first_of_all s (placed r rs)))
      | inr rest ↦ later s (placed r rs) z (more (later r rs z rest))
    ]

    by_case : (b : Bool) → (Contains (r ∷ rs) z → Contains (placed r rs) z)
        → Contains (cond b (r ∷ s ∷ rs) (s ∷ placed r rs)) z
    by_case true more = h
    by_case false more = deeper more (first_or_later r (s ∷ rs) z h)

placed_only : (r : Rank) (rs : List Rank) (z : Rank) → Contains (placed r rs) z → Contains (r ∷ rs) z
placed_only r [] z h = h
placed_only r (s ∷ rs) z h = by_case (is_before r s) h (placed_only r rs z)
  where
    deeper : (Contains (placed r rs) z → Contains (r ∷ rs) z) → (s ≡ z) ⊎ Contains (placed r rs) z
        → Contains (r ∷ s ∷ rs) z
    deeper more (inl here) = let P : Rank → Type 0 = λ t. Contains (r ∷ s ∷ rs) t in
        subst P here (later r (s ∷ rs) s (first_of_all s rs))
    deeper more (inr there) = elim (first_or_later r rs z (more there)) [
      | inl same ↦ (let P : Rank → Type 0 = λ t. Contains (r ∷ s ∷ rs) t in subst P same (first_of_all r (s ∷ rs)))
      | inr rest ↦ later r (s ∷ rs) z (later s rs z rest)
    ]

    by_case : (b : Bool) → Contains (cond b (r ∷ s ∷ rs) (s ∷ placed r rs)) z
        → (Contains (placed r rs) z → Contains (r ∷ rs) z) → Contains (r ∷ s ∷ rs) z
    by_case true g more = g
    by_case false g more = deeper more (first_or_later s (placed r rs) z g)

ordered_has : (rs : List Rank) (z : Rank) → Contains rs z → Contains (ordered_of rs) z
ordered_has [] z h = h
ordered_has (r ∷ rs) z h = placed_has r (ordered_of rs) z (elim (first_or_later r rs z h) [
  | inl here ↦ (let P : Rank → Type 0 = λ t. Contains (r ∷ ordered_of rs) t in
      subst P here (first_of_all r (ordered_of rs)))
  | inr there ↦ later r (ordered_of rs) z (ordered_has rs z there)
])

ordered_only : (rs : List Rank) (z : Rank) → Contains (ordered_of rs) z → Contains rs z
ordered_only [] z h = h
ordered_only (r ∷ rs) z h = elim (first_or_later r (ordered_of rs) z (placed_only r (ordered_of rs) z h)) [
  | inl here ↦ (let P : Rank → Type 0 = λ t. Contains (r ∷ rs) t in subst P here (first_of_all r rs))
  | inr there ↦ later r rs z (ordered_only rs z there)
]

-- ---- lists in order

-- no rank is before another that is before it
not_both : (x y : Rank) → is_before x y ≡ true → is_before y x ≡ true → ⊥
not_both x y h g = false≢true (sym (rank_weak.one_way x y h) ∙ g)

-- each head would be before the other one, were they two
same_first : (x : Rank) (xs : List Rank) (y : Rank) (ys : List Rank) → Strict (x ∷ xs) → Strict (y ∷ ys)
    → Contains (y ∷ ys) x → Contains (x ∷ xs) y → x ≡ y
same_first x xs y ys h g f b =
    elim (first_or_later y ys x f) [
      | inl same ↦ sym same
      | inr below ↦ (elim (first_or_later x xs y b) [
        | inl same ↦ same
        | inr above ↦ absurd (not_both x y (all_have (λ s. is_before x s ≡ true) xs y h.0 above)
            (all_have (λ s. is_before y s ≡ true) ys x g.0 below))
      ])
    ]

rest_in : (x : Rank) (xs : List Rank) (y : Rank) (ys : List Rank) → Strict (x ∷ xs) → x ≡ y
    → ((z : Rank) → Contains (x ∷ xs) z → Contains (y ∷ ys) z) → (z : Rank) → Contains xs z → Contains ys z
rest_in x xs y ys h e f z c =
    elim (first_or_later y ys z (f z (later x xs z c))) [
      | inl same ↦ (let before : is_before x z ≡ true = all_have (λ s. is_before x s ≡ true) xs z h.0 c in
          let back : is_before z x ≡ true =
          ap (λ s. is_before s x) (sym (e ∙ same)) ∙ ap (is_before x) (e ∙ same) ∙ before in
          absurd (not_both x z before back))
      | inr rest ↦ rest
    ]

-- so the lists are one, head by head
same_lists : (xs ys : List Rank) → Strict xs → Strict ys → ((z : Rank) → Contains xs z → Contains ys z)
    → ((z : Rank) → Contains ys z → Contains xs z) → xs ≡ ys
same_lists [] [] h g f b = refl
same_lists [] (y ∷ ys) h g f b = absurd (empty_has_none y (b y (first_of_all y ys)))
same_lists (x ∷ xs) [] h g f b = absurd (empty_has_none x (f x (first_of_all x xs)))
same_lists (x ∷ xs) (y ∷ ys) h g f b =
    let e : x ≡ y = same_first x xs y ys h g (f x (first_of_all x xs)) (b y (first_of_all y ys)) in
    let rest : xs ≡ ys = same_lists xs ys h.1 g.1 (rest_in x xs y ys h e f) (rest_in y ys x xs g (sym e) b) in
    λ i. e i ∷ rest i

-- a list in order that has the ranks of what a phase takes, and no others
pub one_order : (set : Tree) (phase : Phase) (tried : List (List ℕ)) (rs : List Rank)
    → AllPairs (λ a b. is_before a b ≡ true) rs
    → ((r : Rank) → Contains rs r → Contains (ranks_of set phase tried) r)
    → ((r : Rank) → Contains (ranks_of set phase tried) r → Contains rs r)
    → filter_map (λ (r : Rank). slice_get (entries_of set) r.place) rs ≡ plan_of set phase tried
one_order set phase tried rs h f b =
    let ranks : List Rank = ranks_of set phase tried in
    ap (λ (l : List Rank). filter_map (λ (r : Rank). slice_get (entries_of set) r.place) l)
    (same_lists rs (ordered_of ranks) (strict rs h)
    (strict (ordered_of ranks) (each_before_the_later ranks (ranks_rise set phase tried)))
    (λ z c. ordered_has ranks z (f z c)) (λ z c. b z (ordered_only ranks z c)))
