-- What holds of sectors that are asked for one by one: of each of them, of any two, and which they are.
use Rattle.std.specs.Prelude.{All, AllPairs, Contains, if◌then◌else◌}
use Rattle.std.specs.List.{range_with_len}
use Rattle.std.proofs.Common.{◌≡◌, ◌⊎◌, ◌<◌, ◌≤◌, ◌+◌, ℕ, zero, suc, Bool, true, false, cond, List, [], ◌∷◌, map, filter, refl, sym, ◌∙◌, ap, subst, ⊎_elim, arith}
use Rattle.std.proofs.lemmas.Bool.{both_ways}
use Rattle.std.proofs.lemmas.List.Elements.{All-nil, All-cons, Contains-push, Contains-append_left, Contains-append_right}
use Rattle.std.proofs.lemmas.List.Kept.{AllPairs-cons}
use Rattle.hive_model.specs.Image.{Image, Address, File}
use Rattle.hive_model.specs.Asked.{run_at, is_readable, one_by_one}

-- ---- lists that begin with an element

pub contains_first : {X : Type 0} (x : X) (xs : List X) → Contains (x ∷ xs) x
contains_first x xs = Contains-append_left (x ∷ []) xs x (Contains-push [] x)

pub contains_later : {X : Type 0} (x : X) (xs : List X) (y : X) → Contains xs y → Contains (x ∷ xs) y
contains_later x xs y c = Contains-append_right (x ∷ []) xs y c

pub no_pairs : {X : Type 0} (R : X → X → Type 0) → AllPairs R []
no_pairs R i j d below within = absurd (omega arith)

first_or_later : (from k : ℕ) → from ≤ k → (from ≡ k) ⊎ (from + 1 ≤ k)
first_or_later from k low = grind arith

-- ---- sectors asked for one by one: those of n numbers from one on that pass a test

module _ (image : Image) (at : ℕ → Address) (test : ℕ → Bool) where
  -- those of these numbers, and then more
  abbrev listed : List ℕ → List Address → List Address
  listed numbers more = one_by_one image (map at numbers) more

  -- those of the numbers after this one that pass
  abbrev passing : ℕ → ℕ → List ℕ
  passing from n = filter test (range_with_len (from + 1) n)

  abbrev pub those : ℕ → ℕ → List Address → List Address
  those from n more = one_by_one image (map at (filter test (range_with_len from n))) more

  -- those before this number can be read
  abbrev pub Before : ℕ → ℕ → Type 0
  Before from j = (k : ℕ) → from ≤ k → k < j → test k ≡ true → is_readable (image (at k)) ≡ true

  also : (from j : ℕ) → (test from ≡ true → is_readable (image (at from)) ≡ true) → Before (from + 1) j → Before from j
  also from j here before k low high on = ⊎_elim
      (λ is. subst (λ q. test q ≡ true → is_readable (image (at q)) ≡ true) is here on)
      (λ later. before k later high on)
      (first_or_later from k low)

  all_first : (Q : Address → Type 0) (a : Address) (rest : List Address) (b : Bool) → is_readable (image a) ≡ b
      → Q a → (is_readable (image a) ≡ true → All Q rest) → All Q (a ∷ (if b then rest else []))
  all_first Q a rest false e first more = All-cons Q a [] first (All-nil Q)
  all_first Q a rest true e first more = All-cons Q a rest first (more e)

  all_next : (Q : Address → Type 0) (from : ℕ) (rest : List ℕ) (more : List Address) (b : Bool) → test from ≡ b
      → (test from ≡ true → Q (at from))
      → ((test from ≡ true → is_readable (image (at from)) ≡ true) → All Q (listed rest more))
      → All Q (listed (cond b (from ∷ rest) rest) more)
  all_next Q from rest more false off first behind = behind (λ on. absurd (both_ways (test from) off on))
  all_next Q from rest more true on first behind =
      let there = is_readable (image (at from)) in
      all_first Q (at from) (listed rest more) there refl (first on) (λ some. behind (λ _. some))

  -- what holds of each of them, where those before it can be read, and after them
  pub all_those : (Q : Address → Type 0) (from n : ℕ) (more : List Address)
      → ((j : ℕ) → from ≤ j → j < from + n → test j ≡ true → Before from j → Q (at j))
      → (Before from (from + n) → All Q more) → All Q (those from n more)
  all_those Q from zero more each behind = behind (λ k low high. absurd (omega arith))
  all_those Q from (suc n) more each behind =
      all_next Q from (passing from n) more (test from) refl
      (λ on. each from (omega arith) (omega arith) on (λ k low high. absurd (omega arith)))
      (λ here. all_those Q (from + 1) n more
      (λ j low high on before. each j (omega arith) (omega arith) on (also from j here before))
      (λ before. behind (also from (from + suc n) here (λ k low high on. before k low (omega arith) on))))

  next_contains : (from : ℕ) (rest : List ℕ) (more : List Address) (b : Bool) → b ≡ true
      → Contains (listed (cond b (from ∷ rest) rest) more) (at from)
  next_contains from rest more false on = absurd cc
  next_contains from rest more true on =
      contains_first (at from) (if is_readable (image (at from)) then listed rest more else [])

  later_contains : (from : ℕ) (rest : List ℕ) (more : List Address) (a : Address) (b : Bool) → test from ≡ b
      → (test from ≡ true → is_readable (image (at from)) ≡ true) → Contains (listed rest more) a
      → Contains (listed (cond b (from ∷ rest) rest) more) a
  later_contains from rest more a false off here c = c
  later_contains from rest more a true on here c =
      subst (λ b. Contains (at from ∷ (if b then listed rest more else [])) a) (sym (here on))
      (contains_later (at from) (listed rest more) a c)

  -- each of them before which all can be read is asked for,
  pub those_contain : (from n : ℕ) (more : List Address) (j : ℕ) → from ≤ j → j < from + n → test j ≡ true
      → Before from j → Contains (those from n more) (at j)
  those_contain from zero more j low high on before = absurd (omega arith)
  those_contain from (suc n) more j low high on before = ⊎_elim
      (λ is. subst (λ q. Contains (those from (suc n) more) (at q)) is
      (next_contains from (passing from n) more (test from) (ap test is ∙ on)))
      (λ later. later_contains from (passing from n) more (at j) (test from) refl
      (λ passes. before from (omega arith) (omega arith) passes)
      (those_contain (from + 1) n more j later (omega arith) on
      (λ k below above passes. before k (omega arith) above passes)))
      (first_or_later from j low)

  -- and what is after them, where all can be read
  pub behind_contains : (from n : ℕ) (more : List Address) (a : Address) → Before from (from + n)
      → Contains more a → Contains (those from n more) a
  behind_contains from zero more a all c = c
  behind_contains from (suc n) more a all c =
      later_contains from (passing from n) more a (test from) refl
      (λ passes. all from (omega arith) (omega arith) passes)
      (behind_contains (from + 1) n more a (λ k low high passes. all k (omega arith) (omega arith) passes) c)

  once_first : (R : Address → Address → Type 0) (a : Address) (rest : List Address) (b : Bool)
      → All (R a) rest → AllPairs R rest → AllPairs R (a ∷ (if b then rest else []))
  once_first R a rest false first behind = AllPairs-cons R a [] (All-nil (R a)) (no_pairs R)
  once_first R a rest true first behind = AllPairs-cons R a rest first behind

  once_next : (R : Address → Address → Type 0) (from : ℕ) (rest : List ℕ) (more : List Address) (b : Bool)
      → All (R (at from)) (listed rest more) → AllPairs R (listed rest more)
      → AllPairs R (listed (cond b (from ∷ rest) rest) more)
  once_next R from rest more false first behind = behind
  once_next R from rest more true first behind =
      once_first R (at from) (listed rest more) (is_readable (image (at from))) first behind

  -- what holds of any two of them, of each of them with those after, and of any two after
  pub pairs_of_those : (R : Address → Address → Type 0) (from n : ℕ) (more : List Address)
      → ((j k : ℕ) → from ≤ j → j < k → k < from + n → R (at j) (at k))
      → ((j : ℕ) → from ≤ j → j < from + n → All (R (at j)) more)
      → AllPairs R more → AllPairs R (those from n more)
  pairs_of_those R from zero more two across behind = behind
  pairs_of_those R from (suc n) more two across behind =
      once_next R from (passing from n) more (test from)
      (all_those (R (at from)) (from + 1) n more
      (λ j low high on before. two from j (omega arith) (omega arith) (omega arith))
      (λ before. across from (omega arith) (omega arith)))
      (pairs_of_those R (from + 1) n more
      (λ j k low above high. two j k (omega arith) above (omega arith))
      (λ j low high. across j (omega arith) (omega arith)) behind)

-- ---- the same of a run of sectors

pub every_number : (from n : ℕ) → filter (λ k. true) (range_with_len from n) ≡ range_with_len from n
every_number from zero = refl
every_number from (suc n) = ap (λ ks. from ∷ ks) (every_number (from + 1) n)

module _ (image : Image) (file : File) (first n : ℕ) (more : List Address) where
  abbrev pub nth : ℕ → Address
  nth k = record { file = file; sector = first + k }

  -- those of these numbers, and then more
  abbrev of_these : List ℕ → List Address
  of_these numbers = one_by_one image (map nth numbers) more

  -- those before this one can be read
  abbrev pub Front : ℕ → Type 0
  Front j = (k : ℕ) → k < j → is_readable (image (nth k)) ≡ true

  abbrev pub run : List Address
  run = one_by_one image (run_at file first n) more

  pub all_run : (Q : Address → Type 0) → ((j : ℕ) → j < n → Front j → Q (nth j))
      → (Front n → All Q more) → All Q run
  all_run Q each behind =
      subst (λ ks. All Q (of_these ks)) (every_number 0 n)
      (all_those image nth (λ k. true) Q 0 n more
      (λ j low high on before. each j (omega arith) (λ k below. before k (omega arith) below refl))
      (λ all. behind (λ k below. all k (omega arith) (omega arith) refl)))

  pub run_contains : (j : ℕ) → j < n → Front j → Contains run (nth j)
  run_contains j high before =
      subst (λ ks. Contains (of_these ks) (nth j)) (every_number 0 n)
      (those_contain image nth (λ k. true) 0 n more j (omega arith) (omega arith) refl
      (λ k low below on. before k below))

  pub behind_run : (a : Address) → Front n → Contains more a → Contains run a
  behind_run a all c =
      subst (λ ks. Contains (of_these ks) a) (every_number 0 n)
      (behind_contains image nth (λ k. true) 0 n more a (λ k low high on. all k (omega arith)) c)

  pub pairs_of_run : (R : Address → Address → Type 0) → ((j k : ℕ) → j < k → k < n → R (nth j) (nth k))
      → ((j : ℕ) → j < n → All (R (nth j)) more) → AllPairs R more → AllPairs R run
  pairs_of_run R two across behind =
      subst (λ ks. AllPairs R (of_these ks)) (every_number 0 n)
      (pairs_of_those image nth (λ k. true) R 0 n more
      (λ j k low above high. two j k above (omega arith))
      (λ j low high. across j (omega arith)) behind)
