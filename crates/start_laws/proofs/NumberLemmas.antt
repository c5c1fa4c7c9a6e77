-- The numbers that name sets, and the free one.
use Rattle.std.proofs.Common.{◌≡◌, ℕ, zero, suc, ◌+◌, ◌<◌, ◌≤◌, Bool, true, false, not, ◌||◌, ◌==◌, cond, List, find, Some, None, Err, refl, sym, ap, ◌∙◌, arith, eq-eqb, eqb-true}
use Rattle.std.specs.List.{range_with_len}
use Rattle.std.proofs.lemmas.Bool.{false≢true}
use Rattle.hive_model.specs.Tree.{Tree}
use Rattle.report_words.specs.declared.words.Verdict.TheVariants as verdicts
use Rattle.report_words.specs.declared.line.Line.TheVariants.{Set as SetLine, SaveRefused as SaveRefusedLine}
use Rattle.start_model.specs.Machine.{Start}
use Rattle.start_model.specs.Sets.{SelectNumbers, NoFreeNumber, has_number, select_numbers_of, usable_numbers_of, free_number_of, taken_number, begin_plan_of, saved_plan, save_plan_of, planned}
use Rattle.start_model.specs.Act as acts
use Rattle.start_model.specs.Act.{RunState, Act, end_with}
use Rattle.start_model.specs.Commit.{save, saved_by, noted_saved}
use Rattle.start_model.specs.Boot.{take_set, begin_by}
use Rattle.start_laws.specs.Taken.{AllTaken}

find_none : (p : ℕ → Bool) (a n : ℕ) → ((k : ℕ) → a ≤ k → k < a + n → p k ≡ false) → find p (range_with_len a n) ≡ None
find_none p a zero h = refl
find_none p a (suc n) h =
    rw (h a (omega arith) (omega arith)) (find_none p (a + 1) n (λ k le lt. h k (omega arith) (omega arith)))

-- where each number is taken, none is free
pub none_free : (usable : List ℕ) → AllTaken usable → free_number_of usable ≡ None
unfolding free_number_of
none_free usable h = find_none (λ n. not (has_number usable n)) 1 999 (λ k le lt. ap not (h k le (omega arith)))

has_range : (a len n : ℕ) → a ≤ n → n < a + len → has_number (range_with_len a len) n ≡ true
has_range a zero n low high = absurd (omega arith)
has_range a (suc len) n low high = split (a == n) refl (λ above. has_range (a + 1) len n above (omega arith))
  where
    split : (b : Bool) → (a == n) ≡ b → (a + 1 ≤ n → has_number (range_with_len (a + 1) len) n ≡ true)
        → (b || has_number (range_with_len (a + 1) len) n) ≡ true
    split true is more = refl
    split false is more =
        let other : a ≡ n → ⊥ = λ e. false≢true (sym is ∙ eq-eqb a n e) in more (omega (arith, other))

-- the numbers from 1 to 999 are all that there can be
pub all_numbers : AllTaken (range_with_len 1 999)
all_numbers n low high = has_range 1 999 n low (omega arith)

-- the free number is from 1 to 999 and names no set
pub record IsFree (usable : List ℕ) (n : ℕ) : Type 0 where
  pub least : 1 ≤ n
  pub most : n ≤ 999
  pub unused : has_number usable n ≡ false
  pub lower : (k : ℕ) → 1 ≤ k → k < n → has_number usable k ≡ true

record Found (p : ℕ → Bool) (a n k : ℕ) : Type 0 where
  low : a ≤ k
  high : k < a + n
  passes : p k ≡ true

some_is : (a b : ℕ) → Some a ≡ Some b → a ≡ b
some_is a b e = cc

find_some : (p : ℕ → Bool) (a n k : ℕ) → find p (range_with_len a n) ≡ Some k → Found p a n k
find_some p a zero k e = absurd cc
find_some p a (suc n) k e = split (p a) refl e (find_some p (a + 1) n k)
  where
    split : (b : Bool) → p a ≡ b → cond b (Some a) (find p (range_with_len (a + 1) n)) ≡ Some k
        → (find p (range_with_len (a + 1) n) ≡ Some k → Found p (a + 1) n k) → Found p a (suc n) k
    split true is same more = let here : a ≡ k = some_is a k same in
        record { low = omega arith; high = omega arith; passes = ap p (sym here) ∙ is }
    split false is same more =
        let below = more same in
        record { low = omega (arith, below.low); high = omega (arith, below.high); passes = below.passes }

not_true : (b : Bool) → not b ≡ true → b ≡ false
not_true true h = absurd (false≢true h)
not_true false h = refl

find_lower : (p : ℕ → Bool) (a n k : ℕ) → find p (range_with_len a n) ≡ Some k → (j : ℕ) → a ≤ j → j < k → p j ≡ false
find_lower p a zero k e j le lt = absurd cc
find_lower p a (suc n) k e j le lt = split (p a) refl e (a == j) refl (find_lower p (a + 1) n k)
  where
    split : (b : Bool) → p a ≡ b → cond b (Some a) (find p (range_with_len (a + 1) n)) ≡ Some k → (c : Bool)
        → (a == j) ≡ c
        → (find p (range_with_len (a + 1) n) ≡ Some k → (j : ℕ) → a + 1 ≤ j → j < k → p j ≡ false) → p j ≡ false
    split true is same c at deep = let here : a ≡ k = some_is a k same in absurd (omega arith)
    split false is same true at deep = ap p (sym (eqb-true a j at)) ∙ is
    split false is same false at deep =
        let other : a ≡ j → ⊥ = λ e. false≢true (sym at ∙ eq-eqb a j e) in deep same j (omega (arith, other)) lt

not_false : (b : Bool) → not b ≡ false → b ≡ true
not_false true h = refl
not_false false h = absurd (false≢true (sym h))

pub is_free : (usable : List ℕ) (n : ℕ) → free_number_of usable ≡ Some n → IsFree usable n
unfolding free_number_of
is_free usable n e =
    let f = find_some (λ k. not (has_number usable k)) 1 999 n e in
    record {
      least = f.low;
      most = omega (arith, f.high);
      unused = not_true (has_number usable n) f.passes;
      lower = λ k low lt. not_false (has_number usable k)
          (find_lower (λ k. not (has_number usable k)) 1 999 n e k low lt);
    }

-- ---- what becomes of a beginning and a save then

-- a beginning that needs a guard has no plan then
pub not_guarded : (numbers : SelectNumbers) (usable : List ℕ) (on_good : Bool) → AllTaken usable
    → has_number usable (taken_number numbers on_good) ≡ true → numbers.good ≡ taken_number numbers on_good
    → begin_plan_of numbers usable on_good ≡ Err NoFreeNumber
not_guarded numbers usable on_good all here same =
    let is : (numbers.good == taken_number numbers on_good) ≡ true = eq-eqb _ _ same in
    rw (here, is, none_free usable all) refl

pub not_saved : (numbers : SelectNumbers) (usable : List ℕ) (clone : Tree) → AllTaken usable
    → save_plan_of numbers usable clone ≡ Err NoFreeNumber
not_saved numbers usable clone all = ap (saved_plan numbers usable clone) (none_free usable all)

pub begins_not : (m : RunState) (on_good : Bool) → AllTaken (usable_numbers_of m.live)
    → has_number (usable_numbers_of m.live) (taken_number (select_numbers_of m.live) on_good) ≡ true
    → (select_numbers_of m.live).good ≡ taken_number (select_numbers_of m.live) on_good
    → take_set on_good m ≡ acts.say (SetLine (taken_number (select_numbers_of m.live) on_good) on_good)
    (end_with verdicts.NoNumber false m)
begins_not m on_good all here same =
    ap (λ r. begin_by on_good m (planned m.version m.live r))
    (not_guarded (select_numbers_of m.live) (usable_numbers_of m.live) on_good all here same)

pub goes_on : (s : Start) (clone : Tree) (m : RunState) (next : RunState → Act) → AllTaken (usable_numbers_of m.live)
    → save s (Some clone) m next ≡ acts.say (SaveRefusedLine false) (next (noted_saved false s m))
goes_on s clone m next all =
    ap (λ r. saved_by s clone m next (planned m.version m.live r))
    (not_saved (select_numbers_of m.live) (usable_numbers_of m.live) clone all)
