-- The front and the end of a list, of which each element passes a test.
use Rattle.std.proofs.Common.{◌≡◌, ℕ, zero, suc, ◌+◌, ◌-◌, ◌<◌, ◌≤◌, Bool, true, false, cond, List, [], ◌∷◌, ◌++◌, length, take, drop, get_or, reverse, refl, sym, ap, ◌∙◌, arith}
use Rattle.std.specs.List.{list_all, prefix_len, suffix_len}
use Rattle.std.proofs.lemmas.Bool.{and_parts}
use Rattle.std.proofs.lemmas.Grind.{reverse_onto}
use Rattle.std.proofs.lemmas.List.{length-append, length-drop, length-take, length-reverse, get_or-reverse, get_or-drop, get_or-take, take_all, take_at, take_more, reverse-append}
use Rattle.std.proofs.lemmas.List.Folds.{list_all-append}
use Rattle.std.proofs.lemmas.List.Sums.{prefix_len_stops, prefix_len_passes, suffix_len-take_no, suffix_len-le-length}

-- ---- the front

pub all_from : (p : ℕ → Bool) (xs : List ℕ) → ((i : ℕ) → i < length xs → p (get_or xs i 0) ≡ true)
    → list_all p xs ≡ true
all_from p [] each = refl
all_from p (x ∷ xs) each = rw (each 0 (omega arith), all_from p xs (λ i lt. each (suc i) (omega arith))) refl

-- the front that passes, before a list
pub prefix_whole : (p : ℕ → Bool) (front rest : List ℕ) → list_all p front ≡ true
    → prefix_len p (front ++ rest) ≡ length front + prefix_len p rest
prefix_whole p [] rest e = omega arith
prefix_whole p (c ∷ front) rest e = let q = and_parts (p c) (list_all p front) e in
    rw (q.0, prefix_whole p front rest q.1) (omega arith)

-- a list of which each passes is its own front
pub whole_front : (p : ℕ → Bool) (text : List ℕ) → list_all p text ≡ true → prefix_len p text ≡ length text
whole_front p [] e = refl
whole_front p (c ∷ cs) e = let q = and_parts (p c) (list_all p cs) e in rw (q.0, whole_front p cs q.1) (omega arith)

pub front_passes : (p : ℕ → Bool) (xs : List ℕ) → list_all p (take (prefix_len p xs) xs) ≡ true
front_passes p xs =
    let n : ℕ = prefix_len p xs in
    all_from p (take n xs)
    (λ i lt.
    let below : i < n = omega (arith, length-take n xs) in
    rw (get_or-take n xs i 0 below) (prefix_len_passes p xs i 0 below))

-- what stands after the front has none
pub no_front : (p : ℕ → Bool) (xs : List ℕ) → prefix_len p (drop (prefix_len p xs) xs) ≡ 0
no_front p [] = refl
no_front p (x ∷ xs) = by_test (p x) refl (no_front p xs)
  where
    one : 1 + prefix_len p xs ≡ suc (prefix_len p xs)
    one = omega arith

    by_test : (b : Bool) → p x ≡ b → prefix_len p (drop (prefix_len p xs) xs) ≡ 0
        → prefix_len p (drop (cond b (1 + prefix_len p xs) 0) (x ∷ xs)) ≡ 0
    by_test true is rest = rw one rest
    by_test false is rest = rw is refl

-- a list that has no front begins with no element that passes
pub first_fails : (p : ℕ → Bool) (c : ℕ) (xs : List ℕ) → prefix_len p (c ∷ xs) ≡ 0 → p c ≡ false
first_fails p c xs none = by_test (p c) refl
  where
    by_test : (b : Bool) → p c ≡ b → b ≡ false
    by_test true e = let some : prefix_len p (c ∷ xs) ≡ 1 + prefix_len p xs = rw e refl in absurd (omega arith)
    by_test false e = refl

-- ---- the end

before_stop : (p : ℕ → Bool) (text : List ℕ) → 0 < length text - suffix_len p text
    → p (get_or text (length text - suffix_len p text - 1) 0) ≡ false
before_stop p text some =
    let r : length (reverse text) ≡ length text = length-reverse text in
    let inside : prefix_len p (reverse text) < length (reverse text) = omega arith in
    let stop = prefix_len_stops p (reverse text) 0 inside in
    let at : length text - suffix_len p text - 1 ≡ length text - 1 - prefix_len p (reverse text) = omega arith in
    let lt : prefix_len p (reverse text) < length text = omega arith in
    rw at (rw (get_or-reverse text (prefix_len p (reverse text)) 0 lt) at stop)

-- a list less its end has none
pub no_suffix : (p : ℕ → Bool) (text : List ℕ) (k : ℕ) → k ≡ length text - suffix_len p text
    → suffix_len p (take k text) ≡ 0
no_suffix p text zero e = refl
no_suffix p text (suc k) e =
    let stop : p (get_or text (suc k - 1) 0) ≡ false = rw e (before_stop p text (omega arith)) in
    suffix_len-take_no p text (suc k) 0 (omega arith) (omega arith) stop

-- each element of the end passes
pub all_behind : (p : ℕ → Bool) (text : List ℕ) (k : ℕ) → k ≡ length text - suffix_len p text
    → list_all p (drop k text) ≡ true
all_behind p text k e =
    all_from p (drop k text)
    (λ i lt.
    let r : length (reverse text) ≡ length text = length-reverse text in
    let few : suffix_len p text ≤ length text = suffix_len-le-length p text in
    let d : length (drop k text) ≡ length text - k = length-drop k text in
    let m : ℕ = length text - 1 - (k + i) in
    let inside : m < prefix_len p (reverse text) = omega arith in
    let within : m < length text = omega arith in
    let back : length text - 1 - m ≡ k + i = omega arith in
    let passes : p (get_or (reverse text) m 0) ≡ true = prefix_len_passes p (reverse text) m 0 inside in
    rw (get_or-drop k text i 0) (rw (get_or-reverse text m 0 within, back) at passes))

-- a list that has no end that passes doesn't end with an element that does
pub last_fails : (p : ℕ → Bool) (text front : List ℕ) (c : ℕ) → suffix_len p text ≡ 0 → text ≡ front ++ c ∷ []
    → p c ≡ false
last_fails p text front c none is = by_test (p c) refl
  where
    back : suffix_len p text ≡ prefix_len p (c ∷ reverse front)
    back = ap (suffix_len p) is ∙ ap (prefix_len p) (reverse-append front (c ∷ []))

    by_test : (b : Bool) → p c ≡ b → b ≡ false
    by_test true e = let some : prefix_len p (c ∷ reverse front) ≡ 1 + prefix_len p (reverse front) = rw e refl in
        absurd (omega (arith, back))
    by_test false e = refl

-- and the other way
pub no_end : (p : ℕ → Bool) (text : List ℕ) → ((front : List ℕ) (c : ℕ) → text ≡ front ++ c ∷ [] → p c ≡ false)
    → suffix_len p text ≡ 0
no_end p [] ends = refl
no_end p (c ∷ text) ends =
    let all : take (length text + 1) (c ∷ text) ≡ c ∷ text = take_all (length text + 1) (c ∷ text) (omega arith) in
    let last : length text + 1 - 1 ≡ length text = omega arith in
    let cut : c ∷ text ≡ take (length text) (c ∷ text) ++ get_or (c ∷ text) (length text) 0 ∷ [] =
    sym all ∙ take_more (c ∷ text) (length text) 0 (omega arith) in
    ap (suffix_len p) (sym all)
    ∙ suffix_len-take_no p (c ∷ text) (length text + 1) 0 (omega arith) (omega arith)
    (rw last (ends (take (length text) (c ∷ text)) (get_or (c ∷ text) (length text) 0) cut))

all_back : (p : ℕ → Bool) (xs : List ℕ) → list_all p xs ≡ true → list_all p (reverse xs) ≡ true
all_back p [] e = refl
all_back p (x ∷ xs) e =
    let q = and_parts (p x) (list_all p xs) e in
    ap (list_all p) (reverse_onto xs x []) ∙ list_all-append p (reverse xs) (x ∷ []) ∙ rw (all_back p xs q.1, q.0) refl

-- an end that passes is dropped, and no more
pub end_dropped : (p : ℕ → Bool) (text more : List ℕ) → list_all p more ≡ true → suffix_len p text ≡ 0
    → take (length (text ++ more) - suffix_len p (text ++ more)) (text ++ more) ≡ text
end_dropped p text more all none =
    let back : suffix_len p (text ++ more) ≡ length (reverse more) + suffix_len p text =
    ap (prefix_len p) (reverse-append text more) ∙ prefix_whole p (reverse more) (reverse text) (all_back p more all) in
    let keep : length (text ++ more) - suffix_len p (text ++ more) ≡ length text =
    omega (arith, length-append text more, length-reverse more) in
    ap (λ (k : ℕ). take k (text ++ more)) keep ∙ take_at text more (length text) refl
