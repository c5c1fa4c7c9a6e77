-- How many entries the phases take: each takes entries of its own Start.
use Rattle.std.proofs.Common.{◌≡◌, ℕ, zero, suc, ◌+◌, ◌<◌, ◌≤◌, Bool, true, false, ◌&&◌, ◌||◌, not, cond, List, [], ◌∷◌, ◌++◌, length, Option, Some, None, refl, sym, ap, subst, ◌∙◌, append_assoc, arith}
use Rattle.std.specs.Prelude.{filter, slice_get, ◌==◌}
use Rattle.std.specs.Option.{option_map, option_map_or}
use Rattle.std.specs.List.{filter_map, cons_option, list_any, range_with_len}
use Rattle.nt_bytes.specs.Folding.{folds_same}
use Rattle.std.proofs.lemmas.List.{length-append}
use Rattle.std.proofs.lemmas.Bool.{false≢true, eqb-true}
use Rattle.hive_model.specs.Tree.{Tree}
use Rattle.start_model.specs.Demand.{Need, IsClosed, is_taken, automatic_of}
use Rattle.start_model.specs.Entries.{Entry, Phase, Boot, System, Automatic, Done, entry_of, entries_of, services_of, need_of, is_driver, is_driver_of, is_open, was_tried, places_of, needs_at, taken_of}
use Rattle.start_model.specs.Order.{Rank, is_before, placed, ordered_of, orders_of, rank_of, tags_count_in, ranks_of, plan_of}
use Rattle.dependencies.proofs.PulledLemmas.{is_taken-least_of_all}

-- ---- lengths and counts

-- how many items pass
abbrev pub number : {X : Type 0} → (X → Bool) → List X → ℕ
number p [] = 0
number p (x ∷ xs) = cond (p x) (suc (number p xs)) (number p xs)

length-cond : {X : Type 0} (b : Bool) (x : X) (xs : List X) (n : ℕ) → length xs ≡ n
    → length (cond b (x ∷ xs) xs) ≡ cond b (suc n) n
length-cond true x xs n e = ap suc e
length-cond false x xs n e = e

length-filter : {X : Type 0} (p : X → Bool) (xs : List X) → length (filter p xs) ≡ number p xs
length-filter p [] = refl
length-filter p (x ∷ xs) = length-cond (p x) x (filter p xs) (number p xs) (length-filter p xs)

length-cons_option : {X : Type 0} (o : Option X) (xs : List X) (n : ℕ) → length xs ≤ n
    → length (cons_option o xs) ≤ suc n
length-cons_option None xs n le = omega arith
length-cons_option (Some x) xs n le = omega arith

at_most : {X Y : Type 0} (h : X → Option Y) (xs : List X) → length (filter_map h xs) ≤ length xs
at_most h [] = omega arith
at_most h (x ∷ xs) = length-cons_option (h x) (filter_map h xs) (length xs) (at_most h xs)

length-placed : (r : Rank) (rs : List Rank) → length (placed r rs) ≡ suc (length rs)
length-placed r [] = refl
length-placed r (s ∷ rs) = by_order (is_before r s) (length-placed r rs)
  where
    by_order : (b : Bool) → length (placed r rs) ≡ suc (length rs)
        → length (cond b (r ∷ s ∷ rs) (s ∷ placed r rs)) ≡ suc (length (s ∷ rs))
    by_order true e = refl
    by_order false e = ap suc e

length-ordered_of : (rs : List Rank) → length (ordered_of rs) ≡ length rs
length-ordered_of [] = refl
length-ordered_of (r ∷ rs) = length-placed r (ordered_of rs) ∙ ap suc (length-ordered_of rs)

counted : (a b : Bool) (m n : ℕ) → (a ≡ true → b ≡ true) → m ≤ n → cond a (suc m) m ≤ cond b (suc n) n
counted true true m n f le = omega arith
counted true false m n f le = absurd (false≢true (f refl))
counted false true m n f le = omega arith
counted false false m n f le = le

uncounted : (b : Bool) (m n : ℕ) → m ≤ n → m ≤ cond b (suc n) n
uncounted true m n le = omega arith
uncounted false m n le = le

number-mono : {X : Type 0} (p q : X → Bool) → ((x : X) → p x ≡ true → q x ≡ true) → (xs : List X)
    → number p xs ≤ number q xs
number-mono p q f [] = omega arith
number-mono p q f (x ∷ xs) = counted (p x) (q x) (number p xs) (number q xs) (f x) (number-mono p q f xs)

number-range : (p q : ℕ → Bool) (a n : ℕ) → ((k : ℕ) → k < a + n → p k ≡ true → q k ≡ true)
    → number p (range_with_len a n) ≤ number q (range_with_len a n)
number-range p q a zero f = omega arith
number-range p q a (suc n) f =
    counted (p a) (q a) (number p (range_with_len (a + 1) n)) (number q (range_with_len (a + 1) n)) (f a (omega arith))
    (number-range p q (a + 1) n (λ k lt. f k (omega arith)))

number-cond : {X : Type 0} (q : X → Bool) (b : Bool) (x : X) (xs : List X) (n : ℕ) → number q xs ≤ n
    → number q (cond b (x ∷ xs) xs) ≤ cond (q x) (suc n) n
number-cond q true x xs n le = counted (q x) (q x) (number q xs) n (λ t. t) le
number-cond q false x xs n le = uncounted (q x) (number q xs) n le

number-filter : {X : Type 0} (q p : X → Bool) (xs : List X) → number q (filter p xs) ≤ number q xs
number-filter q p [] = omega arith
number-filter q p (x ∷ xs) = number-cond q (p x) x (filter p xs) (number q xs) (number-filter q p xs)

number-option : {X Y : Type 0} (q : Y → Bool) (r : X → Bool) (f : X → Y) → ((x : X) → q (f x) ≡ r x)
    → (o : Option X) (ys : List Y) (n : ℕ) → number q ys ≤ n
    → number q (cons_option (option_map f o) ys) ≤ cond (option_map_or r o false) (suc n) n
number-option q r f same None ys n le = le
number-option q r f same (Some x) ys n le = counted (q (f x)) (r x) (number q ys) n (λ t. sym (same x) ∙ t) le

slice_get-between : {X : Type 0} (front : List X) (x : X) (xs : List X)
    → slice_get (front ++ x ∷ xs) (length front) ≡ Some x
slice_get-between [] x xs = refl
slice_get-between (c ∷ front) x xs = slice_get-between front x xs

abbrev passes_at : {X : Type 0} → (X → Bool) → List X → ℕ → Bool
passes_at test xs p = option_map_or test (slice_get xs p) false

at_place : {X : Type 0} (test : X → Bool) (whole : List X) (a : ℕ) (x : X) → slice_get whole a ≡ Some x
    → passes_at test whole a ≡ test x
at_place test whole a x e = rw e refl

get_at : {X : Type 0} (front : List X) (x : X) (xs whole : List X) (a : ℕ) → whole ≡ front ++ x ∷ xs → length front ≡ a
    → slice_get whole a ≡ Some x
get_at front x xs whole a is at = rw (is, ← at) (slice_get-between front x xs)

-- the same number of places pass as items
number-places : {X : Type 0} (test : X → Bool) (front xs whole : List X) (a : ℕ) → whole ≡ front ++ xs
    → length front ≡ a → number (passes_at test whole) (range_with_len a (length xs)) ≡ number test xs
number-places test front [] whole a is at = refl
number-places test front (x ∷ xs) whole a is at =
    let one : passes_at test whole a ≡ test x = at_place test whole a x (get_at front x xs whole a is at) in
    let rest : number (passes_at test whole) (range_with_len (a + 1) (length xs)) ≡ number test xs =
    number-places test (front ++ x ∷ []) xs whole (a + 1) (is ∙ sym (append_assoc front (x ∷ []) xs))
    (length-append front (x ∷ []) ∙ ap (λ (n : ℕ). n + 1) at) in
    ap (λ (n : ℕ). cond (passes_at test whole a) (suc n) n) rest
    ∙ ap (λ (b : Bool). cond b (suc (number test xs)) (number test xs)) one

places_number : {X : Type 0} (test : X → Bool) (xs : List X)
    → number (passes_at test xs) (range_with_len 0 (length xs)) ≡ number test xs
places_number test xs = number-places test [] xs xs 0 refl refl

-- ---- what a phase takes

abbrev starts : ℕ → Entry → Bool
starts n e = e.start == n

abbrev starts_late : Entry → Bool
starts_late e = (e.start == 2) || (e.start == 3)

pub right_of : (a b : Bool) → (a && b) ≡ true → b ≡ true
right_of true b e = e
right_of false b e = absurd (false≢true e)

pub left_of : (a b : Bool) → (a && b) ≡ true → a ≡ true
left_of true b e = refl
left_of false b e = absurd (false≢true e)

driver_starts : (n : ℕ) (tried : List (List ℕ)) (e : Entry) → is_driver_of n tried e ≡ true → starts n e ≡ true
driver_starts n tried e h =
    right_of (is_driver e.kind) (starts n e) (left_of (is_driver e.kind && starts n e) (not (was_tried tried e)) h)

drivers_taken : (n : ℕ) (tried : List (List ℕ)) (es : List Entry)
    → length (places_of (is_driver_of n tried) es) ≤ number (starts n) es
drivers_taken n tried es =
    omega (
      arith,
      length-filter (passes_at (is_driver_of n tried) es) (range_with_len 0 (length es)),
      places_number (is_driver_of n tried) es,
      number-mono (is_driver_of n tried) (starts n) (driver_starts n tried) es,
    )

abbrev need_late : Need → Bool
need_late n = (n.start == 2) || (n.start == 3)

late_two : (n : Need) → (n.start == 2) ≡ true → need_late n ≡ true
late_two n e = rw e refl

late_three : (n : Need) → (n.start == 3) ≡ true → need_late n ≡ true
late_three n e = let P : ℕ → Type 0 = λ s. ((s == 2) || (s == 3)) ≡ true in subst P (sym (eqb-true n.start 3 e)) refl

late_closed : (table : List Need) → IsClosed table (passes_at need_late table)
late_closed table = record {
  starts = λ q e. two_at (slice_get table q) e;
  pulled = λ p q t e. three_at (slice_get table p) (slice_get table q) e;
}
  where
    two_at : (o : Option Need) → option_map_or (λ n. n.start == 2) o false ≡ true
        → option_map_or need_late o false ≡ true
    two_at None e = absurd (false≢true e)
    two_at (Some n) e = late_two n e

    three_in : (a : Need) (o : Option Need)
        → option_map_or (λ b. (b.start == 3) && list_any (folds_same b.name) a.services) o false ≡ true
        → option_map_or need_late o false ≡ true
    three_in a None e = absurd (false≢true e)
    three_in a (Some b) e = late_three b (left_of (b.start == 3) (list_any (folds_same b.name) a.services) e)

    three_at : (o r : Option Need)
        → option_map_or (λ a. option_map_or (λ b. (b.start == 3) && list_any (folds_same b.name) a.services) r false)
        o false ≡ true → option_map_or need_late r false ≡ true
    three_at None r e = absurd (false≢true e)
    three_at (Some a) r e = three_in a r e

automatic_late : (table : List Need) → length (automatic_of table) ≤ number need_late table
automatic_late table =
    omega (
      arith,
      length-filter (is_taken table) (range_with_len 0 (length table)),
      places_number need_late table,
      number-range (is_taken table) (passes_at need_late table) 0 (length table)
          (λ k lt e. is_taken-least_of_all table (passes_at need_late table) (late_closed table) k (omega arith) e),
    )

late_at : (es : List Entry) (places : List ℕ)
    → number need_late (needs_at es places) ≤ number (passes_at starts_late es) places
late_at es [] = omega arith
late_at es (p ∷ places) =
    number-option need_late starts_late need_of (λ e. refl) (slice_get es p) (needs_at es places)
    (number (passes_at starts_late es) places) (late_at es places)

late_in : (p : Entry → Bool) (es : List Entry) → number need_late (needs_at es (places_of p es)) ≤ number starts_late es
late_in p es =
    omega (
      arith,
      late_at es (places_of p es),
      number-filter (passes_at starts_late es) (passes_at p es) (range_with_len 0 (length es)),
      places_number starts_late es,
    )

automatic_taken : (tried : List (List ℕ)) (es : List Entry)
    → length (taken_of es Automatic tried) ≤ number starts_late es
automatic_taken tried es =
    omega (
      arith,
      at_most (slice_get (places_of (is_open tried) es))
          (automatic_of (needs_at es (places_of (is_open tried) es))),
      automatic_late (needs_at es (places_of (is_open tried) es)),
      late_in (is_open tried) es,
    )

plan_within : (set : Tree) (phase : Phase) (tried : List (List ℕ))
    → length (plan_of set phase tried) ≤ length (taken_of (entries_of set) phase tried)
plan_within set phase tried =
    omega (
      arith,
      at_most (λ (r : Rank). slice_get (entries_of set) r.place) (ordered_of (ranks_of set phase tried)),
      length-ordered_of (ranks_of set phase tried),
      at_most (λ (p : ℕ). option_map (rank_of (orders_of set) (tags_count_in phase) p) (slice_get (entries_of set) p))
          (taken_of (entries_of set) phase tried),
    )

-- how many entries of a set have Start 1, and how many have Start 2 or 3
abbrev pub system_count : Tree → ℕ
system_count set = number (starts 1) (entries_of set)

abbrev pub late_count : Tree → ℕ
late_count set = number starts_late (entries_of set)

pub system_plan : (set : Tree) (tried : List (List ℕ)) → length (plan_of set System tried) ≤ system_count set
system_plan set tried = omega (arith, plan_within set System tried, drivers_taken 1 tried (entries_of set))

pub automatic_plan : (set : Tree) (tried : List (List ℕ)) → length (plan_of set Automatic tried) ≤ late_count set
automatic_plan set tried = omega (arith, plan_within set Automatic tried, automatic_taken tried (entries_of set))

apart : (es : List Entry) → number (starts 1) es + number starts_late es ≤ length es
apart [] = omega arith
apart (e ∷ es) = by_start (starts 1 e) refl (apart es)
  where
    late_no : starts 1 e ≡ true → starts_late e ≡ false
    late_no is = let P : ℕ → Type 0 = λ s. ((s == 2) || (s == 3)) ≡ false in subst P (sym (eqb-true e.start 1 is)) refl

    grown : (b : Bool) (m n l : ℕ) → m + n ≤ l → m + cond b (suc n) n ≤ suc l
    grown true m n l le = omega arith
    grown false m n l le = omega arith

    by_start : (b : Bool) → starts 1 e ≡ b → number (starts 1) es + number starts_late es ≤ length es
        → cond b (suc (number (starts 1) es)) (number (starts 1) es)
        + cond (starts_late e) (suc (number starts_late es)) (number starts_late es) ≤ length (e ∷ es)
    by_start true is le = rw (late_no is) (omega arith)
    by_start false is le = grown (starts_late e) (number (starts 1) es) (number starts_late es) (length es) le

pub all_counts : (set : Tree) → system_count set + late_count set ≤ length (services_of set)
all_counts set = omega (arith, apart (entries_of set), at_most entry_of (services_of set))

number-most : {X : Type 0} (p : X → Bool) (xs : List X) → number p xs ≤ length xs
number-most p [] = omega arith
number-most p (x ∷ xs) = by_case (p x) (number-most p xs)
  where
    by_case : (b : Bool) → number p xs ≤ length xs → cond b (suc (number p xs)) (number p xs) ≤ suc (length xs)
    by_case true le = omega arith
    by_case false le = omega arith

-- a phase takes no more entries than there are services
pub plan_few : (set : Tree) (phase : Phase) (tried : List (List ℕ))
    → length (plan_of set phase tried) ≤ length (services_of set)
plan_few set Boot tried =
    omega (
      arith,
      plan_within set Boot tried,
      drivers_taken 0 tried (entries_of set),
      number-most (starts 0) (entries_of set),
      at_most entry_of (services_of set),
    )
plan_few set System tried = omega (arith, system_plan set tried, all_counts set)
plan_few set Automatic tried = omega (arith, automatic_plan set tried, all_counts set)
plan_few set Done tried = omega (arith, plan_within set Done tried)
