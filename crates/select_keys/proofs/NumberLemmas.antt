-- The numbers from 1 to 999 that pass a test: which they are, and the least one that fails.
use Rattle.std.proofs.Common.{◌≡◌, ℕ, zero, suc, ◌+◌, ◌<◌, ◌≤◌, Bool, true, false, cond, List, [], ◌∷◌, ◌++◌, length, map, take, get_or, set, Option, Some, None, ◌⊎◌, inl, inr, refl, sym, ap, subst, ◌∙◌, arith}
use Rattle.std.specs.Prelude.{◌==◌, ◌||◌, ◌&&◌, not, nat_le, filter, find, option_and_then}
use Rattle.std.specs.Option.{is_some}
use Rattle.std.specs.List.{range_with_len}
use Rattle.std.proofs.lemmas.Bool.{true≢false, eq-eqb, ne_eqb, le-leb, or_from, or_left, and_from, and_right, cases_eq, cases_lt}
use Rattle.std.proofs.lemmas.List.{take_more, get_or-set_other, map-append}
use Rattle.std.proofs.lemmas.Grind.{get_or-set_at}
use lib.ListN.{replicate}
use Rattle.start_model.specs.Sets.{has_number, free_number_of, is_usable, usable_numbers_of, set_of, set_name}
use Rattle.hive_model.specs.Tree as tree
use Rattle.hive_model.specs.Tree.{Tree, key, head, children, find_key, is_named}
use Rattle.select_keys.specs.Numbers.{with_number, numbers_where, numbers_marked}
use Rattle.select_keys.specs.Names.{IsNumberOf}
use Rattle.std.proofs.Math.Bool.{or-false}

-- ---- lists of numbers in a row

-- tests that agree on the numbers keep the same
filter-range-same : (p q : ℕ → Bool) (a len : ℕ) → ((n : ℕ) → a ≤ n → n < a + len → p n ≡ q n)
    → filter p (range_with_len a len) ≡ filter q (range_with_len a len)
filter-range-same p q a zero same = refl
filter-range-same p q a (suc len) same =
    let rest : List ℕ = filter p (range_with_len (a + 1) len) in
    ap (λ b. cond b (a ∷ rest) rest) (same a (omega arith) (omega arith))
    ∙ ap (λ ns. cond (q a) (a ∷ ns) ns)
    (filter-range-same p q (a + 1) len (λ n low high. same n (omega arith) (omega arith)))

filter-range-none : (p : ℕ → Bool) (a len : ℕ) → ((n : ℕ) → a ≤ n → n < a + len → p n ≡ false)
    → filter p (range_with_len a len) ≡ []
filter-range-none p a zero fails = refl
filter-range-none p a (suc len) fails =
    let rest : List ℕ = filter p (range_with_len (a + 1) len) in
    ap (λ b. cond b (a ∷ rest) rest) (fails a (omega arith) (omega arith))
    ∙ filter-range-none p (a + 1) len (λ n low high. fails n (omega arith) (omega arith))

-- a number that is kept is in the row and passes
has_kept : (n a : ℕ) (ns : List ℕ) (b : Bool) → has_number (cond b (a ∷ ns) ns) n ≡ ((b && (a == n)) || has_number ns n)
has_kept n a ns true = refl
has_kept n a ns false = refl

-- a number outside of the row is not kept
has-range-outside : (p : ℕ → Bool) (n a len : ℕ) → (a ≤ n → n < a + len → ⊥)
    → has_number (filter p (range_with_len a len)) n ≡ false
has-range-outside p n a zero out = refl
has-range-outside p n a (suc len) out =
    let rest : List ℕ = filter p (range_with_len (a + 1) len) in
    let other : (a == n) ≡ false = ne_eqb a n (λ same. out (omega (arith, same)) (omega (arith, same))) in
    has_kept n a rest (p a) ∙ or_from (p a && (a == n)) (has_number rest n) (and_right (p a) (a == n) other)
    (has-range-outside p n (a + 1) len (λ low high. out (omega (arith, low)) (omega (arith, high))))

kept_here : (b c r : Bool) → c ≡ true → r ≡ false → ((b && c) || r) ≡ b
kept_here true true false c r = refl
kept_here true true true c r = absurd (true≢false r)
kept_here true false r c none = absurd (true≢false (sym c))
kept_here false c r is none = none

kept_there : (b c r : Bool) → c ≡ false → ((b && c) || r) ≡ r
kept_there true true r c = absurd (true≢false c)
kept_there true false r c = refl
kept_there false c r other = refl

has-range : (p : ℕ → Bool) (n a len : ℕ) → a ≤ n → n < a + len → has_number (filter p (range_with_len a len)) n ≡ p n
has-range p n a zero low high = absurd (omega arith)
has-range p n a (suc len) low high =
    has_kept n a rest (p a) ∙ by_place (cases_eq a n)
    (λ other. has-range p n (a + 1) len (omega (arith, other)) (omega (arith, high)))
  where
    rest : List ℕ
    rest = filter p (range_with_len (a + 1) len)

    by_place : (a ≡ n) ⊎ (a ≡ n → ⊥) → ((a ≡ n → ⊥) → has_number rest n ≡ p n)
        → ((p a && (a == n)) || has_number rest n) ≡ p n
    by_place (inl same) later =
        kept_here (p a) (a == n) (has_number rest n) (eq-eqb a n same)
        (has-range-outside p n (a + 1) len (λ above below. omega (arith, same, above))) ∙ ap p same
    by_place (inr other) later = kept_there (p a) (a == n) (has_number rest n) (ne_eqb a n other) ∙ later other

-- the first number of the row that passes
find-range : (p : ℕ → Bool) (n a len : ℕ) → a ≤ n → n < a + len → ((k : ℕ) → a ≤ k → k < n → p k ≡ false) → p n ≡ true
    → find p (range_with_len a len) ≡ Some n
find-range p n a zero low high before here = absurd (omega arith)
find-range p n a (suc len) low high before here =
    by_place (cases_eq a n) (λ other. find-range p n (a + 1) len (omega (arith, other)) (omega (arith, high))
    (λ k from below. before k (omega (arith, from)) below) here)
  where
    rest : Option ℕ
    rest = find p (range_with_len (a + 1) len)

    by_place : (a ≡ n) ⊎ (a ≡ n → ⊥) → ((a ≡ n → ⊥) → rest ≡ Some n) → cond (p a) (Some a) rest ≡ Some n
    by_place (inl same) later = ap (λ b. cond b (Some a) rest) (ap p same ∙ here) ∙ ap (λ m. Some m) same
    by_place (inr other) later =
        ap (λ b. cond b (Some a) rest) (before a (omega arith) (omega (arith, other))) ∙ later other

find-range-none : (p : ℕ → Bool) (a len : ℕ) → ((k : ℕ) → a ≤ k → k < a + len → p k ≡ false)
    → find p (range_with_len a len) ≡ None
find-range-none p a zero fails = refl
find-range-none p a (suc len) fails =
    let rest : Option ℕ = find p (range_with_len (a + 1) len) in
    ap (λ b. cond b (Some a) rest) (fails a (omega arith) (omega arith))
    ∙ find-range-none p (a + 1) len (λ n low high. fails n (omega arith) (omega arith))

-- ---- the numbers of sets

pub numbers_where-same : (p q : ℕ → Bool) → ((n : ℕ) → 1 ≤ n → n ≤ 999 → p n ≡ q n) → numbers_where p ≡ numbers_where q
unfolding numbers_where
numbers_where-same p q same = filter-range-same p q 1 999 (λ n low high. same n low (omega arith))

pub numbers_where-none : (p : ℕ → Bool) → ((n : ℕ) → 1 ≤ n → n ≤ 999 → p n ≡ false) → numbers_where p ≡ []
unfolding numbers_where
numbers_where-none p fails = filter-range-none p 1 999 (λ n low high. fails n low (omega arith))

pub has-numbers_where : (p : ℕ → Bool) (n : ℕ) → 1 ≤ n → n ≤ 999 → has_number (numbers_where p) n ≡ p n
unfolding numbers_where
has-numbers_where p n low high = has-range p n 1 999 low (omega arith)

pub has_none-outside : (p : ℕ → Bool) (n : ℕ) → (1 ≤ n → n ≤ 999 → ⊥) → has_number (numbers_where p) n ≡ false
unfolding numbers_where
has_none-outside p n out = has-range-outside p n 1 999 (λ low high. out low (omega arith))

pub usable_numbers_of-where : (t : Tree) → usable_numbers_of t ≡ numbers_where (is_usable t)
unfolding numbers_where usable_numbers_of
usable_numbers_of-where t = refl

-- one more number among those that pass
pub has-with_number : (p : ℕ → Bool) (n k : ℕ) → 1 ≤ n → n ≤ 999
    → has_number (with_number n (numbers_where p)) k ≡ has_number (n ∷ numbers_where p) k
has-with_number p n k low high = by_place (cases_lt k 1) (cases_lt 999 k)
  where
    outside : (1 ≤ k → k ≤ 999 → ⊥)
        → has_number (with_number n (numbers_where p)) k ≡ has_number (n ∷ numbers_where p) k
    outside out =
        has_none-outside (has_number (n ∷ numbers_where p)) k out
        ∙ sym (or_from (n == k) (has_number (numbers_where p) k)
        (ne_eqb n k (λ same. out (omega (arith, same, low)) (omega (arith, same, high))))
        (has_none-outside p k out))

    by_place : (k < 1) ⊎ (1 ≤ k) → (999 < k) ⊎ (k ≤ 999)
        → has_number (with_number n (numbers_where p)) k ≡ has_number (n ∷ numbers_where p) k
    by_place (inl below) rest = outside (λ from to. omega (arith, below, from))
    by_place (inr from) (inl above) = outside (λ from to. omega (arith, above, to))
    by_place (inr from) (inr to) = has-numbers_where (has_number (n ∷ numbers_where p)) k from to

-- ---- the free number

pub free_number-first : (numbers : List ℕ) (n : ℕ) → 1 ≤ n → n ≤ 999
    → ((k : ℕ) → 1 ≤ k → k < n → has_number numbers k ≡ true) → has_number numbers n ≡ false
    → free_number_of numbers ≡ Some n
unfolding free_number_of
free_number-first numbers n low high before here =
    find-range (λ k. not (has_number numbers k)) n 1 999 low (omega arith)
    (λ k from below. ap not (before k from below)) (ap not here)

pub free_number-none : (numbers : List ℕ) → ((k : ℕ) → 1 ≤ k → k ≤ 999 → has_number numbers k ≡ true)
    → free_number_of numbers ≡ None
unfolding free_number_of
free_number-none numbers all =
    find-range-none (λ k. not (has_number numbers k)) 1 999 (λ k low high. ap not (all k low (omega arith)))

-- ---- the table

unmarked : (len n : ℕ) → get_or (replicate len false) n false ≡ false
unmarked zero n = refl
unmarked (suc len) zero = refl
unmarked (suc len) (suc n) = unmarked len n

pub none_marked : numbers_marked (replicate 1000 false) ≡ []
none_marked = numbers_where-none (λ n. get_or (replicate 1000 false) n false) (λ n low high. unmarked 1000 n)

pub numbers_marked-set : (marks : List Bool) (n : ℕ) → length marks ≡ 1000 → 1 ≤ n → n ≤ 999
    → numbers_marked (set marks n true) ≡ with_number n (numbers_marked marks)
numbers_marked-set marks n whole low high = numbers_where-same _ _ (λ k from to.
    by_place k (cases_eq n k) (has-numbers_where (λ i. get_or marks i false) k from to))
  where
    by_place : (k : ℕ) → (n ≡ k) ⊎ (n ≡ k → ⊥) → has_number (numbers_marked marks) k ≡ get_or marks k false
        → get_or (set marks n true) k false ≡ has_number (n ∷ numbers_marked marks) k
    by_place k (inl same) old =
        get_or-set_at marks n k true false (sym same) (omega (arith, whole, high))
        ∙ sym (or_left (n == k) (has_number (numbers_marked marks) k) (eq-eqb n k same))
    by_place k (inr other) old =
        get_or-set_other marks n k true false (λ e. other (sym e)) ∙ sym old
        ∙ ap (λ b. b || has_number (numbers_marked marks) k) (sym (ne_eqb n k other))

-- ---- the sets of a tree

-- the numbers whose set is among these keys
abbrev pub numbers_among : List Tree → List ℕ
numbers_among keys = numbers_where (λ n. is_some (find (is_named (set_name n)) keys))

found_more : (p : Tree → Bool) (keys : List Tree) (t : Tree)
    → is_some (find p (keys ++ t ∷ [])) ≡ (is_some (find p keys) || p t)
found_more p [] t = last (p t)
  where
    last : (b : Bool) → is_some (cond b (Some t) None) ≡ b
    last true = refl
    last false = refl
found_more p (k ∷ ks) t = by_first (p k) (found_more p ks t)
  where
    by_first : (b : Bool) → is_some (find p (ks ++ t ∷ [])) ≡ (is_some (find p ks) || p t)
        → is_some (cond b (Some k) (find p (ks ++ t ∷ []))) ≡ (is_some (cond b (Some k) (find p ks)) || p t)
    by_first true later = refl
    by_first false later = later

or_swap : (a b : Bool) → (a || b) ≡ (b || a)
or_swap true true = refl
or_swap true false = refl
or_swap false true = refl
or_swap false false = refl

-- a key whose name is that of a set adds the set's number
among_named : (keys : List Tree) (t : Tree) (n : ℕ) → IsNumberOf (head t).name (Some n)
    → with_number n (numbers_among keys) ≡ numbers_among (keys ++ t ∷ [])
among_named keys t n is = numbers_where-same _ _ (λ k low high.
    let there : ℕ → Bool = λ m. is_some (find (is_named (set_name m)) keys) in
    ap (λ b. (n == k) || b) (has-numbers_where there k low high) ∙ or_swap (n == k) (there k)
    ∙ ap (λ b. there k || b) (sym (is.named k low high)) ∙ sym (found_more (is_named (set_name k)) keys t))

-- another key adds none
among_unnamed : (keys : List Tree) (t : Tree) → IsNumberOf (head t).name None
    → numbers_among keys ≡ numbers_among (keys ++ t ∷ [])
among_unnamed keys t is = numbers_where-same _ _ (λ k low high.
    let there : Bool = is_some (find (is_named (set_name k)) keys) in
    sym (or-false there) ∙ ap (λ b. there || b) (sym (is.named k low high))
    ∙ sym (found_more (is_named (set_name k)) keys t))

among_next : (items : List Tree) (i : ℕ) (t : Tree) → i < length items → t ≡ get_or items i t
    → numbers_among (take i items ++ t ∷ []) ≡ numbers_among (take (i + 1) items)
among_next items i t lt is =
    ap (λ u. numbers_among (take i items ++ u ∷ [])) is ∙ ap numbers_among (sym (take_more items i t lt))

pub among_next_named : (items : List Tree) (i : ℕ) (t : Tree) (name : List ℕ) (n : ℕ) → i < length items
    → t ≡ get_or items i t → name ≡ (head t).name → IsNumberOf name (Some n)
    → with_number n (numbers_among (take i items)) ≡ numbers_among (take (i + 1) items)
among_next_named items i t name n lt is named number =
    let P : List ℕ → Type 0 = λ u. IsNumberOf u (Some n) in
    among_named (take i items) t n (subst P named number) ∙ among_next items i t lt is

pub among_next_unnamed : (items : List Tree) (i : ℕ) (t : Tree) (name : List ℕ) → i < length items
    → t ≡ get_or items i t → name ≡ (head t).name → IsNumberOf name None
    → numbers_among (take i items) ≡ numbers_among (take (i + 1) items)
among_next_unnamed items i t name lt is named number =
    let P : List ℕ → Type 0 = λ u. IsNumberOf u None in
    among_unnamed (take i items) t (subst P named number) ∙ among_next items i t lt is

pub among_none : [] ≡ numbers_among []
among_none = sym (numbers_where-none _ (λ n low high. refl))

one_name : (o : Option Tree) → is_some (option_and_then (find_key []) o) ≡ is_some o
one_name None = refl
one_name (Some t) = refl

-- the sets of a tree are among the root's children
pub among_children : (t : Tree) → numbers_among (children t) ≡ usable_numbers_of t
among_children t = numbers_where-same _ _ (λ n low high.
    sym (one_name (find (is_named (set_name n)) (children t)))
    ∙ ap (λ b. b && is_some (set_of t n))
    (sym (and_from (nat_le 1 n) (nat_le n 999) (le-leb 1 n low) (le-leb n 999 high))))
    ∙ sym (usable_numbers_of-where t)

-- ---- the same by the names of the root's children

-- a key of this name, with nothing in it
abbrev key_named : List ℕ → Tree
key_named name = key (record { name = name; flags = 0; stamp = 0; class = []; security = []; values = [] }) tree.none

-- the numbers of the sets of these names
abbrev pub numbers_named : List (List ℕ) → List ℕ
numbers_named names = numbers_among (map key_named names)

named_more : (names : List (List ℕ)) (i : ℕ) (name : List ℕ) → i < length names → name ≡ get_or names i name
    → map key_named (take i names) ++ key_named name ∷ [] ≡ map key_named (take (i + 1) names)
named_more names i name lt is =
    sym (map-append key_named (take i names) (name ∷ []))
    ∙ ap (λ n. map key_named (take i names ++ n ∷ [])) is ∙ ap (map key_named) (sym (take_more names i name lt))

pub named_next_set : (names : List (List ℕ)) (i : ℕ) (name read : List ℕ) (n : ℕ) → i < length names
    → name ≡ get_or names i name → read ≡ name → IsNumberOf read (Some n)
    → with_number n (numbers_named (take i names)) ≡ numbers_named (take (i + 1) names)
named_next_set names i name read n lt is same number =
    let P : List ℕ → Type 0 = λ u. IsNumberOf u (Some n) in
    among_named (map key_named (take i names)) (key_named name) n (subst P same number)
    ∙ ap numbers_among (named_more names i name lt is)

pub named_next_other : (names : List (List ℕ)) (i : ℕ) (name read : List ℕ) → i < length names
    → name ≡ get_or names i name → read ≡ name → IsNumberOf read None
    → numbers_named (take i names) ≡ numbers_named (take (i + 1) names)
named_next_other names i name read lt is same number =
    let P : List ℕ → Type 0 = λ u. IsNumberOf u None in
    among_unnamed (map key_named (take i names)) (key_named name) (subst P same number)
    ∙ ap numbers_among (named_more names i name lt is)

found_named : (name : List ℕ) (keys : List Tree)
    → is_some (find (is_named name) (map key_named (map (λ t. (head t).name) keys)))
    ≡ is_some (find (is_named name) keys)
found_named name [] = refl
found_named name (k ∷ ks) = by_first (is_named name k) (found_named name ks)
  where
    by_first : (b : Bool) → is_some (find (is_named name) (map key_named (map (λ t. (head t).name) ks)))
        ≡ is_some (find (is_named name) ks)
        → is_some (cond b (Some (key_named (head k).name))
        (find (is_named name) (map key_named (map (λ t. (head t).name) ks))))
        ≡ is_some (cond b (Some k) (find (is_named name) ks))
    by_first true later = refl
    by_first false later = later

-- the names of the root's children tell the sets
pub named_children : (t : Tree) (names : List (List ℕ)) → names ≡ map (λ key. (head key).name) (children t)
    → numbers_named names ≡ usable_numbers_of t
named_children t names is =
    ap numbers_named is ∙ numbers_where-same _ _ (λ n low high. found_named (set_name n) (children t))
    ∙ among_children t
