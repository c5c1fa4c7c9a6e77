-- The sizes of cells add up, and what an edit may need only grows by further steps.
use Rattle.std.specs.Prelude.{nat_lt, if◌then◌else◌, replicate, map, flat_map, ◌↔◌, ◌⊎◌, Result, Ok, Err}
use Rattle.std.proofs.Common.{◌≡◌, ◌≤◌, ◌+◌, ◌*◌, ◌/◌, ◌%◌, ◌==◌, sum, ℕ, Bool, true, false, List, [], ◌∷◌, ◌++◌, length, refl, sym, ap, subst, ◌∙◌, inl, inr, ⊎_elim, arith}
use Rattle.std.proofs.lemmas.Bool.{eqb-true, ne_eqb}
use Rattle.std.proofs.lemmas.List.Sums.{sum_by-append, sum_by-cons}
use Rattle.std.proofs.lemmas.List.Folds.{sum_by-replicate}
use Rattle.nt_bytes.specs.declared.version.HiveVersion.{HiveVersion}
use Rattle.nt_bytes.specs.Reading.{◌>>=◌}
use Rattle.hive_model.specs.Tree.{Item, Head, Tree, Trees, key, none, more}
use Rattle.hive_model.specs.Size.{cell, name_bytes, cells_sum, data_sizes, item_size, items_sum, items_size, class_size, security_size, node_size, head_size, part_count, list_size, count, size, size_of_all}
use Rattle.hive_model.specs.Edit.{Step, Refusal, after_step, after_steps}
use Rattle.hive_model.specs.Bins.{Cells}
use Rattle.hive_model.specs.Packed.{rounded}
use Rattle.hive_model.specs.Owned.{IsInFootprint}
use Rattle.hive_model.specs.Footprint.{unless_refused, some_cell, item_sizes, value_list_sizes, head_sizes, list_sizes, sizes, sizes_of_all, room_of, needed_sizes, strain_of, list_strain_of}

-- ---- sums of sizes

sum_append : (xs ys : List ℕ) → sum (xs ++ ys) ≡ sum xs + sum ys
sum_append xs ys = sum_by-append (λ x. x) xs ys

sum_cons : (x : ℕ) (xs : List ℕ) → sum (x ∷ xs) ≡ x + sum xs
sum_cons x xs = sum_by-cons (λ x. x) x xs

sum_one : (none_there : Bool) (n : ℕ) → sum (if none_there then [] else n ∷ []) ≡ (if none_there then 0 else n)
sum_one true n = refl
sum_one false n = omega (arith, sum_cons n [])

-- a size that is 0 where there is no cell adds nothing
some_sum : (n : ℕ) (none_there : Bool) → (n == 0) ≡ none_there → sum (if none_there then [] else n ∷ []) ≡ n
some_sum n true e = sym (eqb-true n 0 e)
some_sum n false e = sum_one false n

some_cell_sum : (n : ℕ) → sum (some_cell n) ≡ n
some_cell_sum n = some_sum n (n == 0) refl

-- the lists of a key's children add up: none, one, or a head with full ones and a rest
sum_lists : (empty one full : Bool) (few head rest whole k : ℕ)
    → sum (if empty then [] else if one then few ∷ [] else head
    ∷ (replicate k whole ++ (if full then [] else rest ∷ [])))
    ≡ (if empty then 0 else if one then few else head + k * whole + (if full then 0 else rest))
sum_lists true one full few head rest whole k = refl
sum_lists false true full few head rest whole k = sum_one false few
sum_lists false false full few head rest whole k =
    sum_cons head (replicate k whole ++ (if full then [] else rest ∷ []))
    ∙ ap (λ n. head + n) (sum_append (replicate k whole) (if full then [] else rest ∷ []))
    ∙ ap (λ n. head + (n + sum (if full then [] else rest ∷ []))) (sum_by-replicate (λ x. x) k whole)
    ∙ ap (λ n. head + (k * whole + n)) (sum_one full rest)
    ∙ (omega arith)

-- so the sizes of lists add up to the size of the lists
pub lists_sum : (n : ℕ) → sum (list_sizes n) ≡ list_size n
unfolding list_sizes
lists_sum n =
    sum_lists (n == 0) (nat_lt n 501) (n % 500 == 0) (cell (4 + 8 * n)) (cell (4 + 4 * part_count n))
    (cell (4 + 8 * (n % 500))) (cell 4004) (n / 500)

cells_sum_is : (ns : List ℕ) → sum (map cell ns) ≡ cells_sum ns
cells_sum_is [] = refl
cells_sum_is (n ∷ ns) = sum_cons (cell n) (map cell ns) ∙ ap (λ k. cell n + k) (cells_sum_is ns)

-- a value's cells add up to its size, and those of values in a row to theirs
item_sum : (version : HiveVersion) (v : Item) → sum (item_sizes version v) ≡ item_size version v
item_sum version v =
    let lengths = data_sizes version (length v.bytes) in
    sum_cons (cell (20 + name_bytes v.name)) (map cell lengths)
    ∙ ap (λ n. cell (20 + name_bytes v.name) + n) (cells_sum_is lengths)

items_sums : (version : HiveVersion) (vs : List Item) → sum (flat_map (item_sizes version) vs) ≡ items_sum version vs
items_sums version [] = refl
items_sums version (v ∷ vs) =
    sum_append (item_sizes version v) (flat_map (item_sizes version) vs)
    ∙ ap (λ n. n + sum (flat_map (item_sizes version) vs)) (item_sum version v)
    ∙ ap (λ n. item_size version v + n) (items_sums version vs)

values_sum : (version : HiveVersion) (vs : List Item)
    → sum (value_list_sizes (length vs) ++ flat_map (item_sizes version) vs) ≡ items_size version vs
values_sum version [] = refl
values_sum version (v ∷ vs) =
    sum_append (value_list_sizes (length (v ∷ vs))) (flat_map (item_sizes version) (v ∷ vs))
    ∙ ap (λ n. sum (value_list_sizes (length (v ∷ vs))) + n) (items_sums version (v ∷ vs))
    ∙ ap (λ b. sum (if b then [] else cell (4 * length (v ∷ vs)) ∷ []) + items_sum version (v ∷ vs))
    (ne_eqb (length (v ∷ vs)) 0 (λ e. omega arith))
    ∙ ap (λ n. n + items_sum version (v ∷ vs)) (sum_one false (cell (4 * length (v ∷ vs))))

-- a key's own cells add up to its own size
head_sum : (version : HiveVersion) (shared : List ℕ) (h : Head)
    → sum (head_sizes version shared h) ≡ head_size version shared h
head_sum version shared h =
    let values = value_list_sizes (length h.values) ++ flat_map (item_sizes version) h.values in
    sum_cons (node_size h) (some_cell (class_size h.class) ++ (some_cell (security_size shared h.security) ++ values))
    ∙ ap (λ n. node_size h + n)
    (sum_append (some_cell (class_size h.class)) (some_cell (security_size shared h.security) ++ values))
    ∙ ap (λ n. node_size h + (sum (some_cell (class_size h.class)) + n))
    (sum_append (some_cell (security_size shared h.security)) values)
    ∙ ap (λ n. node_size h + (n + (sum (some_cell (security_size shared h.security)) + sum values)))
    (some_cell_sum (class_size h.class))
    ∙ ap (λ n. node_size h + (class_size h.class + (n + sum values))) (some_cell_sum (security_size shared h.security))
    ∙ ap (λ n. node_size h + (class_size h.class + (security_size shared h.security + n))) (values_sum version h.values)
    ∙ (omega arith)

mutual
  pub sizes_sum : (version : HiveVersion) (shared : List ℕ) (t : Tree)
      → sum (sizes version shared t) ≡ size version shared t
  sizes_sum version shared (key h ts) =
      sum_append (head_sizes version shared h) (list_sizes (count ts) ++ sizes_of_all version h.security ts)
      ∙ ap (λ n. sum (head_sizes version shared h) + n)
      (sum_append (list_sizes (count ts)) (sizes_of_all version h.security ts))
      ∙ ap (λ n. n + (sum (list_sizes (count ts)) + sum (sizes_of_all version h.security ts)))
      (head_sum version shared h)
      ∙ ap (λ n. head_size version shared h + (n + sum (sizes_of_all version h.security ts))) (lists_sum (count ts))
      ∙ ap (λ n. head_size version shared h + (list_size (count ts) + n)) (sizes_of_all_sum version h.security ts)
      ∙ (omega arith)

  pub sizes_of_all_sum : (version : HiveVersion) (shared : List ℕ) (ts : Trees)
      → sum (sizes_of_all version shared ts) ≡ size_of_all version shared ts
  sizes_of_all_sum version shared none = refl
  sizes_of_all_sum version shared (more t ts) =
      sum_append (sizes version shared t) (sizes_of_all version shared ts)
      ∙ ap (λ n. n + sum (sizes_of_all version shared ts)) (sizes_sum version shared t)
      ∙ ap (λ n. size version shared t + n) (sizes_of_all_sum version shared ts)

-- ---- room

rounded_up : (n : ℕ) → n ≤ rounded n
rounded_up n = omega arith

-- the room for cells is at least their sizes
pub room_least : (ns : List ℕ) → sum ns ≤ room_of ns
room_least [] = omega arith
room_least (n ∷ ns) = omega
    (arith, sum_cons n ns, sum_by-cons (λ s. rounded (s + 32)) n ns, room_least ns, rounded_up (n + 32))

-- the strain of lists is at least the old length and their size
pub list_strain_least : (bytes n : ℕ) → bytes + list_size n ≤ list_strain_of bytes n
list_strain_least bytes n = omega (arith, lists_sum n, room_least (list_sizes n))

-- ---- steps in order

-- what holds after a refusal, and of each tree that a step may lead to, holds after a step
after : {A : Type 0} (P : A → Type 0) (r : Result Tree Refusal) (x : A) (next : Tree → A) → P x
    → ((u : Tree) → P (next u)) → P (unless_refused x r next)
after P (Ok u) x next stays goes = goes u
after P (Err why) x next stays goes = stays

-- the same of two things made of one step
after_both : {A : Type 0} (P : A → A → Type 0) (r : Result Tree Refusal) (x y : A) (next onward : Tree → A) → P x y
    → ((u : Tree) → P (next u) (onward u))
    → P (unless_refused x r next) (unless_refused y r onward)
after_both P (Ok u) x y next onward stays goes = goes u
after_both P (Err why) x y next onward stays goes = stays

-- the same where the steps from there on lead to a tree
after_all : {A : Type 0} (P : A → A → Type 0) (r : Result Tree Refusal) (steps : Tree → Result Tree Refusal) (u : Tree)
    (x y : A) (next onward : Tree → A)
    → (r >>= steps) ≡ Ok u → ((v : Tree) → steps v ≡ Ok u → P (next v) (onward v))
    → P (unless_refused x r next) (unless_refused y r onward)
after_all P (Ok v) steps u x y next onward e goes = goes v e
after_all P (Err why) steps u x y next onward e goes = absurd cc

-- the same where one of them is refused
after_none : {A : Type 0} (r : Result Tree Refusal) (steps : Tree → Result Tree Refusal) (why : Refusal) (x : A)
    (next onward : Tree → A)
    → (r >>= steps) ≡ Err why → ((v : Tree) → steps v ≡ Err why → next v ≡ onward v)
    → unless_refused x r next ≡ unless_refused x r onward
after_none (Ok v) steps why x next onward e goes = goes v e
after_none (Err other) steps why x next onward e goes = refl

ok_is : (t u : Tree) → after_steps t [] ≡ Ok u → t ≡ u
ok_is t u e = cc

-- ---- the strain

-- the strain of an edit is at least the old length
pub strain_least : (version : HiveVersion) (bytes : ℕ) (t : Tree) (steps : List Step)
    → bytes ≤ strain_of version bytes t steps
strain_least version bytes t [] = omega arith
strain_least version bytes t (step ∷ steps) =
    after (λ n. bytes ≤ n) (after_step step t) bytes
    (λ u. strain_of version (bytes + room_of (needed_sizes version t step u)) u steps) (omega arith)
    (λ u. omega (arith, strain_least version (bytes + room_of (needed_sizes version t step u)) u steps))

pub strain_grows : (version : HiveVersion) (bytes : ℕ) (t : Tree) (steps further : List Step)
    → strain_of version bytes t steps ≤ strain_of version bytes t (steps ++ further)
strain_grows version bytes t [] further = strain_least version bytes t further
strain_grows version bytes t (step ∷ steps) further =
    after_both (λ m n. m ≤ n) (after_step step t) bytes bytes
    (λ u. strain_of version (bytes + room_of (needed_sizes version t step u)) u steps)
    (λ u. strain_of version (bytes + room_of (needed_sizes version t step u)) u (steps ++ further))
    (omega arith) (λ u. strain_grows version (bytes + room_of (needed_sizes version t step u)) u steps further)

-- further steps strain from where the first ones led
pub strain_goes_on : (version : HiveVersion) (bytes : ℕ) (t u : Tree) (steps further : List Step)
    → after_steps t steps ≡ Ok u
    → strain_of version bytes t (steps ++ further) ≡ strain_of version (strain_of version bytes t steps) u further
strain_goes_on version bytes t u [] further e = ap (λ v. strain_of version bytes v further) (ok_is t u e)
strain_goes_on version bytes t u (step ∷ steps) further e =
    after_all (λ m n. n ≡ strain_of version m u further) (after_step step t) (λ v. after_steps v steps) u bytes bytes
    (λ v. strain_of version (bytes + room_of (needed_sizes version t step v)) v steps)
    (λ v. strain_of version (bytes + room_of (needed_sizes version t step v)) v (steps ++ further))
    e (λ v rest. strain_goes_on version (bytes + room_of (needed_sizes version t step v)) v u steps further rest)

-- after a refused step nothing strains
pub strain_ends : (version : HiveVersion) (bytes : ℕ) (t : Tree) (why : Refusal) (steps further : List Step)
    → after_steps t steps ≡ Err why
    → strain_of version bytes t (steps ++ further) ≡ strain_of version bytes t steps
strain_ends version bytes t why [] further e = absurd cc
strain_ends version bytes t why (step ∷ steps) further e =
    after_none (after_step step t) (λ v. after_steps v steps) why bytes
    (λ v. strain_of version (bytes + room_of (needed_sizes version t step v)) v (steps ++ further))
    (λ v. strain_of version (bytes + room_of (needed_sizes version t step v)) v steps)
    e (λ v rest. strain_ends version (bytes + room_of (needed_sizes version t step v)) v why steps further rest)

-- a step that is refused strains by nothing itself
pub strain_stays : (version : HiveVersion) (bytes : ℕ) (t u : Tree) (why : Refusal) (steps further : List Step)
    (step : Step) → after_steps t steps ≡ Ok u → after_step step u ≡ Err why
    → strain_of version bytes t (steps ++ step ∷ further) ≡ strain_of version bytes t steps
strain_stays version bytes t u why steps further step e refused =
    let now : ℕ = strain_of version bytes t steps in
    strain_goes_on version bytes t u steps (step ∷ further) e
    ∙ ap (λ r. unless_refused now r (λ v. strain_of version (now + room_of (needed_sizes version u step v)) v further))
    refused

-- ---- the footprint

pub footprint_grows : (cells : Cells) (root : ℕ) (t : Tree) (steps further : List Step) (offset : ℕ)
    → IsInFootprint cells root t steps offset → IsInFootprint cells root t (steps ++ further) offset
footprint_grows cells root t [] further offset h = absurd h
footprint_grows cells root t (step ∷ steps) further offset (u, ok, inl m) = (u, ok, inl m)
footprint_grows cells root t (step ∷ steps) further offset (u, ok, inr h) =
    (u, ok, inr (footprint_grows cells root u steps further offset h))

-- where steps lead, seen from the tree after the first
from_first : (t u : Tree) (step : Step) (steps : List Step) (outcome : Result Tree Refusal) → after_step step t ≡ Ok u
    → after_steps t (step ∷ steps) ≡ outcome → after_steps u steps ≡ outcome
from_first t u step steps outcome ok e = sym (ap (λ r. r >>= λ v. after_steps v steps) ok) ∙ e

first_made : (r : Result Tree Refusal) (steps : Tree → Result Tree Refusal) (u : Tree) → (r >>= steps) ≡ Ok u
    → (v : Tree) × (r ≡ Ok v)
first_made (Ok v) steps u e = (v, refl)
first_made (Err why) steps u e = absurd cc

-- further steps have the cells that they would have alone, and after a refusal none
further_there : (cells : Cells) (root : ℕ) (t u : Tree) (steps further : List Step) (offset : ℕ)
    → after_steps t steps ≡ Ok u → IsInFootprint cells root u further offset
    → IsInFootprint cells root t (steps ++ further) offset
further_there cells root t u [] further offset e h =
    subst (λ v. IsInFootprint cells root v further offset) (sym (ok_is t u e)) h
further_there cells root t u (step ∷ steps) further offset e h =
    let v = first_made (after_step step t) (λ w. after_steps w steps) u e in
    (v.0, v.1, inr (further_there cells root v.0 u steps further offset (from_first t v.0 step steps (Ok u) v.1 e) h))

first_or_further : (cells : Cells) (root : ℕ) (t u : Tree) (steps further : List Step) (offset : ℕ)
    → after_steps t steps ≡ Ok u → IsInFootprint cells root t (steps ++ further) offset
    → IsInFootprint cells root t steps offset ⊎ IsInFootprint cells root u further offset
first_or_further cells root t u [] further offset e h =
    inr (subst (λ v. IsInFootprint cells root v further offset) (ok_is t u e) h)
first_or_further cells root t u (step ∷ steps) further offset e (v, ok, inl m) = inl (v, ok, inl m)
first_or_further cells root t u (step ∷ steps) further offset e (v, ok, inr h) =
    ⊎_elim (λ l. inl (v, ok, inr l)) (λ r. inr r)
    (first_or_further cells root v u steps further offset (from_first t v step steps (Ok u) ok e) h)

pub footprint_goes_on : (cells : Cells) (root : ℕ) (t u : Tree) (steps further : List Step) (offset : ℕ)
    → after_steps t steps ≡ Ok u
    → IsInFootprint cells root t (steps ++ further) offset
    ↔ (IsInFootprint cells root t steps offset ⊎ IsInFootprint cells root u further offset)
footprint_goes_on cells root t u steps further offset e = (
  first_or_further cells root t u steps further offset e,
  ⊎_elim (footprint_grows cells root t steps further offset) (further_there cells root t u steps further offset e),
)

none_further : (cells : Cells) (root : ℕ) (t : Tree) (why : Refusal) (steps further : List Step) (offset : ℕ)
    → after_steps t steps ≡ Err why → IsInFootprint cells root t (steps ++ further) offset
    → IsInFootprint cells root t steps offset
none_further cells root t why [] further offset e h = absurd cc
none_further cells root t why (step ∷ steps) further offset e (v, ok, inl m) = (v, ok, inl m)
none_further cells root t why (step ∷ steps) further offset e (v, ok, inr h) =
    (v, ok, inr (none_further cells root v why steps further offset (from_first t v step steps (Err why) ok e) h))

pub footprint_ends : (cells : Cells) (root : ℕ) (t : Tree) (why : Refusal) (steps further : List Step) (offset : ℕ)
    → after_steps t steps ≡ Err why
    → IsInFootprint cells root t (steps ++ further) offset ↔ IsInFootprint cells root t steps offset
footprint_ends cells root t why steps further offset e =
    (none_further cells root t why steps further offset e, footprint_grows cells root t steps further offset)
