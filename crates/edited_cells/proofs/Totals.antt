-- The sizes of all cells of a key together are its size; and what of sizes and names comes of a child that is put
-- among others.
use Rattle.std.proofs.Common.{◌≡◌, ◌≤◌, ◌<◌, ℕ, zero, suc, ◌+◌, ◌*◌, ◌/◌, ◌%◌, Bool, true, false, eqb, cond, List, [], ◌∷◌, ◌++◌, length, Some, None, refl, sym, ap, ◌∙◌, ◌⊎◌, inl, inr, arith}
use Rattle.std.specs.Prelude.{◌==◌, nat_lt, find, flat_map}
use Rattle.std.specs.Ordering.{is_gt}
use lib.ListN.{replicate}
use Rattle.std.proofs.lemmas.Bool.{eqb-true, ne_eqb, eq-eqb, lt-ltb, le-ltb, cases_lt}
use Rattle.nt_bytes.specs.Folding.{folded_order}
use Rattle.nt_bytes.specs.declared.version.HiveVersion.{HiveVersion}
use Rattle.hive_model.specs.Tree.{Item, Head, Tree, Trees, key, none, more, listed, head, children, is_named}
use Rattle.hive_model.specs.Size.{cell, item_size, items_sum, items_size, class_size, security_size, node_size, head_size, part_count, list_size, count, size, size_of_all}
use Rattle.hive_model.specs.Edit.{placed, renamed, with_child}
use Rattle.hive_model.specs.Footprint.{some_cell, item_sizes, value_list_sizes, head_sizes, list_sizes, sizes, sizes_of_all}
use Rattle.edited_cells.specs.Sizes.{total, sizes_of}
use Rattle.edited_cells.proofs.ChildEdits.{relisted_size}
use Rattle.edited_cells.proofs.RoomLemmas.{item_total}

pub total_append : (xs ys : List ℕ) → total (xs ++ ys) ≡ total xs + total ys
total_append [] ys = omega arith
total_append (x ∷ xs) ys = let d = total_append xs ys in omega (arith, d)

-- ---- lists

replicate_total : (n : ℕ) → total (replicate n (cell 4004)) ≡ n * 4008
replicate_total zero = refl
replicate_total (suc n) = let d = replicate_total n in omega (arith, d)

pub list_total : (n : ℕ) → total (list_sizes n) ≡ list_size n
unfolding list_sizes
list_total n = go (n == 0) (nat_lt n 501) (n % 500 == 0)
  where
    full : List ℕ
    full = replicate (n / 500) (cell 4004)

    rest : (xs : List ℕ) → total (full ++ xs) ≡ n / 500 * 4008 + total xs
    rest xs = let a = total_append full xs in let r = replicate_total (n / 500) in omega (arith, a, r)

    go : (a b d : Bool)
        → total (cond a [] (cond b (cell (4 + 8 * n) ∷ [])
        (cell (4 + 4 * part_count n) ∷ (full ++ cond d [] (cell (4 + 8 * (n % 500)) ∷ [])))))
        ≡ cond a 0 (cond b (cell (4 + 8 * n))
        (cell (4 + 4 * part_count n) + n / 500 * cell 4004 + cond d 0 (cell (4 + 8 * (n % 500)))))
    go true b d = refl
    go false true d = omega arith
    go false false true = let r = rest [] in omega (arith, r)
    go false false false = let r = rest (cell (4 + 8 * (n % 500)) ∷ []) in omega (arith, r)

-- lists of one child more are no smaller
pub list_more : (n : ℕ) → list_size n ≤ list_size (n + 1)
list_more n = go (cases_lt 0 n) (cases_lt n 500) (cases_lt 500 n)
  where
    some : (m : ℕ) → 0 < m → eqb m 0 ≡ false
    some m h = ne_eqb m 0 (λ e. omega arith)

    some_rest : (m : ℕ) → (m ≡ 0 → ⊥) → 0 < m
    some_rest zero z = absurd (z refl)
    some_rest (suc m) z = omega arith

    parts : (m : ℕ) → 501 ≤ m → (v : Bool) → eqb (m % 500) 0 ≡ v
        → list_size m ≡ cell (4 + 4 * part_count m) + m / 500 * 4008 + cond v 0 (cell (4 + 8 * (m % 500)))
    parts m h v e =
        let a : eqb m 0 ≡ false = some m (omega arith) in
        let b : nat_lt m 501 ≡ false = le-ltb m 501 h in
        rw (a, b, e) refl

    few : (m : ℕ) → 0 < m → m < 501 → list_size m ≡ cell (4 + 8 * m)
    few m h l =
        let a : eqb m 0 ≡ false = some m h in
        let b : nat_lt m 501 ≡ true = lt-ltb m 501 l in
        rw (a, b) refl

    many : 500 < n → (v w : Bool) → eqb (n % 500) 0 ≡ v → eqb ((n + 1) % 500) 0 ≡ w → list_size n ≤ list_size (n + 1)
    many h true w e f =
        let z = eqb-true (n % 500) 0 e in
        let off : eqb ((n + 1) % 500) 0 ≡ false = ne_eqb ((n + 1) % 500) 0 (λ q. omega (arith, q, z)) in
        let p = parts n (omega arith) true e in
        let q = parts (n + 1) (omega arith) false off in
        omega (arith, p, q, z)
    many h false true e f =
        let z = eqb-true ((n + 1) % 500) 0 f in
        let p = parts n (omega arith) false e in
        let q = parts (n + 1) (omega arith) true f in
        omega (arith, p, q, z)
    many h false false e f =
        let p = parts n (omega arith) false e in
        let q = parts (n + 1) (omega arith) false f in
        let z = some_rest ((n + 1) % 500) (Rattle.std.proofs.lemmas.Bool.eqb-false ((n + 1) % 500) 0 f) in
        omega (arith, p, q, z)

    go : (0 < n) ⊎ (n ≤ 0) → (n < 500) ⊎ (500 ≤ n) → (500 < n) ⊎ (n ≤ 500) → list_size n ≤ list_size (n + 1)
    go (inr z) y x = let e : eqb n 0 ≡ true = eq-eqb n 0 (omega arith) in rw e (omega arith)
    go (inl s) (inl l) x =
        let p = few n s (omega arith) in
        let q = few (n + 1) (omega arith) (omega arith) in
        omega (arith, p, q)
    go (inl s) (inr l) (inl h) = many h (eqb (n % 500) 0) (eqb ((n + 1) % 500) 0) refl refl
    go (inl s) (inr l) (inr h) =
        let p = few n s (omega arith) in
        let off : eqb ((n + 1) % 500) 0 ≡ false = ne_eqb ((n + 1) % 500) 0 (λ q. omega (arith, q)) in
        let q = parts (n + 1) (omega arith) false off in
        omega (arith, p, q)

-- ---- a key

some_total : (n : ℕ) → total (some_cell n) ≡ n
some_total n = go (n == 0) refl
  where
    go : (v : Bool) → (n == 0) ≡ v → total (cond v [] (n ∷ [])) ≡ n
    go true e = sym (eqb-true n 0 e)
    go false e = omega arith

flat_total : (version : HiveVersion) (vs : List Item) → total (flat_map (item_sizes version) vs) ≡ items_sum version vs
flat_total version [] = refl
flat_total version (v ∷ vs) =
    let a = total_append (item_sizes version v) (flat_map (item_sizes version) vs) in
    let b = item_total version v in
    let d = flat_total version vs in
    sum (total (item_sizes version v ++ flat_map (item_sizes version) vs)) (total (item_sizes version v))
    (total (flat_map (item_sizes version) vs)) (item_size version v) (items_sum version vs) a b d
  where
    sum : (w x y i r : ℕ) → w ≡ x + y → x ≡ i → y ≡ r → w ≡ i + r
    sum w x y i r a b d = omega (arith, a, b, d)

values_total : (version : HiveVersion) (vs : List Item)
    → total (value_list_sizes (length vs) ++ flat_map (item_sizes version) vs) ≡ items_size version vs
values_total version [] = refl
values_total version (v ∷ vs) =
    let some : (length (v ∷ vs) == 0) ≡ false = ne_eqb (length (v ∷ vs)) 0 (λ z. omega (arith, z)) in
    ap (λ (b : Bool). total (cond b [] (cell (4 * length (v ∷ vs)) ∷ []) ++ flat_map (item_sizes version) (v ∷ vs)))
    some
    ∙ ap (λ (n : ℕ). cell (4 * length (v ∷ vs)) + n) (flat_total version (v ∷ vs))

head_total : (version : HiveVersion) (shared : List ℕ) (h : Head)
    → total (head_sizes version shared h) ≡ head_size version shared h
head_total version shared h =
    let vs = value_list_sizes (length h.values) ++ flat_map (item_sizes version) h.values in
    let sec = some_cell (security_size shared h.security) in
    let cls = some_cell (class_size h.class) in
    sum (node_size h) (total (cls ++ (sec ++ vs))) (total cls) (total (sec ++ vs)) (total sec) (total vs)
    (class_size h.class)
    (security_size shared h.security) (items_size version h.values)
    (total_append cls (sec ++ vs)) (total_append sec vs) (some_total (class_size h.class))
    (some_total (security_size shared h.security)) (values_total version h.values)
  where
    sum : (n whole c later s v cls sec items : ℕ) → whole ≡ c + later → later ≡ s + v → c ≡ cls → s ≡ sec → v ≡ items
        → n + whole ≡ n + cls + sec + items
    sum n whole c later s v cls sec items a b d e f = omega (arith, a, b, d, e, f)

mutual
  pub tree_total : (version : HiveVersion) (shared : List ℕ) (t : Tree)
      → total (sizes version shared t) ≡ size version shared t
  tree_total version shared (key h ts) =
      sum (total (head_sizes version shared h ++ (list_sizes (count ts) ++ sizes_of_all version h.security ts)))
      (total (head_sizes version shared h))
      (total (list_sizes (count ts) ++ sizes_of_all version h.security ts)) (total (list_sizes (count ts)))
      (total (sizes_of_all version h.security ts))
      (head_size version shared h) (list_size (count ts)) (size_of_all version h.security ts)
      (total_append (head_sizes version shared h) (list_sizes (count ts) ++ sizes_of_all version h.security ts))
      (total_append (list_sizes (count ts)) (sizes_of_all version h.security ts)) (head_total version shared h)
      (list_total (count ts)) (trees_total version h.security ts)
    where
      sum : (w a b c d x y z : ℕ) → w ≡ a + b → b ≡ c + d → a ≡ x → c ≡ y → d ≡ z → w ≡ x + y + z
      sum w a b c d x y z e f g h i = omega (arith, e, f, g, h, i)

  trees_total : (version : HiveVersion) (shared : List ℕ) (ts : Trees)
      → total (sizes_of_all version shared ts) ≡ size_of_all version shared ts
  trees_total version shared none = refl
  trees_total version shared (more t ts) =
      sum (total (sizes version shared t ++ sizes_of_all version shared ts)) (total (sizes version shared t))
      (total (sizes_of_all version shared ts))
      (size version shared t) (size_of_all version shared ts)
      (total_append (sizes version shared t) (sizes_of_all version shared ts)) (tree_total version shared t)
      (trees_total version shared ts)
    where
      sum : (w a b x y : ℕ) → w ≡ a + b → a ≡ x → b ≡ y → w ≡ x + y
      sum w a b x y e f g = omega (arith, e, f, g)

-- ---- a child among others

pub placed_length : (k : Tree) (us : List Tree) → length (placed k us) ≡ length us + 1
placed_length k [] = refl
placed_length k (u ∷ us) = go (is_gt (folded_order (head u).name (head k).name)) (placed_length k us)
  where
    go : (v : Bool) → length (placed k us) ≡ length us + 1
        → length (cond v (k ∷ u ∷ us) (u ∷ placed k us)) ≡ length (u ∷ us) + 1
    go true e = omega arith
    go false e = omega (arith, e)

pub placed_sizes : (version : HiveVersion) (s : List ℕ) (k : Tree) (us : List Tree)
    → sizes_of version s (placed k us) ≡ size version s k + sizes_of version s us
placed_sizes version s k [] = refl
placed_sizes version s k (u ∷ us) = go (is_gt (folded_order (head u).name (head k).name)) (placed_sizes version s k us)
  where
    go : (v : Bool) → sizes_of version s (placed k us) ≡ size version s k + sizes_of version s us
        → sizes_of version s (cond v (k ∷ u ∷ us) (u ∷ placed k us)) ≡ size version s k
        + (size version s u + sizes_of version s us)
    go true e = refl
    go false e = omega (arith, e)

pub found_placed : (name : List ℕ) (k : Tree) (us : List Tree) → is_named name k ≡ true → find (is_named name) us ≡ None
    → find (is_named name) (placed k us) ≡ Some k
found_placed name k [] here lacks = ap (λ (v : Bool). cond v (Some k) None) here
found_placed name k (u ∷ us) here lacks =
    go (is_named name u) refl lacks (is_gt (folded_order (head u).name (head k).name))
    (λ n. found_placed name k us here n)
  where
    go : (v : Bool) → is_named name u ≡ v → cond v (Some u) (find (is_named name) us) ≡ None → (w : Bool)
        → (find (is_named name) us ≡ None → find (is_named name) (placed k us) ≡ Some k)
        → find (is_named name) (cond w (k ∷ u ∷ us) (u ∷ placed k us)) ≡ Some k
    go true e lacks w later = absurd cc
    go false e lacks true later = ap (λ (v : Bool). cond v (Some k) (find (is_named name) (u ∷ us))) here
    go false e lacks false later =
        ap (λ (v : Bool). cond v (Some u) (find (is_named name) (placed k us))) e ∙ later lacks

-- the size of a tree whose root got a child
pub child_size : (version : HiveVersion) (name : List ℕ) (k t : Tree)
    → size version [] (with_child name k t) + list_size (length (children t))
    ≡ size version [] t + (list_size (length (children t) + 1) + size version (head t).security (renamed name k))
child_size version name k (key hd ts) =
    sums (size version [] (with_child name k (key hd ts))) (size version [] (key hd ts)) (list_size (count ts))
    (list_size (length (placed (renamed name k) (listed ts))))
    (list_size (count ts + 1)) (sizes_of version hd.security (listed ts))
    (sizes_of version hd.security (placed (renamed name k) (listed ts))) (size version hd.security (renamed name k))
    (relisted_size version [] [] (key hd ts) hd ts (placed (renamed name k)) refl)
    (ap list_size (placed_length (renamed name k) (listed ts)))
    (placed_sizes version hd.security (renamed name k) (listed ts))
  where
    sums : (u t l m m' z w c : ℕ) → u + (l + z) ≡ t + (m + w) → m ≡ m' → w ≡ c + z → u + l ≡ t + (m' + c)
    sums u t l m m' z w c e f g = omega (arith, e, f, g)
