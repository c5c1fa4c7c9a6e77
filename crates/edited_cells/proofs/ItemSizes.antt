-- By how much the size of a key's values, and the bulk of a tree, differ where one value is set or deleted.
use Rattle.std.proofs.Common.{◌≡◌, ℕ, suc, ◌+◌, ◌*◌, Bool, true, false, cond, List, [], ◌∷◌, ◌++◌, length, refl, ◌∙◌, ap, Option, Some, arith}
use Rattle.std.specs.Prelude.{find, is_some}
use Rattle.nt_bytes.specs.declared.version.HiveVersion.{HiveVersion}
use Rattle.hive_model.specs.Tree.{Item, is_item}
use Rattle.hive_model.specs.Edit.{at_first, without_first, with_item}
use Rattle.hive_model.specs.Size.{cell, item_size, items_sum, items_size}
use Rattle.edited_cells.proofs.Sizes.{first_length}

-- the value list and the values
abbrev pub list_and_values : HiveVersion → ℕ → List Item → ℕ
list_and_values version n vs = cell (4 * n) + items_sum version vs

found_some : (version : HiveVersion) (p : Item → Bool) (vs : List Item) (v : Item) → find p vs ≡ Some v
    → items_size version vs ≡ list_and_values version (length vs) vs
found_some version p [] v e = absurd cc
found_some version p (w ∷ vs) v e = refl

some_item : (a b : Item) → Some a ≡ Some b → a ≡ b
some_item a b e = cc

first_sum : (version : HiveVersion) (p : Item → Bool) (f : Item → Item) (vs : List Item) (v : Item)
    → find p vs ≡ Some v
    → items_sum version (at_first p f vs) + item_size version v ≡ items_sum version vs + item_size version (f v)
first_sum version p f [] v e = absurd cc
first_sum version p f (w ∷ vs) v e = go (p w) e (λ d. first_sum version p f vs v d)
  where
    go : (b : Bool) → cond b (Some w) (find p vs) ≡ Some v
        → (find p vs ≡ Some v → items_sum version (at_first p f vs) + item_size version v ≡ items_sum version vs
        + item_size version (f v))
        → items_sum version (cond b (f w ∷ vs) (w ∷ at_first p f vs)) + item_size version v ≡ items_sum version (w ∷ vs)
        + item_size version (f v)
    go true e deep =
        let s = some_item w v e in
        let a : item_size version w ≡ item_size version v = ap (item_size version) s in
        let b : item_size version (f w) ≡ item_size version (f v) = ap (λ (i : Item). item_size version (f i)) s in
        sum (item_size version (f w)) (items_sum version vs) (item_size version v) (item_size version w)
        (item_size version (f v)) a b
      where
        sum : (fw rest v w fv : ℕ) → w ≡ v → fw ≡ fv → fw + rest + v ≡ w + rest + fv
        sum fw rest v w fv a b = omega (arith, a, b)
    go false e deep =
        sum (item_size version w) (items_sum version (at_first p f vs)) (items_sum version vs) (item_size version v)
        (item_size version (f v)) (deep e)
      where
        sum : (w a b v fv : ℕ) → a + v ≡ b + fv → w + a + v ≡ w + b + fv
        sum w a b v fv e = omega (arith, e)

first_some : (version : HiveVersion) (p : Item → Bool) (f : Item → Item) (vs : List Item) (v : Item)
    → find p vs ≡ Some v
    → items_size version (at_first p f vs) ≡ list_and_values version (length (at_first p f vs)) (at_first p f vs)
first_some version p f [] v e = absurd cc
first_some version p f (w ∷ vs) v e = go (p w)
  where
    go : (b : Bool)
        → items_size version (cond b (f w ∷ vs) (w ∷ at_first p f vs))
        ≡ list_and_values version (length (cond b (f w ∷ vs) (w ∷ at_first p f vs)))
        (cond b (f w ∷ vs) (w ∷ at_first p f vs))
    go true = refl
    go false = refl

-- a value that is there is set: its new size comes in place of the old
pub set_size : (version : HiveVersion) (name : List ℕ) (kind : ℕ) (bytes : List ℕ) (vs : List Item) (v : Item)
    → find (is_item name) vs ≡ Some v
    → items_size version (with_item name kind bytes vs) + item_size version v ≡ items_size version vs
    + item_size version (record v { kind = kind; bytes = bytes })
set_size version name kind bytes vs v e =
    ap (λ (b : Bool). items_size version
    (cond b (at_first (is_item name) (λ i. record i { kind = kind; bytes = bytes }) vs)
    (vs ++ record { name = name; kind = kind; bytes = bytes } ∷ [])) + item_size version v)
    (ap (λ (o : Option Item). is_some o) e)
    ∙ sum (items_size version (at_first (is_item name) (λ i. record i { kind = kind; bytes = bytes }) vs))
    (items_size version vs) (items_sum version
    (at_first (is_item name) (λ i. record i { kind = kind; bytes = bytes }) vs))
    (items_sum version vs) (length (at_first (is_item name) (λ i. record i { kind = kind; bytes = bytes }) vs))
    (length vs) (item_size version v) (item_size version (record v { kind = kind; bytes = bytes }))
    (first_some version (is_item name) (λ i. record i { kind = kind; bytes = bytes }) vs v e)
    (found_some version (is_item name) vs v e)
    (first_length (is_item name) (λ i. record i { kind = kind; bytes = bytes }) vs)
    (first_sum version (is_item name) (λ i. record i { kind = kind; bytes = bytes }) vs v e)
  where
    sum : (x y a b m n old new : ℕ) → x ≡ cell (4 * m) + a → y ≡ cell (4 * n) + b → m ≡ n → a + old ≡ b + new
        → x + old ≡ y + new
    sum x y a b m n old new p q r s =
        let t : cell (4 * m) ≡ cell (4 * n) = ap (λ (k : ℕ). cell (4 * k)) r in omega (arith, p, q, t, s)

pushed_sum : (version : HiveVersion) (vs : List Item) (v : Item)
    → items_sum version (vs ++ v ∷ []) ≡ items_sum version vs + item_size version v
pushed_sum version [] v = omega arith
pushed_sum version (w ∷ vs) v =
    let d = pushed_sum version vs v in
    sum (item_size version w) (items_sum version (vs ++ v ∷ [])) (items_sum version vs) (item_size version v) d
  where
    sum : (w a b v : ℕ) → a ≡ b + v → w + a ≡ w + b + v
    sum w a b v e = omega (arith, e)

pushed_length : (vs : List Item) (v : Item) → length (vs ++ v ∷ []) ≡ suc (length vs)
pushed_length [] v = refl
pushed_length (w ∷ vs) v = let d = pushed_length vs v in omega (arith, d)

pushed_some : (version : HiveVersion) (vs : List Item) (v : Item)
    → items_size version (vs ++ v ∷ []) ≡ list_and_values version (length (vs ++ v ∷ [])) (vs ++ v ∷ [])
pushed_some version [] v = refl
pushed_some version (w ∷ vs) v = refl

-- a value of a new name is set: the list is longer by it, and its own size comes
pub added_size : (version : HiveVersion) (name : List ℕ) (kind : ℕ) (bytes : List ℕ) (vs : List Item)
    → is_some (find (is_item name) vs) ≡ false
    → items_size version (with_item name kind bytes vs) ≡ list_and_values version (suc (length vs)) vs
    + item_size version (record { name = name; kind = kind; bytes = bytes })
added_size version name kind bytes vs none =
    ap (λ (b : Bool). items_size version
    (cond b (at_first (is_item name) (λ i. record i { kind = kind; bytes = bytes }) vs)
    (vs ++ record { name = name; kind = kind; bytes = bytes } ∷ []))) none
    ∙ pushed_some version vs (record { name = name; kind = kind; bytes = bytes })
    ∙ sum (length (vs ++ record { name = name; kind = kind; bytes = bytes } ∷ [])) (suc (length vs))
    (items_sum version (vs ++ record { name = name; kind = kind; bytes = bytes } ∷ [])) (items_sum version vs)
    (item_size version (record { name = name; kind = kind; bytes = bytes }))
    (pushed_length vs (record { name = name; kind = kind; bytes = bytes }))
    (pushed_sum version vs (record { name = name; kind = kind; bytes = bytes }))
  where
    sum : (m n a b v : ℕ) → m ≡ n → a ≡ b + v → cell (4 * m) + a ≡ cell (4 * n) + b + v
    sum m n a b v r s = let t : cell (4 * m) ≡ cell (4 * n) = ap (λ (k : ℕ). cell (4 * k)) r in omega (arith, t, s)

-- a value is deleted: its size goes from the values, and they are one less
pub deleted_sum : (version : HiveVersion) (p : Item → Bool) (vs : List Item) (v : Item) → find p vs ≡ Some v
    → items_sum version (without_first p vs) + item_size version v ≡ items_sum version vs
deleted_sum version p [] v e = absurd cc
deleted_sum version p (w ∷ vs) v e = go (p w) e (λ d. deleted_sum version p vs v d)
  where
    go : (b : Bool) → cond b (Some w) (find p vs) ≡ Some v
        → (find p vs ≡ Some v → items_sum version (without_first p vs) + item_size version v ≡ items_sum version vs)
        → items_sum version (cond b vs (w ∷ without_first p vs)) + item_size version v ≡ items_sum version (w ∷ vs)
    go true e deep =
        let a : item_size version w ≡ item_size version v = ap (item_size version) (some_item w v e) in
        sum (items_sum version vs) (item_size version v) (item_size version w) a
      where
        sum : (rest v w : ℕ) → w ≡ v → rest + v ≡ w + rest
        sum rest v w a = omega (arith, a)
    go false e deep =
        sum (item_size version w) (items_sum version (without_first p vs)) (items_sum version vs) (item_size version v)
        (deep e)
      where
        sum : (w a b v : ℕ) → a + v ≡ b → w + a + v ≡ w + b
        sum w a b v e = omega (arith, e)
