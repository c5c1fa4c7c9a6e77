-- What an edit of one value amounts to: the edit of the book and the bulk; and what a packed tree leaves.
use Rattle.std.proofs.Common.{◌≡◌, ◌≤◌, ℕ, ◌+◌, ◌*◌, Bool, true, false, eqb, cond, List, [], ◌∷◌, ◌++◌, length, Option, Some, Result, Ok, Err, refl, sym, ap, subst, ◌∙◌, arith}
use Rattle.std.specs.Prelude.{nat_lt, find, is_some, ◌&&◌}
use Rattle.std.specs.Option.{is_none}
use Rattle.std.proofs.lemmas.Bool.{ltb-false, le-ltb}
use Rattle.nt_bytes.specs.declared.version.HiveVersion.{HiveVersion}
use Rattle.nt_bytes.specs.Folding.{folded_unit, folds_same}
use Rattle.hive_model.specs.Size.{cell, name_bytes, segment_count, segment_sizes, data_sizes, cells_sum, item_size, items_sum, items_size, size, bulk_of}
use Rattle.nt_bytes.specs.Counts.{capped}
use Rattle.nt_bytes.specs.Reading.{◌>>=◌}
use Rattle.hive_model.specs.Tree.{Tree, Item, head, find_key, find_item, is_item}
use Rattle.hive_model.specs.Edit.{Step, set_value, Refusal, no_key, name_too_long, data_too_long, full, unless, at_first, with_item, of_items, at_key, value_set, after_steps, most_bulk, edited}
use Rattle.hive_pack.proofs.Items.{not_big}
use Rattle.edited_cells.proofs.Sizes.{revalued_size}
use Rattle.hive_look.proofs.ResultLemmas.{some, some_same}

-- ---- names

-- names that fold to one have the same number of units
pub folds_length : (a b : List ℕ) → folds_same a b ≡ true → length a ≡ length b
folds_length [] [] e = refl
folds_length [] (y ∷ ys) e = absurd cc
folds_length (x ∷ xs) [] e = absurd cc
folds_length (x ∷ xs) (y ∷ ys) e = go (eqb (folded_unit x) (folded_unit y)) e (λ f. folds_length xs ys f)
  where
    go : (b : Bool) → (b && folds_same xs ys) ≡ true → (folds_same xs ys ≡ true → length xs ≡ length ys)
        → length (x ∷ xs) ≡ length (y ∷ ys)
    go true f deep = omega (arith, deep f)
    go false f deep = absurd cc

-- ---- the edit

abbrev pub set_tree : List (List ℕ) → List ℕ → ℕ → List ℕ → Tree → Tree
set_tree path name kind bytes t = at_key path (of_items (with_item name kind bytes)) t

pub made : (path : List (List ℕ)) (name : List ℕ) (kind : ℕ) (bytes : List ℕ) (t : Tree)
    → is_none (find_key path t) ≡ false → nat_lt 16383 (length name) ≡ false
    → nat_lt 1048576 (length bytes) ≡ false → value_set path name kind bytes t ≡ Ok (set_tree path name kind bytes t)
made path name kind bytes t a b c =
    λ i. unless ((a i, no_key) ∷ (b i, name_too_long) ∷ (c i, data_too_long) ∷ []) (set_tree path name kind bytes t)

-- a value set in a key that is there, of a good name and not too many bytes, is refused by the bulk alone
pub set_edited : (version : HiveVersion) (t k : Tree) (path : List (List ℕ)) (name : List ℕ) (kind : ℕ) (bytes : List ℕ)
    → find_key path t ≡ Some k → length name ≤ 16383 → length bytes ≤ 1048576
    → edited version t (set_value path name kind bytes ∷ [])
    ≡ cond (nat_lt most_bulk (bulk_of version (set_tree path name kind bytes t))) (Err full)
    (Ok (set_tree path name kind bytes t))
unfolding edited
set_edited version t k path name kind bytes found short few =
    ap (λ (r : Result Tree Refusal). ((r >>= λ u. after_steps u []) >>=
    (λ u. cond (nat_lt most_bulk (bulk_of version u)) (Err full) (Ok u))))
    (made path name kind bytes t (ap is_none found) (le-ltb 16383 (length name) short)
    (le-ltb 1048576 (length bytes) few))

-- ---- the bulk

no_data : (version : HiveVersion) (n : ℕ) → n ≤ 4 → data_sizes version n ≡ []
no_data version n h =
    ap (λ (b : Bool). cond b (8 ∷ 4 * segment_count n ∷ segment_sizes (segment_count n) n)
    (cond (nat_lt 4 n) (n ∷ []) [])) (not_big version n h)
    ∙ ap (λ (b : Bool). cond b (n ∷ []) []) (le-ltb 4 n h)

same_item_size : (version : HiveVersion) (v : Item) (kind : ℕ) (bytes : List ℕ) → length v.bytes ≤ 4 → length bytes ≤ 4
    → item_size version (record v { kind = kind; bytes = bytes }) ≡ item_size version v
same_item_size version v kind bytes old new =
    ap (λ (ns : List ℕ). cell (20 + name_bytes v.name) + cells_sum ns)
    (no_data version (length bytes) new ∙ sym (no_data version (length v.bytes) old))

abbrev become : ℕ → List ℕ → Item → Item
become kind bytes v = record v { kind = kind; bytes = bytes }

first_length : (name : List ℕ) (kind : ℕ) (bytes : List ℕ) (vs : List Item)
    → length (at_first (is_item name) (become kind bytes) vs) ≡ length vs
first_length name kind bytes [] = refl
first_length name kind bytes (v ∷ vs) = go (is_item name v) (first_length name kind bytes vs)
  where
    go : (b : Bool) → length (at_first (is_item name) (become kind bytes) vs) ≡ length vs
        → length (cond b (become kind bytes v ∷ vs) (v ∷ at_first (is_item name) (become kind bytes) vs))
        ≡ length (v ∷ vs)
    go true rest = refl
    go false rest = omega (arith, rest)

first_sum : (version : HiveVersion) (name : List ℕ) (kind : ℕ) (bytes : List ℕ) (item : Item) (vs : List Item)
    → find (is_item name) vs ≡ some item → length item.bytes ≤ 4 → length bytes ≤ 4
    → items_sum version (at_first (is_item name) (become kind bytes) vs) ≡ items_sum version vs
first_sum version name kind bytes item [] e old new = absurd cc
first_sum version name kind bytes item (v ∷ vs) e old new =
    go (is_item name v) e (λ f. first_sum version name kind bytes item vs f old new)
  where
    go : (b : Bool) → cond b (Some v) (find (is_item name) vs) ≡ some item
        → (find (is_item name) vs ≡ some item
        → items_sum version (at_first (is_item name) (become kind bytes) vs) ≡ items_sum version vs)
        → items_sum version (cond b (become kind bytes v ∷ vs) (v ∷ at_first (is_item name) (become kind bytes) vs))
        ≡ items_sum version (v ∷ vs)
    go true f deep =
        let same : v ≡ item = some_same v item f in
        ap (λ (n : ℕ). n + items_sum version vs)
        (same_item_size version v kind bytes (subst (λ (i : Item). length i.bytes ≤ 4) (sym same) old) new)
    go false f deep = ap (λ (n : ℕ). item_size version v + n) (deep f)

sizes_by : (version : HiveVersion) (xs ys : List Item) → length xs ≡ length ys
    → items_sum version xs ≡ items_sum version ys → items_size version xs ≡ items_size version ys
sizes_by version [] [] l s = refl
sizes_by version [] (y ∷ ys) l s = absurd (omega (arith, l))
sizes_by version (x ∷ xs) [] l s = absurd (omega (arith, l))
sizes_by version (x ∷ xs) (y ∷ ys) l s = λ i. cell (4 * l i) + s i

-- a value that holds up to four bytes and gets others takes as much room as before
pub same_bulk : (version : HiveVersion) (t k : Tree) (path : List (List ℕ)) (name : List ℕ) (kind : ℕ) (bytes : List ℕ)
    (item : Item) → find_key path t ≡ Some k → find_item name k ≡ some item
    → length item.bytes ≤ 4 → length bytes ≤ 4 → bulk_of version (set_tree path name kind bytes t) ≡ bulk_of version t
same_bulk version t k path name kind bytes item found there old new =
    let vs = (head k).values in
    let ws = at_first (is_item name) (become kind bytes) vs in
    let is : with_item name kind bytes vs ≡ ws =
    ap (λ (o : Option Item). cond (is_some o)
    (at_first (is_item name) (λ v. record v { kind = kind; bytes = bytes }) vs)
    (vs ++ record { name = name; kind = kind; bytes = bytes } ∷ [])) there in
    let sizes : items_size version (with_item name kind bytes vs) ≡ items_size version vs =
    ap (items_size version) is
    ∙ sizes_by version ws vs (first_length name kind bytes vs)
    (first_sum version name kind bytes item vs there old new) in
    let grown = revalued_size version [] path t k (with_item name kind bytes) found in
    let same : size version [] (set_tree path name kind bytes t) ≡ size version [] t = omega (arith, grown, sizes) in
    ap (λ (n : ℕ). capped (32 + n)) same

-- ---- repacked

abbrev pub the_tree : Tree → Result Tree Refusal
the_tree t = Ok t

within : (version : HiveVersion) (b : Bool) (v u : Tree) → nat_lt most_bulk (bulk_of version v) ≡ b
    → cond b (Err full) (Ok v) ≡ the_tree u → bulk_of version u ≤ 16773120
within version true v u test e = absurd cc
within version false v u test e =
    let same : v ≡ u = cc in
    subst (λ (t : Tree). bulk_of version t ≤ 16773120) same (ltb-false most_bulk (bulk_of version v) test)

within_after : (version : HiveVersion) (edit : Result Tree Refusal) (u : Tree)
    → (edit >>= λ v. cond (nat_lt most_bulk (bulk_of version v)) (Err full) (Ok v)) ≡ the_tree u
    → bulk_of version u ≤ 16773120
within_after version (Ok v) u e = within version (nat_lt most_bulk (bulk_of version v)) v u refl e
within_after version (Err why) u e = absurd cc

-- an edit that is made is within the greatest bulk
pub edited_fits : (version : HiveVersion) (t u : Tree) (steps : List Step) → edited version t steps ≡ the_tree u
    → bulk_of version u ≤ 16773120
unfolding edited
edited_fits version t u steps e = within_after version (after_steps t steps) u e
