-- What a tree that a hive can hold has in its services and its lists.
use Rattle.std.proofs.Common.{ℕ, ◌+◌, ◌*◌, ◌<◌, ◌≤◌, ◌^◌, Bool, true, false, cond, List, [], ◌∷◌, length, Option, Some, None, arith, length-take}
use Rattle.std.specs.Prelude.{find, option_and_then, nat_eq, codes}
use Rattle.std.specs.Option.{option_map_or}
use Rattle.std.specs.List.{prefix_len, slice_split}
use Rattle.std.specs.List.{AllByRecursion}
use Rattle.std.proofs.lemmas.List.Elements.{recursion_from_All}
use Rattle.std.proofs.lemmas.List.Splits.{length-slice_split}
use Rattle.std.proofs.lemmas.List.Sums.{count_by-le-length}
use Rattle.nt_bytes.specs.Text.{wide_of, is_zero, is_filled, multi_sz_of}
use Rattle.hive_model.specs.Tree.{Item, Tree, Trees, key, none, more, listed, children, is_named, find_key, find_item, find_strings}
use Rattle.hive_model.specs.Tree.{is_item as has_name}
use Rattle.hive_model.specs.Valid.{IsItem, HoldsKeys, AllHoldKeys, KeysDiffer}
use Rattle.start_model.specs.Entries.{services_of}
use Rattle.start_model.specs.Order.{listed_groups}

-- a key that is there can be held
abbrev Held : Option Tree → Type 0
Held None = Unit {0}
Held (Some t) = HoldsKeys t

held_find : (name : List ℕ) (ts : Trees) → AllHoldKeys ts → Held (find (is_named name) (listed ts))
held_find name none h = tt
held_find name (more t ts) h = by_case (is_named name t) (held_find name ts h.1)
  where
    by_case : (b : Bool) → Held (find (is_named name) (listed ts))
        → Held (cond b (Some t) (find (is_named name) (listed ts)))
    by_case true rest = h.0
    by_case false rest = rest

held_child : (name : List ℕ) (t : Tree) → HoldsKeys t → Held (find (is_named name) (children t))
held_child name (key h ts) held = held_find name ts held.1

held_through : (edit : Tree → Option Tree) (o : Option Tree) → Held o → ((u : Tree) → HoldsKeys u → Held (edit u))
    → Held (option_and_then edit o)
held_through edit None held deep = tt
held_through edit (Some u) held deep = deep u held

held_find_key : (path : List (List ℕ)) (t : Tree) → HoldsKeys t → Held (find_key path t)
held_find_key [] t h = h
held_find_key (name ∷ path) t h =
    held_through (find_key path) (find (is_named name) (children t)) (held_child name t h)
    (λ u held. held_find_key path u held)

differ : (t : Tree) → HoldsKeys t → KeysDiffer (children t)
differ (key h ts) held = held.0.keys_differ

pub few_children : (t : Tree) → HoldsKeys t → length (children t) < 2 ^ 32
few_children (key h ts) held = held.0.key_count

-- the services of a set have names that differ
pub services_differ : (set : Tree) → HoldsKeys set → KeysDiffer (services_of set)
services_differ set h = (let path = codes "Services" ∷ [] in through (find_key path set) (held_find_key path set h))
  where
    through : (o : Option Tree) → Held o → KeysDiffer (option_map_or children o [])
    through None held = λ i j d low high. absurd (omega arith)
    through (Some t) held = differ t held

-- and there are few of them
pub services_few : (set : Tree) → HoldsKeys set → length (services_of set) < 2 ^ 32
services_few set h = (let path = codes "Services" ∷ [] in through (find_key path set) (held_find_key path set h))
  where
    through : (o : Option Tree) → Held o → length (option_map_or children o []) < 2 ^ 32
    through None held = omega arith
    through (Some t) held = few_children t held

-- ---- strings

length-wide_of : (bytes : List ℕ) → 2 * length (wide_of bytes) ≤ length bytes
length-wide_of [] = omega arith
length-wide_of (low ∷ []) = omega arith
length-wide_of (low ∷ high ∷ rest) = omega (arith, length-wide_of rest)

length-split : (units : List ℕ) → length (slice_split is_zero units) ≤ length units + 1
length-split units = omega (arith, length-slice_split is_zero units, count_by-le-length is_zero units)

length-multi_sz_of : (bytes : List ℕ) → length (multi_sz_of bytes) ≤ length bytes + 1
length-multi_sz_of bytes =
    omega (
      arith,
      length-wide_of bytes,
      length-split (wide_of bytes),
      length-take (prefix_len is_filled (slice_split is_zero (wide_of bytes))) (slice_split is_zero (wide_of bytes)),
    )

-- a value that is there has few bytes
abbrev Small : Option Item → Type 0
Small None = Unit {0}
Small (Some v) = length v.bytes < 2 ^ 31

small_find : (name : List ℕ) (vs : List Item) → AllByRecursion IsItem vs → Small (find (has_name name) vs)
small_find name [] h = tt
small_find name (v ∷ vs) h = by_case (has_name name v) (small_find name vs h.1)
  where
    by_case : (b : Bool) → Small (find (has_name name) vs) → Small (cond b (Some v) (find (has_name name) vs))
    by_case true rest = h.0.bytes
    by_case false rest = rest

small_item : (name : List ℕ) (t : Tree) → HoldsKeys t → Small (find_item name t)
small_item name (key h ts) held = small_find name h.values (recursion_from_All IsItem h.values held.0.items)

strings_few : (v : Item) (b : Bool) → length v.bytes < 2 ^ 31 → length (cond b (multi_sz_of v.bytes) []) < 2 ^ 32
strings_few v true h = omega (arith, length-multi_sz_of v.bytes)
strings_few v false h = omega arith

-- a list of strings in a tree that can be held is short
length-find_strings : (name : List ℕ) (t : Tree) → HoldsKeys t → length (find_strings name t) < 2 ^ 32
length-find_strings name t held = in_item (find_item name t) (small_item name t held)
  where
    in_item : (o : Option Item) → Small o
        → length (option_map_or (λ (v : Item). cond (nat_eq v.kind 7) (multi_sz_of v.bytes) []) o []) < 2 ^ 32
    in_item None h = omega arith
    in_item (Some v) h = strings_few v (nat_eq v.kind 7) h

-- there are few groups in the order of the groups
pub listed_groups_few : (set : Tree) → HoldsKeys set → length (listed_groups set) < 2 ^ 32
listed_groups_few set h =
    (let path = codes "Control" ∷ codes "ServiceGroupOrder" ∷ [] in
    through (find_key path set) (held_find_key path set h))
  where
    through : (o : Option Tree) → Held o → length (option_map_or (find_strings (codes "List")) o []) < 2 ^ 32
    through None held = omega arith
    through (Some t) held = length-find_strings (codes "List") t held
