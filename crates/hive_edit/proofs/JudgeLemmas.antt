-- Whether a key may be made, and the bulk of the tree with it.
use Rattle.std.proofs.Common.{◌≡◌, ◌≤◌, ◌<◌, ℕ, zero, suc, ◌+◌, ◌-◌, ◌*◌, ◌/◌, ◌%◌, Bool, true, false, not, eqb, cond, List, [], ◌∷◌, ◌++◌, length, Option, Some, None, Result, Ok, Err, refl, sym, ap, subst, ◌∙◌, arith}
use Rattle.std.specs.Prelude.{◌==◌, nat_lt, find, is_some}
use Rattle.std.specs.Option.{is_none, option_map_or}
use lib.ListN.{replicate}
use Rattle.std.proofs.lemmas.Bool.{ne_eqb, le-ltb, lt-ltb}
use Rattle.std.proofs.lemmas.Slice.Eq.{bytes_eq-Decides}
use Rattle.nt_bytes.specs.declared.version.HiveVersion.{HiveVersion}
use Rattle.hive_model.specs.Bins.{Cells}
use Rattle.hive_model.specs.KeyNode.{KeyNode}
use Rattle.hive_model.specs.Tree.{Tree, Trees, Head, key, none, more, head, listed, children, is_named, find_key}
use Rattle.hive_model.specs.Size.{cell, name_bytes, has_own, part_count, list_size, count, size, bulk_of}
use Rattle.hive_model.specs.Edit.{make_key, Refusal, no_key, bad_name, name_too_long, too_deep, unless, has_child, is_bad_name, of_children, placed, new_key, with_key, at_key, key_made, after_step}
use Rattle.hive_model.specs.Packed.{rounded}
use Rattle.hive_model.specs.Footprint.{child_places, is_node_named, has_key, some_cell, list_sizes, sizes, needed_sizes, room_of}
use Rattle.hive_model.specs.Stands.{Stands, AllStand, IsWellFormed}
use Rattle.edited_cells.specs.Sizes.{sizes_of}
use Rattle.edited_cells.proofs.ChildEdits.{relisted_size}
use Rattle.edited_cells.proofs.Found.{changed_alike}
use Rattle.edited_cells.proofs.Patch.{folds_itself}
use Rattle.edited_cells.proofs.Replaced.{listed_trees}
use Rattle.edited_cells.proofs.RoomLemmas.{found_changed, make_needs, room_cons}
use Rattle.edited_cells.proofs.InOrder.{at_key_itself}
use Rattle.edited_cells.proofs.Wellformed.{places_are}
use Rattle.hive_edit.specs.Making.{made_tree}
use Rattle.hive_look.proofs.ResultLemmas.{some}
use Rattle.hive_look.proofs.PlaceLemmas.{IsPlaceOf, child_place}
use Rattle.hive_edit.proofs.LowLemmas.{BulkIs, bulk_then, name_low}
use Rattle.hive_look.proofs.ParentLemmas.{IsParent, children_are, siblings_are}
use Rattle.edited_cells.proofs.Totals.{placed_length, placed_sizes, found_placed}

-- ---- the edit

abbrev tested : Bool → Bool → Bool → Bool → Tree → Result Tree Refusal
tested a b c d u = unless ((a, no_key) ∷ (b, bad_name) ∷ (c, name_too_long) ∷ (d, too_deep) ∷ []) u

key_tested : (parent : List (List ℕ)) (name : List ℕ) (t : Tree) (a b c d : Bool) → is_none (find_key parent t) ≡ a
    → is_bad_name name ≡ b → nat_lt 255 (length name) ≡ c
    → nat_lt 512 (length parent + 2) ≡ d → key_made parent name t ≡ tested a b c d (made_tree parent name t)
key_tested parent name t a b c d e f g h = λ i. tested (e i) (f i) (g i) (h i) (made_tree parent name t)

pub refused_key : (parent : List (List ℕ)) (name : List ℕ) (t : Tree) → find_key parent t ≡ None
    → after_step (make_key parent name) t ≡ Err no_key
refused_key parent name t e =
    key_tested parent name t true (is_bad_name name) (nat_lt 255 (length name)) (nat_lt 512 (length parent + 2))
    (ap is_none e) refl refl refl

pub refused_name : (parent : List (List ℕ)) (name : List ℕ) (t k : Tree) → find_key parent t ≡ Some k
    → is_bad_name name ≡ true
    → after_step (make_key parent name) t ≡ Err bad_name
refused_name parent name t k e bad =
    key_tested parent name t false true (nat_lt 255 (length name)) (nat_lt 512 (length parent + 2)) (ap is_none e)
    bad refl refl

pub refused_long : (parent : List (List ℕ)) (name : List ℕ) (t k : Tree) → find_key parent t ≡ Some k
    → is_bad_name name ≡ false → 255 < length name
    → after_step (make_key parent name) t ≡ Err name_too_long
refused_long parent name t k e good long =
    key_tested parent name t false false true (nat_lt 512 (length parent + 2)) (ap is_none e) good
    (lt-ltb 255 (length name) long) refl

pub refused_deep : (parent : List (List ℕ)) (name : List ℕ) (t k : Tree) → find_key parent t ≡ Some k
    → is_bad_name name ≡ false → length name ≤ 255
    → 510 < length parent → after_step (make_key parent name) t ≡ Err too_deep
refused_deep parent name t k e good short deep =
    key_tested parent name t false false false true (ap is_none e) good (le-ltb 255 (length name) short)
    (lt-ltb 512 (length parent + 2) (omega arith))

-- what is to be known of the path and the name
pub record MayTry (parent : List (List ℕ)) (name : List ℕ) (t k : Tree) : Type 0 where
  pub found : find_key parent t ≡ Some k
  pub good : is_bad_name name ≡ false
  pub short : length name ≤ 255
  pub deep : length parent ≤ 510

pub step_made : (parent : List (List ℕ)) (name : List ℕ) (t k : Tree) → MayTry parent name t k
    → after_step (make_key parent name) t ≡ Ok (made_tree parent name t)
step_made parent name t k m =
    key_tested parent name t false false false false (ap is_none m.found) m.good (le-ltb 255 (length name) m.short)
    (le-ltb 512 (length parent + 2) (let d = m.deep in omega (arith, d)))

-- ---- is it there?

pub key_present : (b : Cells) (root : ℕ) (t k : Tree) (parent : List (List ℕ)) (name : List ℕ) (at y : ℕ)
    → IsWellFormed b at k → find_key parent t ≡ Some k
    → find (is_node_named b name) (child_places b at) ≡ some y → has_key parent name t ≡ true
key_present b root t k parent name at y well found e =
    ap (λ (o : Option Tree). option_map_or (has_child name) o false) found
    ∙ go (find (is_named name) (children k))
    (subst (λ (o : Option ℕ). IsPlaceOf b o (find (is_named name) (children k))) e (child_place b name at k well))
  where
    go : (o : Option Tree) → IsPlaceOf b (Some y) o → is_some o ≡ true
    go None p = absurd p
    go (Some z) p = refl

pub key_absent : (b : Cells) (root : ℕ) (t k : Tree) (parent : List (List ℕ)) (name : List ℕ) (at : ℕ)
    → IsWellFormed b at k → find_key parent t ≡ Some k
    → find (is_node_named b name) (child_places b at) ≡ None → has_key parent name t ≡ false
key_absent b root t k parent name at well found e =
    ap (λ (o : Option Tree). option_map_or (has_child name) o false) found
    ∙ go (find (is_named name) (children k))
    (subst (λ (o : Option ℕ). IsPlaceOf b o (find (is_named name) (children k))) e (child_place b name at k well))
  where
    go : (o : Option Tree) → IsPlaceOf b None o → is_some o ≡ false
    go None p = refl
    go (Some z) p = absurd p

has_there : (parent : List (List ℕ)) (name : List ℕ) (t k : Tree) (v : Bool) → find_key parent t ≡ Some k
    → has_key parent name t ≡ v → has_child name k ≡ v
has_there parent name t k v found e = sym (ap (λ (o : Option Tree). option_map_or (has_child name) o false) found) ∙ e

-- a key that is there stays
pub nothing_made : (parent : List (List ℕ)) (name : List ℕ) (t k : Tree) → find_key parent t ≡ Some k
    → has_key parent name t ≡ true → made_tree parent name t ≡ t
nothing_made parent name t k found there =
    at_key_itself (with_key name) parent t k found
    (ap (λ (v : Bool). cond v k (of_children (placed (new_key name k)) k)) (has_there parent name t k true found there))

-- ---- the bulk

-- a descriptor that is shared has no cell of its own
pub shared_own : (s : List ℕ) → has_own s s ≡ false
shared_own [] = refl
shared_own (b ∷ s) = ap not ((bytes_eq-Decides (b ∷ s) (b ∷ s)).1 refl)

pub new_size : (version : HiveVersion) (u : Tree) (name : List ℕ)
    → size version (head u).security (new_key name u) ≡ cell (76 + name_bytes name)
new_size version (key hd ts) name =
    ap (λ (v : Bool). cell (76 + name_bytes name) + 0 + (cond v (cell (20 + length hd.security)) 0) + 0 + 0 + 0)
    (shared_own hd.security) ∙ omega arith

-- how the sizes before and after belong together, where that many keys are siblings of the new one
pub record Grows (version : HiveVersion) (parent : List (List ℕ)) (name : List ℕ) (t : Tree) (n : ℕ) : Type 0 where
  pub sizes : size version [] (made_tree parent name t) + list_size n ≡ size version [] t
      + (cell (76 + name_bytes name) + list_size (n + 1))

sums : (u t l m z c : ℕ) → u + (l + z) ≡ t + (m + (c + z)) → u + l ≡ t + (c + m)
sums u t l m z c e = omega (arith, e)

pub grows : (version : HiveVersion) (parent : List (List ℕ)) (name : List ℕ) (t k : Tree) → find_key parent t ≡ Some k
    → has_key parent name t ≡ false
    → Grows version parent name t (length (children k))
grows version parent name t (key hd ts) found absent =
    let k = key hd ts in
    let nk = new_key name k in
    let made : at_key parent (of_children (placed nk)) t ≡ made_tree parent name t =
    changed_alike (of_children (placed nk)) (with_key name) parent t k found
    (sym (ap (λ (v : Bool). cond v k (of_children (placed nk) k)) (has_there parent name t k false found absent))) in
    let e = relisted_size version [] parent t hd ts (placed nk) found in
    let l = placed_length nk (listed ts) in
    let z = placed_sizes version hd.security nk (listed ts) in
    let g : size version [] (made_tree parent name t)
    + (list_size (count ts) + sizes_of version hd.security (listed ts))
    ≡ size version [] t + (list_size (count ts + 1)
    + (cell (76 + name_bytes name) + sizes_of version hd.security (listed ts))) =
    ap (λ (u : Tree). size version [] u + (list_size (count ts) + sizes_of version hd.security (listed ts))) (sym made)
    ∙ e
    ∙ (λ i. size version [] t + (list_size (l i) + z i))
    ∙ ap (λ (q : ℕ). size version [] t + (list_size (count ts + 1) + (q + sizes_of version hd.security (listed ts))))
    (new_size version (key hd ts) name) in
    record {
      sizes = sums (size version [] (made_tree parent name t)) (size version [] t) (list_size (count ts))
          (list_size (count ts + 1)) (sizes_of version hd.security (listed ts))
          (cell (76 + name_bytes name)) g;
    }

list_most : (n : ℕ) → n ≤ 2097152 → list_size n ≤ 17000000
list_most n h = go (eqb n 0) refl (nat_lt n 501) (eqb (n % 500) 0)
  where
    go : (a : Bool) → eqb n 0 ≡ a → (b d : Bool)
        → (cond a 0 (cond b (cell (4 + 8 * n))
        (cell (4 + 4 * part_count n) + n / 500 * cell 4004 + cond d 0 (cell (4 + 8 * (n % 500)))))) ≤ 17000000
    go true e b d = omega arith
    go false e true d = omega arith
    go false e false true = omega arith
    go false e false false = omega arith

-- the bulk with the new key
pub grown_is : (version : HiveVersion) (parent : List (List ℕ)) (name : List ℕ) (t : Tree) (n bulk : ℕ)
    → Grows version parent name t n → n ≤ 2097150 → length name ≤ 255
    → BulkIs version t bulk
    → (list_size n ≤ bulk + (cell (76 + name_bytes name) + list_size (n + 1)))
    × (bulk + (cell (76 + name_bytes name) + list_size (n + 1)) - list_size n
    ≡ bulk_of version (made_tree parent name t))
grown_is version parent name t n bulk g few short b =
    bulk_then version t (made_tree parent name t) bulk (cell (76 + name_bytes name) + list_size (n + 1)) (list_size n)
    b g.sizes
    (small (name_bytes name) (length name) (list_size (n + 1)) (name_low name) short (list_most (n + 1) (omega arith)))
  where
    small : (x m l : ℕ) → x ≤ 2 * m → m ≤ 255 → l ≤ 17000000 → cell (76 + x) + l ≤ 68719476736
    small x m l e f h = omega (arith, e, f, h)

-- ---- the room

pub room_both : (xs ys : List ℕ) → room_of (xs ++ ys) ≡ room_of xs + room_of ys
room_both [] ys = omega arith
room_both (x ∷ xs) ys =
    let a = room_cons x (xs ++ ys) in
    let b = room_cons x xs in
    let c = room_both xs ys in omega (arith, a, b, c)

pub room_alike : (k : ℕ) → room_of (replicate k (cell 4004)) ≡ 4096 * k
room_alike zero = omega arith
room_alike (suc k) =
    let a = room_cons (cell 4004) (replicate k (cell 4004)) in
    let b = room_alike k in omega (arith, a, b)

-- the lists of too many children have no room
pub lists_over : (n : ℕ) → 2097151 < n → 16777216 < room_of (list_sizes n)
unfolding list_sizes
lists_over n many =
    let a : (n == 0) ≡ false = ne_eqb n 0 (λ e. omega (arith, e, many)) in
    let b : nat_lt n 501 ≡ false = le-ltb n 501 (omega (arith, many)) in
    let full = replicate (n / 500) (cell 4004) in
    let rest = cond (n % 500 == 0) [] (cell (4 + 8 * (n % 500)) ∷ []) in
    let is : list_sizes n ≡ cell (4 + 4 * part_count n) ∷ (full ++ rest) =
    (λ i. cond (a i) [] (cond (b i) (cell (4 + 8 * n) ∷ []) (cell (4 + 4 * part_count n) ∷ (full ++ rest)))) in
    let one = room_cons (cell (4 + 4 * part_count n)) (full ++ rest) in
    let two = room_both full rest in
    let three = room_alike (n / 500) in
    subst (λ (l : List ℕ). 16777216 < room_of l) (sym is)
    (sum n (room_of (cell (4 + 4 * part_count n) ∷ (full ++ rest))) (rounded (cell (4 + 4 * part_count n) + 32))
    (room_of (full ++ rest)) (room_of full) (room_of rest) many one two three)
  where
    sum : (n w x y f r : ℕ) → 2097151 < n → w ≡ x + y → y ≡ f + r → f ≡ 4096 * (n / 500) → 16777216 < w
    sum n w x y f r a b c d = omega (arith, a, b, c, d)

none_of_name : (name : List ℕ) (k : Tree) → has_child name k ≡ false → find (is_named name) (children k) ≡ None
none_of_name name k e = go (find (is_named name) (children k)) e
  where
    go : (o : Option Tree) → is_some o ≡ false → o ≡ None
    go None e = refl
    go (Some u) e = absurd cc

with_key_name : (name : List ℕ) (w : Tree) → (head (with_key name w)).name ≡ (head w).name
with_key_name name (key hd ts) = go (has_child name (key hd ts))
  where
    go : (v : Bool) → (head (cond v (key hd ts) (of_children (placed (new_key name (key hd ts))) (key hd ts)))).name
        ≡ hd.name
    go true = refl
    go false = refl

-- the sizes of the new key's cells: its node alone
new_sizes : (version : HiveVersion) (hd : Head) (ts : Trees) (name : List ℕ)
    → sizes version hd.security (new_key name (key hd ts)) ≡ cell (76 + name_bytes name) ∷ []
unfolding list_sizes
new_sizes version hd ts name =
    ap (λ (v : Bool). cell (76 + name_bytes name)
    ∷ ((some_cell (cond v (cell (20 + length hd.security)) 0) ++ []) ++ [])) (shared_own hd.security)

-- the room for the cells that a new key may need: the lists of its parent, and its node
pub make_room : (version : HiveVersion) (parent : List (List ℕ)) (name : List ℕ) (t k : Tree)
    → find_key parent t ≡ Some k → has_key parent name t ≡ false
    → room_of (needed_sizes version t (make_key parent name) (made_tree parent name t))
    ≡ room_of (list_sizes (length (children k) + 1)) + rounded (cell (76 + name_bytes name) + 32)
make_room version parent name t (key hd ts) found absent =
    let k = key hd ts in
    let nk = new_key name k in
    let lacks = has_there parent name t k false found absent in
    let w = with_key name k in
    let is : w ≡ of_children (placed nk) k = ap (λ (v : Bool). cond v k (of_children (placed nk) k)) lacks in
    let kids : children w ≡ placed nk (listed ts) = ap children is ∙ listed_trees (placed nk (listed ts)) in
    let same : (head w).security ≡ hd.security = ap (λ (u : Tree). (head u).security) is in
    let there : find_key parent (made_tree parent name t) ≡ Some w =
    found_changed (with_key name) parent t k (with_key_name name) found in
    let child : find (is_named name) (children w) ≡ Some nk =
    ap (find (is_named name)) kids ∙ found_placed name nk (listed ts) (folds_itself name) (none_of_name name k lacks) in
    let needs = make_needs version t (made_tree parent name t) w nk parent name absent there child in
    let sizes_are : sizes version (head w).security nk ≡ cell (76 + name_bytes name) ∷ [] =
    ap (λ (s : List ℕ). sizes version s nk) same ∙ new_sizes version hd ts name in
    let many : length (children w) ≡ length (listed ts) + 1 =
    ap (λ (l : List Tree). length l) kids ∙ placed_length nk (listed ts) in
    let all = ap room_of (needs ∙ (λ i. list_sizes (many i) ++ sizes_are i)) in
    let both = room_both (list_sizes (length (listed ts) + 1)) (cell (76 + name_bytes name) ∷ []) in
    let one = room_cons (cell (76 + name_bytes name)) [] in
    sum (room_of (needed_sizes version t (make_key parent name) (made_tree parent name t)))
    (room_of (list_sizes (length (listed ts) + 1) ++ cell (76 + name_bytes name) ∷ []))
    (room_of (list_sizes (length (listed ts) + 1))) (room_of (cell (76 + name_bytes name) ∷ []))
    (rounded (cell (76 + name_bytes name) + 32)) all both one
  where
    sum : (w b l n r : ℕ) → w ≡ b → b ≡ l + n → n ≡ r + 0 → w ≡ l + r
    sum w b l n r e f g = omega (arith, e, f, g)

-- ---- how many children a node counts

stand_length : (cells : Cells) (offsets : List ℕ) (ts : Trees) → AllStand cells offsets ts
    → length offsets ≡ length (listed ts)
stand_length cells offsets none e = ap (λ (l : List ℕ). length l) e
stand_length cells offsets (more t ts) a = ap (λ (l : List ℕ). length l) a.2 ∙ ap suc (stand_length cells a.1 ts a.4)

pub counted_children : (b : Cells) (root : ℕ) (t : Tree) (p : List (List ℕ)) (x : ℕ) (k : Tree) (n : KeyNode)
    → IsParent b root t p x k n → n.child_count ≡ length (children k)
counted_children b root t p x k n h =
    sym (siblings_are b root t p x k n h).number ∙ ap (λ (l : List ℕ). length l) (children_are b root t p x k n h)
    ∙ go k h.below.stands
  where
    go : (u : Tree) → Stands b x u → length (child_places b x) ≡ length (children u)
    go (key hd ts) s = ap (λ (l : List ℕ). length l) (places_are b x hd s.0 s.1) ∙ stand_length b s.0 ts s.2
