-- The uses of a packed tree's cells rise through its own range.
use Rattle.std.proofs.Common.{◌≡◌, ◌≤◌, ◌<◌, ◌⊎◌, inl, inr, ℕ, zero, suc, ◌+◌, ◌*◌, ◌-◌, ◌^◌, ◌%◌, min, Bool, true, false, not, ◌&&◌, eqb, eq-eqb, List, [], ◌∷◌, ◌++◌, length, map, Ok, refl, sym, ap, subst, ◌∙◌, arith}
use Rattle.std.specs.Prelude.{nat_lt, nat_le, nat_eq, if◌then◌else◌}
use Rattle.std.specs.List.{All, AllByRecursion}
use lib.Pointwise.{pointwise}
use Rattle.std.proofs.lemmas.Bool.{ne_eqb, eqb-false, ltb-true, ltb-false, le-ltb, lt-ltb, lt-leb, le-leb, cases_lt}
use Rattle.std.proofs.lemmas.Slice.Eq.{bytes_eq-Decides}
use Rattle.hive_model.specs.Tree.{Item, Tree, Trees, key, none, more, listed, head}
use Rattle.hive_model.specs.Valid.{IsItem, HoldsKeys, AllHoldKeys, levels, most_levels}
use Rattle.hive_model.specs.Size.{cell, name_bytes, is_big, segment_count, segment_sizes, cells_sum, data_size, item_size, items_sum, items_size, class_size, has_own, security_size, node_size, head_size, part_count, list_size, count, size, size_of_all}
use Rattle.hive_model.specs.Bins.{Cells}
use Rattle.hive_model.specs.Forms.{bytes_in}
use Rattle.hive_model.specs.Security.{security_at}
use Rattle.hive_model.specs.KeyNode.{KeyNode, IsKeyNode, key_node_text}
use Rattle.hive_model.specs.KeyValue.{key_value_at}
use Rattle.hive_model.specs.Lists.{list_at, offsets_in, AreOffsets, AreHints}
use Rattle.hive_model.specs.Walk.{reading, nowhere, big_data_of, segments_checks, big_checks, is_list_of_lists, node_at, leaf_at, entries_at, Check, names_of, name_check, class_checks, security_checks, data_checks, value_checks, values_in_turn, values_checks, leaves_checks, use_as, entries_checks, keys_in_turn, children_checks, below_node, key_checks, all_checks, AreUsedOnce}
use Rattle.hive_model.specs.Packed.{data_place, item_form, segment_places, big_cells, data_cells, item_cells, cells_of_items, item_places, items_cells, descriptor_place, sharers_of_all, Above, below, security_place_of, values_place, list_place, children_place, place_of_some, node_of, head_cells, part_places, list_cells, places, hint, cells_of, cells_of_all}
use Rattle.hive_model.proofs.Spelling.{key_node_again}
use Rattle.hive_model.proofs.UsedOnce.{used_once}
use Rattle.hive_pack.specs.Numbers.{ItemNumbers, HasNumbers, AllHaveNumbers}
use Rattle.hive_pack.proofs.Rows.{segments_room, space_value, space_head, space_lists, space_tree, length_places, same_hints, hints_of, many_lists}
use Rattle.reg_tree.proofs.Trees.{trees_listed}
use Rattle.hive_pack.proofs.Counts.{few_of_all, all_later}
use Rattle.hive_pack.proofs.Found.{Has, has_front, has_behind, reads_in}
use Rattle.hive_pack.proofs.Items.{big_stands, not_big, data_has, item_read, values_read, values_behind}
use Rattle.hive_pack.proofs.Named.{written_kind, no_lists, list_read, lists_read, entries_read}
use Rattle.hive_pack.proofs.Standing.{AboveStands, below_stands, node_fits, head_has, places_fit}
use Rattle.hive_pack.proofs.Beside
use Rattle.hive_pack.proofs.Beside.{Outside, good_none, good_append, good_tests, good_shared, good_other, good_own, use_only, use_then}

-- checks in a range, or of a descriptor that stands somewhere beside it
abbrev pub Good : ℕ → ℕ → ℕ → List Check → Type 0
Good lo hi s cs = Beside.Good nowhere lo hi s cs

outside : (s lo hi lo' hi' : ℕ) → lo ≤ lo' → hi' ≤ hi → Outside s lo hi → Outside s lo' hi'
outside s lo hi lo' hi' l h (inl p) = inl (omega arith)
outside s lo hi lo' hi' l h (inr p) = inr (omega arith)

-- ---- values

-- segments in sequence
segments_good : (cells : Cells) (k n at hi d : ℕ) → at + 16352 * k ≤ hi + 16344 → Outside d at hi
    → Good at hi d (segments_checks cells n (segment_places k at))
segments_good cells zero n at hi d e o = good_none at hi d
segments_good cells (suc zero) n at hi d e o =
    good_append at hi hi d _ [] (omega arith) (omega arith) o
    (use_only (bytes_in (min 16344 n)) cells at hi d at (omega arith) (omega arith) o) (good_none hi hi d)
segments_good cells (suc (suc k)) n at hi d e o =
    let next = at + cell 16344 in
    good_append at next hi d _ _ (omega arith) (omega arith) o
    (use_only (bytes_in (min 16344 n)) cells at next d at (omega arith) (omega arith)
    (outside d at hi at next (omega arith) (omega arith) o))
    (segments_good cells (suc k) (n - 16344) next hi d (omega arith)
    (outside d at hi next hi (omega arith) (omega arith) o))

-- the cell of big data, the list of segments, and these
big_good : (cells : Cells) (at hi s : ℕ) (bytes : List ℕ)
    → Has cells at (big_cells at (segment_count (length bytes)) bytes)
    → at + cells_sum (8 ∷ 4 * segment_count (length bytes)
    ∷ segment_sizes (segment_count (length bytes)) (length bytes)) ≡ hi
    → hi ≤ 16777216 → Outside s at hi → Good at hi s (big_checks cells (length bytes) at)
unfolding big_checks
big_good cells at hi s bytes has e le o =
    let k = segment_count (length bytes) in
    let list = at + cell 8 in
    let first = list + cell (4 * k) in
    let stands = big_stands cells at k bytes refl has (omega arith) in
    let room = segments_room k (length bytes) refl in
    use_then (big_data_of (length bytes)) cells at list hi s at (record { segments = k; list = list }) _ stands.big
    (omega arith) (omega arith) (omega (arith, e)) o
    (use_then (offsets_in k) cells list first hi s list (segment_places k first) (segments_checks cells (length bytes))
    stands.list (omega arith) (omega arith) (omega (arith, e))
    (outside s at hi list hi (omega arith) (omega arith) o)
    (segments_good cells k (length bytes) first hi s (omega (arith, e, room))
    (outside s at hi first hi (omega arith) (omega arith) o)))

-- of data of over four bytes in cells of their own
cells_good : (cells : Cells) (at hi s : ℕ) (bytes : List ℕ) → 4 < length bytes → at + data_size cells.version bytes ≡ hi
    → hi ≤ 16777216 → Outside s at hi → Has cells at (data_cells cells.version at bytes)
    → Good at hi s (if is_big cells.version (length bytes) then big_checks cells (length bytes) at else use_as false
    (bytes_in (length bytes)) cells at)
cells_good cells at hi s bytes long e le o has = go (is_big cells.version (length bytes)) refl
  where
    four_more : nat_lt 4 (length bytes) ≡ true
    four_more = lt-ltb 4 (length bytes) long

    go : (big : Bool) → is_big cells.version (length bytes) ≡ big
        → Good at hi s (if is_big cells.version (length bytes) then big_checks cells (length bytes) at else use_as false
        (bytes_in (length bytes)) cells at)
    go true q =
        let here : Has cells at (big_cells at (segment_count (length bytes)) bytes) = rw q at has in
        let size = rw q at e in
        rw q (big_good cells at hi s bytes here size le o)
    go false q =
        let size = rw (q, four_more) at e in
        rw q (use_only (bytes_in (length bytes)) cells at hi s at (omega arith) (omega arith) o)

-- a value's data
data_good : (cells : Cells) (at hi s : ℕ) (v : Item) → at + item_size cells.version v ≡ hi → hi ≤ 16777216
    → Outside s (data_place at v) hi
    → Has cells (data_place at v) (data_cells cells.version (data_place at v) v.bytes) → length v.bytes < 2 ^ 31
    → Good (data_place at v) hi s (data_checks cells (item_form at v))
unfolding data_checks
data_good cells at hi s v e le o has few = go (nat_lt 4 (length v.bytes)) refl
  where
    go : (long : Bool) → nat_lt 4 (length v.bytes) ≡ long
        → Good (data_place at v) hi s (data_checks cells (item_form at v))
    go true q =
        let long : 4 < length v.bytes = ltb-true 4 (length v.bytes) q in
        let small : nat_le 2147483648 (length v.bytes) ≡ false = lt-leb _ _ (omega arith) in
        let some : eqb (length v.bytes) 0 ≡ false = ne_eqb _ _ (λ z. omega arith) in
        rw (q, small, some) (cells_good cells (data_place at v) hi s v.bytes long (omega arith) le o has)
    go false q =
        let short : length v.bytes ≤ 4 = ltb-false 4 (length v.bytes) q in
        let none_left = not_big cells.version (length v.bytes) short in
        let size = rw (none_left, q) at e in
        let large : nat_le 2147483648 (2147483648 + length v.bytes) ≡ true = le-leb _ _ (omega arith) in
        rw (q, large) (subst (λ (m : ℕ). Good m hi s []) (omega arith) (good_none hi hi s))

value_good : (cells : Cells) (names : List (List ℕ)) (at hi s : ℕ) (v : Item) → at + item_size cells.version v ≡ hi
    → hi ≤ 16777216 → Outside s at hi → Has cells at (item_cells cells.version at v) → IsItem v → ItemNumbers v
    → Good at hi s (value_checks cells names at)
unfolding value_checks
value_good cells names at hi s v e le o h f g =
    let mid = at + cell (20 + name_bytes v.name) in
    use_then key_value_at cells at mid hi s at (item_form at v)
    (λ value. name_check names at value.name ∷ data_checks cells value) (item_read cells at v h f g (omega arith))
    (omega arith) (omega arith) (omega arith) o
    (good_tests mid hi s at _ _
    (data_good cells at hi s v e le (outside s at hi mid hi (omega arith) (omega arith) o) (data_has cells at v h)
    f.bytes))

values_good : (cells : Cells) (names : List (List ℕ)) (at hi s : ℕ) (vs : List Item)
    → at + items_sum cells.version vs ≡ hi
    → hi ≤ 16777216 → Outside s at hi → Has cells at (cells_of_items cells.version at vs) → All IsItem vs
    → AllByRecursion ItemNumbers vs
    → Good at hi s (values_in_turn cells names (item_places cells.version at vs))
values_good cells names at hi s [] e le o h f g = good_none at hi s
values_good cells names at hi s (v ∷ vs) e le o h f g =
    let next = at + item_size cells.version v in
    let back = has_behind cells at (item_size cells.version v) next (item_cells cells.version at v)
    (cells_of_items cells.version next vs) (space_value cells.version at v) refl h in
    let front = has_front cells at (item_cells cells.version at v) (cells_of_items cells.version next vs) h in
    good_append at next hi s _ _ (omega arith) (omega arith) o
    (value_good cells names at next s v refl (omega arith) (outside s at hi at next (omega arith) (omega arith) o)
    front (f 0 v (omega arith)) g.0)
    (values_good cells (names ++ names_of (λ value. value.name) (reading key_value_at cells at)) next hi s vs
    (omega arith) le (outside s at hi next hi (omega arith) (omega arith) o) back (all_later v vs f) g.1)

all_values_good : (cells : Cells) (node : KeyNode) (start hi s : ℕ) (vs : List Item) → node.value_count ≡ length vs
    → node.value_list ≡ place_of_some (length vs) start → start + items_size cells.version vs ≡ hi → hi ≤ 16777216
    → Outside s start hi
    → Has cells start (items_cells cells.version start vs) → All IsItem vs → AllByRecursion ItemNumbers vs
    → Good start hi s (values_checks cells node)
unfolding values_checks
all_values_good cells node start hi s [] n l e le o has f g = rw n (good_none start hi s)
all_values_good cells node start hi s (v ∷ vs) n l e le o has f g =
    let first = start + cell (4 * length (v ∷ vs)) in
    let some : eqb (length (v ∷ vs)) 0 ≡ false = ne_eqb _ _ (λ z. omega arith) in
    let place : node.value_list ≡ start = l ∙ rw some refl in
    rw (n, some, place) (use_then (offsets_in (length (v ∷ vs))) cells start first hi s start
    (item_places cells.version first (v ∷ vs)) (values_in_turn cells [])
    (values_read cells start v vs has (omega arith)) (omega arith) (omega arith) (omega arith) o
    (values_good cells [] first hi s (v ∷ vs) (omega arith) le
    (outside s start hi first hi (omega arith) (omega arith) o) (values_behind cells start v vs has) f g))

-- ---- class and descriptor

class_good : (cells : Cells) (node : KeyNode) (at hi s : ℕ) (c : List ℕ) → node.class_length ≡ length c
    → node.class ≡ place_of_some (length c) at → at + class_size c ≡ hi → Outside s at hi
    → Good at hi s (class_checks cells node)
unfolding class_checks
class_good cells node at hi s [] n p e o = rw n (good_none at hi s)
class_good cells node at hi s (b ∷ c) n p e o =
    let some : eqb (length (b ∷ c)) 0 ≡ false = ne_eqb _ _ (λ z. omega arith) in
    let place : node.class ≡ at = p ∙ rw some refl in
    rw (n, some, place) (use_only (bytes_in (length (b ∷ c))) cells at hi s at (omega arith) (omega arith) o)

-- the descriptor above stands before here, if there is one
abbrev pub IsAbove : Above → ℕ → Type 0
IsAbove up at = (up.security_place < at) ⊎ (up.security_place ≡ nowhere)

-- the descriptor above stands outside a range, if there is one
abbrev pub IsBeside : Above → ℕ → ℕ → Type 0
IsBeside up lo hi = Outside up.security_place lo hi

secured : (cells : Cells) (node : KeyNode) (up : Above) (p hi : ℕ) (s : List ℕ) (cs : List Check)
    → node.security ≡ security_place_of up p s → AboveStands cells up → IsBeside up p hi
    → p + security_size up.security s ≤ hi
    → hi ≤ 16777216
    → Good (p + security_size up.security s) hi (security_place_of up p s) cs
    → Good p hi up.security_place (security_checks cells node ++ cs)
unfolding security_checks
secured cells node up p hi [] cs is a i le small g = let z : p + 0 ≡ p = omega arith in
    rw is (good_other p hi up.security_place nowhere cs (omega arith) (rw z at g))
secured cells node up p hi (b ∷ s) cs is a i le small g = go (pointwise nat_eq up.security (b ∷ s)) refl
  where
    here : (none : Bool) → eqb up.security_place nowhere ≡ none → up.security ≡ b ∷ s → Good p hi up.security_place cs
        → Good p hi up.security_place
        ((if eqb up.security_place nowhere then [] else use_as true security_at cells up.security_place) ++ cs)
    here true q alike h =
        absurd (let none_above : Ok [] ≡ Ok up.security = rw q at a.descriptor in cc)
    here false q alike h =
        let place : up.security_place < nowhere =
        omega (arith, a.security_place, eqb-false up.security_place nowhere q) in
        rw q (good_shared p hi up.security_place _ place i (good_tests p hi up.security_place up.security_place _ cs h))

    go : (same : Bool) → pointwise nat_eq up.security (b ∷ s) ≡ same
        → Good p hi up.security_place (security_checks cells node ++ cs)
    go true e =
        let z : p + 0 ≡ p = omega arith in
        let h = rw (e, z) at g in
        let place : node.security ≡ up.security_place = is ∙ rw e refl in
        let alike : up.security ≡ b ∷ s = (bytes_eq-Decides up.security (b ∷ s)).0 e in
        rw place (here (eqb up.security_place nowhere) refl alike h)
    go false e =
        let h = rw e at g in
        let room = rw e at le in
        let place : node.security ≡ p = is ∙ rw e refl in
        let some : eqb p nowhere ≡ false = ne_eqb _ _ (λ q. omega arith) in
        rw (place, some) (good_own p (p + cell (20 + length (b ∷ s))) hi up.security_place p _ (omega arith)
        (omega arith) room (good_tests (p + cell (20 + length (b ∷ s))) hi p p _ cs h))

pub above_below : (up : Above) (at p : ℕ) (s : List ℕ) → IsAbove up at → at < p
    → (security_place_of up p s < p + security_size up.security s) ⊎ (security_place_of up p s ≡ nowhere)
above_below up at p [] i l = inr refl
above_below up at p (b ∷ s) i l = go (has_own up.security (b ∷ s)) i
  where
    go : (own : Bool) → IsAbove up at
        → ((if own then p else up.security_place) < p + (if own then cell (20 + length (b ∷ s)) else 0))
        ⊎ ((if own then p else up.security_place) ≡ nowhere)
    go true i = inl (omega arith)
    go false (inl q) = inl (omega arith)
    go false (inr q) = inr q

-- what a key passes to its children is beside what is after its descriptor
beside_below : (up : Above) (at p hi : ℕ) (s : List ℕ) → IsBeside up at hi → at < p → hi ≤ 16777216
    → Outside (security_place_of up p s) (p + security_size up.security s) hi
beside_below up at p hi [] i l h = inr (omega arith)
beside_below up at p hi (b ∷ s) i l h = go (has_own up.security (b ∷ s)) i
  where
    go : (own : Bool) → IsBeside up at hi
        → Outside (if own then p else up.security_place) (p + (if own then cell (20 + length (b ∷ s)) else 0)) hi
    go true i = inl (omega arith)
    go false (inl q) = inl (omega arith)
    go false (inr q) = inr q

pub later_above : (up : Above) (at p : ℕ) → at ≤ p → IsAbove up at → IsAbove up p
later_above up at p l (inl q) = inl (omega arith)
later_above up at p l (inr q) = inr q

-- ---- lists

leaves_good : (cells : Cells) (k at hi d : ℕ) → at + 4008 * k ≤ hi + 4000 → Outside d at hi
    → Good at hi d (leaves_checks cells (part_places k at))
leaves_good cells zero at hi d e o = good_none at hi d
leaves_good cells (suc zero) at hi d e o =
    good_append at hi hi d _ [] (omega arith) (omega arith) o
    (use_only leaf_at cells at hi d at (omega arith) (omega arith) o) (good_none hi hi d)
leaves_good cells (suc (suc k)) at hi d e o =
    let next = at + cell 4004 in
    good_append at next hi d _ _ (omega arith) (omega arith) o
    (use_only leaf_at cells at next d at (omega arith) (omega arith)
    (outside d at hi at next (omega arith) (omega arith) o))
    (leaves_good cells (suc k) next hi d (omega arith) (outside d at hi next hi (omega arith) (omega arith) o))

-- the lists of more than 500 children take this much
list_parts : (n : ℕ) → 501 ≤ n → cell (4 + 4 * part_count n) + 4008 * part_count n ≤ list_size n + 4000
list_parts n h = go (cases_lt 0 (n % 500))
  where
    a : eqb n 0 ≡ false
    a = ne_eqb n 0 (λ e. omega arith)

    b : nat_lt n 501 ≡ false
    b = le-ltb n 501 (omega arith)

    go : (0 < n % 500) ⊎ (n % 500 ≤ 0) → cell (4 + 4 * part_count n) + 4008 * part_count n ≤ list_size n + 4000
    go (inl some) =
        let c : eqb (n % 500) 0 ≡ false = ne_eqb (n % 500) 0 (λ e. omega arith) in
        rw (a, b, c) (omega arith)
    go (inr nothing) =
        let c : eqb (n % 500) 0 ≡ true = eq-eqb (n % 500) 0 (omega arith) in
        rw (a, b, c) (omega arith)

-- the list of some children takes some bytes
some_list : (n : ℕ) → 0 < n → 8 ≤ list_size n
some_list n h = go (cases_lt n 501)
  where
    a : eqb n 0 ≡ false
    a = ne_eqb n 0 (λ e. omega arith)

    go : (n < 501) ⊎ (501 ≤ n) → 8 ≤ list_size n
    go (inl few) = let b : nat_lt n 501 ≡ true = lt-ltb n 501 few in rw (a, b) (omega arith)
    go (inr many) = omega (arith, many_lists n many)

-- the checks of lists in packed form are good in their run
pub entries_good : (cells : Cells) (at hi d : ℕ) (os : List ℕ) (hs : List (List ℕ))
    → Has cells at (list_cells cells.version at os hs)
    → 0 < length os → length os ≡ length hs → AreOffsets os → AreHints hs → at + list_size (length os) ≡ hi
    → hi ≤ 16777216
    → Outside d at hi
    → Good at hi d (entries_checks cells at)
unfolding entries_checks
entries_good cells at hi d os hs has some e f g taken le o = go (cases_lt (length os) 501)
  where
    go : (length os < 501) ⊎ (501 ≤ length os) → Good at hi d (entries_checks cells at)
    go (inl few) =
        let leaf : (if is_list_of_lists (written_kind cells.version) then leaves_checks cells os else []) ≡ [] =
        rw (no_lists cells.version) refl in
        use_then list_at cells at hi hi d at _ _ (list_read cells at os hs has some few e f g) (omega arith)
        (omega (arith, some_list (length os) some)) (omega arith) o
        (subst (λ (cs : List Check). Good hi hi d cs) (sym leaf) (good_none hi hi d))
    go (inr many) =
        let first = at + cell (4 + 4 * part_count (length os)) in
        use_then list_at cells at first hi d at _ _ (lists_read cells at os hs has many (omega arith)) (omega arith)
        (omega arith) (omega (arith, many_lists (length os) many)) o
        (leaves_good cells (part_count (length os)) first hi d (omega (arith, list_parts (length os) many))
        (outside d at hi first hi (omega arith) (omega arith) o))

children_good : (cells : Cells) (checks : List (List ℕ) → ℕ → List Check) (node : KeyNode) (at l mid hi d : ℕ)
    (os : List ℕ) (hs : List (List ℕ))
    → Has cells l (list_cells cells.version l os hs) → node.child_count ≡ length os
    → node.child_list ≡ place_of_some (length os) l
    → length os ≡ length hs → AreOffsets os → AreHints hs → l + list_size (length os) ≡ mid → mid ≤ hi → hi ≤ 16777216
    → Outside d l hi → Good mid hi d (keys_in_turn checks cells [] os)
    → Good l hi d (children_checks checks cells node at)
unfolding children_checks
children_good cells checks node at l mid hi d [] hs has c p e f g taken m le o turn = rw c (good_none l hi d)
children_good cells checks node at l mid hi d (x ∷ os) hs has c p e f g taken m le o turn =
    let some : eqb (length (x ∷ os)) 0 ≡ false = ne_eqb _ _ (λ z. omega arith) in
    let place : node.child_list ≡ l = p ∙ rw some refl in
    let read : entries_at cells l ≡ Ok (x ∷ os) =
    entries_read cells l (x ∷ os) hs has (omega arith) e f g (omega arith) in
    rw (c, some, place, read)
    (good_append l mid hi d _ _ (omega arith) m o
    (entries_good cells l mid d (x ∷ os) hs has (omega arith) e f g taken (omega arith)
    (outside d l hi l mid (omega arith) m o)) (good_tests mid hi d at _ _ turn))

-- ---- keys

good_name : (root empty : Bool) → (root ≡ true) ⊎ (empty ≡ false) → (empty && not root) ≡ false
good_name true true g = refl
good_name true false g = refl
good_name false false g = refl
good_name false true (inl e) = absurd cc
good_name false true (inr e) = absurd cc

named_read : (root : Bool) (n : KeyNode) (slack : List ℕ) → IsKeyNode n → (eqb (length n.name) 0 && not root) ≡ false
    → node_at root (key_node_text n ++ slack) ≡ Ok n
unfolding node_at
named_read root n slack f e = rw (key_node_again n slack f, e) refl

-- a key may be the root, or has a name
abbrev IsNamed : Bool → List ℕ → Type 0
IsNamed root name = (root ≡ true) ⊎ (0 < length name)

some_name : (root : Bool) (name : List ℕ) → IsNamed root name → (root ≡ true) ⊎ (eqb (length name) 0 ≡ false)
some_name root name (inl e) = inl e
some_name root name (inr l) = inr (ne_eqb (length name) 0 (λ z. omega arith))

abbrev AreNamed : List Tree → Type 0
AreNamed ts = All (λ (t : Tree). 0 < length (head t).name) ts

named_later : (t : Tree) (ts : List Tree) → AreNamed (t ∷ ts) → AreNamed ts
named_later t ts f = λ k d lt. f (suc k) d (omega arith)

mutual
  unfolding key_checks

  pub key_good : (cells : Cells) (left : ℕ) (root : Bool) (names : List (List ℕ)) (up : Above) (at hi : ℕ) (t : Tree)
      → at + size cells.version up.security t ≡ hi → hi ≤ 16777216 → AboveStands cells up → IsBeside up at hi
      → Has cells at (cells_of cells.version up at t) → HoldsKeys t → HasNumbers t
      → IsNamed root (head t).name → levels t ≤ left
      → Good at hi up.security_place (key_checks left cells root names at)
  key_good cells zero root names up at hi (key h ts) e le a i has f n called lv = absurd (omega arith)
  key_good cells (suc left) root names up at hi (key h ts) e le a i has f n called lv =
      let first = children_place cells.version up.security at h (count ts) in
      let os = places cells.version h.security first ts in
      let hs = map (hint cells.version) (listed ts) in
      let lists = list_cells cells.version (list_place cells.version up.security at h) os hs in
      let all = cells_of_all cells.version (below up at h) first ts in
      let node = node_of cells.version up at h (listed ts) in
      let p = at + node_size h in
      let own = descriptor_place at h in
      let v = values_place up.security at h in
      let l = list_place cells.version up.security at h in
      let d = security_place_of up own h.security in
      let mine = head_has cells up at h ts
      (has_front cells at (head_cells cells.version up at h ts) (lists ++ all) has) in
      let behind_head = has_behind cells at (head_size cells.version up.security h) l
      (head_cells cells.version up at h ts) (lists ++ all) (space_head cells.version up at h ts) (omega arith)
      has in
      let list = has_front cells l lists all behind_head in
      let later = has_behind cells l (list_size (count ts)) first lists all
      (space_lists cells.version l h.security first ts) refl behind_head in
      let few : sharers_of_all h.security ts ≤ 16777216 =
      omega (arith, few_of_all cells.version h.security h.security ts) in
      let keys = subst AllHoldKeys (sym (trees_listed ts)) f.1 in
      let n_os = length_places cells.version h.security first ts in
      let fits = node_fits cells up at h (listed ts) a f.0 keys n.0 (omega arith) in
      let read = reads_in (node_at root) cells at (key_node_text node) node mine.node
      (λ slack. named_read root node slack fits
      (good_name root (eqb (length h.name) 0) (some_name root h.name called))) in
      let up-is = below_stands cells up at h (sharers_of_all h.security ts) a mine.security (omega arith) few in
      let d-above : Outside d v hi = beside_below up at own hi h.security i (omega arith) le in
      let turn = turn_good cells left [] (below up at h) first hi ts (omega arith) le up-is
      (outside d v hi first hi (omega arith) (omega arith) d-above) later f.1 n.1 f.0.keys_named (omega arith) in
      let children = children_good cells (key_checks left cells false) node at l first hi d os hs list (sym n_os)
      (ap (λ k. place_of_some k l) (sym n_os)) (same_hints cells.version h.security first ts)
      (places_fit cells.version h.security first ts (omega arith)) (hints_of cells.version (listed ts))
      (omega (arith, ap list_size n_os)) (omega arith) le (outside d v hi l hi (omega arith) (omega arith) d-above)
      turn in
      let values = all_values_good cells node v l d h.values refl refl refl (omega arith)
      (outside d v hi v l (omega arith) (omega arith) d-above) mine.values f.0.items n.0.items in
      let both = good_append v l hi d _ _ (omega arith) (omega arith) d-above values children in
      let security = secured cells node up own hi h.security _ refl a
      (outside up.security_place at hi own hi (omega arith) (omega arith) i) (omega arith) le both in
      let class = class_good cells node p own up.security_place h.class refl refl refl
      (outside up.security_place at hi p own (omega arith) (omega arith) i) in
      let whole = good_append p own hi up.security_place _ _ (omega arith) (omega arith)
      (outside up.security_place at hi p hi (omega arith) (omega arith) i) class security in
      use_then (node_at root) cells at p hi up.security_place at node
      (λ (k : KeyNode). name_check names at k.name ∷ below_node (key_checks left cells false) cells k at) read
      (omega arith) (omega arith) (omega arith) i
      (good_tests p hi up.security_place at _ _ whole)

  turn_good : (cells : Cells) (left : ℕ) (names : List (List ℕ)) (up : Above) (at hi : ℕ) (ts : Trees)
      → at + size_of_all cells.version up.security ts ≡ hi → hi ≤ 16777216 → AboveStands cells up → IsBeside up at hi
      → Has cells at (cells_of_all cells.version up at ts) → AllHoldKeys ts → AllHaveNumbers ts
      → AreNamed (listed ts) → most_levels ts ≤ left
      → Good at hi up.security_place
      (keys_in_turn (key_checks left cells false) cells names (places cells.version up.security at ts))
  turn_good cells left names up at hi none e le a i has f n called lv = good_none at hi up.security_place
  turn_good cells left names up at hi (more t ts) e le a i has f n called lv =
      let next = at + size cells.version up.security t in
      let back = has_behind cells at (size cells.version up.security t) next (cells_of cells.version up at t)
      (cells_of_all cells.version up next ts) (space_tree cells.version up at t) refl has in
      let front = has_front cells at (cells_of cells.version up at t) (cells_of_all cells.version up next ts) has in
      good_append at next hi up.security_place _ _ (omega arith) (omega arith) i
      (key_good cells left false names up at next t refl (omega arith) a
      (outside up.security_place at hi at next (omega arith) (omega arith) i) front f.0 n.0
      (inr (called 0 t (omega arith))) (omega arith))
      (turn_good cells left (names ++ names_of (λ (k : KeyNode). k.name) (reading (node_at false) cells at))
      up next hi ts (omega arith) le a (outside up.security_place at hi next hi (omega arith) (omega arith) i)
      back f.1 n.1 (named_later t (listed ts) called) (omega arith))

-- all checks of a packed tree's cells use each cell once, or each time as security
pub checks_once : (cells : Cells) (up : Above) (t : Tree) → 32 + size cells.version up.security t ≤ 16777216
    → up.security_place ≡ nowhere → AboveStands cells up → Has cells 32 (cells_of cells.version up 32 t) → HoldsKeys t
    → HasNumbers t → levels t ≤ 512 → AreUsedOnce (all_checks cells 32)
unfolding all_checks
checks_once cells up t le is a has f n lv =
    let good = key_good cells 512 true [] up 32 (32 + size cells.version up.security t) t refl le a (inr (omega arith))
    has f n (inl refl) lv in
    used_once (key_checks 512 cells true [] 32) (good.once [] tt)
