-- What the writer has written, and what is still to be written.
use Rattle.std.proofs.Common.{◌≡◌, ◌≤◌, ◌<◌, ℕ, ◌+◌, ◌*◌, List, [], ◌∷◌, ◌++◌, length, take, drop, map, refl, sym, ap, subst, ◌∙◌, append_assoc, arith}
use Rattle.std.proofs.lemmas.Grind.{flat_map-append}
use Rattle.std.proofs.lemmas.List.{take_at, drop_at, length-append, length-replicate}
use lib.ListN.{replicate}
use Rattle.nt_bytes.specs.declared.version.HiveVersion.{HiveVersion}
use Rattle.hive_model.specs.Tree.{Item, Head, Tree, Trees, key, more, listed, trees, head, children}
use Rattle.hive_model.specs.Codes.{weight, weights, weights-trees}
use Rattle.hive_model.specs.Valid.{IsKey, HoldsKeys, AllHoldKeys}
use Rattle.hive_model.specs.Size.{cell, item_size, items_sum, items_size, head_size, list_size, count, size, size_of_all}
use Rattle.hive_model.specs.KeyNode.{key_node_text}
use Rattle.hive_model.specs.KeyValue.{key_value_text}
use Rattle.hive_model.specs.BigData.{big_data_text}
use Rattle.hive_model.specs.Lists.{offsets_text}
use Rattle.hive_model.specs.Packed.{cell_text, text, data_place, item_form, segment_places, segments, big_cells, data_cells, item_cells, cells_of_items, item_places, items_cells, descriptor_place, own_place, ring, ring_of_all, sharers_of_all, Above, below, values_place, list_place, children_place, node_of, class_cells, security_cells, head_cells, list_cells, places, hint, cells_of, cells_of_all}
use Rattle.reg_tree.proofs.Trees.{listed_trees, trees_listed}
use Rattle.hive_pack.specs.Numbers.{HeadNumbers, HasNumbers, AllHaveNumbers}
use Rattle.hive_pack.proofs.Rows.{length_cell, length_text, length_value, space_value, length_values_list, space_class, space_security, space_head, length_node, space_lists, space_tree}

-- ---- a tree by its head and its children

pub parted : (t : Tree) → key (head t) (trees (children t)) ≡ t
parted (key h ts) = ap (key h) (trees_listed ts)

pub counted : (ts : List Tree) → count (trees ts) ≡ length ts
counted ts = ap (λ (us : List Tree). length us) (listed_trees ts)

pub size_parted : (version : HiveVersion) (shared : List ℕ) (t : Tree)
    → size version shared t
    ≡ head_size version shared (head t) + list_size (length (children t))
    + size_of_all version (head t).security (trees (children t))
size_parted version shared (key h ts) =
    ap (λ us. head_size version shared h + list_size (length (listed ts)) + size_of_all version h.security us)
    (sym (trees_listed ts))

pub weight_parted : (t : Tree) → weight t ≡ 1 + weights (children t)
weight_parted (key h ts) =
    ap (λ us. weight (key h us)) (sym (trees_listed ts)) ∙ ap (λ n. 1 + n) (weights-trees (listed ts))

pub holds_parted : (t : Tree) → HoldsKeys t → IsKey (head t) (children t) × AllHoldKeys (trees (children t))
holds_parted (key h ts) f = (f.0, subst AllHoldKeys (sym (trees_listed ts)) f.1)

pub numbers_whole : (t : Tree) → HeadNumbers (head t) → AllHaveNumbers (trees (children t)) → HasNumbers t
numbers_whole (key h ts) f g = (f, subst AllHaveNumbers (trees_listed ts) g)

-- ---- values

-- big data that were written cell by cell, to be at a place
pub big_written : (bytes old one two new : List ℕ) (at k count list first : ℕ) → k ≡ count → list ≡ at + 16
    → first ≡ list + cell (4 * k)
    → one ≡ old ++ cell_text (big_data_text (record { segments = k; list = list }))
    → two ≡ one ++ cell_text (offsets_text (segment_places k first))
    → new ≡ two ++ text (segments k bytes) → new ≡ old ++ text (big_cells at count bytes)
unfolding big_cells
big_written bytes old one two new at k count list first e l f a b d =
    let head : List ℕ = cell_text (big_data_text (record { segments = k; list = list })) in
    let places : List ℕ = cell_text (offsets_text (segment_places k first)) in
    let all : List ℕ = text (segments k bytes) in
    let first-is : first ≡ at + 16 + cell (4 * k) = omega (arith, l, f) in
    d ∙ ap (λ (x : List ℕ). x ++ all) (b ∙ ap (λ (x : List ℕ). x ++ places) a)
    ∙ append_assoc (old ++ head) places all
    ∙ append_assoc old head (places ++ all)
    ∙ (λ j. old ++ (cell_text (big_data_text (record { segments = k; list = l j }))
    ++ (cell_text (offsets_text (segment_places k (first-is j))) ++ all)))
    ∙ ap (λ (n : ℕ). old ++ text (big_cells at n bytes)) e

-- after a value's cell its data begin
pub data_at : (old one : List ℕ) (v : Item) → one ≡ old ++ cell_text (key_value_text (item_form (length old) v))
    → length one ≡ data_place (length old) v
data_at old one v a =
    let value = key_value_text (item_form (length old) v) in
    omega (
      arith,
      ap (λ (x : List ℕ). length x) a,
      length-append old (cell_text value),
      length_cell value
          ∙ ap cell (length_value (length old) v),
    )

-- a value that was written cell by cell
pub value_written : (version : HiveVersion) (old one new : List ℕ) (v : Item)
    → one ≡ old ++ cell_text (key_value_text (item_form (length old) v))
    → new ≡ one ++ text (data_cells version (length one) v.bytes)
    → new ≡ old ++ text (item_cells version (length old) v)
unfolding item_cells
value_written version old one new v a b =
    let later = data_cells version (data_place (length old) v) v.bytes in
    b ∙ (λ j. a j ++ text (data_cells version (data_at old one v a j) v.bytes))
    ∙ append_assoc old (cell_text (key_value_text (item_form (length old) v))) (text later)

pub value_next_place : (version : HiveVersion) (out : List ℕ) (v : Item) (next : List ℕ)
    → next ≡ out ++ text (item_cells version (length out) v) → length next ≡ length out + item_size version v
value_next_place version out v next e = let here = item_cells version (length out) v in
    ap (λ (n : List ℕ). length n) e ∙ length-append out (text here)
    ∙ ap (λ k. length out + k) (length_text here ∙ space_value version (length out) v)

pub value_next : (version : HiveVersion) (out : List ℕ) (v : Item) (vs : List Item) (next : List ℕ)
    → next ≡ out ++ text (item_cells version (length out) v)
    → next ++ text (cells_of_items version (length next) vs) ≡ out
    ++ text (cells_of_items version (length out) (v ∷ vs))
value_next version out v vs next e =
    let here = item_cells version (length out) v in
    let len = value_next_place version out v next e in
    ap (λ (n : List ℕ). n ++ text (cells_of_items version (length next) vs)) e
    ∙ append_assoc out (text here) (text (cells_of_items version (length next) vs))
    ∙ ap (λ (n : ℕ). out ++ (text here ++ text (cells_of_items version n vs))) len
    ∙ ap (λ (n : List ℕ). out ++ n)
    (sym (flat_map-append cell_text here (cells_of_items version (length out + item_size version v) vs)))

-- ---- what a writer leaves that kept room for something and filled it last

abbrev pub zeros : ℕ → List ℕ
zeros n = replicate n 0

pub length-zeros : (n : ℕ) → length (zeros n) ≡ n
length-zeros n = length-replicate n z
  where
    z : ℕ
    z = 0

-- zeros that were kept for something are overwritten with it
kept : (a z b c : List ℕ) → length z ≡ length c
    → take (length a) (a ++ z ++ b) ++ c ++ drop (length a + length c) (a ++ z ++ b) ≡ a ++ c ++ b
kept a z b c e =
    let front : take (length a) (a ++ z ++ b) ≡ a =
    ap (λ (l : List ℕ). take (length a) l) (append_assoc a z b) ∙ take_at a (z ++ b) (length a) refl in
    let back : drop (length a + length c) (a ++ z ++ b) ≡ b =
    drop_at (a ++ z) b (length a + length c) (length-append a z ∙ ap (λ k. length a + k) e) in
    λ j. front j ++ c ++ back j

pub filled_in : (old z c b out new : List ℕ) (at : ℕ) → at ≡ length old → length z ≡ length c → out ≡ old ++ z ++ b
    → new ≡ take at out ++ c ++ drop (at + length c) out → new ≡ old ++ (c ++ b)
filled_in old z c b out new at a l o n = n ∙ rw (o, a) (kept old z b c l) ∙ append_assoc old c b

values_some : (version : HiveVersion) (at : ℕ) (vs : List Item) → 0 < length vs
    → text (items_cells version at vs)
    ≡ cell_text (offsets_text (item_places version (at + cell (4 * length vs)) vs))
    ++ text (cells_of_items version (at + cell (4 * length vs)) vs)
unfolding items_cells
values_some version at [] h = absurd (omega arith)
values_some version at (v ∷ vs) h = refl

pub values_written : (version : HiveVersion) (old kept_room out list new : List ℕ) (at room : ℕ) (vs : List Item)
    → 0 < length vs
    → at ≡ length old → room ≡ cell (4 * length vs) → kept_room ≡ old ++ zeros room
    → out ≡ kept_room ++ text (cells_of_items version (length kept_room) vs)
    → list ≡ cell_text (offsets_text (item_places version (length kept_room) vs))
    → new ≡ take at out ++ list ++ drop (at + length list) out
    → new ≡ old ++ text (items_cells version (length old) vs)
values_written version old kept_room out list new at room vs some a r k o l n =
    let first : length kept_room ≡ length old + cell (4 * length vs) =
    ap (λ (x : List ℕ). length x) k ∙ length-append old (zeros room)
    ∙ ap (λ m. length old + m) (length-zeros room ∙ r) in
    let len : length (zeros room) ≡ length list =
    length-zeros room ∙ r
    ∙ sym (ap (λ (x : List ℕ). length x) l ∙ length_cell (offsets_text (item_places version (length kept_room) vs))
    ∙ ap cell (length_values_list version (length kept_room) vs)) in
    let out-is : out ≡ old ++ zeros room ++ text (cells_of_items version (length kept_room) vs) =
    o ∙ ap (λ (x : List ℕ). x ++ text (cells_of_items version (length kept_room) vs)) k in
    filled_in old (zeros room) list (text (cells_of_items version (length kept_room) vs)) out new at a len out-is n
    ∙ ap (λ (x : List ℕ). old ++ (x ++ text (cells_of_items version (length kept_room) vs))) l
    ∙ ap (λ (m : ℕ). old ++ (cell_text (offsets_text (item_places version m vs)) ++ text (cells_of_items version m vs)))
    first
    ∙ ap (λ (x : List ℕ). old ++ x) (sym (values_some version (length old) vs some))

pub values_room : (version : HiveVersion) (vs : List Item) → 0 < length vs
    → cell (4 * length vs) + items_sum version vs ≡ items_size version vs
values_room version [] h = absurd (omega arith)
values_room version (v ∷ vs) h = refl

-- ---- the cells of a key before its lists

abbrev node_cell : (version : HiveVersion) → Above → ℕ → Head → Trees → List ℕ
node_cell version up at h ts = cell_text (key_node_text (node_of version up at h (listed ts)))

abbrev pub own_security : Above → ℕ → Head → Trees → List (List ℕ)
own_security up at h ts = security_cells up (descriptor_place at h) h.security (sharers_of_all h.security ts)

pub class_at : (version : HiveVersion) (up : Above) (h : Head) (ts : Trees) (old one two : List ℕ)
    → one ≡ old ++ node_cell version up (length old) h ts → two ≡ one ++ text (class_cells h.class)
    → length two ≡ descriptor_place (length old) h
class_at version up h ts old one two a b =
    omega (
      arith,
      ap (λ (x : List ℕ). length x) a,
      ap (λ (x : List ℕ). length x) b,
      length-append old (node_cell version up (length old) h ts),
      length-append one (text (class_cells h.class)),
      length_cell (key_node_text (node_of version up (length old) h (listed ts)))
          ∙ ap cell (length_node version up (length old) h (listed ts)),
      length_text (class_cells h.class),
      space_class h.class,
    )

pub values_at : (up : Above) (h : Head) (ts : Trees) (old two three : List ℕ)
    → length two ≡ descriptor_place (length old) h
    → three ≡ two ++ text (own_security up (length old) h ts) → length three ≡ values_place up.security (length old) h
values_at up h ts old two three a b =
    let sec = own_security up (length old) h ts in
    omega (
      arith,
      a,
      ap (λ (x : List ℕ). length x) b,
      length-append two (text sec),
      length_text sec,
      space_security up (descriptor_place (length old) h) h.security (sharers_of_all h.security ts),
    )

pub head_written : (version : HiveVersion) (up : Above) (h : Head) (ts : Trees) (old one two three new : List ℕ)
    → one ≡ old ++ node_cell version up (length old) h ts → two ≡ one ++ text (class_cells h.class)
    → three ≡ two ++ text (security_cells up (length two) h.security (sharers_of_all h.security ts))
    → new ≡ three ++ text (items_cells version (length three) h.values)
    → new ≡ old ++ text (head_cells version up (length old) h ts)
unfolding head_cells
head_written version up h ts old one two three new a b c d =
    let at = length old in
    let node = node_cell version up at h ts in
    let cls = class_cells h.class in
    let sec = own_security up at h ts in
    let vals = items_cells version (values_place up.security at h) h.values in
    let own = class_at version up h ts old one two a b in
    let three-is : three ≡ two ++ text sec =
    c ∙ ap (λ (m : ℕ). two ++ text (security_cells up m h.security (sharers_of_all h.security ts))) own in
    let len = values_at up h ts old two three own three-is in
    d ∙ ap (λ (m : ℕ). three ++ text (items_cells version m h.values)) len
    ∙ ap (λ (x : List ℕ). x ++ text vals)
    (three-is ∙ ap (λ (x : List ℕ). x ++ text sec) (b ∙ ap (λ (x : List ℕ). x ++ text cls) a))
    ∙ append_assoc (old ++ node ++ text cls) (text sec) (text vals)
    ∙ append_assoc (old ++ node) (text cls) (text sec ++ text vals)
    ∙ append_assoc old node (text cls ++ (text sec ++ text vals))
    ∙ ap (λ (x : List ℕ). old ++ (node ++ (text cls ++ x))) (sym (flat_map-append cell_text sec vals))
    ∙ ap (λ (x : List ℕ). old ++ (node ++ x)) (sym (flat_map-append cell_text cls (sec ++ vals)))

pub length_head : (version : HiveVersion) (up : Above) (at : ℕ) (h : Head) (ts : Trees)
    → length (text (head_cells version up at h ts)) ≡ head_size version up.security h
length_head version up at h ts = length_text (head_cells version up at h ts) ∙ space_head version up at h ts

-- ---- a key: its head, room for its lists, its children, and then the lists

abbrev pub lists_of : (version : HiveVersion) → Above → ℕ → Head → Trees → List (List ℕ)
lists_of version up at h ts =
    list_cells version (list_place version up.security at h)
    (places version h.security (children_place version up.security at h (count ts)) ts)
    (map (hint version) (listed ts))

pub lists_place : (version : HiveVersion) (up : Above) (h : Head) (ts : Trees) (old one : List ℕ)
    → one ≡ old ++ text (head_cells version up (length old) h ts)
    → length one ≡ list_place version up.security (length old) h
lists_place version up h ts old one a =
    omega (
      arith,
      ap (λ (x : List ℕ). length x) a,
      length-append old (text (head_cells version up (length old) h ts)),
      length_head version up (length old) h ts,
    )

pub first_place : (version : HiveVersion) (up : Above) (h : Head) (ts : Trees) (old one two : List ℕ) (room : ℕ)
    → one ≡ old ++ text (head_cells version up (length old) h ts) → room ≡ list_size (count ts)
    → two ≡ one ++ zeros room
    → length two ≡ children_place version up.security (length old) h (count ts)
first_place version up h ts old one two room a r c =
    omega (
      arith,
      ap (λ (x : List ℕ). length x) c,
      length-append one (zeros room),
      length-zeros room,
      lists_place version up h ts old one a,
    )

pub length_lists : (version : HiveVersion) (up : Above) (at : ℕ) (h : Head) (ts : Trees)
    → length (text (lists_of version up at h ts)) ≡ list_size (count ts)
length_lists version up at h ts =
    length_text (lists_of version up at h ts)
    ∙ space_lists version (list_place version up.security at h) h.security
    (children_place version up.security at h (count ts)) ts

pub key_written : (version : HiveVersion) (up : Above) (h : Head) (ts : Trees) (old one two three list new : List ℕ)
    (at room : ℕ)
    → one ≡ old ++ text (head_cells version up (length old) h ts) → at ≡ length one → room ≡ list_size (count ts)
    → two ≡ one ++ zeros room
    → three ≡ two ++ text (cells_of_all version (below up (length old) h) (length two) ts)
    → list ≡ text (list_cells version at (places version h.security (length two) ts) (map (hint version) (listed ts)))
    → new ≡ take at three ++ list ++ drop (at + length list) three
    → new ≡ old ++ text (cells_of version up (length old) (key h ts))
key_written version up h ts old one two three list new at room a b r c d e f =
    let head = head_cells version up (length old) h ts in
    let first = children_place version up.security (length old) h (count ts) in
    let os = lists_of version up (length old) h ts in
    let all = cells_of_all version (below up (length old) h) first ts in
    let first-is = first_place version up h ts old one two room a r c in
    let at-is : at ≡ list_place version up.security (length old) h = b ∙ lists_place version up h ts old one a in
    let list-is : list ≡ text os =
    e ∙ (λ j. text (list_cells version (at-is j) (places version h.security (first-is j) ts)
    (map (hint version) (listed ts)))) in
    let len : length (zeros room) ≡ length list =
    length-zeros room ∙ r ∙ sym (ap (λ (x : List ℕ). length x) list-is ∙ length_lists version up (length old) h ts) in
    let three-is : three ≡ one ++ zeros room ++ text all =
    d ∙ ap (λ (m : ℕ). two ++ text (cells_of_all version (below up (length old) h) m ts)) first-is
    ∙ ap (λ (x : List ℕ). x ++ text all) c in
    filled_in one (zeros room) list (text all) three new at b len three-is f
    ∙ ap (λ (x : List ℕ). one ++ (x ++ text all)) list-is
    ∙ ap (λ (x : List ℕ). x ++ (text os ++ text all)) a
    ∙ append_assoc old (text head) (text os ++ text all)
    ∙ ap (λ (x : List ℕ). old ++ (text head ++ x)) (sym (flat_map-append cell_text os all))
    ∙ ap (λ (x : List ℕ). old ++ x) (sym (flat_map-append cell_text head (os ++ all)))

pub list_room : (version : HiveVersion) (up : Above) (h : Head) (ts : Trees) (at_list : ℕ) (one two three list : List ℕ)
    (room : ℕ)
    → room ≡ list_size (count ts) → two ≡ one ++ zeros room
    → three ≡ two ++ text (cells_of_all version up (length two) ts)
    → length list ≡ list_size (count ts) → length one + length list ≤ length three
list_room version up h ts at_list one two three list room r c d e =
    omega (
      arith,
      r,
      e,
      ap (λ (x : List ℕ). length x) c,
      length-append one (zeros room),
      length-zeros room,
      ap (λ (x : List ℕ). length x) d,
      length-append two (text (cells_of_all version up (length two) ts)),
    )

pub child_next_place : (version : HiveVersion) (up : Above) (t : Tree) (out next : List ℕ)
    → next ≡ out ++ text (cells_of version up (length out) t) → length next ≡ length out + size version up.security t
child_next_place version up t out next e = let here = cells_of version up (length out) t in
    ap (λ (n : List ℕ). length n) e ∙ length-append out (text here)
    ∙ ap (λ k. length out + k) (length_text here ∙ space_tree version up (length out) t)

-- children: those that are written, and what remains to write
pub child_next : (version : HiveVersion) (up : Above) (t : Tree) (ts : Trees) (out next : List ℕ)
    → next ≡ out ++ text (cells_of version up (length out) t)
    → next ++ text (cells_of_all version up (length next) ts) ≡ out
    ++ text (cells_of_all version up (length out) (more t ts))
child_next version up t ts out next e =
    let here = cells_of version up (length out) t in
    let len = child_next_place version up t out next e in
    ap (λ (n : List ℕ). n ++ text (cells_of_all version up (length next) ts)) e
    ∙ append_assoc out (text here) (text (cells_of_all version up (length next) ts))
    ∙ ap (λ (n : ℕ). out ++ (text here ++ text (cells_of_all version up n ts))) len
    ∙ ap (λ (n : List ℕ). out ++ n)
    (sym (flat_map-append cell_text here (cells_of_all version up (length out + size version up.security t) ts)))

-- ---- the ring

pub ring_written : (version : HiveVersion) (shared : List ℕ) (at : ℕ) (t : Tree) (old one new : List ℕ) (own first : ℕ)
    → own ≡ descriptor_place at (head t) → first ≡ children_place version shared at (head t) (length (children t))
    → one ≡ old ++ own_place shared own (head t).security
    → new ≡ one ++ ring_of_all version (head t).security first (trees (children t))
    → new ≡ old ++ ring version shared at t
ring_written version shared at (key h ts) old one new own first o f a b =
    b ∙ (λ j. (a ∙ λ i. old ++ own_place shared (o i) h.security) j
    ++ ring_of_all version h.security (f j) (trees_listed ts j))
    ∙ append_assoc old (own_place shared (descriptor_place at h) h.security)
    (ring_of_all version h.security (children_place version shared at h (count ts)) ts)
