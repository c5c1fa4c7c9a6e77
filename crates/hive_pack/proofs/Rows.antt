-- Cells in a row: how many bytes they take.
use Rattle.std.proofs.Common.{◌≡◌, ◌≤◌, ◌<◌, ℕ, zero, suc, ◌+◌, ◌*◌, ◌-◌, ◌/◌, ◌%◌, Bool, true, false, eqb, List, [], ◌∷◌, ◌++◌, length, take, drop, map, min, ◌⊎◌, inl, inr, refl, sym, ap, ◌∙◌, append_assoc, arith}
use Rattle.std.specs.Prelude.{◌==◌, nat_lt, if◌then◌else◌}
use Rattle.std.specs.Int.{w32, to_le_bytes}
use Rattle.std.proofs.lemmas.List.{length-append, length-replicate, length-take, length-drop, length-map}
use lib.ListN.{replicate}
use Rattle.std.proofs.lemmas.Bool.{ne_eqb, le-ltb, ltb-true, ltb-false, cases_lt}
use Rattle.nt_bytes.specs.declared.version.HiveVersion.{HiveVersion}
use Rattle.nt_bytes.specs.declared.version.HiveVersion.TheVariants.{V3, V5}
use Rattle.hive_model.specs.Tree.{Item, Head, Tree, Trees, key, none, more, listed, head}
use Rattle.hive_model.specs.Size.{cell, is_narrow, name_bytes, is_big, segment_count, segment_sizes, cells_sum, data_size, item_size, items_sum, items_size, class_size, has_own, security_size, head_size, part_count, list_size, count, size, size_of_all}
use Rattle.hive_model.specs.Bins.{cell_bytes}
use Rattle.hive_model.specs.StoredNames.{name_text}
use Rattle.hive_model.specs.KeyNode.{is_narrow_key, key_node_text}
use Rattle.hive_model.specs.KeyValue.{is_narrow_value, key_value_text}
use Rattle.hive_model.specs.Security.{SecurityCell, security_text}
use Rattle.hive_model.specs.Lists.{offsets_text, AreHints, ri_text, hint_of}
use Rattle.hive_model.specs.Packed.{filled, cell_text, text, data_place, item_form, segments, segment_places, big_cells, data_cells, item_cells, cells_of_items, item_places, items_cells, forward, backward, descriptor_place, sharers_of_all, Above, below, values_place, list_place, children_place, stored_flags, node_of, class_cells, security_cells, head_cells, part_places, list_text, parts, list_cells, places, hint, cells_of, cells_of_all}
use Rattle.hive_pack.specs.Writes.{big_size}
use Rattle.hive_model.proofs.Spelling.{length_wide, length_key_node, length_key_value, length_security, length_offsets, length_lf, length_lh, length_ri, length_big_data}

-- how many bytes cells with these payloads take
abbrev pub space : List (List ℕ) → ℕ
space [] = 0
space (p ∷ ps) = cell (length p) + space ps

pub space_append : (a b : List (List ℕ)) → space (a ++ b) ≡ space a + space b
space_append [] b = omega arith
space_append (p ∷ ps) b = omega (arith, space_append ps b)

-- ---- one payload

pub length_name_text : (name : List ℕ) → length (name_text (is_narrow name) name) ≡ name_bytes name
length_name_text name = go (is_narrow name)
  where
    go : (b : Bool) → length (name_text b name) ≡ (if b then length name else 2 * length name)
    go true = refl
    go false = length_wide name

pub narrow_stored : (name : List ℕ) (flags : ℕ) → is_narrow_key (stored_flags name flags) ≡ is_narrow name
narrow_stored name flags = go (is_narrow name)
  where
    go : (b : Bool) → eqb ((flags - flags / 32 % 2 * 32 + (if b then 32 else 0)) / 32 % 2) 1 ≡ b
    go true = let e : (flags - flags / 32 % 2 * 32 + 32) / 32 % 2 ≡ 1 = omega arith in rw e refl
    go false = let e : (flags - flags / 32 % 2 * 32 + 0) / 32 % 2 ≡ 0 = omega arith in rw e refl

pub narrow_value : (name : List ℕ) → is_narrow_value (if is_narrow name then 1 else 0) ≡ is_narrow name
narrow_value name = go (is_narrow name)
  where
    go : (b : Bool) → is_narrow_value (if b then 1 else 0) ≡ b
    go true = refl
    go false = refl

pub length_node : (version : HiveVersion) (up : Above) (at : ℕ) (h : Head) (keys : List Tree)
    → length (key_node_text (node_of version up at h keys)) ≡ 76 + name_bytes h.name
length_node version up at h keys =
    length_key_node (node_of version up at h keys)
    ∙ ap (λ b. 76 + length (name_text b h.name)) (narrow_stored h.name h.flags)
    ∙ ap (λ n. 76 + n) (length_name_text h.name)

pub length_value : (at : ℕ) (v : Item) → length (key_value_text (item_form at v)) ≡ 20 + name_bytes v.name
length_value at v =
    length_key_value (item_form at v)
    ∙ ap (λ b. 20 + length (name_text b v.name)) (narrow_value v.name)
    ∙ ap (λ n. 20 + n) (length_name_text v.name)

-- ---- their cells

pub length_filled : (p : List ℕ) → length (filled p) ≡ cell (length p) - 4
unfolding filled
length_filled p =
    omega (
      arith,
      length-append p (replicate (cell (length p) - 4 - length p) 0),
      length-replicate {A = ℕ} (cell (length p) - 4 - length p) 0,
    )

-- four bytes for the size, with the sign of an allocated cell, and the payload
pub cell_text_is : (p : List ℕ) → cell_text p ≡ to_le_bytes w32 (4294967296 - cell (length p)) ++ filled p
unfolding cell_text cell_bytes
cell_text_is p =
    let n : 4 + length (filled p) ≡ cell (length p) = omega (arith, length_filled p) in
    ap (λ k. to_le_bytes w32 (4294967296 - k) ++ filled p) n

-- what is there once a cell was appended part by part
pub cell_written : (old one two new p : List ℕ) (n : ℕ) → n ≡ cell (length p)
    → one ≡ old ++ to_le_bytes w32 (4294967296 - n)
    → two ≡ one ++ p → new ≡ two ++ replicate (n - 4 - length p) 0 → new ≡ old ++ cell_text p
unfolding filled
cell_written old one two new p n s a b c =
    let z : List ℕ = replicate (n - 4 - length p) 0 in
    let w = to_le_bytes w32 (4294967296 - n) in
    c ∙ ap (λ (x : List ℕ). x ++ z) (b ∙ ap (λ (x : List ℕ). x ++ p) a) ∙ append_assoc (old ++ w) p z
    ∙ append_assoc old w (p ++ z)
    ∙ (λ j. old ++ (to_le_bytes w32 (4294967296 - s j) ++ (p ++ replicate (s j - 4 - length p) 0)))
    ∙ ap (λ (x : List ℕ). old ++ x) (sym (cell_text_is p))

pub length_cell : (p : List ℕ) → length (cell_text p) ≡ cell (length p)
length_cell p = ap (λ (x : List ℕ). length x) (cell_text_is p) ∙ omega (arith, length_filled p)

pub length_text : (ps : List (List ℕ)) → length (text ps) ≡ space ps
length_text [] = refl
length_text (p ∷ ps) = omega (arith, length-append (cell_text p) (text ps), length_cell p, length_text ps)

-- ---- values

-- the cells of segments
space_segments : (k : ℕ) (bytes : List ℕ) → space (segments k bytes) ≡ cells_sum (segment_sizes k (length bytes))
space_segments zero bytes = refl
space_segments (suc k) bytes =
    ap (λ n. cell n + space (segments k (drop 16344 bytes))) (length-take 16344 bytes)
    ∙ ap (λ n. cell (min 16344 (length bytes)) + n)
    (space_segments k (drop 16344 bytes) ∙ ap (λ n. cells_sum (segment_sizes k n)) (length-drop 16344 bytes))

-- the same number of places as segments
pub length_segment_places : (k at : ℕ) → length (segment_places k at) ≡ k
length_segment_places zero at = refl
length_segment_places (suc k) at = omega (arith, length_segment_places k (at + cell 16344))

-- the list of that many segments
pub length_segment_list : (k at : ℕ) → length (offsets_text (segment_places k at)) ≡ 4 * k
length_segment_list k at = length_offsets (segment_places k at) ∙ ap (λ n. 4 * n) (length_segment_places k at)

-- the cells of big data
space_big : (at k : ℕ) (bytes : List ℕ)
    → space (big_cells at k bytes) ≡ cells_sum (8 ∷ 4 * k ∷ segment_sizes k (length bytes))
unfolding big_cells
space_big at k bytes =
    omega (
      arith,
      length_big_data (record { segments = k; list = at + cell 8 }),
      length_segment_list k (at + cell 8 + cell (4 * k)),
      space_segments k bytes,
    )

-- the cells of data
pub space_data : (version : HiveVersion) (at : ℕ) (bytes : List ℕ)
    → space (data_cells version at bytes) ≡ data_size version bytes
space_data version at bytes = go (is_big version n) (nat_lt 4 n)
  where
    n : ℕ
    n = length bytes

    go : (big long : Bool) → space
        (if big then big_cells at (segment_count n) bytes else if long then bytes ∷ [] else [])
        ≡ cells_sum (if big then 8 ∷ 4 * segment_count n ∷ segment_sizes (segment_count n) n else if long then n
        ∷ [] else [])
    go true long = space_big at (segment_count n) bytes
    go false true = refl
    go false false = refl

-- segments of that many bytes: all but the last take 16,352
pub segments_room : (k n : ℕ) → segment_count n ≡ k → 16352 * k ≤ cells_sum (segment_sizes k n) + 16344
segments_room zero n e = omega arith
segments_room (suc k) n e = go (cases_lt 16344 n) (segments_room k (n - 16344))
  where
    go : (16344 < n) ⊎ (n ≤ 16344)
        → (segment_count (n - 16344) ≡ k → 16352 * k ≤ cells_sum (segment_sizes k (n - 16344)) + 16344)
        → 16352 * suc k ≤ cells_sum (segment_sizes (suc k) n) + 16344
    go (inl many) later =
        let m : min 16344 n ≡ 16344 = omega arith in
        rw m (omega (arith, later (omega arith)))
    go (inr few) later =
        let m : min 16344 n ≡ n = omega arith in
        let last : k ≡ 0 = omega arith in
        rw (m, last) (omega arith)

-- how many bytes segments take at most
pub sizes_most : (k n : ℕ) → cells_sum (segment_sizes k n) ≤ 16352 * k
sizes_most zero n = omega arith
sizes_most (suc k) n = let r = sizes_most k (n - 16344) in omega (arith, r)

pub big_most : (n : ℕ) → n < 2147483648 → big_size n ≤ 4294967296
big_most n lt = let r = sizes_most (segment_count n) n in omega (arith, r, lt)

-- big data are some bytes
big_some : (version : HiveVersion) (n : ℕ) → is_big version n ≡ true → 0 < n
big_some V3 n e = absurd cc
big_some V5 n e = omega (arith, ltb-true 16344 n e)

-- how many bytes segments take, each but the last full
segments_exact : (k n : ℕ) → segment_count n ≡ suc k
    → cells_sum (segment_sizes (suc k) n) ≡ k * 16352 + cell (n - k * 16344)
segments_exact zero n e =
    let m : min 16344 n ≡ n = omega arith in
    rw m (omega arith)
segments_exact (suc k) n e =
    let m : min 16344 n ≡ 16344 = omega arith in
    let rest : n - 16344 - k * 16344 ≡ n - suc k * 16344 = omega arith in
    rw m (omega (arith, segments_exact k (n - 16344) (omega arith), ap cell rest))

-- the same, with the same number of segments as the bytes fill
pub segments_size : (n : ℕ) → 0 < n
    → cells_sum (segment_sizes (segment_count n) n) ≡ (segment_count n - 1) * 16352
    + cell (n - (segment_count n - 1) * 16344)
segments_size n h =
    let k : segment_count n ≡ suc (segment_count n - 1) = omega arith in
    ap (λ (m : ℕ). cells_sum (segment_sizes m n)) k ∙ segments_exact (segment_count n - 1) n k

-- data have at most the same number of bytes as their cells, unless they are up to four
pub data_few : (version : HiveVersion) (bytes : List ℕ) → data_size version bytes ≤ 16777216 → length bytes ≤ 16777216
data_few version bytes = go (is_big version n) (nat_lt 4 n) refl refl
  where
    n : ℕ
    n = length bytes

    go : (big long : Bool) → is_big version n ≡ big → nat_lt 4 n ≡ long
        → cells_sum (if big then 8 ∷ 4 * segment_count n ∷ segment_sizes (segment_count n) n else if long then n
        ∷ [] else []) ≤ 16777216
        → n ≤ 16777216
    go true long e f le = omega (arith, segments_size n (big_some version n e))
    go false true e f le = omega arith
    go false false e f le = omega (arith, ltb-false 4 n f)

pub space_value : (version : HiveVersion) (at : ℕ) (v : Item) → space (item_cells version at v) ≡ item_size version v
unfolding item_cells
space_value version at v = omega (arith, length_value at v, space_data version (data_place at v) v.bytes)

pub space_values : (version : HiveVersion) (at : ℕ) (vs : List Item)
    → space (cells_of_items version at vs) ≡ items_sum version vs
space_values version at [] = refl
space_values version at (v ∷ vs) =
    omega (
      arith,
      space_append (item_cells version at v) (cells_of_items version (at + item_size version v) vs),
      space_value version at v,
      space_values version (at + item_size version v) vs,
    )

pub length_item_places : (version : HiveVersion) (at : ℕ) (vs : List Item)
    → length (item_places version at vs) ≡ length vs
length_item_places version at [] = refl
length_item_places version at (v ∷ vs) = omega (arith, length_item_places version (at + item_size version v) vs)

pub length_values_list : (version : HiveVersion) (first : ℕ) (vs : List Item)
    → length (offsets_text (item_places version first vs)) ≡ 4 * length vs
length_values_list version first vs =
    length_offsets (item_places version first vs) ∙ ap (λ k. 4 * k) (length_item_places version first vs)

pub space_all_values : (version : HiveVersion) (at : ℕ) (vs : List Item)
    → space (items_cells version at vs) ≡ items_size version vs
unfolding items_cells
space_all_values version at [] = refl
space_all_values version at (v ∷ vs) =
    let first = at + cell (4 * length (v ∷ vs)) in
    omega (arith, length_values_list version first (v ∷ vs), space_values version first (v ∷ vs))

-- ---- a key's own cells

pub space_class : (c : List ℕ) → space (class_cells c) ≡ class_size c
unfolding class_cells
space_class [] = refl
space_class (b ∷ c) = omega arith

pub space_security : (up : Above) (at : ℕ) (s : List ℕ) (n : ℕ)
    → space (security_cells up at s n) ≡ security_size up.security s
unfolding security_cells
space_security up at s n =
    go (has_own up.security s)
    (record { forward = forward up.ring at; backward = backward up.ring at; uses = 1 + n; descriptor = s })
  where
    go : (b : Bool) (p : SecurityCell)
        → space (if b then security_text p ∷ [] else []) ≡ (if b then cell (20 + length p.descriptor) else 0)
    go true p = omega (arith, length_security p)
    go false p = refl

pub space_head : (version : HiveVersion) (up : Above) (at : ℕ) (h : Head) (ts : Trees)
    → space (head_cells version up at h ts) ≡ head_size version up.security h
unfolding head_cells
space_head version up at h ts =
    let vs = items_cells version (values_place up.security at h) h.values in
    let sec = security_cells up (descriptor_place at h) h.security (sharers_of_all h.security ts) in
    omega (
      arith,
      length_node version up at h (listed ts),
      space_append (class_cells h.class) (sec ++ vs),
      space_append sec vs,
      space_class h.class,
      space_security up (descriptor_place at h) h.security (sharers_of_all h.security ts),
      space_all_values version (values_place up.security at h) h.values,
    )

-- ---- subkey lists

pub hints_take : (n : ℕ) (hs : List (List ℕ)) → AreHints hs → AreHints (take n hs)
hints_take zero hs f = tt
hints_take (suc n) [] f = tt
hints_take (suc n) (h ∷ hs) f = (f.0, hints_take n hs f.1)

pub hints_drop : (n : ℕ) (hs : List (List ℕ)) → AreHints hs → AreHints (drop n hs)
hints_drop zero hs f = f
hints_drop (suc n) [] f = tt
hints_drop (suc n) (h ∷ hs) f = hints_drop n hs f.1

pub length_hint_of : (b : Bool) (name : List ℕ) → length (hint_of b name) ≡ 4
length_hint_of true [] = refl
length_hint_of true (a ∷ []) = refl
length_hint_of true (a ∷ b ∷ []) = refl
length_hint_of true (a ∷ b ∷ c ∷ []) = refl
length_hint_of true (a ∷ b ∷ c ∷ d ∷ name) = refl
length_hint_of false name = refl

-- a hint has four bytes in either version
length_hint : (version : HiveVersion) (t : Tree) → length (hint version t) ≡ 4
length_hint V3 t = length_hint_of (is_narrow (head t).name) (head t).name
length_hint V5 t = refl

pub hints_of : (version : HiveVersion) (ts : List Tree) → AreHints (map (hint version) ts)
hints_of version [] = tt
hints_of version (t ∷ ts) = (length_hint version t, hints_of version ts)

-- a list has the same length in either version
pub length_list_text : (version : HiveVersion) (os : List ℕ) (hs : List (List ℕ)) → length os ≡ length hs → AreHints hs
    → length (list_text version os hs) ≡ 4 + 8 * length os
length_list_text V3 os hs e f = length_lf os hs e f
length_list_text V5 os hs e f = length_lh os hs e f

-- the lists of n entries without the list of them
tail_size : ℕ → ℕ
tail_size n = n / 500 * 4008 + (if n % 500 == 0 then 0 else cell (4 + 8 * (n % 500)))

tail_full : (n : ℕ) → 500 ≤ n → cell (4 + 8 * 500) + tail_size (n - 500) ≡ tail_size n
unfolding tail_size
tail_full n h =
    let q : (n - 500) / 500 + 1 ≡ n / 500 = omega arith in
    let r : (n - 500) % 500 ≡ n % 500 = omega arith in
    ap (λ k. cell (4 + 8 * 500) + ((n - 500) / 500 * 4008 + (if k == 0 then 0 else cell (4 + 8 * k)))) r
    ∙ omega (arith, q)

tail_last : (n : ℕ) → 0 < n → n < 500 → cell (4 + 8 * n) ≡ tail_size n
unfolding tail_size
tail_last n h l =
    let q : n / 500 ≡ 0 = omega arith in
    let r : n % 500 ≡ n = omega arith in
    let some : eqb n 0 ≡ false = ne_eqb n 0 (λ e. omega arith) in
    rw (q, r, some) (omega arith)

no_tail : (n : ℕ) → n ≡ 0 → tail_size n ≡ 0
unfolding tail_size
no_tail n e = rw e refl

space_parts : (version : HiveVersion) (k n : ℕ) (os : List ℕ) (hs : List (List ℕ)) → length os ≡ n
    → length os ≡ length hs
    → AreHints hs → part_count n ≡ k → space (parts version k os hs) ≡ tail_size n
space_parts version zero n os hs l e f p = sym (no_tail n (omega arith))
space_parts version (suc k) n os hs l e f p =
    let first : length (list_text version (take 500 os) (take 500 hs)) ≡ 4 + 8 * min 500 n =
    length_list_text version (take 500 os) (take 500 hs) (omega (arith, length-take 500 os, length-take 500 hs))
    (hints_take 500 hs f)
    ∙ omega (arith, length-take 500 os) in
    let rest : space (parts version k (drop 500 os) (drop 500 hs)) ≡ tail_size (n - 500) =
    space_parts version k (n - 500) (drop 500 os) (drop 500 hs) (omega (arith, length-drop 500 os))
    (omega (arith, length-drop 500 os, length-drop 500 hs)) (hints_drop 500 hs f) (omega arith) in
    ap (λ x. cell x + space (parts version k (drop 500 os) (drop 500 hs))) first
    ∙ ap (λ x. cell (4 + 8 * min 500 n) + x) rest
    ∙ step (cases_lt n 500)
  where
    step : (n < 500) ⊎ (500 ≤ n) → cell (4 + 8 * min 500 n) + tail_size (n - 500) ≡ tail_size n
    step (inl l) =
        let m : min 500 n ≡ n = omega arith in
        rw m (omega (arith, no_tail (n - 500) (omega arith), tail_last n (omega arith) l))
    step (inr l) =
        let m : min 500 n ≡ 500 = omega arith in
        rw m (tail_full n l)

pub length_part_places : (n at : ℕ) → length (part_places n at) ≡ n
length_part_places zero at = refl
length_part_places (suc n) at = omega (arith, length_part_places n (at + cell 4004))

pub space_list : (version : HiveVersion) (at : ℕ) (os : List ℕ) (hs : List (List ℕ)) → length os ≡ length hs
    → AreHints hs
    → space (list_cells version at os hs) ≡ list_size (length os)
unfolding list_cells tail_size
space_list version at os hs e f = go (length os == 0) (nat_lt (length os) 501)
  where
    n : ℕ
    n = length os

    starts : List ℕ
    starts = part_places (part_count n) (at + cell (4 + 4 * part_count n))

    go : (b c : Bool)
        → space (if b then [] else if c then list_text version os hs ∷ [] else ri_text starts
        ∷ parts version (part_count n) os hs)
        ≡ (if b then 0 else if c then cell (4 + 8 * n) else cell (4 + 4 * part_count n) + n / 500 * cell 4004
        + (if n % 500 == 0 then 0 else cell (4 + 8 * (n % 500))))
    go true c = refl
    go false true = omega (arith, length_list_text version os hs e f)
    go false false =
        ap (λ x. cell x + space (parts version (part_count n) os hs))
        (length_ri starts ∙ ap (λ x. 4 + 4 * x)
        (length_part_places (part_count n) (at + cell (4 + 4 * part_count n))))
        ∙ ap (λ x. cell (4 + 4 * part_count n) + x) (space_parts version (part_count n) n os hs refl e f refl)
        ∙ omega arith

pub many_lists : (n : ℕ) → 501 ≤ n → cell (4 + 4 * part_count n) + n / 500 * 4008 ≤ list_size n
many_lists n h =
    let a : eqb n 0 ≡ false = ne_eqb n 0 (λ e. omega arith) in
    let b : nat_lt n 501 ≡ false = le-ltb n 501 (omega arith) in
    rw (a, b) (omega arith)

pub lists_many : (version : HiveVersion) (at : ℕ) (os : List ℕ) (hs : List (List ℕ)) → 501 ≤ length os
    → text (list_cells version at os hs)
    ≡ cell_text (ri_text (part_places (part_count (length os)) (at + cell (4 + 4 * part_count (length os)))))
    ++ text (parts version (part_count (length os)) os hs)
unfolding list_cells
lists_many version at os hs h =
    let a : eqb (length os) 0 ≡ false = ne_eqb (length os) 0 (λ e. omega arith) in
    let b : nat_lt (length os) 501 ≡ false = le-ltb (length os) 501 (omega arith) in
    rw (a, b) refl

-- ---- a tree

pub length_places : (version : HiveVersion) (shared : List ℕ) (at : ℕ) (ts : Trees)
    → length (places version shared at ts) ≡ count ts
length_places version shared at none = refl
length_places version shared at (more t ts) =
    omega (arith, length_places version shared (at + size version shared t) ts)

pub same_hints : (version : HiveVersion) (shared : List ℕ) (at : ℕ) (ts : Trees)
    → length (places version shared at ts) ≡ length (map (hint version) (listed ts))
same_hints version shared at ts = length_places version shared at ts ∙ sym (length-map (listed ts) (hint version))

pub space_lists : (version : HiveVersion) (list_at : ℕ) (shared : List ℕ) (at : ℕ) (ts : Trees)
    → space (list_cells version list_at (places version shared at ts) (map (hint version) (listed ts)))
    ≡ list_size (count ts)
space_lists version list_at shared at ts =
    space_list version list_at (places version shared at ts) (map (hint version) (listed ts))
    (same_hints version shared at ts) (hints_of version (listed ts))
    ∙ ap list_size (length_places version shared at ts)

mutual
  pub space_tree : (version : HiveVersion) (up : Above) (at : ℕ) (t : Tree)
      → space (cells_of version up at t) ≡ size version up.security t
  space_tree version up at (key h ts) =
      let first = children_place version up.security at h (count ts) in
      let lists = list_cells version (list_place version up.security at h) (places version h.security first ts)
      (map (hint version) (listed ts)) in
      omega (
        arith,
        space_append (head_cells version up at h ts) (lists ++ cells_of_all version (below up at h) first ts),
        space_append lists (cells_of_all version (below up at h) first ts),
        space_head version up at h ts,
        space_lists version (list_place version up.security at h) h.security first ts,
        space_trees version (below up at h) first ts,
      )

  pub space_trees : (version : HiveVersion) (up : Above) (at : ℕ) (ts : Trees)
      → space (cells_of_all version up at ts) ≡ size_of_all version up.security ts
  space_trees version up at none = refl
  space_trees version up at (more t ts) =
      omega (
        arith,
        space_append (cells_of version up at t)
            (cells_of_all version up (at + size version up.security t) ts),
        space_tree version up at t,
        space_trees version up (at + size version up.security t) ts,
      )

pub ruleset lengths = (length_node, length_value, length_security)
