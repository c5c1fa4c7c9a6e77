-- Values are in their packed cells.
use Rattle.std.proofs.Common.{◌≡◌, ◌≤◌, ◌<◌, ◌⊎◌, inl, inr, ℕ, zero, suc, ◌+◌, ◌*◌, ◌-◌, ◌^◌, Bool, true, false, eqb, List, [], ◌∷◌, ◌++◌, length, get_or, take, drop, min, Ok, eq-eqb, refl, sym, ap, subst, ◌∙◌, arith}
use Rattle.std.specs.Prelude.{nat_lt, nat_le, slice_index, if◌then◌else◌}
use Rattle.std.specs.Int.{w32, from_le_bytes, to_le_bytes}
use Rattle.std.specs.List.{All, AllByRecursion}
use lib.ListN.{replicate}
use Rattle.std.proofs.lemmas.Bool.{ne_eqb, cases_lt, lt-ltb, ltb-false, ltb-true, le-ltb, lt-leb, le-leb}
use Rattle.std.proofs.lemmas.List.{take_at, length-append, length-replicate, length-take, length-drop, take-append-drop}
use Rattle.std.proofs.lemmas.Nat.{le_bytes_4}
use Rattle.nt_bytes.specs.declared.version.HiveVersion.{HiveVersion}
use Rattle.nt_bytes.specs.declared.version.HiveVersion.TheVariants.{V3, V5}
use Rattle.hive_model.specs.Tree.{Item}
use Rattle.hive_model.specs.Valid.{IsItem}
use Rattle.hive_model.specs.Size.{cell, is_narrow, name_bytes, is_big, segment_count, segment_sizes, cells_sum, data_size, item_size, items_sum, items_size}
use Rattle.hive_model.specs.Bins.{Cells}
use Rattle.hive_model.specs.Forms.{bytes_in}
use Rattle.hive_model.specs.StoredNames.{UnitsFit}
use Rattle.hive_model.specs.KeyNode.{KeyNode}
use Rattle.hive_model.specs.KeyValue.{IsKeyValue, is_narrow_value, key_value_text, key_value_at}
use Rattle.hive_model.specs.BigData.{BigData, big_data_text}
use Rattle.hive_model.specs.Lists.{offsets_text, offsets_in, AreOffsets}
use Rattle.hive_model.specs.Walk.{reading, big_data_of}
use Rattle.hive_model.specs.Stands.{joined_segments, big_bytes_at, item_at, items_at, data_of, values_of}
use Rattle.hive_model.specs.Packed.{filled, data_place, item_form, segments, segment_places, big_cells, data_cells, item_cells, cells_of_items, item_places, items_cells, place_of_some}
use Rattle.hive_model.proofs.Spelling.{key_value_again, bytes_again, offsets_again, big_data_again, length_big_data}
use Rattle.hive_pack.specs.Numbers.{ItemNumbers}
use Rattle.hive_pack.proofs.Rows.{length_value, length_segment_places, length_segment_list, segments_room, space_value, length_item_places, length_values_list, narrow_value}
use Rattle.hive_pack.proofs.Counts.{all_later}
use Rattle.hive_pack.proofs.Found.{Has, has_front, has_behind, has_next, reads_in}

-- ---- names

below_first : (b : Bool) (u : ℕ) (name : List ℕ) → nat_lt u 256 ≡ b → is_narrow (u ∷ name) ≡ true
    → (is_narrow name ≡ true → (k : ℕ) → slice_index name k < 256) → (k : ℕ) → slice_index (u ∷ name) k < 256
below_first true u name p e later zero = ltb-true u 256 p
below_first true u name p e later (suc k) = later (rw p at e) k
below_first false u name p e later k = absurd (let q : false ≡ true = rw p at e in cc)

pub all_below : (name : List ℕ) → is_narrow name ≡ true → (k : ℕ) → slice_index name k < 256
all_below [] e k = omega arith
all_below (u ∷ name) e k = below_first (nat_lt u 256) u name refl e (λ q. all_below name q) k

pub units_fit : (name : List ℕ) → ((k : ℕ) → slice_index name k < 65536) → UnitsFit (is_narrow name) name
units_fit name h = go (is_narrow name) refl
  where
    go : (b : Bool) → is_narrow name ≡ b → UnitsFit b name
    go true e k = all_below name e k
    go false e k = h k

-- ---- numbers in place

four : (xs : List ℕ) → length xs ≡ 4 → xs ≡ get_or xs 0 0 ∷ get_or xs 1 0 ∷ get_or xs 2 0 ∷ get_or xs 3 0 ∷ []
four [] h = absurd (omega arith)
four (a ∷ []) h = absurd (omega arith)
four (a ∷ b ∷ []) h = absurd (omega arith)
four (a ∷ b ∷ c ∷ []) h = absurd (omega arith)
four (a ∷ b ∷ c ∷ d ∷ []) h = refl
four (a ∷ b ∷ c ∷ d ∷ e ∷ xs) h = absurd (omega arith)

four_fit : (a b c d : ℕ) → a < 256 → b < 256 → c < 256 → d < 256 → from_le_bytes w32 (a ∷ b ∷ c ∷ d ∷ []) < 2 ^ 32
four_fit a b c d p q r s = omega arith

number_fits : (bs : List ℕ) → length bs ≡ 4 → ((k : ℕ) → get_or bs k 0 < 256) → from_le_bytes w32 bs < 2 ^ 32
number_fits bs l h =
    subst (λ (xs : List ℕ). from_le_bytes w32 xs < 2 ^ 32) (sym (four bs l)) (four_fit _ _ _ _ (h 0) (h 1) (h 2) (h 3))

zero_fits : (n k : ℕ) → get_or (replicate n 0) k 0 < 256
zero_fits zero k = omega arith
zero_fits (suc n) zero = omega arith
zero_fits (suc n) (suc k) = zero_fits n k

filled_fits : (bs : List ℕ) (n : ℕ) → ((k : ℕ) → get_or bs k 0 < 256) → (k : ℕ) → get_or (bs ++ replicate n 0) k 0 < 256
filled_fits [] n h k = zero_fits n k
filled_fits (b ∷ bs) n h zero = h 0
filled_fits (b ∷ bs) n h (suc k) = filled_fits bs n (λ j. h (suc j)) k

own_length : (bytes : List ℕ) → length bytes ≤ 4 → length (bytes ++ replicate (4 - length bytes) 0) ≡ 4
own_length bytes h =
    omega (arith, length-append bytes (replicate (4 - length bytes) 0), length-replicate {A = ℕ} (4 - length bytes) 0)

-- ---- one value

if_bit : (b : Bool) → (if b then 1 else 0) < 2 ^ 16
if_bit true = omega arith
if_bit false = omega arith

value_units : (v : Item) → ItemNumbers v → UnitsFit (is_narrow_value (if is_narrow v.name then 1 else 0)) v.name
value_units v f = subst (λ (b : Bool). UnitsFit b v.name) (sym (narrow_value v.name)) (units_fit v.name f.units)

item_fits : (version : HiveVersion) (at : ℕ) (v : Item) → IsItem v → ItemNumbers v → at + item_size version v ≤ 16777216
    → IsKeyValue (item_form at v)
item_fits version at v f g le = go (nat_lt 4 (length v.bytes)) refl
  where
    go : (b : Bool) → nat_lt 4 (length v.bytes) ≡ b → IsKeyValue (item_form at v)
    go true e =
        let room = rw e at le in
        rw e (record {
          size = omega arith;
          in_place = le-ltb 2147483652 (length v.bytes) (omega arith);
          offset = omega arith;
          kind = g.kind;
          flags = if_bit (is_narrow v.name);
          name = f.name;
          units = value_units v g;
        })
    go false e =
        let own = v.bytes ++ replicate (4 - length v.bytes) 0 in
        let short : length v.bytes ≤ 4 = ltb-false 4 (length v.bytes) e in
        rw e (record {
          size = omega arith;
          in_place = le-ltb 2147483652 (2147483648 + length v.bytes) (omega arith);
          offset = number_fits own (own_length v.bytes short) (filled_fits v.bytes (4 - length v.bytes) g.bytes);
          kind = g.kind;
          flags = if_bit (is_narrow v.name);
          name = f.name;
          units = value_units v g;
        })

pub item_read : (cells : Cells) (at : ℕ) (v : Item) → Has cells at (item_cells cells.version at v) → IsItem v
    → ItemNumbers v
    → at + item_size cells.version v ≤ 16777216 → reading key_value_at cells at ≡ Ok (item_form at v)
unfolding item_cells
item_read cells at v h f g le =
    reads_in key_value_at cells at (key_value_text (item_form at v)) (item_form at v) h.0
    (λ slack. key_value_again (item_form at v) slack (item_fits cells.version at v f g le))

-- ---- its data

-- no bytes are the empty list
pub no_bytes : (n : ℕ) (bytes : List ℕ) → length bytes ≡ n → n ≡ 0 → bytes ≡ []
no_bytes n [] e z = refl
no_bytes n (b ∷ bs) e z = absurd (omega arith)

-- the places of segments fit their fields
pub segment_places_fit : (k at : ℕ) → at + 16352 * k < 2 ^ 32 → AreOffsets (segment_places k at)
segment_places_fit zero at h = tt
segment_places_fit (suc k) at h = (omega arith, segment_places_fit k (at + cell 16344) (omega arith))

-- a cell with that many bytes is read
segment_read : (cells : Cells) (at n : ℕ) (p : List ℕ) → cells.payload at ≡ Ok (filled p) → length p ≡ n
    → reading (bytes_in n) cells at ≡ Ok p
segment_read cells at n p h e =
    reads_in (bytes_in n) cells at p p h
    (λ slack. subst (λ (k : ℕ). bytes_in k (p ++ slack) ≡ Ok p) e (bytes_again p slack))

-- segments in sequence are read as the bytes that they hold
segments_read : (cells : Cells) (k n at : ℕ) (bytes : List ℕ) → length bytes ≡ n → segment_count n ≡ k
    → Has cells at (segments k bytes) → joined_segments cells n (segment_places k at) ≡ Ok bytes
segments_read cells zero n at bytes l e has = ap (λ (x : List ℕ). Ok x) (sym (no_bytes n bytes l (omega arith)))
segments_read cells (suc k) n at bytes l e has =
    go (cases_lt 16344 n) (segments_read cells k (n - 16344) (at + cell 16344) (drop 16344 bytes))
  where
    front : List ℕ
    front = take 16344 bytes

    later : List ℕ
    later = drop 16344 bytes

    len : length front ≡ min 16344 n
    len = length-take 16344 bytes ∙ ap (λ m. min 16344 m) l

    one : reading (bytes_in (min 16344 n)) cells at ≡ Ok front
    one = segment_read cells at (min 16344 n) front has.0 len

    Behind : Type 0
    Behind =
        length later ≡ n - 16344 → segment_count (n - 16344) ≡ k → Has cells (at + cell 16344) (segments k later)
        → joined_segments cells (n - 16344) (segment_places k (at + cell 16344)) ≡ Ok later

    go : (16344 < n) ⊎ (n ≤ 16344) → Behind → joined_segments cells n (segment_places (suc k) at) ≡ Ok bytes
    go (inl many) behind =
        let back = has_next cells at 16344 front (segments k later) (len ∙ omega arith) has in
        let others = behind (omega (arith, length-drop 16344 bytes)) (omega arith) back in
        rw (one, others) (ap (λ (x : List ℕ). Ok x) (take-append-drop 16344 bytes))
    go (inr few) behind =
        let last : k ≡ 0 = omega arith in
        let none_left : joined_segments cells (n - 16344) (segment_places k (at + cell 16344)) ≡ Ok [] =
        ap (λ (m : ℕ). joined_segments cells (n - 16344) (segment_places m (at + cell 16344))) last in
        let nothing : later ≡ [] = no_bytes (n - 16344) later (omega (arith, length-drop 16344 bytes)) (omega arith) in
        let all : front ++ [] ≡ bytes = ap (λ (x : List ℕ). front ++ x) (sym nothing) ∙ take-append-drop 16344 bytes in
        rw (one, none_left) (ap (λ (x : List ℕ). Ok x) all)

-- what is read of big data that begin here
pub record BigStands (cells : Cells) (at k : ℕ) (bytes : List ℕ) : Type 0 where
  pub big : reading (big_data_of (length bytes)) cells at ≡ Ok (record { segments = k; list = at + cell 8 })
  pub list : reading (offsets_in k) cells (at + cell 8) ≡ Ok (segment_places k (at + cell 8 + cell (4 * k)))
  pub segments : joined_segments cells (length bytes) (segment_places k (at + cell 8 + cell (4 * k))) ≡ Ok bytes

-- the cell of big data is read, and has the same number of segments as the bytes fill
big_again : (n k at : ℕ) (slack : List ℕ) → segment_count n ≡ k → k < 2 ^ 16 → at < 2 ^ 32
    → big_data_of n (big_data_text (record { segments = k; list = at }) ++ slack)
    ≡ Ok (record { segments = k; list = at })
unfolding big_data_of
big_again n k at slack e few small =
    let form : BigData = record { segments = k; list = at } in
    let again = big_data_again form slack (record { segments = few; list = small }) in
    let same : eqb k (segment_count n) ≡ true = eq-eqb k (segment_count n) (sym e) in
    rw (again, same) refl

-- all of big data is read where it was written
pub big_stands : (cells : Cells) (at k : ℕ) (bytes : List ℕ) → segment_count (length bytes) ≡ k
    → Has cells at (big_cells at k bytes) → at + cells_sum (8 ∷ 4 * k ∷ segment_sizes k (length bytes)) ≤ 16777216
    → BigStands cells at k bytes
unfolding big_cells
big_stands cells at k bytes e has le =
    let room = segments_room k (length bytes) e in
    let list = at + cell 8 in
    let first = list + cell (4 * k) in
    let form : BigData = record { segments = k; list = list } in
    let places = segment_places k first in
    let behind = has_next cells at 8 (big_data_text form) (offsets_text places ∷ segments k bytes)
    (length_big_data form) has in
    let last = has_next cells list (4 * k) (offsets_text places) (segments k bytes) (length_segment_list k first)
    behind in
    record {
      big = reads_in (big_data_of (length bytes)) cells at (big_data_text form) form has.0
          (λ slack. big_again (length bytes) k list slack e (omega (arith, room)) (omega arith));
      list = reads_in (offsets_in k) cells list (offsets_text places) places behind.0
          (λ slack. subst (λ (m : ℕ). offsets_in m (offsets_text places ++ slack) ≡ Ok places)
          (length_segment_places k first)
          (offsets_again places slack (segment_places_fit k first (omega (arith, room)))));
      segments = segments_read cells k (length bytes) first bytes refl e last;
    }

-- and gives the bytes
bytes_stand : (cells : Cells) (at k : ℕ) (bytes : List ℕ) → BigStands cells at k bytes
    → big_bytes_at cells (length bytes) at ≡ Ok bytes
unfolding big_bytes_at
bytes_stand cells at k bytes stands = rw (stands.big, stands.list, stands.segments) refl

-- up to four bytes are not big
pub not_big : (version : HiveVersion) (n : ℕ) → n ≤ 4 → is_big version n ≡ false
not_big V3 n h = refl
not_big V5 n h = le-ltb 16344 n (omega arith)

-- data of over four bytes in cells of their own
cells_stand : (cells : Cells) (at : ℕ) (bytes : List ℕ) → 4 < length bytes
    → Has cells at (data_cells cells.version at bytes)
    → at + data_size cells.version bytes ≤ 16777216
    → (if is_big cells.version (length bytes) then big_bytes_at cells (length bytes) at else reading
    (bytes_in (length bytes)) cells at)
    ≡ Ok bytes
cells_stand cells at bytes long has le = go (is_big cells.version (length bytes)) refl
  where
    four_more : nat_lt 4 (length bytes) ≡ true
    four_more = lt-ltb 4 (length bytes) long

    go : (big : Bool) → is_big cells.version (length bytes) ≡ big
        → (if is_big cells.version (length bytes) then big_bytes_at cells (length bytes) at else reading
        (bytes_in (length bytes)) cells at)
        ≡ Ok bytes
    go true q =
        let here : Has cells at (big_cells at (segment_count (length bytes)) bytes) = rw q at has in
        let room = rw q at le in
        rw q (bytes_stand cells at (segment_count (length bytes)) bytes
        (big_stands cells at (segment_count (length bytes)) bytes refl here room))
    go false q =
        let here : Has cells at (bytes ∷ []) = rw (q, four_more) at has in
        rw q (segment_read cells at (length bytes) bytes here.0 refl)

-- a value's data are read, in its cell or in others
data_stands : (cells : Cells) (at : ℕ) (v : Item)
    → Has cells (data_place at v) (data_cells cells.version (data_place at v) v.bytes) → ItemNumbers v
    → at + item_size cells.version v ≤ 16777216
    → length v.bytes < 2 ^ 31 → data_of cells (item_form at v) ≡ Ok v.bytes
unfolding data_of
data_stands cells at v has g le few = go (nat_lt 4 (length v.bytes)) refl
  where
    go : (b : Bool) → nat_lt 4 (length v.bytes) ≡ b → data_of cells (item_form at v) ≡ Ok v.bytes
    go true e =
        let long : 4 < length v.bytes = ltb-true 4 (length v.bytes) e in
        let small : nat_le 2147483648 (length v.bytes) ≡ false = lt-leb _ _ (omega arith) in
        let some : eqb (length v.bytes) 0 ≡ false = ne_eqb _ _ (λ z. omega arith) in
        rw (e, small, some) (cells_stand cells (data_place at v) v.bytes long has (omega arith))
    go false e =
        let own = v.bytes ++ replicate (4 - length v.bytes) 0 in
        let short : length v.bytes ≤ 4 = ltb-false 4 (length v.bytes) e in
        let large : nat_le 2147483648 (2147483648 + length v.bytes) ≡ true = le-leb _ _ (omega arith) in
        let n : 2147483648 + length v.bytes - 2147483648 ≡ length v.bytes = omega arith in
        let again : to_le_bytes w32 (from_le_bytes w32 own) ≡ own =
        le_bytes_4 own (from_le_bytes w32 own) (own_length v.bytes short)
        (filled_fits v.bytes (4 - length v.bytes) g.bytes) refl in
        rw (e, large, n, again, take_at v.bytes (replicate (4 - length v.bytes) 0) (length v.bytes) refl) refl

-- the cells of a value's data stand after its own
pub data_has : (cells : Cells) (at : ℕ) (v : Item) → Has cells at (item_cells cells.version at v)
    → Has cells (data_place at v) (data_cells cells.version (data_place at v) v.bytes)
unfolding item_cells
data_has cells at v has =
    has_next cells at (20 + name_bytes v.name) (key_value_text (item_form at v))
    (data_cells cells.version (data_place at v) v.bytes) (length_value at v) has

pub item_stands : (cells : Cells) (at : ℕ) (v : Item) → Has cells at (item_cells cells.version at v) → IsItem v
    → ItemNumbers v
    → at + item_size cells.version v ≤ 16777216 → item_at cells at ≡ Ok v
unfolding item_at
item_stands cells at v h f g le =
    rw (item_read cells at v h f g le, data_stands cells at v (data_has cells at v h) g le f.bytes) refl

-- ---- all values of a key

items_stand : (cells : Cells) (at : ℕ) (vs : List Item) → Has cells at (cells_of_items cells.version at vs)
    → All IsItem vs
    → AllByRecursion ItemNumbers vs → at + items_sum cells.version vs ≤ 16777216
    → items_at cells (item_places cells.version at vs) ≡ Ok vs
items_stand cells at [] h f g le = refl
items_stand cells at (v ∷ vs) h f g le =
    let next = at + item_size cells.version v in
    let back = has_behind cells at (item_size cells.version v) next (item_cells cells.version at v)
    (cells_of_items cells.version next vs) (space_value cells.version at v) refl h in
    let one = item_stands cells at v
    (has_front cells at (item_cells cells.version at v) (cells_of_items cells.version next vs) h)
    (f 0 v (omega arith)) g.0 (omega arith) in
    let all = items_stand cells next vs back (all_later v vs f) g.1 (omega arith) in
    rw (one, all) refl

places_fit : (version : HiveVersion) (at : ℕ) (vs : List Item) → at + items_sum version vs ≤ 16777216
    → AreOffsets (item_places version at vs)
places_fit version at [] le = tt
places_fit version at (v ∷ vs) le = (omega arith, places_fit version (at + item_size version v) vs (omega arith))

pub values_stand : (cells : Cells) (node : KeyNode) (start : ℕ) (vs : List Item) → node.value_count ≡ length vs
    → node.value_list ≡ place_of_some (length vs) start → Has cells start (items_cells cells.version start vs)
    → All IsItem vs → AllByRecursion ItemNumbers vs → start + items_size cells.version vs ≤ 16777216
    → values_of cells node ≡ Ok vs
unfolding values_of items_cells
values_stand cells node start [] n l has f g le = rw n refl
values_stand cells node start (v ∷ vs) n l has f g le =
    let first = start + cell (4 * length (v ∷ vs)) in
    let ps = item_places cells.version first (v ∷ vs) in
    let count : length ps ≡ length (v ∷ vs) = length_item_places cells.version first (v ∷ vs) in
    let some : eqb (length (v ∷ vs)) 0 ≡ false = ne_eqb _ _ (λ z. omega arith) in
    let place : node.value_list ≡ start = l ∙ rw some refl in
    let back = has_next cells start (4 * length (v ∷ vs)) (offsets_text ps)
    (cells_of_items cells.version first (v ∷ vs)) (length_values_list cells.version first (v ∷ vs)) has in
    let read : reading (offsets_in (length (v ∷ vs))) cells start ≡ Ok ps =
    reads_in (offsets_in (length (v ∷ vs))) cells start (offsets_text ps) ps has.0
    (λ slack. subst (λ (k : ℕ). offsets_in k (offsets_text ps ++ slack) ≡ Ok ps) count
    (offsets_again ps slack (places_fit cells.version first (v ∷ vs) (omega arith)))) in
    let all = items_stand cells first (v ∷ vs) back f g (omega arith) in
    rw (n, some, place, read) all

-- ---- and are read there

pub values_read : (cells : Cells) (start : ℕ) (v : Item) (vs : List Item)
    → Has cells start (items_cells cells.version start (v ∷ vs)) → start + items_size cells.version (v ∷ vs) ≤ 16777216
    → reading (offsets_in (length (v ∷ vs))) cells start
    ≡ Ok (item_places cells.version (start + cell (4 * length (v ∷ vs))) (v ∷ vs))
unfolding items_cells
values_read cells start v vs has le =
    let first = start + cell (4 * length (v ∷ vs)) in
    let ps = item_places cells.version first (v ∷ vs) in
    reads_in (offsets_in (length (v ∷ vs))) cells start (offsets_text ps) ps has.0
    (λ slack. subst (λ (k : ℕ). offsets_in k (offsets_text ps ++ slack) ≡ Ok ps)
    (length_item_places cells.version first (v ∷ vs))
    (offsets_again ps slack (places_fit cells.version first (v ∷ vs) (omega arith))))

pub values_behind : (cells : Cells) (start : ℕ) (v : Item) (vs : List Item)
    → Has cells start (items_cells cells.version start (v ∷ vs))
    → Has cells (start + cell (4 * length (v ∷ vs)))
    (cells_of_items cells.version (start + cell (4 * length (v ∷ vs))) (v ∷ vs))
unfolding items_cells
values_behind cells start v vs has =
    let first = start + cell (4 * length (v ∷ vs)) in
    has_next cells start (4 * length (v ∷ vs)) (offsets_text (item_places cells.version first (v ∷ vs)))
    (cells_of_items cells.version first (v ∷ vs)) (length_values_list cells.version first (v ∷ vs)) has
