-- The cells of a value's data, as they are read, and how many bytes the data have.
use Rattle.std.proofs.Common.{◌≡◌, ◌≤◌, ◌<◌, ℕ, ◌-◌, ◌*◌, Bool, true, false, eqb, cond, List, [], ◌∷◌, ◌++◌, length, take, min, Some, None, Result, Ok, Err, refl, sym, ap, subst, ◌∙◌, arith}
use Rattle.std.specs.Prelude.{nat_lt, nat_le}
use Rattle.std.specs.Result.{IsOk}
use Rattle.std.specs.Int.{w32, to_le_bytes}
use Rattle.std.proofs.lemmas.Bool.{eqb-true, ltb-false, lt-leb}
use Rattle.std.proofs.lemmas.List.{length-append, length-take}
use Rattle.nt_bytes.specs.declared.fault.HiveFaultKind.{HiveFaultKind}
use Rattle.nt_bytes.specs.declared.fault.HiveFaultKind.TheVariants.{FormLength, FormShort}
use Rattle.nt_bytes.specs.declared.version.HiveVersion.{HiveVersion}
use Rattle.nt_bytes.specs.Fields.{u32_in}
use Rattle.nt_bytes.specs.Reading.{◌>>=◌}
use Rattle.hive_model.specs.Bins.{Cells}
use Rattle.hive_model.specs.Size.{is_big, segment_count, segment_sizes, segment_part, segment_bytes, data_sizes, data_size, cells_sum}
use Rattle.hive_model.specs.Forms.{bytes_in}
use Rattle.hive_model.specs.KeyValue.{KeyValue, data_inside, is_in_place}
use Rattle.hive_model.specs.BigData.{BigData, big_data_at}
use Rattle.hive_model.specs.Lists.{offsets_in}
use Rattle.hive_model.specs.Walk.{reading, below_of, use_as, big_data_of, segments_checks, big_checks, data_checks}
use Rattle.hive_model.specs.Footprint.{of_read, used_in}
use Rattle.hive_model.specs.Stands.{joined_segments, big_bytes_at, data_of}
use Rattle.hive_pack.proofs.Items.{not_big}
use Rattle.hive_read.proofs.FormFacts.{held-short, offsets-length, then-so}
use Rattle.hive_pack.proofs.Rows.{sizes_most}
use Rattle.key_index.specs.Lists.{payload_in}
use Rattle.key_index.proofs.Below.{in_payload}
use Rattle.edited_cells.proofs.FromCells.{data_held_inside, data_in_cell, data_in_segments}
use Rattle.hive_look.specs.Places.{IsItemHere, data_places, data_room, room_for_item, data_places_by, room_by}
use Rattle.hive_look.proofs.ResultLemmas.{done, only_if, ok_same}
use Rattle.hive_look.proofs.ItemLemmas.{item_facts}
use Rattle.hive_read.proofs.WeighingLemmas.{no-cells}
use Rattle.key_index.proofs.Tests.{value_of, is_ok_of}

-- ---- big data

pub segments_used : (cells : Cells) (n : ℕ) (os : List ℕ) → used_in (segments_checks cells n os) ≡ os
segments_used cells n [] = refl
segments_used cells n (at ∷ os) = ap (λ (l : List ℕ). at ∷ l) (segments_used cells (n - 16344) os)

bytes_long : (n : ℕ) (p b : List ℕ) → bytes_in n p ≡ done b → length b ≡ n
unfolding bytes_in
bytes_long n p b e = go (nat_lt (length p) n) refl e
  where
    go : (t : Bool) → nat_lt (length p) n ≡ t → cond t (Err FormShort) (Ok (take n p)) ≡ done b → length b ≡ n
    go true s f = absurd cc
    go false s f =
        let same : take n p ≡ b = ok_same (take n p) b f in
        omega (arith, ap length same, length-take n p, ltb-false (length p) n s)

pub joined_long : (cells : Cells) (n : ℕ) (os bs : List ℕ) → joined_segments cells n os ≡ done bs
    → length os ≡ segment_count n → length bs ≡ n
joined_long cells n [] bs e c =
    let same : [] ≡ bs = ok_same [] bs e in
    omega (arith, ap length same, c)
joined_long cells n (at ∷ os) bs e c =
    let part = then-so (reading (bytes_in (segment_part n)) cells at)
    (λ xs. joined_segments cells (n - segment_bytes) os >>= λ ys. Ok (xs ++ ys)) bs e in
    let others = then-so (joined_segments cells (n - segment_bytes) os) (λ ys. Ok (part.0 ++ ys)) bs part.2 in
    let p = then-so (cells.payload at) (bytes_in (segment_part n)) part.0 part.1 in
    let one : length part.0 ≡ min 16344 n = bytes_long (segment_part n) p.0 part.0 p.2 in
    let rest : length os ≡ segment_count (n - 16344) = omega (arith, c) in
    let more : length others.0 ≡ n - 16344 = joined_long cells (n - 16344) os others.0 others.1 rest in
    let whole : part.0 ++ others.0 ≡ bs = ok_same (part.0 ++ others.0) bs others.2 in
    omega (arith, ap length whole, length-append part.0 others.0, one, more)

-- the cells that big data use
pub big_used : (cells : Cells) (n at : ℕ) (big : BigData) (os : List ℕ) → reading (big_data_of n) cells at ≡ done big
    → reading (offsets_in big.segments) cells big.list ≡ done os
    → used_in (big_checks cells n at) ≡ at ∷ big.list ∷ os
unfolding big_checks
big_used cells n at big os b o =
    ap (λ (r : Result BigData HiveFaultKind). at
    ∷ used_in (below_of r (λ big. use_as false (offsets_in big.segments) cells big.list
    ++ below_of (reading (offsets_in big.segments) cells big.list) (segments_checks cells n)))) b
    ∙ ap (λ (r : Result (List ℕ) HiveFaultKind). at ∷ big.list ∷ used_in (below_of r (segments_checks cells n))) o
    ∙ ap (λ (l : List ℕ). at ∷ big.list ∷ l) (segments_used cells n os)

-- what big data consist of
pub record BigFacts (cells : Cells) (n at : ℕ) (bytes : List ℕ) : Type 0 where
  pub big : BigData
  pub offsets : List ℕ
  pub db : big_data_at (payload_in cells at) ≡ done big
  pub listed : offsets_in big.segments (payload_in cells big.list) ≡ done offsets
  pub used : used_in (big_checks cells n at) ≡ at ∷ big.list ∷ offsets
  pub long : length bytes ≡ n

pub big_facts : (cells : Cells) (n at : ℕ) (bytes : List ℕ) → big_bytes_at cells n at ≡ done bytes
    → BigFacts cells n at bytes
unfolding big_bytes_at big_data_of
big_facts cells n at bytes e =
    let b = then-so (reading (big_data_of n) cells at)
    (λ big. reading (offsets_in big.segments) cells big.list >>= joined_segments cells n) bytes e in
    let o = then-so (reading (offsets_in b.0.segments) cells b.0.list) (joined_segments cells n) bytes b.2 in
    let here = in_payload (big_data_of n) cells at b.0 b.1 in
    let d = then-so (big_data_at (payload_in cells at))
    (λ big. cond (eqb big.segments (segment_count n)) (Ok big) (Err FormLength)) b.0 here in
    let w = only_if (eqb d.0.segments (segment_count n)) FormLength (Ok d.0) b.0 d.2 in
    let same : d.0 ≡ b.0 = ok_same d.0 b.0 w.1 in
    let listed = in_payload (offsets_in b.0.segments) cells b.0.list o.0 o.1 in
    let count : b.0.segments ≡ segment_count n =
    ap (λ (z : BigData). z.segments) (sym same) ∙ eqb-true d.0.segments (segment_count n) w.0 in
    record {
      big = b.0;
      offsets = o.0;
      db = d.1 ∙ ap done same;
      listed = listed;
      used = big_used cells n at b.0 o.0 b.1 o.1;
      long = joined_long cells n o.0 bytes o.2
          (offsets-length b.0.segments (payload_in cells b.0.list) o.0 listed ∙ count);
    }

-- as they are read one by one
pub db_here : (cells : Cells) (n at : ℕ) (p : List ℕ) → IsOk (big_bytes_at cells n at) → p ≡ payload_in cells at
    → IsOk (big_data_at p)
db_here cells n at p h e =
    let v = value_of (big_bytes_at cells n at) h in
    let f = big_facts cells n at v.0 v.1 in
    is_ok_of (big_data_at p) f.big (ap big_data_at e ∙ f.db)

pub list_here : (cells : Cells) (n at : ℕ) (p q : List ℕ) (db : BigData) → IsOk (big_bytes_at cells n at)
    → p ≡ payload_in cells at → big_data_at p ≡ done db → q ≡ payload_in cells db.list
    → IsOk (offsets_in db.segments q)
list_here cells n at p q db h e r g =
    let v = value_of (big_bytes_at cells n at) h in
    let f = big_facts cells n at v.0 v.1 in
    let same : f.big ≡ db = ok_same f.big db (sym f.db ∙ ap big_data_at (sym e) ∙ r) in
    subst (λ (x : List ℕ). IsOk (offsets_in db.segments x)) (sym g)
    (subst (λ (z : BigData). IsOk (offsets_in z.segments (payload_in cells z.list))) same
    (is_ok_of (offsets_in f.big.segments (payload_in cells f.big.list)) f.offsets f.listed))

pub used_here : (cells : Cells) (n at : ℕ) (p q os : List ℕ) (db : BigData) → IsOk (big_bytes_at cells n at)
    → p ≡ payload_in cells at → big_data_at p ≡ done db → q ≡ payload_in cells db.list
    → offsets_in db.segments q ≡ done os → at ∷ db.list ∷ os ≡ used_in (big_checks cells n at)
used_here cells n at p q os db h e r g o =
    let v = value_of (big_bytes_at cells n at) h in
    let f = big_facts cells n at v.0 v.1 in
    let same : f.big ≡ db = ok_same f.big db (sym f.db ∙ ap big_data_at (sym e) ∙ r) in
    let listed : offsets_in db.segments (payload_in cells db.list) ≡ done f.offsets =
    subst (λ (z : BigData). offsets_in z.segments (payload_in cells z.list) ≡ done f.offsets) same f.listed in
    let all : f.offsets ≡ os = ok_same f.offsets os (sym listed ∙ ap (offsets_in db.segments) (sym g) ∙ o) in
    sym (f.used ∙ (λ i. at ∷ (same i).list ∷ all i))

-- ---- any data

-- the data of a value, by its size and place
pub record DataFacts (cells : Cells) (value : KeyValue) (bytes : List ℕ) : Type 0 where
  pub used : used_in (data_checks cells value) ≡ data_places_by cells value.size value.offset
  pub room : data_size cells.version bytes ≡ room_by cells.version value.size
  pub big : value.size < 2147483648 → is_big cells.version value.size ≡ true
      → IsOk (big_bytes_at cells value.size value.offset)

is_not : (t : Bool) → t ≡ true → t ≡ false → ⊥
is_not true e f = cc
is_not false e f = cc

in_range : (n : ℕ) → is_in_place n ≡ true → n < 2147483648 → ⊥
in_range n e lt = is_not (nat_le 2147483648 n) e (lt-leb 2147483648 n lt)

pub data_facts : (cells : Cells) (value : KeyValue) (bytes : List ℕ) → data_of cells value ≡ done bytes
    → DataFacts cells value bytes
data_facts cells value bytes e =
    go (is_in_place value.size) (eqb value.size 0) (is_big cells.version value.size) refl refl refl
  where
    n : ℕ
    n = value.size

    own : List ℕ
    own = take (n - 2147483648) (to_le_bytes w32 value.offset)

    go : (in_place none big : Bool) → is_in_place n ≡ in_place → eqb n 0 ≡ none → is_big cells.version n ≡ big
        → DataFacts cells value bytes
    go true none big p z b =
        let inside : data_inside value ≡ Some own =
        ap (λ (t : Bool). cond t (Some own) (cond (eqb n 0) (Some []) None)) p in
        let held = data_held_inside cells value own inside in
        let same : own ≡ bytes = ok_same own bytes (sym held.1 ∙ e) in
        let short : length bytes ≤ 4 = subst (λ (x : List ℕ). length x ≤ 4) same (held-short value own inside) in
        record {
          used = held.0 ∙ sym (ap (λ (t : Bool). cond t []
              (cond (eqb n 0) [] (cond (is_big cells.version n) (used_in (big_checks cells n value.offset))
              (value.offset ∷ [])))) p);
          room = no-cells cells.version (length bytes) short
              ∙ sym (ap (λ (t : Bool). cond t 0 (cells_sum (data_sizes cells.version n))) p);
          big = λ lt is. absurd (in_range n p lt);
        }
    go false true big p z b =
        let zero : n ≡ 0 = eqb-true n 0 z in
        let inside : data_inside value ≡ Some [] =
        ap (λ (t : Bool). cond t (Some own) (cond (eqb n 0) (Some []) None)) p
        ∙ ap (λ (t : Bool). cond t (Some []) None) z in
        let held = data_held_inside cells value [] inside in
        let same : [] ≡ bytes = ok_same [] bytes (sym held.1 ∙ e) in
        let short : length bytes ≤ 4 = subst (λ (x : List ℕ). length x ≤ 4) same (omega arith) in
        record {
          used = held.0
              ∙ sym (ap (λ (t : Bool). cond t []
              (cond (eqb n 0) [] (cond (is_big cells.version n) (used_in (big_checks cells n value.offset))
              (value.offset ∷ [])))) p
              ∙ ap (λ (t : Bool). cond t []
              (cond (is_big cells.version n) (used_in (big_checks cells n value.offset)) (value.offset ∷ []))) z);
          room = no-cells cells.version (length bytes) short
              ∙ sym (ap (λ (t : Bool). cond t 0 (cells_sum (data_sizes cells.version n))) p
              ∙ no-cells cells.version n (omega (arith, zero)));
          big = λ lt is. absurd (is_not (is_big cells.version n) is (not_big cells.version n (omega (arith, zero))));
        }
    go false false true p z b =
        let inside : data_inside value ≡ None =
        ap (λ (t : Bool). cond t (Some own) (cond (eqb n 0) (Some []) None)) p
        ∙ ap (λ (t : Bool). cond t (Some []) None) z in
        let held = data_in_segments cells value inside b in
        let read : big_bytes_at cells n value.offset ≡ done bytes = sym held.1 ∙ e in
        let f = big_facts cells n value.offset bytes read in
        record {
          used = held.0
              ∙ sym (ap (λ (t : Bool). cond t []
              (cond (eqb n 0) [] (cond (is_big cells.version n) (used_in (big_checks cells n value.offset))
              (value.offset ∷ [])))) p
              ∙ ap (λ (t : Bool). cond t []
              (cond (is_big cells.version n) (used_in (big_checks cells n value.offset)) (value.offset ∷ []))) z
              ∙ ap (λ (t : Bool). cond t (used_in (big_checks cells n value.offset)) (value.offset ∷ [])) b);
          room = ap (λ (m : ℕ). cells_sum (data_sizes cells.version m)) f.long
              ∙ sym (ap (λ (t : Bool). cond t 0 (cells_sum (data_sizes cells.version n))) p);
          big = λ lt is. is_ok_of (big_bytes_at cells n value.offset) bytes read;
        }
    go false false false p z b =
        let inside : data_inside value ≡ None =
        ap (λ (t : Bool). cond t (Some own) (cond (eqb n 0) (Some []) None)) p
        ∙ ap (λ (t : Bool). cond t (Some []) None) z in
        let held = data_in_cell cells value inside b in
        let q = then-so (cells.payload value.offset) (bytes_in n) bytes (sym held.1 ∙ e) in
        let long : length bytes ≡ n = bytes_long n q.0 bytes q.2 in
        record {
          used = held.0
              ∙ sym (ap (λ (t : Bool). cond t []
              (cond (eqb n 0) [] (cond (is_big cells.version n) (used_in (big_checks cells n value.offset))
              (value.offset ∷ [])))) p
              ∙ ap (λ (t : Bool). cond t []
              (cond (is_big cells.version n) (used_in (big_checks cells n value.offset)) (value.offset ∷ []))) z
              ∙ ap (λ (t : Bool). cond t (used_in (big_checks cells n value.offset)) (value.offset ∷ [])) b);
          room = ap (λ (m : ℕ). cells_sum (data_sizes cells.version m)) long
              ∙ sym (ap (λ (t : Bool). cond t 0 (cells_sum (data_sizes cells.version n))) p);
          big = λ lt is. absurd (is_not (is_big cells.version n) is b);
        }

-- ---- by what the payload of the value says

pub places_by : (cells : Cells) (at : ℕ) (p : List ℕ) (size place : ℕ) → IsItemHere cells at → p ≡ payload_in cells at
    → size ≡ u32_in p 4 → place ≡ u32_in p 8
    → data_places cells at ≡ data_places_by cells size place
places_by cells at p size place h e s q =
    let f = item_facts cells at h in
    let is_size : f.value.size ≡ size =
    ap (λ (v : KeyValue). v.size) f.facts.is ∙ ap (λ (x : List ℕ). u32_in x 4) (sym e) ∙ sym s in
    let is_place : f.value.offset ≡ place =
    ap (λ (v : KeyValue). v.offset) f.facts.is ∙ ap (λ (x : List ℕ). u32_in x 8) (sym e) ∙ sym q in
    ap (λ (r : Result KeyValue HiveFaultKind). of_read r (λ value. used_in (data_checks cells value))) f.read
    ∙ (data_facts cells f.value f.item.bytes f.bytes).used ∙ (λ i. data_places_by cells (is_size i) (is_place i))

pub room_at : (cells : Cells) (at : ℕ) (p : List ℕ) (size : ℕ) → IsItemHere cells at → p ≡ payload_in cells at
    → size ≡ u32_in p 4
    → room_by cells.version size ≡ data_room cells at
room_at cells at p size h e s =
    let f = item_facts cells at h in
    let is_size : f.value.size ≡ size =
    ap (λ (v : KeyValue). v.size) f.facts.is ∙ ap (λ (x : List ℕ). u32_in x 4) (sym e) ∙ sym s in
    ap (room_by cells.version) (sym is_size) ∙ sym (data_facts cells f.value f.item.bytes f.bytes).room
    ∙ sym (ap (room_for_item cells.version) f.stands)

pub big_at : (cells : Cells) (at : ℕ) (p : List ℕ) (size place : ℕ) → IsItemHere cells at → p ≡ payload_in cells at
    → size ≡ u32_in p 4 → place ≡ u32_in p 8
    → size < 2147483648 → is_big cells.version size ≡ true → IsOk (big_bytes_at cells size place)
big_at cells at p size place h e s q =
    let f = item_facts cells at h in
    let is_size : f.value.size ≡ size =
    ap (λ (v : KeyValue). v.size) f.facts.is ∙ ap (λ (x : List ℕ). u32_in x 4) (sym e) ∙ sym s in
    let is_place : f.value.offset ≡ place =
    ap (λ (v : KeyValue). v.offset) f.facts.is ∙ ap (λ (x : List ℕ). u32_in x 8) (sym e) ∙ sym q in
    let b = (data_facts cells f.value f.item.bytes f.bytes).big in
    subst (λ (o : ℕ). size < 2147483648 → is_big cells.version size ≡ true → IsOk (big_bytes_at cells size o)) is_place
    (subst (λ (n : ℕ). n < 2147483648 → is_big cells.version n ≡ true → IsOk (big_bytes_at cells n f.value.offset))
    is_size b)

-- ---- written

pub data_small : (version : HiveVersion) (n : ℕ) → n ≤ 1048576 → cells_sum (data_sizes version n) ≤ 16777216
data_small version n few = go (is_big version n) (nat_lt 4 n)
  where
    go : (big long : Bool) → cells_sum
        (cond big (8 ∷ 4 * segment_count n ∷ segment_sizes (segment_count n) n) (cond long (n ∷ []) [])) ≤ 16777216
    go true long = let r = sizes_most (segment_count n) n in omega (arith, r, few)
    go false true = omega (arith, few)
    go false false = omega arith
