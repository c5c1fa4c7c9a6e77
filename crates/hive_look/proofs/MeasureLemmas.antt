-- How many bytes a value's name and data have, by its payload.
use Rattle.std.proofs.Common.{◌≡◌, ◌≤◌, ◌<◌, ℕ, zero, suc, ◌+◌, ◌-◌, ◌*◌, ◌/◌, ◌%◌, Bool, true, false, ◌&&◌, cond, List, [], ◌∷◌, length, get_or, take, drop, Option, Some, None, Result, Ok, Err, refl, sym, ap, subst, ◌∙◌, arith}
use Rattle.std.specs.Prelude.{◌==◌, nat_lt, nat_le, slice_range}
use Rattle.std.specs.Result.{IsOk}
use Rattle.std.specs.Int.{w16, w32, to_le_bytes, from_le_bytes}
use Rattle.std.specs.List.{list_all}
use Rattle.std.proofs.lemmas.Bool.{lt-ltb, eqb-true, eqb-false}
use Rattle.std.proofs.lemmas.Bool.Decides.{nat_tests}
use Rattle.nt_bytes.specs.declared.fault.HiveFaultKind.{HiveFaultKind}
use Rattle.nt_bytes.specs.declared.fault.HiveFaultKind.TheVariants.{FormLength, FormName}
use Rattle.nt_bytes.specs.declared.version.HiveVersion.{HiveVersion}
use Rattle.nt_bytes.specs.Fields.{u16_in, u32_in}
use Rattle.nt_bytes.specs.Text.{wide_of}
use Rattle.nt_bytes.specs.Reading.{◌>>=◌}
use Rattle.hive_model.specs.Bins.{Cells}
use Rattle.hive_model.specs.Forms.{bytes_in}
use Rattle.hive_model.specs.StoredNames.{stored_name, has_half_unit, is_bad_value_name, value_name_at}
use Rattle.hive_model.specs.KeyValue.{is_narrow_value, KeyValue, key_value_at, is_in_place, data_inside}
use Rattle.hive_model.specs.Lists.{offsets_in}
use Rattle.hive_model.specs.Size.{segment_count, data_sizes, cells_sum, cell, item_size, name_bytes, is_big, is_narrow}
use Rattle.hive_model.specs.Tree.{Item}
use Rattle.hive_model.specs.Walk.{reading, big_data_of}
use Rattle.hive_model.specs.Stands.{data_or, joined_segments, big_bytes_at, data_of, item_at}
use Rattle.hive_read.proofs.FormFacts.{held-short, bytes-drop, bytes-take, unless, then-so}
use Rattle.key_index.specs.Lists.{payload_in}
use Rattle.key_index.proofs.Below.{in_payload}
use Rattle.hive_look.specs.Places.{IsItemHere, value_name_of}
use Rattle.hive_look.proofs.ResultLemmas.{done, ok_same}
use Rattle.hive_look.proofs.ItemLemmas.{item_facts, value_facts, bytes_long, offsets_long, big_form}
use Rattle.hive_look.proofs.DataLemmas.{joined_long}
use Rattle.hive_read.proofs.WeighingLemmas.{no-cells}
use Rattle.key_index.proofs.Tests.{value_of}

-- ---- names

-- a name of one byte a unit is narrow
pub bytes_are_narrow : (xs : List ℕ) → ((i : ℕ) → get_or xs i 0 < 256) → list_all (λ u. nat_lt u 256) xs ≡ true
bytes_are_narrow [] small = refl
bytes_are_narrow (x ∷ xs) small =
    ap (λ (b : Bool). b && list_all (λ u. nat_lt u 256) xs) (lt-ltb x 256 (small 0))
    ∙ bytes_are_narrow xs (λ i. small (suc i))

-- two bytes a unit
pub wide_long : (xs : List ℕ) → length xs % 2 ≡ 0 → 2 * length (wide_of xs) ≡ length xs
wide_long [] e = refl
wide_long (x ∷ []) e = absurd cc
wide_long (x ∷ y ∷ xs) e = let d = wide_long xs (omega (arith, e)) in omega (arith, d)

-- ---- data

abbrev some : List ℕ → Option (List ℕ)
some x = Some x

big_long : (cells : Cells) (n at : ℕ) (bytes : List ℕ) → big_bytes_at cells n at ≡ done bytes → length bytes ≡ n
unfolding big_bytes_at
big_long cells n at bytes e =
    let form = then-so (reading (big_data_of n) cells at)
    (λ b. reading (offsets_in b.segments) cells b.list >>= joined_segments cells n) bytes e in
    let list = then-so (reading (offsets_in form.0.segments) cells form.0.list) (joined_segments cells n)
    bytes form.2 in
    let count : form.0.segments ≡ segment_count n =
    big_form n (payload_in cells at) form.0 (in_payload (big_data_of n) cells at form.0 form.1) in
    let long : length list.0 ≡ form.0.segments =
    offsets_long form.0.segments (payload_in cells form.0.list) list.0
    (in_payload (offsets_in form.0.segments) cells form.0.list list.0 list.1) in
    joined_long cells n list.0 bytes list.2 (long ∙ count)

-- data that the value does not hold itself are the same number as its size says
data_long : (cells : Cells) (value : KeyValue) (bytes : List ℕ) → data_of cells value ≡ done bytes
    → value.size < 2147483648 → length bytes ≡ value.size
unfolding data_of
data_long cells value bytes e small = go (is_in_place value.size) (value.size == 0) refl refl e
  where
    in_cells : (b : Bool) → cond b (big_bytes_at cells value.size value.offset)
        (reading (bytes_in value.size) cells value.offset) ≡ done bytes → length bytes ≡ value.size
    in_cells true e = big_long cells value.size value.offset bytes e
    in_cells false e = bytes_long cells value.size value.offset bytes e

    over : nat_le 2147483648 value.size ≡ true → 2147483648 ≤ value.size
    over e = grind (arith, nat_tests)

    go : (a z : Bool) → is_in_place value.size ≡ a → (value.size == 0) ≡ z
        → data_or (cond a (Some (take (value.size - 2147483648) (to_le_bytes w32 value.offset)))
        (cond z (Some []) None))
        (cond (is_big cells.version value.size) (big_bytes_at cells value.size value.offset)
        (reading (bytes_in value.size) cells value.offset)) ≡ done bytes
        → length bytes ≡ value.size
    go true z a b e = absurd (omega (arith, over a))
    go false true a b e = ap length (sym (ok_same [] bytes e)) ∙ sym (eqb-true value.size 0 b)
    go false false a b e = in_cells (is_big cells.version value.size) e

-- data that it holds itself are up to four bytes
data_few : (cells : Cells) (value : KeyValue) (bytes : List ℕ) → data_of cells value ≡ done bytes
    → 2147483648 ≤ value.size → length bytes ≤ 4
unfolding data_of
data_few cells value bytes e large =
    let in_place : is_in_place value.size ≡ true = grind (arith, nat_tests) in
    let d = take (value.size - 2147483648) (to_le_bytes w32 value.offset) in
    let held : data_inside value ≡ some d =
    ap (λ (b : Bool). cond b (some d) (cond (value.size == 0) (some []) None)) in_place in
    let same : d ≡ bytes = ok_same d bytes
    (sym (ap (λ (o : Option (List ℕ)). data_or o
    (cond (is_big cells.version value.size) (big_bytes_at cells value.size value.offset)
    (reading (bytes_in value.size) cells value.offset))) held) ∙ e) in
    subst (λ (xs : List ℕ). length xs ≤ 4) same (held-short value d held)

-- ---- a value, by its payload

-- what the payload of a value says of its name and of how many its data are
pub record HasMeasures (p : List ℕ) (size : ℕ) (v : Item) : Type 0 where
  pub name : v.name ≡ value_name_of p
  pub inside : 2147483648 ≤ size → length v.bytes ≤ 4
  pub celled : size < 2147483648 → length v.bytes ≡ size

pub measures : (cells : Cells) (at : ℕ) (p : List ℕ) (size : ℕ) (v : Item) → IsItemHere cells at
    → item_at cells at ≡ done v → p ≡ payload_in cells at → size ≡ u32_in p 4
    → HasMeasures p size v
unfolding value_name_of item_at
measures cells at p size v h i e s =
    let f = item_facts cells at h in
    let same : f.item ≡ v = ok_same f.item v (sym f.stands ∙ i) in
    let bytes : data_of cells f.value ≡ done v.bytes = f.bytes ∙ ap (λ (w : Item). done w.bytes) same in
    let field : f.value.size ≡ size =
    ap (λ (k : KeyValue). k.size) f.facts.is ∙ ap (λ (q : List ℕ). u32_in q 4) (sym e) ∙ sym s in
    record {
      name = name_is f.value f.read f.here;
      inside = λ large. data_few cells f.value v.bytes bytes (subst (λ (n : ℕ). 2147483648 ≤ n) (sym field) large);
      celled = λ small. data_long cells f.value v.bytes bytes (subst (λ (n : ℕ). n < 2147483648) (sym field) small)
          ∙ field;
    }
  where
    name_is : (value : KeyValue) → reading key_value_at cells at ≡ done value
        → key_value_at (payload_in cells at) ≡ done value → v.name ≡ value_name_of p
    name_is value r here =
        let one = then-so (reading key_value_at cells at)
        (λ k. data_of cells k >>= λ bytes. Ok (record { name = k.name; kind = k.kind; bytes = bytes })) v i in
        let d = then-so (data_of cells one.0)
        (λ bytes. Ok (record { name = one.0.name; kind = one.0.kind; bytes = bytes })) v one.2 in
        sym (ap (λ (w : Item). w.name) (ok_same (record { name = one.0.name; kind = one.0.kind; bytes = d.0 }) v d.2))
        ∙ ap (λ (k : KeyValue). k.name) (ok_same one.0 value (sym one.1 ∙ r))
        ∙ ap (λ (q : Result _ HiveFaultKind). Rattle.hive_model.specs.Footprint.of_read q (λ k. k.name)) (sym here)
        ∙ ap value_name_of (sym e)

-- ---- how a name is stored

pub narrow_len : (narrow : Bool) (xs : List ℕ) → narrow ≡ true → ((i : ℕ) → get_or xs i 0 < 256)
    → length xs ≡ name_bytes (stored_name narrow xs)
narrow_len narrow xs e small =
    sym (ap (λ (b : Bool). name_bytes (stored_name b xs)) e
    ∙ ap (λ (b : Bool). cond b (length xs) (2 * length xs)) (bytes_are_narrow xs small))

pub low_len : (narrow : Bool) (xs : List ℕ) → narrow ≡ false → length xs % 2 ≡ 0 → is_narrow (wide_of xs) ≡ true
    → length xs / 2 ≡ name_bytes (stored_name narrow xs)
low_len narrow xs e even low =
    let d = wide_long xs even in
    let half : length xs / 2 ≡ length (wide_of xs) = omega (arith, d) in
    half ∙ sym (ap (λ (b : Bool). name_bytes (stored_name b xs)) e
    ∙ ap (λ (b : Bool). cond b (length (wide_of xs)) (2 * length (wide_of xs))) low)

pub high_len : (narrow : Bool) (xs : List ℕ) → narrow ≡ false → length xs % 2 ≡ 0 → is_narrow (wide_of xs) ≡ false
    → length xs ≡ name_bytes (stored_name narrow xs)
high_len narrow xs e even high =
    sym (wide_long xs even)
    ∙ sym (ap (λ (b : Bool). name_bytes (stored_name b xs)) e
    ∙ ap (λ (b : Bool). cond b (length (wide_of xs)) (2 * length (wide_of xs))) high)

slice_few : (p : List ℕ) (n : ℕ) → length (slice_range p 20 (20 + n)) ≤ n
slice_few p n = let t = take-few (20 + n - 20) (drop 20 p) in omega (arith, t)
  where
    take-few : (k : ℕ) (xs : List ℕ) → length (take k xs) ≤ k
    take-few zero xs = omega arith
    take-few (suc k) [] = omega arith
    take-few (suc k) (x ∷ xs) = let d = take-few k xs in omega (arith, d)

two_small : (xs : List ℕ) → ((i : ℕ) → get_or xs i 0 < 256) → from_le_bytes w16 xs < 65536
two_small xs h = omega (arith, h 0, h 1)

pub stored_few : (p stored : List ℕ) → ((i : ℕ) → get_or p i 0 < 256) → stored ≡ slice_range p 20 (20 + u16_in p 2)
    → length stored ≤ 65536
stored_few p stored small e = let a = slice_few p (u16_in p 2) in let b : u16_in p 2 < 65536 =
    two_small (slice_range p 2 (2 + 2)) (bytes-take (2 + 2 - 2) (drop 2 p) (bytes-drop 2 p small)) in
    let c : length stored ≡ length (slice_range p 20 (20 + u16_in p 2)) = ap length e in omega (arith, a, b, c)

even_of : (bytes name : List ℕ) → value_name_at false bytes ≡ done name → length bytes % 2 ≡ 0
unfolding value_name_at
even_of bytes name e =
    let t = unless (has_half_unit false bytes) FormLength
    (cond (is_bad_value_name (stored_name false bytes)) (Err FormName) (Ok (stored_name false bytes))) name e in
    let n = eqb-false (length bytes % 2) 1 t.0 in
    two (length bytes) n
  where
    two : (k : ℕ) → (k % 2 ≡ 1 → ⊥) → k % 2 ≡ 0
    two k n = go (k % 2) (omega arith) n
      where
        go : (r : ℕ) → r < 2 → (r ≡ 1 → ⊥) → r ≡ 0
        go zero lt n = refl
        go (suc zero) lt n = absurd (n refl)
        go (suc (suc r)) lt n = absurd (omega (arith, lt))

pub stored_even : (p stored : List ℕ) (narrow : Bool) → IsOk (key_value_at p) → narrow ≡ is_narrow_value (u16_in p 16)
    → stored ≡ slice_range p 20 (20 + u16_in p 2)
    → narrow ≡ false → length stored % 2 ≡ 0
stored_even p stored narrow h a b n =
    let v = value_of (key_value_at p) h in
    let f = value_facts p v.0 v.1 in
    let wide : value_name_at false (slice_range p 20 (20 + u16_in p 2)) ≡ done v.0.name =
    ap (λ (q : Bool). value_name_at q (slice_range p 20 (20 + u16_in p 2))) (sym n ∙ a) ∙ f.named in
    ap (λ (xs : List ℕ). length xs % 2) b ∙ even_of (slice_range p 20 (20 + u16_in p 2)) v.0.name wide

-- ---- the size of a value

pub item_inside : (version : HiveVersion) (p : List ℕ) (size own name : ℕ) (v : Item) → HasMeasures p size v
    → 2147483648 ≤ size → own ≡ cell (20 + name)
    → name ≡ name_bytes (value_name_of p) → own ≡ item_size version v
item_inside version p size own name v m large o n =
    let a : name ≡ name_bytes v.name = n ∙ ap name_bytes (sym m.name) in
    let b = no-cells version (length v.bytes) (m.inside large) in
    let c : cell (20 + name) ≡ cell (20 + name_bytes v.name) = ap (λ (k : ℕ). cell (20 + k)) a in
    omega (arith, o, b, c)

pub item_celled : (version : HiveVersion) (p : List ℕ) (size own name held : ℕ) (v : Item) → HasMeasures p size v
    → size < 2147483648 → own ≡ cell (20 + name)
    → name ≡ name_bytes (value_name_of p) → held ≡ cells_sum (data_sizes version size)
    → own + held ≡ item_size version v
item_celled version p size own name held v m small o n d =
    let a : name ≡ name_bytes v.name = n ∙ ap name_bytes (sym m.name) in
    let b : cells_sum (data_sizes version size) ≡ cells_sum (data_sizes version (length v.bytes)) =
    ap (λ (k : ℕ). cells_sum (data_sizes version k)) (sym (m.celled small)) in
    let c : cell (20 + name) ≡ cell (20 + name_bytes v.name) = ap (λ (k : ℕ). cell (20 + k)) a in
    omega (arith, o, b, c, d)
