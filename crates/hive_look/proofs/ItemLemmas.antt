-- What the payload of a key value says of the value that is at it, and when its data are four bytes.
use Rattle.std.proofs.Common.{◌≡◌, ◌≤◌, ◌<◌, ℕ, ◌+◌, ◌-◌, ◌^◌, ◌&&◌, Bool, true, false, eqb, cond, List, [], ◌∷◌, ◌++◌, length, take, Option, Some, None, Result, Ok, Err, refl, sym, ap, subst, ◌∙◌, arith}
use Rattle.std.specs.Prelude.{◌==◌, nat_lt, slice_range, option_and_then, min}
use Rattle.std.specs.Result.{IsOk}
use Rattle.std.specs.List.{list_any}
use Rattle.std.specs.Int.{w32, from_le_bytes, to_le_bytes}
use Rattle.std.proofs.lemmas.Bool.{ltb-false, eqb-true, ne_eqb}
use Rattle.std.proofs.lemmas.List.{length-append, length-take}
use Rattle.std.proofs.lemmas.Nat.{from_le_bytes-to_le_bytes_4}
use Rattle.nt_bytes.specs.declared.fault.HiveFaultKind.{HiveFaultKind}
use Rattle.nt_bytes.specs.declared.fault.HiveFaultKind.TheVariants.{FormShort, FormSign, FormLength, FormName}
use Rattle.nt_bytes.specs.declared.version.HiveVersion.{HiveVersion}
use Rattle.nt_bytes.specs.declared.version.HiveVersion.TheVariants.{V3, V5}
use Rattle.nt_bytes.specs.Fields.{u16_in, u32_in}
use Rattle.nt_bytes.specs.Folding.{folds_same}
use Rattle.nt_bytes.specs.Reading.{◌>>=◌}
use Rattle.hive_model.specs.Bins.{Cells}
use Rattle.hive_model.specs.Forms.{bytes_in}
use Rattle.hive_model.specs.StoredNames.{stored_name, has_half_unit, is_bad_value_name, value_name_at}
use Rattle.hive_model.specs.KeyValue.{is_narrow_value, is_in_place, is_overfull, KeyValue, key_value_in, key_value_at, data_inside}
use Rattle.hive_model.specs.BigData.{big_data_at, BigData}
use Rattle.hive_model.specs.Lists.{offsets_in, numbers_in}
use Rattle.hive_model.specs.Size.{segment_bytes, is_big, segment_count, segment_part}
use Rattle.hive_model.specs.Tree.{Item, dword_in}
use Rattle.hive_model.specs.Walk.{reading, names_of, big_data_of}
use Rattle.hive_model.specs.Footprint.{of_read, is_value_named}
use Rattle.hive_model.specs.Stands.{data_or, joined_segments, big_bytes_at, data_of, item_at}
use Rattle.key_index.specs.Lists.{payload_in}
use Rattle.key_index.proofs.Below.{in_payload}
use Rattle.hive_look.specs.Places.{IsItemHere, item_read, dword_at, value_name_of}
use Rattle.hive_look.proofs.ResultLemmas.{done, some, some_same, only_if, ok_same}
use Rattle.std.proofs.Math.Bool.{or-false}
use Rattle.edited_cells.proofs.Patches.{length_at}
use Rattle.hive_read.proofs.FormFacts.{numbers-length, unless, then-so}
use Rattle.key_index.proofs.Tests.{value_of, is_ok_of}

-- ---- the fields of a value

-- the fields of a value are those of its payload, which is long enough for its name, and its data in place fit
pub record ValueFacts (p : List ℕ) (value : KeyValue) : Type 0 where
  pub is : value ≡ key_value_in p value.name
  pub long : 20 + u16_in p 2 ≤ length p
  pub fits : is_overfull value.size ≡ false
  pub sign : u16_in p 0 ≡ 0x6b76
  pub named : value_name_at (is_narrow_value (u16_in p 16)) (slice_range p 20 (20 + u16_in p 2)) ≡ done value.name
  pub name : stored_name (is_narrow_value (u16_in p 16)) (slice_range p 20 (20 + u16_in p 2)) ≡ value.name

stored_is : (narrow : Bool) (bytes name : List ℕ) → value_name_at narrow bytes ≡ done name
    → stored_name narrow bytes ≡ name
unfolding value_name_at
stored_is narrow bytes name e =
    let stored = stored_name narrow bytes in
    let one = unless (has_half_unit narrow bytes) FormLength
    (cond (is_bad_value_name stored) (Err FormName) (Ok stored)) name e in
    let two = unless (is_bad_value_name stored) FormName (Ok stored) name one.1 in
    ok_same stored name two.1

pub value_facts : (p : List ℕ) (value : KeyValue) → key_value_at p ≡ done value → ValueFacts p value
unfolding key_value_at
value_facts p value e =
    let narrow = is_narrow_value (u16_in p 16) in
    let bytes = slice_range p 20 (20 + u16_in p 2) in
    let named = value_name_at narrow bytes >>= λ name. Ok (key_value_in p name) in
    let fitting = cond (is_overfull (u32_in p 4)) (Err FormLength) named in
    let long = cond (nat_lt (length p) (20 + u16_in p 2)) (Err FormShort) fitting in
    let sized = cond (nat_lt (length p) 20) (Err FormShort) long in
    let one = (unless (nat_lt (length p) 2) FormShort (cond (u16_in p 0 == 0x6b76) sized (Err FormSign)) value e).1 in
    let two = only_if (u16_in p 0 == 0x6b76) FormSign sized value one in
    let three = (unless (nat_lt (length p) 20) FormShort long value two.1).1 in
    let four = unless (nat_lt (length p) (20 + u16_in p 2)) FormShort fitting value three in
    let five = unless (is_overfull (u32_in p 4)) FormLength named value four.1 in
    let n = then-so (value_name_at narrow bytes) (λ name. Ok (key_value_in p name)) value five.1 in
    let same : key_value_in p n.0 ≡ value = ok_same (key_value_in p n.0) value n.2 in
    record {
      is = sym same ∙ ap (λ (v : KeyValue). key_value_in p v.name) same;
      long = ltb-false (length p) (20 + u16_in p 2) four.0;
      fits = ap (λ (v : KeyValue). is_overfull v.size) (sym same) ∙ five.0;
      sign = eqb-true (u16_in p 0) 0x6b76 two.0;
      named = n.1 ∙ ap (λ (v : KeyValue). done v.name) same;
      name = stored_is narrow bytes n.0 n.1 ∙ ap (λ (v : KeyValue). v.name) same;
    }

pub value_long : (p : List ℕ) → IsOk (key_value_at p) → 20 + u16_in p 2 ≤ length p
value_long p h = let v = value_of (key_value_at p) h in (value_facts p v.0 v.1).long

pub value_name_is : (p : List ℕ) → IsOk (key_value_at p)
    → value_name_of p ≡ stored_name (is_narrow_value (u16_in p 16)) (slice_range p 20 (20 + u16_in p 2))
unfolding value_name_of
value_name_is p h =
    let v = value_of (key_value_at p) h in
    ap (λ (r : Result KeyValue HiveFaultKind). of_read r (λ value. value.name)) v.1 ∙ sym (value_facts p v.0 v.1).name

-- ---- a value that stands

abbrev item_with : KeyValue → List ℕ → Item
item_with value bytes = record { name = value.name; kind = value.kind; bytes = bytes }

-- a value that stands, in its payload
pub record ItemFacts (cells : Cells) (at : ℕ) : Type 0 where
  pub item : Item
  pub value : KeyValue
  pub stands : item_at cells at ≡ done item
  pub read : reading key_value_at cells at ≡ done value
  pub here : key_value_at (payload_in cells at) ≡ done value
  pub facts : ValueFacts (payload_in cells at) value
  pub bytes : data_of cells value ≡ done item.bytes
  pub kind : item.kind ≡ value.kind

pub item_facts : (cells : Cells) (at : ℕ) → IsItemHere cells at → ItemFacts cells at
unfolding item_at
item_facts cells at h =
    let v = value_of (item_at cells at) h in
    let r = then-so (reading key_value_at cells at)
    (λ value. data_of cells value >>= λ bytes. Ok (item_with value bytes)) v.0 v.1 in
    let b = then-so (data_of cells r.0) (λ bytes. Ok (item_with r.0 bytes)) v.0 r.2 in
    let same : item_with r.0 b.0 ≡ v.0 = ok_same (item_with r.0 b.0) v.0 b.2 in
    let here = in_payload key_value_at cells at r.0 r.1 in
    record {
      item = v.0;
      value = r.0;
      stands = v.1;
      read = r.1;
      here = here;
      facts = value_facts (payload_in cells at) r.0 here;
      bytes = b.1 ∙ ap (λ (i : Item). done i.bytes) same;
      kind = ap (λ (i : Item). i.kind) (sym same);
    }

pub value_is_there : (cells : Cells) (at : ℕ) (p : List ℕ) → IsItemHere cells at → p ≡ payload_in cells at
    → IsOk (key_value_at p)
value_is_there cells at p h e = let f = item_facts cells at h in
    is_ok_of (key_value_at p) f.value (ap key_value_at e ∙ f.here)

pub item_long : (cells : Cells) (at : ℕ) (p : List ℕ) → IsItemHere cells at → p ≡ payload_in cells at
    → 20 + u16_in p 2 ≤ length p
item_long cells at p h e = value_long p (value_is_there cells at p h e)

-- the name in the payload shows whether the value at the offset has a name
pub named_here : (cells : Cells) (name : List ℕ) (at : ℕ) (p : List ℕ) → IsItemHere cells at → p ≡ payload_in cells at
    → is_value_named cells name at ≡ folds_same name (value_name_of p)
unfolding value_name_of
named_here cells name at p h e =
    let f = item_facts cells at h in
    ap (λ (r : Result KeyValue HiveFaultKind). list_any (folds_same name) (names_of (λ value. value.name) r)) f.read
    ∙ or-false (folds_same name f.value.name)
    ∙ sym (ap (λ (r : Result KeyValue HiveFaultKind). folds_same name (of_read r (λ value. value.name)))
    (ap key_value_at e ∙ f.here))

-- ---- data of four bytes

bytes_there : (n : ℕ) (p bytes : List ℕ) → bytes_in n p ≡ done bytes → (n ≤ length p) × (take n p ≡ bytes)
unfolding bytes_in
bytes_there n p bytes e =
    let t = unless (nat_lt (length p) n) FormShort (Ok (take n p)) bytes e in
    (ltb-false (length p) n t.0, ok_same (take n p) bytes t.1)

pub bytes_long : (cells : Cells) (n at : ℕ) (bytes : List ℕ) → reading (bytes_in n) cells at ≡ done bytes
    → length bytes ≡ n
bytes_long cells n at bytes e =
    let b = bytes_there n (payload_in cells at) bytes (in_payload (bytes_in n) cells at bytes e) in
    ap length (sym b.1) ∙ length_at n (payload_in cells at) b.0

pub offsets_long : (n : ℕ) (p offsets : List ℕ) → offsets_in n p ≡ done offsets → length offsets ≡ n
unfolding offsets_in
offsets_long n p offsets e =
    let t = (unless (nat_lt (length p) (Rattle.std.proofs.Common.◌*◌ 4 n)) FormShort (Ok (numbers_in 4 n p))
    offsets e).1 in
    sym (ap length (ok_same (numbers_in 4 n p) offsets t)) ∙ numbers-length 4 n p

segments_many : (cells : Cells) (n : ℕ) (offsets bytes : List ℕ) → joined_segments cells n offsets ≡ done bytes
    → 0 < length offsets → 4 < n → 4 < length bytes
segments_many cells n [] bytes e some big = absurd (omega arith)
segments_many cells n (at ∷ rest) bytes e some big =
    let part = then-so (reading (bytes_in (segment_part n)) cells at)
    (λ xs. joined_segments cells (n - segment_bytes) rest >>= λ ys. Ok (xs ++ ys)) bytes e in
    let others = then-so (joined_segments cells (n - segment_bytes) rest) (λ ys. Ok (part.0 ++ ys)) bytes part.2 in
    let first : length part.0 ≡ min 16344 n = bytes_long cells (segment_part n) at part.0 part.1 in
    subst (λ (xs : List ℕ). 4 < length xs) (ok_same (part.0 ++ others.0) bytes others.2)
    (omega (arith, first, length-append part.0 others.0))

pub big_form : (n : ℕ) (p : List ℕ) (big : BigData) → big_data_of n p ≡ done big → big.segments ≡ segment_count n
unfolding big_data_of
big_form n p big e =
    let r = then-so (big_data_at p) (λ (b : BigData). cond (b.segments == segment_count n) (Ok b) (Err FormLength))
    big e in
    let t = only_if (r.0.segments == segment_count n) FormLength (Ok r.0) big r.2 in
    let same : r.0 ≡ big = ok_same r.0 big t.1 in
    sym (ap (λ (b : BigData). b.segments) same) ∙ eqb-true r.0.segments (segment_count n) t.0

big_many : (cells : Cells) (n at : ℕ) (bytes : List ℕ) → big_bytes_at cells n at ≡ done bytes → 4 < n → 4 < length bytes
unfolding big_bytes_at
big_many cells n at bytes e big =
    let form = then-so (reading (big_data_of n) cells at)
    (λ b. reading (offsets_in b.segments) cells b.list >>= joined_segments cells n) bytes e in
    let list = then-so (reading (offsets_in form.0.segments) cells form.0.list) (joined_segments cells n)
    bytes form.2 in
    let count : form.0.segments ≡ segment_count n =
    big_form n (payload_in cells at) form.0 (in_payload (big_data_of n) cells at form.0 form.1) in
    let long : length list.0 ≡ form.0.segments =
    offsets_long form.0.segments (payload_in cells form.0.list) list.0
    (in_payload (offsets_in form.0.segments) cells form.0.list list.0 list.1) in
    segments_many cells n list.0 bytes list.2 (omega (arith, count, long)) big

-- data in a cell, big or not, of that many bytes
celled_four : (cells : Cells) (n at : ℕ) (bytes : List ℕ)
    → cond (is_big cells.version n) (big_bytes_at cells n at) (reading (bytes_in n) cells at) ≡ done bytes
    → length bytes ≡ 4 → n ≡ 4
celled_four cells n at bytes e four = go (is_big cells.version n) refl e
  where
    big : (v : HiveVersion) → is_big v n ≡ true → 4 < n
    big V3 h = absurd cc
    big V5 h = let l : 16344 < n = Rattle.std.proofs.lemmas.Bool.ltb-true 16344 n h in omega arith

    go : (b : Bool) → is_big cells.version n ≡ b
        → cond b (big_bytes_at cells n at) (reading (bytes_in n) cells at) ≡ done bytes → n ≡ 4
    go true h e = absurd (omega (arith, big_many cells n at bytes e (big cells.version h), four))
    go false h e = sym (bytes_long cells n at bytes e) ∙ four

-- data that the value holds
held_four : (value : KeyValue) (d : List ℕ) → data_inside value ≡ some d → is_overfull value.size ≡ false → length d ≡ 4
    → value.size ≡ 2147483652
held_four value d e fits four = go (is_in_place value.size) (value.size == 0) refl e
  where
    within : value.size ≤ 2147483652
    within = ltb-false 2147483652 value.size fits

    go : (a b : Bool) → is_in_place value.size ≡ a
        → cond a (Some (take (value.size - 2147483648) (to_le_bytes w32 value.offset))) (cond b (Some []) None) ≡ some d
        → value.size ≡ 2147483652
    go true b s e =
        let same : take (value.size - 2147483648) (to_le_bytes w32 value.offset) ≡ d = some_same _ d e in
        let long : length d ≡ min (value.size - 2147483648) 4 =
        ap length (sym same) ∙ length-take (value.size - 2147483648) (to_le_bytes w32 value.offset) in
        omega (arith, long, within)
    go false true s e = let same : [] ≡ d = some_same [] d e in absurd (omega (arith, ap length same))
    go false false s e = absurd cc

-- data are four bytes only where the size says so
size_of_four : (cells : Cells) (value : KeyValue) (bytes : List ℕ) → data_of cells value ≡ done bytes
    → is_overfull value.size ≡ false → length bytes ≡ 4
    → (value.size ≡ 2147483652 → ⊥) → value.size ≡ 4
unfolding data_of
size_of_four cells value bytes e fits four other = go (data_inside value) refl e
  where
    go : (o : Option (List ℕ)) → data_inside value ≡ o
        → data_or o (cond (is_big cells.version value.size) (big_bytes_at cells value.size value.offset)
        (reading (bytes_in value.size) cells value.offset)) ≡ done bytes
        → value.size ≡ 4
    go (Some d) i e = absurd (other (held_four value d i fits (ap length (ok_same d bytes e) ∙ four)))
    go None i e = celled_four cells value.size value.offset bytes e four

-- four bytes in place are those of the offset field
inside_four : (cells : Cells) (value : KeyValue) (bytes : List ℕ) → data_of cells value ≡ done bytes
    → value.size ≡ 2147483652 → bytes ≡ to_le_bytes w32 value.offset
unfolding data_of
inside_four cells value bytes e s =
    let inside : data_inside value ≡ some (take 4 (to_le_bytes w32 value.offset)) =
    ap (λ (n : ℕ). cond (is_in_place n) (some (take (n - 2147483648) (to_le_bytes w32 value.offset)))
    (cond (n == 0) (Some []) None)) s in
    sym (ok_same (take 4 (to_le_bytes w32 value.offset)) bytes
    (sym (ap (λ (o : Option (List ℕ)). data_or o
    (cond (is_big cells.version value.size) (big_bytes_at cells value.size value.offset)
    (reading (bytes_in value.size) cells value.offset))) inside) ∙ e))

not_big : (v : HiveVersion) → is_big v 4 ≡ false
not_big V3 = refl
not_big V5 = refl

-- four bytes in a cell of their own are the first of it
outside_four : (cells : Cells) (value : KeyValue) (bytes : List ℕ) → data_of cells value ≡ done bytes → value.size ≡ 4
    → (4 ≤ length (payload_in cells value.offset)) × (take 4 (payload_in cells value.offset) ≡ bytes)
unfolding data_of
outside_four cells value bytes e s =
    let plain : reading (bytes_in 4) cells value.offset ≡ done bytes =
    sym (ap (λ (n : ℕ). data_or
    (cond (is_in_place n) (some (take (n - 2147483648) (to_le_bytes w32 value.offset)))
    (cond (n == 0) (Some []) None))
    (cond (is_big cells.version n) (big_bytes_at cells n value.offset) (reading (bytes_in n) cells value.offset))) s
    ∙ ap (λ (b : Bool). cond b (big_bytes_at cells 4 value.offset) (reading (bytes_in 4) cells value.offset))
    (not_big cells.version)) ∙ e in
    bytes_there 4 (payload_in cells value.offset) bytes (in_payload (bytes_in 4) cells value.offset bytes plain)

-- ---- the number

-- the number of a value that stands
dword_is : (cells : Cells) (at : ℕ) (f : ItemFacts cells at)
    → dword_at cells at ≡ cond (eqb f.value.kind 4 && eqb (length f.item.bytes) 4)
    (Some (from_le_bytes w32 f.item.bytes)) None
dword_is cells at f =
    ap (λ (r : Result Item HiveFaultKind). option_and_then dword_in (item_read r)) f.stands
    ∙ ap (λ (k : ℕ). cond (eqb k 4 && eqb (length f.item.bytes) 4) (Some (from_le_bytes w32 f.item.bytes)) None) f.kind

-- a value of another type is none
pub no_number_kind : (cells : Cells) (at : ℕ) (p : List ℕ) (kind : ℕ) → IsItemHere cells at → p ≡ payload_in cells at
    → kind ≡ u32_in p 12 → (kind ≡ 4 → ⊥) → dword_at cells at ≡ None
no_number_kind cells at p kind h e k other =
    let f = item_facts cells at h in
    let same : f.value.kind ≡ kind =
    ap (λ (v : KeyValue). v.kind) f.facts.is ∙ ap (λ (q : List ℕ). u32_in q 12) (sym e) ∙ sym k in
    dword_is cells at f ∙ ap (λ (b : Bool). cond (b && eqb (length f.item.bytes) 4)
    (Some (from_le_bytes w32 f.item.bytes)) None) (ne_eqb f.value.kind 4 (λ z. other (sym same ∙ z)))

-- the fields that were read from the payload
record Fields (cells : Cells) (at kind size : ℕ) (p : List ℕ) : Type 0 where
  facts : ItemFacts cells at
  kind_is : facts.value.kind ≡ 4
  size_is : facts.value.size ≡ size
  place : facts.value.offset ≡ u32_in p 8

fields : (cells : Cells) (at kind size : ℕ) (p : List ℕ) → IsItemHere cells at → p ≡ payload_in cells at
    → kind ≡ u32_in p 12 → kind ≡ 4 → size ≡ u32_in p 4 → Fields cells at kind size p
fields cells at kind size p h e k four s =
    let f = item_facts cells at h in
    record {
      facts = f;
      kind_is = ap (λ (v : KeyValue). v.kind) f.facts.is ∙ ap (λ (q : List ℕ). u32_in q 12) (sym e) ∙ sym k ∙ four;
      size_is = ap (λ (v : KeyValue). v.size) f.facts.is ∙ ap (λ (q : List ℕ). u32_in q 4) (sym e) ∙ sym s;
      place = ap (λ (v : KeyValue). v.offset) f.facts.is ∙ ap (λ (q : List ℕ). u32_in q 8) (sym e);
    }

-- of four bytes, it is their number
four_bytes : (cells : Cells) (at : ℕ) (f : ItemFacts cells at) (n : ℕ) → f.value.kind ≡ 4 → length f.item.bytes ≡ 4
    → from_le_bytes w32 f.item.bytes ≡ n → dword_at cells at ≡ Some n
four_bytes cells at f n k l is =
    dword_is cells at f
    ∙ (λ i. cond (eqb (k i) 4 && eqb (l i) 4) (Some (is i)) None)

pub number_inside : (cells : Cells) (at kind size n : ℕ) (p : List ℕ) → IsItemHere cells at → p ≡ payload_in cells at
    → kind ≡ u32_in p 12 → kind ≡ 4 → size ≡ u32_in p 4
    → size ≡ 2147483652 → n ≡ u32_in p 8 → n < 2 ^ 32 → dword_at cells at ≡ Some n
number_inside cells at kind size n p h e k four s inside is small =
    let g = fields cells at kind size p h e k four s in
    let f = g.facts in
    let bytes : f.item.bytes ≡ to_le_bytes w32 n =
    inside_four cells f.value f.item.bytes f.bytes (g.size_is ∙ inside) ∙ ap (to_le_bytes w32) (g.place ∙ sym is) in
    four_bytes cells at f n g.kind_is (ap length bytes)
    (ap (from_le_bytes w32) bytes ∙ from_le_bytes-to_le_bytes_4 n small)

pub number_long : (cells : Cells) (at kind size place : ℕ) (p q : List ℕ) → IsItemHere cells at
    → p ≡ payload_in cells at → kind ≡ u32_in p 12 → kind ≡ 4 → size ≡ u32_in p 4
    → size ≡ 4 → place ≡ u32_in p 8 → q ≡ payload_in cells place → 4 ≤ length q
number_long cells at kind size place p q h e k four s outside pl is =
    let g = fields cells at kind size p h e k four s in
    let o = outside_four cells g.facts.value g.facts.item.bytes g.facts.bytes (g.size_is ∙ outside) in
    subst (λ (r : List ℕ). 4 ≤ length r) (ap (payload_in cells) (g.place ∙ sym pl) ∙ sym is) o.0

pub number_outside : (cells : Cells) (at kind size place n : ℕ) (p q : List ℕ) → IsItemHere cells at
    → p ≡ payload_in cells at → kind ≡ u32_in p 12 → kind ≡ 4 → size ≡ u32_in p 4
    → size ≡ 4 → place ≡ u32_in p 8 → q ≡ payload_in cells place → n ≡ u32_in q 0 → dword_at cells at ≡ Some n
number_outside cells at kind size place n p q h e k four s outside pl is number =
    let g = fields cells at kind size p h e k four s in
    let f = g.facts in
    let o = outside_four cells f.value f.item.bytes f.bytes (g.size_is ∙ outside) in
    let there : payload_in cells f.value.offset ≡ q = ap (payload_in cells) (g.place ∙ sym pl) ∙ sym is in
    let bytes : f.item.bytes ≡ take 4 q = sym o.1 ∙ ap (take 4) there in
    let long : 4 ≤ length q = subst (λ (r : List ℕ). 4 ≤ length r) there o.0 in
    four_bytes cells at f n g.kind_is (ap length bytes ∙ length_at 4 q long) (ap (from_le_bytes w32) bytes ∙ sym number)

pub no_number_size : (cells : Cells) (at kind size : ℕ) (p : List ℕ) → IsItemHere cells at → p ≡ payload_in cells at
    → kind ≡ u32_in p 12 → kind ≡ 4 → size ≡ u32_in p 4
    → (size ≡ 2147483652 → ⊥) → (size ≡ 4 → ⊥) → dword_at cells at ≡ None
no_number_size cells at kind size p h e k four s inside outside =
    let g = fields cells at kind size p h e k four s in
    let f = g.facts in
    let other : length f.item.bytes ≡ 4 → ⊥ =
    λ l. outside (sym g.size_is
    ∙ size_of_four cells f.value f.item.bytes f.bytes f.facts.fits l (λ z. inside (sym g.size_is ∙ z))) in
    dword_is cells at f
    ∙ (λ i. cond (eqb (g.kind_is i) 4 && ne_eqb (length f.item.bytes) 4 other i) (Some (from_le_bytes w32 f.item.bytes))
    None)
