-- A part of a payload is rewritten: every other field is read as before, and a node or a value with it.
use Rattle.std.proofs.Common.{◌≡◌, ℕ, zero, suc, ◌+◌, ◌-◌, ◌<◌, ◌≤◌, ◌^◌, Bool, true, false, cond, List, [], ◌∷◌, ◌++◌, length, take, drop, refl, sym, ◌∙◌, ap, subst, Result, Ok, Err, arith, length-append, length-drop}
use Rattle.std.specs.Prelude.{◌==◌, nat_lt, if◌then◌else◌, slice_range}
use Rattle.std.specs.Int.{w16, w32, w64, from_le_bytes}
use Rattle.std.proofs.lemmas.Bool.{ltb-false, eqb-true}
use Rattle.std.proofs.lemmas.List.{take-append-drop, length-take}
use Rattle.std.proofs.lemmas.Nat.{from_le_bytes-to_le_bytes_4}
use Rattle.nt_bytes.specs.Fields.{u16_in, u32_in}
use Rattle.nt_bytes.specs.declared.fault.HiveFaultKind.{HiveFaultKind}
use Rattle.nt_bytes.specs.declared.fault.HiveFaultKind.TheVariants.{FormShort, FormSign, FormLength}
use Rattle.nt_bytes.specs.Reading.{◌>>=◌}
use Rattle.hive_model.specs.StoredNames.{key_name_at, value_name_at}
use Rattle.hive_model.specs.KeyNode.{KeyNode, is_narrow_key, key_node_in, key_node_at}
use Rattle.hive_model.specs.KeyValue.{KeyValue, is_narrow_value, is_overfull, key_value_in, key_value_at}
use Rattle.hive_model.proofs.Spelling.{key_node_is, key_value_is}
use Rattle.edited_cells.specs.Revalues.{SaysTheSame}
use Rattle.edited_cells.specs.Written.{with_part, two_numbers, three_numbers, HasNewValues}
use Rattle.edited_cells.proofs.Wellformed.{first_part}

-- ---- ranges

drop_front : (a z : List ℕ) (i : ℕ) → i ≤ length a → drop i (a ++ z) ≡ drop i a ++ z
drop_front a z zero lt = refl
drop_front [] z (suc i) lt = absurd (omega (arith, lt))
drop_front (x ∷ a) z (suc i) lt = drop_front a z i (omega (arith, lt))

take_front : (a z : List ℕ) (n : ℕ) → n ≤ length a → take n (a ++ z) ≡ take n a
take_front a z zero lt = refl
take_front [] z (suc n) lt = absurd (omega (arith, lt))
take_front (x ∷ a) z (suc n) lt = ap (λ (l : List ℕ). x ∷ l) (take_front a z n (omega (arith, lt)))

drop_behind : (a z : List ℕ) (i : ℕ) → drop (length a + i) (a ++ z) ≡ drop i z
drop_behind [] z i = ap (λ (n : ℕ). drop n z) (omega arith)
drop_behind (x ∷ a) z i =
    let e : length (x ∷ a) + i ≡ suc (length a + i) = omega arith in
    ap (λ (n : ℕ). drop n (x ∷ (a ++ z))) e ∙ drop_behind a z i

range_front : (a z : List ℕ) (i n : ℕ) → i + n ≤ length a → slice_range (a ++ z) i (i + n) ≡ slice_range a i (i + n)
range_front a z i n lt =
    let m : i + n - i ≡ n = omega arith in
    ap (λ (k : ℕ). take k (drop i (a ++ z))) m ∙ ap (take n) (drop_front a z i (omega (arith, lt)))
    ∙ take_front (drop i a) z n (omega (arith, lt, length-drop i a)) ∙ ap (λ (k : ℕ). take k (drop i a)) (sym m)

range_behind : (a z : List ℕ) (i n : ℕ)
    → slice_range (a ++ z) (length a + i) (length a + i + n) ≡ slice_range z i (i + n)
range_behind a z i n =
    let m : length a + i + n - (length a + i) ≡ n = omega arith in let k : i + n - i ≡ n = omega arith in
    ap (λ (q : ℕ). take q (drop (length a + i) (a ++ z))) m ∙ ap (take n) (drop_behind a z i)
    ∙ ap (λ (q : ℕ). take q (drop i z)) (sym k)

-- one payload is another but for the bytes from a place to a place
pub record IsPatchOf (from to : ℕ) (p q : List ℕ) : Type 0 where
  pub length_same : length q ≡ length p
  pub before : (i n : ℕ) → i + n ≤ from → slice_range q i (i + n) ≡ slice_range p i (i + n)
  pub behind : (i n : ℕ) → to ≤ i → slice_range q i (i + n) ≡ slice_range p i (i + n)

whole_at : (n : ℕ) (p : List ℕ) → take n p ++ drop n p ≡ p
whole_at n p = take-append-drop n p

pub length_at : (n : ℕ) (p : List ℕ) → n ≤ length p → length (take n p) ≡ n
length_at n p lt = let e = length-take n p in omega (arith, lt, e)

pub part_patches : (from : ℕ) (part p : List ℕ) → from + length part ≤ length p
    → IsPatchOf from (from + length part) p (with_part from part p)
part_patches from part p fits = record { length_same = long; before = front; behind = back }
  where
    first : length (take from p) ≡ from
    first = length_at from p (omega (arith, fits))

    long : length (with_part from part p) ≡ length p
    long =
        omega (
          arith,
          fits,
          first,
          length-append (take from p) (part ++ drop (from + length part) p),
          length-append part (drop (from + length part) p),
          length-drop (from + length part) p,
        )

    front : (i n : ℕ) → i + n ≤ from → slice_range (with_part from part p) i (i + n) ≡ slice_range p i (i + n)
    front i n lt =
        range_front (take from p) (part ++ drop (from + length part) p) i n (omega (arith, lt, first))
        ∙ sym (range_front (take from p) (drop from p) i n (omega (arith, lt, first)))
        ∙ ap (λ (l : List ℕ). slice_range l i (i + n)) (whole_at from p)

    back : (i n : ℕ) → from + length part ≤ i
        → slice_range (with_part from part p) i (i + n) ≡ slice_range p i (i + n)
    back i n lt =
        let to = from + length part in
        let k = i - to in
        let second : length (take to p) ≡ to = length_at to p fits in
        let one : length (take from p) + (length part + k) ≡ i = omega (arith, lt, first) in
        let two : length (take to p) + k ≡ i = omega (arith, lt, second) in
        subst (λ (z : ℕ). slice_range (with_part from part p) z (z + n) ≡ slice_range (drop to p) k (k + n)) one
        (range_behind (take from p) (part ++ drop to p) (length part + k) n ∙ range_behind part (drop to p) k n)
        ∙ sym (subst (λ (z : ℕ). slice_range (take to p ++ drop to p) z (z + n) ≡ slice_range (drop to p) k (k + n)) two
        (range_behind (take to p) (drop to p) k n))
        ∙ ap (λ (l : List ℕ). slice_range l i (i + n)) (whole_at to p)

-- what is in the part
pub in_part : (from : ℕ) (part p : List ℕ) (i n : ℕ) → from ≤ length p → i + n ≤ length part
    → slice_range (with_part from part p) (from + i) (from + i + n) ≡ slice_range part i (i + n)
in_part from part p i n fits lt =
    let first : length (take from p) ≡ from = length_at from p fits in
    subst (λ (z : ℕ). slice_range (with_part from part p) (z + i) (z + i + n)
    ≡ slice_range (part ++ drop (from + length part) p) i (i + n)) first
    (range_behind (take from p) (part ++ drop (from + length part) p) i n)
    ∙ range_front part (drop (from + length part) p) i n lt

-- ---- a node

-- what a payload has that reads as a node
pub record IsNodeText (p : List ℕ) (n : KeyNode) : Type 0 where
  pub long : 76 + u16_in p 72 ≤ length p
  pub sign : u16_in p 0 ≡ 0x6b6e
  pub name : key_name_at (is_narrow_key (u16_in p 2)) (slice_range p 76 (76 + u16_in p 72)) ≡ Ok n.name
  pub fields : n ≡ key_node_in p n.name

abbrev done : {A : Type 0} → A → Result A HiveFaultKind
done x = Ok x

one_node : (x y : KeyNode) → done x ≡ done y → x ≡ y
one_node x y e = cc

-- a test that fails leads on, as one that passes does where it has to
past : {A : Type 0} (b : Bool) (k : HiveFaultKind) (r : Result A HiveFaultKind) (x : A) → cond b (Err k) r ≡ Ok x
    → (b ≡ false) × (r ≡ Ok x)
past true k r x e = absurd cc
past false k r x e = (refl, e)

then_on : {A : Type 0} (b : Bool) (k : HiveFaultKind) (r : Result A HiveFaultKind) (x : A) → cond b r (Err k) ≡ Ok x
    → (b ≡ true) × (r ≡ Ok x)
then_on true k r x e = (refl, e)
then_on false k r x e = absurd cc

-- the name that a node has, and its fields
abbrev named_node : List ℕ → Result KeyNode HiveFaultKind
named_node p =
    key_name_at (is_narrow_key (u16_in p 2)) (slice_range p 76 (76 + u16_in p 72)) >>= λ name. Ok (key_node_in p name)

abbrev long_node : List ℕ → Result KeyNode HiveFaultKind
long_node p = if nat_lt (length p) (76 + u16_in p 72) then Err FormShort else named_node p

abbrev signed_node : List ℕ → Result KeyNode HiveFaultKind
signed_node p = if nat_lt (length p) 76 then Err FormShort else long_node p

pub node_text : (p : List ℕ) (n : KeyNode) → key_node_at p ≡ Ok n → IsNodeText p n
unfolding key_node_at
node_text p n e =
    let a = past (nat_lt (length p) 2) FormShort (if u16_in p 0 == 0x6b6e then signed_node p else Err FormSign) n e in
    let b = then_on (u16_in p 0 == 0x6b6e) FormSign (signed_node p) n a.1 in
    let d = past (nat_lt (length p) 76) FormShort (long_node p) n b.1 in
    let f = past (nat_lt (length p) (76 + u16_in p 72)) FormShort (named_node p) n d.1 in
    let g = first_part (key_name_at (is_narrow_key (u16_in p 2)) (slice_range p 76 (76 + u16_in p 72)))
    (λ name. Ok (key_node_in p name)) n f.1 in
    let same : key_node_in p g.0 ≡ n = one_node (key_node_in p g.0) n g.2 in
    let name : g.0 ≡ n.name = ap (λ (m : KeyNode). m.name) same in
    record {
      long = ltb-false (length p) (76 + u16_in p 72) f.0;
      sign = eqb-true (u16_in p 0) 0x6b6e b.0;
      name = g.1 ∙ ap (λ (m : List ℕ). done m) name;
      fields = sym same ∙ ap (key_node_in p) name;
    }

-- a node with a part between its parent and its name rewritten is read with the new fields
pub node_patched : (from to : ℕ) (p q : List ℕ) (n : KeyNode) → key_node_at p ≡ Ok n → IsPatchOf from to p q
    → 20 ≤ from → to ≤ 72 → key_node_at q ≡ Ok (key_node_in q n.name)
node_patched from to p q n e patch low high =
    let t = node_text p n e in
    let size : u16_in q 72 ≡ u16_in p 72 = ap (from_le_bytes w16) (patch.behind 72 2 high) in
    let flags : u16_in q 2 ≡ u16_in p 2 = ap (from_le_bytes w16) (patch.before 2 2 (omega (arith, low))) in
    let bytes : slice_range q 76 (76 + u16_in q 72) ≡ slice_range p 76 (76 + u16_in p 72) =
    patch.behind 76 (u16_in q 72) (omega (arith, high)) ∙ ap (λ (k : ℕ). slice_range p 76 (76 + k)) size in
    key_node_is q n.name (let l = t.long in let s = patch.length_same in omega (arith, l, s, size))
    (ap (from_le_bytes w16) (patch.before 0 2 (omega (arith, low))) ∙ t.sign)
    (ap (λ (f : ℕ). key_name_at (is_narrow_key f) (slice_range q 76 (76 + u16_in q 72))) flags
    ∙ ap (key_name_at (is_narrow_key (u16_in p 2))) bytes ∙ t.name)

-- where the part is that of the count and the list of values, the node says the same of all else
part_says : (p q : List ℕ) (n : KeyNode) → key_node_at p ≡ Ok n → IsPatchOf 36 44 p q
    → SaysTheSame n (key_node_in q n.name)
part_says p q n e patch = record {
  name = refl;
  flags = ap (from_le_bytes w16) (patch.before 2 2 (omega arith)) ∙ sym (ap (λ (m : KeyNode). m.flags) fields);
  stamp = ap (from_le_bytes w64) (patch.before 4 8 (omega arith)) ∙ sym (ap (λ (m : KeyNode). m.stamp) fields);
  parent = ap (from_le_bytes w32) (patch.before 16 4 (omega arith)) ∙ sym (ap (λ (m : KeyNode). m.parent) fields);
  child_count = ap (from_le_bytes w32) (patch.before 20 4 (omega arith))
      ∙ sym (ap (λ (m : KeyNode). m.child_count) fields);
  volatile_count = ap (from_le_bytes w32) (patch.before 24 4 (omega arith))
      ∙ sym (ap (λ (m : KeyNode). m.volatile_count) fields);
  child_list = ap (from_le_bytes w32) (patch.before 28 4 (omega arith))
      ∙ sym (ap (λ (m : KeyNode). m.child_list) fields);
  volatile_list = ap (from_le_bytes w32) (patch.before 32 4 (omega arith))
      ∙ sym (ap (λ (m : KeyNode). m.volatile_list) fields);
  security = ap (from_le_bytes w32) (patch.behind 44 4 (omega arith)) ∙ sym (ap (λ (m : KeyNode). m.security) fields);
  class = ap (from_le_bytes w32) (patch.behind 48 4 (omega arith)) ∙ sym (ap (λ (m : KeyNode). m.class) fields);
  class_length = ap (from_le_bytes w16) (patch.behind 74 2 (omega arith))
      ∙ sym (ap (λ (m : KeyNode). m.class_length) fields);
}
  where
    fields : n ≡ key_node_in p n.name
    fields = (node_text p n e).fields

-- ---- numbers

-- the first and the second of two numbers that were written
pub first_of_two : (from a b : ℕ) (p : List ℕ) → from ≤ length p → a < 2 ^ 32
    → u32_in (with_part from (two_numbers a b) p) (from + 0) ≡ a
first_of_two from a b p fits lt =
    ap (from_le_bytes w32) (in_part from (two_numbers a b) p 0 4 fits (omega arith)) ∙ from_le_bytes-to_le_bytes_4 a lt

pub second_of_two : (from a b : ℕ) (p : List ℕ) → from ≤ length p → b < 2 ^ 32
    → u32_in (with_part from (two_numbers a b) p) (from + 4) ≡ b
second_of_two from a b p fits lt =
    ap (from_le_bytes w32) (in_part from (two_numbers a b) p 4 4 fits (omega arith)) ∙ from_le_bytes-to_le_bytes_4 b lt

-- a node's count and list of values are rewritten
pub values_written : (p : List ℕ) (n : KeyNode) (count list : ℕ) → key_node_at p ≡ Ok n → count < 2 ^ 32
    → list < 2 ^ 32 → HasNewValues (with_part 36 (two_numbers count list) p) n count list
values_written p n count list e c l =
    let t = (node_text p n e).long in
    let patch : IsPatchOf 36 44 p (with_part 36 (two_numbers count list) p) =
    part_patches 36 (two_numbers count list) p (omega (arith, t)) in
    record {
      new = key_node_in (with_part 36 (two_numbers count list) p) n.name;
      read = node_patched 36 44 p (with_part 36 (two_numbers count list) p) n e patch (omega arith) (omega arith);
      same = part_says p (with_part 36 (two_numbers count list) p) n e patch;
      count_is = first_of_two 36 count list p (omega (arith, t)) c;
      list_is = second_of_two 36 count list p (omega (arith, t)) l;
    }

-- ---- a value

-- what a payload has that reads as a value
pub record IsValueText (p : List ℕ) (v : KeyValue) : Type 0 where
  pub long : 20 + u16_in p 2 ≤ length p
  pub sign : u16_in p 0 ≡ 0x6b76
  pub fits : is_overfull (u32_in p 4) ≡ false
  pub name : value_name_at (is_narrow_value (u16_in p 16)) (slice_range p 20 (20 + u16_in p 2)) ≡ Ok v.name
  pub fields : v ≡ key_value_in p v.name

one_value : (x y : KeyValue) → done x ≡ done y → x ≡ y
one_value x y e = cc

abbrev named_value : List ℕ → Result KeyValue HiveFaultKind
named_value p =
    value_name_at (is_narrow_value (u16_in p 16)) (slice_range p 20 (20 + u16_in p 2)) >>= λ name. Ok
    (key_value_in p name)

abbrev sized_value : List ℕ → Result KeyValue HiveFaultKind
sized_value p = if is_overfull (u32_in p 4) then Err FormLength else named_value p

abbrev long_value : List ℕ → Result KeyValue HiveFaultKind
long_value p = if nat_lt (length p) (20 + u16_in p 2) then Err FormShort else sized_value p

abbrev signed_value : List ℕ → Result KeyValue HiveFaultKind
signed_value p = if nat_lt (length p) 20 then Err FormShort else long_value p

pub value_text : (p : List ℕ) (v : KeyValue) → key_value_at p ≡ Ok v → IsValueText p v
unfolding key_value_at
value_text p v e =
    let a = past (nat_lt (length p) 2) FormShort (if u16_in p 0 == 0x6b76 then signed_value p else Err FormSign) v e in
    let b = then_on (u16_in p 0 == 0x6b76) FormSign (signed_value p) v a.1 in
    let d = past (nat_lt (length p) 20) FormShort (long_value p) v b.1 in
    let f = past (nat_lt (length p) (20 + u16_in p 2)) FormShort (sized_value p) v d.1 in
    let h = past (is_overfull (u32_in p 4)) FormLength (named_value p) v f.1 in
    let g = first_part (value_name_at (is_narrow_value (u16_in p 16)) (slice_range p 20 (20 + u16_in p 2)))
    (λ name. Ok (key_value_in p name)) v h.1 in
    let same : key_value_in p g.0 ≡ v = one_value (key_value_in p g.0) v g.2 in
    let name : g.0 ≡ v.name = ap (λ (m : KeyValue). m.name) same in
    record {
      long = ltb-false (length p) (20 + u16_in p 2) f.0;
      sign = eqb-true (u16_in p 0) 0x6b76 b.0;
      fits = h.0;
      name = g.1 ∙ ap (λ (m : List ℕ). done m) name;
      fields = sym same ∙ ap (key_value_in p) name;
    }

-- a value with its size, place and type rewritten is read with these and its name
pub value_patched : (p q : List ℕ) (v : KeyValue) → key_value_at p ≡ Ok v → IsPatchOf 4 16 p q
    → is_overfull (u32_in q 4) ≡ false → key_value_at q ≡ Ok (key_value_in q v.name)
value_patched p q v e patch fits =
    let t = value_text p v e in
    let size : u16_in q 2 ≡ u16_in p 2 = ap (from_le_bytes w16) (patch.before 2 2 (omega arith)) in
    let flags : u16_in q 16 ≡ u16_in p 16 = ap (from_le_bytes w16) (patch.behind 16 2 (omega arith)) in
    let bytes : slice_range q 20 (20 + u16_in q 2) ≡ slice_range p 20 (20 + u16_in p 2) =
    patch.behind 20 (u16_in q 2) (omega arith) ∙ ap (λ (k : ℕ). slice_range p 20 (20 + k)) size in
    key_value_is q v.name (let l = t.long in let s = patch.length_same in omega (arith, l, s, size))
    (ap (from_le_bytes w16) (patch.before 0 2 (omega arith)) ∙ t.sign) fits
    (ap (λ (f : ℕ). value_name_at (is_narrow_value f) (slice_range q 20 (20 + u16_in q 2))) flags
    ∙ ap (value_name_at (is_narrow_value (u16_in p 16))) bytes ∙ t.name)

-- the three numbers of a value that are rewritten
pub value_written : (p : List ℕ) (v : KeyValue) (size offset kind : ℕ) → key_value_at p ≡ Ok v → size < 2 ^ 32
    → offset < 2 ^ 32 → kind < 2 ^ 32 → is_overfull size ≡ false
    → key_value_at (with_part 4 (three_numbers size offset kind) p)
    ≡ Ok (record v { size = size; offset = offset; kind = kind })
value_written p v size offset kind e s o k fits =
    value_patched p q v e patch (subst (λ (n : ℕ). is_overfull n ≡ false) (sym size_is) fits) ∙ (λ i. Ok (fields i))
  where
    q : List ℕ
    q = with_part 4 (three_numbers size offset kind) p

    long : 20 + u16_in p 2 ≤ length p
    long = (value_text p v e).long

    patch : IsPatchOf 4 16 p (with_part 4 (three_numbers size offset kind) p)
    patch = part_patches 4 (three_numbers size offset kind) p (omega (arith, long))

    size_is : u32_in (with_part 4 (three_numbers size offset kind) p) 4 ≡ size
    size_is =
        ap (from_le_bytes w32) (in_part 4 (three_numbers size offset kind) p 0 4 (omega (arith, long)) (omega arith))
        ∙ from_le_bytes-to_le_bytes_4 size s

    offset_is : u32_in (with_part 4 (three_numbers size offset kind) p) 8 ≡ offset
    offset_is =
        ap (from_le_bytes w32) (in_part 4 (three_numbers size offset kind) p 4 4 (omega (arith, long)) (omega arith))
        ∙ from_le_bytes-to_le_bytes_4 offset o

    kind_is : u32_in (with_part 4 (three_numbers size offset kind) p) 12 ≡ kind
    kind_is =
        ap (from_le_bytes w32) (in_part 4 (three_numbers size offset kind) p 8 4 (omega (arith, long)) (omega arith))
        ∙ from_le_bytes-to_le_bytes_4 kind k

    flags_is : u16_in (with_part 4 (three_numbers size offset kind) p) 16 ≡ v.flags
    flags_is =
        ap (from_le_bytes w16) (patch.behind 16 2 (omega arith))
        ∙ sym (ap (λ (m : KeyValue). m.flags) (value_text p v e).fields)

    fields : key_value_in (with_part 4 (three_numbers size offset kind) p) v.name
        ≡ record v { size = size; offset = offset; kind = kind }
    fields i = record { size = size_is i; offset = offset_is i; kind = kind_is i; flags = flags_is i; name = v.name }
