-- What is spelled in a cell is read, whatever fills the cell after it.
use Rattle.std.proofs.Common.{◌≡◌, ◌≤◌, ◌<◌, ℕ, suc, ◌+◌, ◌*◌, ◌-◌, ◌^◌, ◌%◌, Bool, true, false, ltb, eqb, List, [], ◌∷◌, ◌++◌, length, get_or, drop, Ok, refl, sym, ◌∙◌, subst, arith}
use Rattle.std.specs.Prelude.{slice_range, slice_index}
use Rattle.std.specs.List.{list_any}
use Rattle.std.proofs.lemmas.Bool.{le-ltb}
use Rattle.std.proofs.lemmas.List.{length-append, take_at}
use Rattle.std.proofs.lemmas.Nat.{from_le_bytes-to_le_bytes_2, from_le_bytes-to_le_bytes_4, from_le_bytes-to_le_bytes_8}
use Rattle.std.specs.Int.{w16, to_le_bytes}
use Rattle.nt_bytes.specs.Fields.{u16_in, u32_in}
use Rattle.nt_bytes.specs.Text.{wide_of}
use Rattle.hive_model.specs.Forms.{bytes_in}
use Rattle.hive_model.specs.StoredNames.{wide_text, stored_name, name_text, has_half_unit, UnitsFit, key_name_at, value_name_at}
use Rattle.hive_model.specs.KeyNode.{KeyNode, is_narrow_key, key_node_in, key_node_at, key_node_text, IsKeyNode}
use Rattle.hive_model.specs.KeyValue.{KeyValue, is_narrow_value, is_overfull, key_value_in, key_value_at, key_value_text, IsKeyValue}
use Rattle.hive_model.specs.BigData.{BigData, big_data_in, big_data_at, big_data_text, IsBigData}
use Rattle.hive_model.specs.Security.{SecurityCell, security_at, security_text, IsSecurityCell}
use Rattle.hive_model.specs.Lists.{Li, Lf, Lh, Ri, ListKind, numbers_in, list_of, list_at, offsets_text, entries_text, AreOffsets, AreHints, li_text, lf_text, lh_text, ri_text, offsets_in}

-- a range of what a payload begins with
pub in_range : (p a slack : List ℕ) (n : ℕ) → drop n p ≡ a ++ slack → slice_range p n (n + length a) ≡ a
in_range p a slack n e =
    let l : n + length a - n ≡ length a = omega arith in
    rw (e, l, take_at a slack (length a) refl) refl

-- ---- names

unit_again : (u : ℕ) → u < 65536 → get_or (to_le_bytes w16 u) 0 0 + 256 * get_or (to_le_bytes w16 u) 1 0 ≡ u
unit_again u lt = omega arith

pub wide_again : (name : List ℕ) → ((k : ℕ) → slice_index name k < 65536) → wide_of (wide_text name) ≡ name
wide_again [] f = refl
wide_again (u ∷ us) f = λ j. unit_again u (f 0) j ∷ wide_again us (λ k. f (suc k)) j

pub length_wide : (name : List ℕ) → length (wide_text name) ≡ 2 * length name
length_wide [] = refl
length_wide (u ∷ us) = omega (arith, length_wide us)

pub name_again : (narrow : Bool) (name : List ℕ) → UnitsFit narrow name
    → stored_name narrow (name_text narrow name) ≡ name
name_again true name f = refl
name_again false name f = wide_again name f

no_half : (narrow : Bool) (name : List ℕ) → has_half_unit narrow (name_text narrow name) ≡ false
no_half true name = refl
no_half false name =
    let e : length (wide_text name) % 2 ≡ 0 = omega (arith, length_wide name) in
    rw e refl

pub length_name : (narrow : Bool) (name : List ℕ) → length (name_text narrow name) ≤ 2 * length name
length_name true name = omega arith
length_name false name = omega (arith, length_wide name)

pub key_name_again : (narrow : Bool) (name : List ℕ) → UnitsFit narrow name → length name ≤ 255
    → list_any (λ u. eqb u 0x5c) name ≡ false → key_name_at narrow (name_text narrow name) ≡ Ok name
unfolding key_name_at
key_name_again narrow name f short clean =
    let a : ltb 255 (length name) ≡ false = le-ltb _ _ (omega arith) in
    rw (no_half narrow name, name_again narrow name f, a, clean) refl

pub value_name_again : (narrow : Bool) (name : List ℕ) → UnitsFit narrow name → length name ≤ 16383
    → value_name_at narrow (name_text narrow name) ≡ Ok name
unfolding value_name_at
value_name_again narrow name f short =
    let a : ltb 16383 (length name) ≡ false = le-ltb _ _ (omega arith) in
    rw (no_half narrow name, name_again narrow name f, a) refl

-- ---- key nodes

-- a payload that is long enough, with its signature and a good name
pub key_node_is : (p name : List ℕ) → 76 + u16_in p 72 ≤ length p → u16_in p 0 ≡ 0x6b6e
    → key_name_at (is_narrow_key (u16_in p 2)) (slice_range p 76 (76 + u16_in p 72)) ≡ Ok name
    → key_node_at p ≡ Ok (key_node_in p name)
unfolding key_node_at
key_node_is p name long sign is =
    let a : ltb (length p) 2 ≡ false = le-ltb _ _ (omega arith) in
    let b : ltb (length p) 76 ≡ false = le-ltb _ _ (omega arith) in
    let d : ltb (length p) (76 + u16_in p 72) ≡ false = le-ltb _ _ (omega arith) in
    rw (a, sign, b, d, is) refl

-- its name is the one that these bytes store
key_node_named : (p bytes slack name : List ℕ) (flags : ℕ) → drop 76 p ≡ bytes ++ slack
    → length p ≡ 76 + length (bytes ++ slack) → u16_in p 0 ≡ 0x6b6e → u16_in p 2 ≡ flags → u16_in p 72 ≡ length bytes
    → key_name_at (is_narrow_key flags) bytes ≡ Ok name → key_node_at p ≡ Ok (key_node_in p name)
key_node_named p bytes slack name flags rest long sign flags_is size is =
    key_node_is p name (omega (arith, size, long, length-append bytes slack)) sign
    (rw (flags_is, size, in_range p bytes slack 76 rest) is)

pub key_node_again : (n : KeyNode) (slack : List ℕ) → IsKeyNode n → key_node_at (key_node_text n ++ slack) ≡ Ok n
unfolding key_node_text
key_node_again n slack f =
    let bytes = name_text (is_narrow_key n.flags) n.name in
    let short : length bytes < 2 ^ 16 = omega (arith, length_name (is_narrow_key n.flags) n.name, f.name) in
    key_node_named (key_node_text n ++ slack) bytes slack n.name n.flags refl (omega arith) refl
    (from_le_bytes-to_le_bytes_2 n.flags f.flags) (from_le_bytes-to_le_bytes_2 (length bytes) short)
    (key_name_again (is_narrow_key n.flags) n.name f.units f.name f.no_backslash)
    ∙ λ j. Ok (record {
      flags = from_le_bytes-to_le_bytes_2 n.flags f.flags j;
      stamp = from_le_bytes-to_le_bytes_8 n.stamp f.stamp j;
      parent = from_le_bytes-to_le_bytes_4 n.parent f.parent j;
      child_count = from_le_bytes-to_le_bytes_4 n.child_count f.child_count j;
      volatile_count = from_le_bytes-to_le_bytes_4 n.volatile_count f.volatile_count j;
      child_list = from_le_bytes-to_le_bytes_4 n.child_list f.child_list j;
      volatile_list = from_le_bytes-to_le_bytes_4 n.volatile_list f.volatile_list j;
      value_count = from_le_bytes-to_le_bytes_4 n.value_count f.value_count j;
      value_list = from_le_bytes-to_le_bytes_4 n.value_list f.value_list j;
      security = from_le_bytes-to_le_bytes_4 n.security f.security j;
      class = from_le_bytes-to_le_bytes_4 n.class f.class j;
      greatest_child_name = from_le_bytes-to_le_bytes_4 n.greatest_child_name f.greatest_child_name j;
      greatest_child_class = from_le_bytes-to_le_bytes_4 n.greatest_child_class f.greatest_child_class j;
      greatest_value_name = from_le_bytes-to_le_bytes_4 n.greatest_value_name f.greatest_value_name j;
      greatest_value_size = from_le_bytes-to_le_bytes_4 n.greatest_value_size f.greatest_value_size j;
      class_length = from_le_bytes-to_le_bytes_2 n.class_length f.class_length j;
      name = n.name;
    })

-- ---- values

pub key_value_is : (p name : List ℕ) → 20 + u16_in p 2 ≤ length p → u16_in p 0 ≡ 0x6b76
    → is_overfull (u32_in p 4) ≡ false
    → value_name_at (is_narrow_value (u16_in p 16)) (slice_range p 20 (20 + u16_in p 2)) ≡ Ok name
    → key_value_at p ≡ Ok (key_value_in p name)
unfolding key_value_at
key_value_is p name long sign fits is =
    let a : ltb (length p) 2 ≡ false = le-ltb _ _ (omega arith) in
    let b : ltb (length p) 20 ≡ false = le-ltb _ _ (omega arith) in
    let d : ltb (length p) (20 + u16_in p 2) ≡ false = le-ltb _ _ (omega arith) in
    rw (a, sign, b, d, fits, is) refl

key_value_named : (p bytes slack name : List ℕ) (size flags : ℕ) → drop 20 p ≡ bytes ++ slack
    → length p ≡ 20 + length (bytes ++ slack) → u16_in p 0 ≡ 0x6b76 → u32_in p 4 ≡ size → is_overfull size ≡ false
    → u16_in p 16 ≡ flags
    → u16_in p 2 ≡ length bytes → value_name_at (is_narrow_value flags) bytes ≡ Ok name
    → key_value_at p ≡ Ok (key_value_in p name)
key_value_named p bytes slack name size flags rest long sign size_is fits flags_is is_length is =
    key_value_is p name (omega (arith, is_length, long, length-append bytes slack)) sign (rw size_is fits)
    (rw (flags_is, is_length, in_range p bytes slack 20 rest) is)

pub key_value_again : (v : KeyValue) (slack : List ℕ) → IsKeyValue v → key_value_at (key_value_text v ++ slack) ≡ Ok v
unfolding key_value_text
key_value_again v slack f =
    let bytes = name_text (is_narrow_value v.flags) v.name in
    let short : length bytes < 2 ^ 16 = omega (arith, length_name (is_narrow_value v.flags) v.name, f.name) in
    key_value_named (key_value_text v ++ slack) bytes slack v.name v.size v.flags refl (omega arith) refl
    (from_le_bytes-to_le_bytes_4 v.size f.size) f.in_place (from_le_bytes-to_le_bytes_2 v.flags f.flags)
    (from_le_bytes-to_le_bytes_2 (length bytes) short)
    (value_name_again (is_narrow_value v.flags) v.name f.units f.name)
    ∙ λ j. Ok (record {
      size = from_le_bytes-to_le_bytes_4 v.size f.size j;
      offset = from_le_bytes-to_le_bytes_4 v.offset f.offset j;
      kind = from_le_bytes-to_le_bytes_4 v.kind f.kind j;
      flags = from_le_bytes-to_le_bytes_2 v.flags f.flags j;
      name = v.name;
    })

pub bytes_again : (a slack : List ℕ) → bytes_in (length a) (a ++ slack) ≡ Ok a
unfolding bytes_in
bytes_again a slack =
    let l : ltb (length (a ++ slack)) (length a) ≡ false = le-ltb _ _ (omega (arith, length-append a slack)) in
    rw (l, take_at a slack (length a) refl) refl

-- ---- security

security_is : (p s slack : List ℕ) → drop 20 p ≡ s ++ slack → length p ≡ 20 + length (s ++ slack) → u16_in p 0 ≡ 0x6b73
    → u32_in p 16 ≡ length s
    → security_at p ≡ Ok (record { forward = u32_in p 4; backward = u32_in p 8; uses = u32_in p 12; descriptor = s })
unfolding security_at
security_is p s slack rest long sign size =
    let l = length-append s slack in
    let a : ltb (length p) 2 ≡ false = le-ltb _ _ (omega arith) in
    let b : ltb (length p) 20 ≡ false = le-ltb _ _ (omega arith) in
    let d : ltb (length p) (20 + length s) ≡ false = le-ltb _ _ (omega arith) in
    rw (a, sign, b, size, d, in_range p s slack 20 rest) refl

pub security_again : (s : SecurityCell) (slack : List ℕ) → IsSecurityCell s
    → security_at (security_text s ++ slack) ≡ Ok s
unfolding security_text
security_again s slack f =
    security_is (security_text s ++ slack) s.descriptor slack refl (omega arith) refl
    (from_le_bytes-to_le_bytes_4 (length s.descriptor) f.descriptor)
    ∙ λ j. Ok (record {
      forward = from_le_bytes-to_le_bytes_4 s.forward f.forward j;
      backward = from_le_bytes-to_le_bytes_4 s.backward f.backward j;
      uses = from_le_bytes-to_le_bytes_4 s.uses f.uses j;
      descriptor = s.descriptor;
    })

-- ---- lists

pub length_offsets : (os : List ℕ) → length (offsets_text os) ≡ 4 * length os
length_offsets [] = refl
length_offsets (o ∷ os) = omega (arith, length_offsets os)

pub length_entries : (os : List ℕ) (hs : List (List ℕ)) → length os ≡ length hs → AreHints hs
    → length (entries_text os hs) ≡ 8 * length os
length_entries [] hs e f = refl
length_entries (o ∷ os) [] e f = absurd (omega (arith, e))
length_entries (o ∷ os) (h ∷ hs) e f =
    omega (arith, length_entries os hs (omega (arith, e)) f.1, f.0, length-append h (entries_text os hs))

numbers_again : (os slack : List ℕ) → AreOffsets os → numbers_in 4 (length os) (offsets_text os ++ slack) ≡ os
numbers_again [] slack f = refl
numbers_again (o ∷ os) slack f = λ j. from_le_bytes-to_le_bytes_4 o f.0 j ∷ numbers_again os slack f.1 j

four : (xs : List ℕ) → length xs ≡ 4 → xs ≡ get_or xs 0 0 ∷ get_or xs 1 0 ∷ get_or xs 2 0 ∷ get_or xs 3 0 ∷ []
four [] h = absurd (omega arith)
four (a ∷ []) h = absurd (omega arith)
four (a ∷ b ∷ []) h = absurd (omega arith)
four (a ∷ b ∷ c ∷ []) h = absurd (omega arith)
four (a ∷ b ∷ c ∷ d ∷ []) h = refl
four (a ∷ b ∷ c ∷ d ∷ e ∷ xs) h = absurd (omega arith)

entries_again : (os : List ℕ) (hs : List (List ℕ)) (slack : List ℕ) → length os ≡ length hs → AreOffsets os
    → AreHints hs → numbers_in 8 (length os) (entries_text os hs ++ slack) ≡ os
entries_again [] hs slack e f g = refl
entries_again (o ∷ os) [] slack e f g = absurd (omega (arith, e))
entries_again (o ∷ os) (h ∷ hs) slack e f g =
    subst (λ (x : List ℕ). numbers_in 8 (length (o ∷ os)) (entries_text (o ∷ os) (x ∷ hs) ++ slack) ≡ o ∷ os)
    (sym (four h g.0))
    (λ j. from_le_bytes-to_le_bytes_4 o f.0 j ∷ entries_again os hs slack (omega (arith, e)) f.1 g.1 j)

pub offsets_again : (os slack : List ℕ) → AreOffsets os → offsets_in (length os) (offsets_text os ++ slack) ≡ Ok os
unfolding offsets_in
offsets_again os slack f =
    let l : ltb (length (offsets_text os ++ slack)) (4 * length os) ≡ false =
    le-ltb _ _ (omega (arith, length-append (offsets_text os) slack, length_offsets os)) in
    rw (l, numbers_again os slack f) refl

list_of_is : (kind : ListKind) (step : ℕ) (p os : List ℕ) → 4 + step * length os ≤ length p → u16_in p 2 ≡ length os
    → numbers_in step (length os) (drop 4 p) ≡ os → list_of kind step p ≡ Ok (record { kind = kind; offsets = os })
unfolding list_of
list_of_is kind step p os long count is =
    let a : ltb (length p) 4 ≡ false = le-ltb _ _ (omega arith) in
    let b : ltb (length p) (4 + step * length os) ≡ false = le-ltb _ _ (omega arith) in
    rw (a, count, b, is) refl

list_is_li : (p : List ℕ) → 2 ≤ length p → u16_in p 0 ≡ 0x696c → list_at p ≡ list_of Li 4 p
unfolding list_at
list_is_li p long sign =
    let a : ltb (length p) 2 ≡ false = le-ltb _ _ (omega arith) in
    rw (a, sign) refl

list_is_lf : (p : List ℕ) → 2 ≤ length p → u16_in p 0 ≡ 0x666c → list_at p ≡ list_of Lf 8 p
unfolding list_at
list_is_lf p long sign =
    let a : ltb (length p) 2 ≡ false = le-ltb _ _ (omega arith) in
    rw (a, sign) refl

list_is_lh : (p : List ℕ) → 2 ≤ length p → u16_in p 0 ≡ 0x686c → list_at p ≡ list_of Lh 8 p
unfolding list_at
list_is_lh p long sign =
    let a : ltb (length p) 2 ≡ false = le-ltb _ _ (omega arith) in
    rw (a, sign) refl

list_is_ri : (p : List ℕ) → 2 ≤ length p → u16_in p 0 ≡ 0x6972 → list_at p ≡ list_of Ri 4 p
unfolding list_at
list_is_ri p long sign =
    let a : ltb (length p) 2 ≡ false = le-ltb _ _ (omega arith) in
    rw (a, sign) refl

pub li_again : (os slack : List ℕ) → length os < 2 ^ 16 → AreOffsets os
    → list_at (li_text os ++ slack) ≡ Ok (record { kind = Li; offsets = os })
unfolding li_text
li_again os slack lt f =
    let l = length-append (offsets_text os) slack in
    list_is_li (li_text os ++ slack) (omega arith) refl
    ∙ list_of_is Li 4 (li_text os ++ slack) os (omega (arith, l, length_offsets os))
    (from_le_bytes-to_le_bytes_2 (length os) lt) (numbers_again os slack f)

pub ri_again : (os slack : List ℕ) → length os < 2 ^ 16 → AreOffsets os
    → list_at (ri_text os ++ slack) ≡ Ok (record { kind = Ri; offsets = os })
unfolding ri_text
ri_again os slack lt f =
    let l = length-append (offsets_text os) slack in
    list_is_ri (ri_text os ++ slack) (omega arith) refl
    ∙ list_of_is Ri 4 (ri_text os ++ slack) os (omega (arith, l, length_offsets os))
    (from_le_bytes-to_le_bytes_2 (length os) lt) (numbers_again os slack f)

pub lf_again : (os : List ℕ) (hs : List (List ℕ)) (slack : List ℕ) → length os ≡ length hs → length os < 2 ^ 16
    → AreOffsets os → AreHints hs → list_at (lf_text os hs ++ slack) ≡ Ok (record { kind = Lf; offsets = os })
unfolding lf_text
lf_again os hs slack e lt f g =
    let l = length-append (entries_text os hs) slack in
    list_is_lf (lf_text os hs ++ slack) (omega arith) refl
    ∙ list_of_is Lf 8 (lf_text os hs ++ slack) os (omega (arith, l, length_entries os hs e g))
    (from_le_bytes-to_le_bytes_2 (length os) lt) (entries_again os hs slack e f g)

pub lh_again : (os : List ℕ) (hs : List (List ℕ)) (slack : List ℕ) → length os ≡ length hs → length os < 2 ^ 16
    → AreOffsets os → AreHints hs → list_at (lh_text os hs ++ slack) ≡ Ok (record { kind = Lh; offsets = os })
unfolding lh_text
lh_again os hs slack e lt f g =
    let l = length-append (entries_text os hs) slack in
    list_is_lh (lh_text os hs ++ slack) (omega arith) refl
    ∙ list_of_is Lh 8 (lh_text os hs ++ slack) os (omega (arith, l, length_entries os hs e g))
    (from_le_bytes-to_le_bytes_2 (length os) lt) (entries_again os hs slack e f g)

-- ---- big data

big_data_is : (p : List ℕ) → 8 ≤ length p → u16_in p 0 ≡ 0x6264 → big_data_at p ≡ Ok (big_data_in p)
unfolding big_data_at
big_data_is p long sign =
    let a : ltb (length p) 2 ≡ false = le-ltb _ _ (omega arith) in
    let b : ltb (length p) 8 ≡ false = le-ltb _ _ (omega arith) in
    rw (a, sign, b) refl

pub big_data_again : (big : BigData) (slack : List ℕ) → IsBigData big
    → big_data_at (big_data_text big ++ slack) ≡ Ok big
unfolding big_data_text
big_data_again big slack f =
    big_data_is (big_data_text big ++ slack) (omega arith) refl
    ∙ λ j. Ok (record {
      segments = from_le_bytes-to_le_bytes_2 big.segments f.segments j;
      list = from_le_bytes-to_le_bytes_4 big.list f.list j;
    })

-- ---- lengths

pub length_big_data : (big : BigData) → length (big_data_text big) ≡ 8
unfolding big_data_text
length_big_data big = refl

pub length_key_node : (n : KeyNode) → length (key_node_text n) ≡ 76 + length (name_text (is_narrow_key n.flags) n.name)
unfolding key_node_text
length_key_node n = omega arith

pub length_key_value : (v : KeyValue)
    → length (key_value_text v) ≡ 20 + length (name_text (is_narrow_value v.flags) v.name)
unfolding key_value_text
length_key_value v = omega arith

pub length_security : (s : SecurityCell) → length (security_text s) ≡ 20 + length s.descriptor
unfolding security_text
length_security s = omega arith

pub length_ri : (os : List ℕ) → length (ri_text os) ≡ 4 + 4 * length os
unfolding ri_text
length_ri os = omega (arith, length_offsets os)

pub length_lf : (os : List ℕ) (hs : List (List ℕ)) → length os ≡ length hs → AreHints hs
    → length (lf_text os hs) ≡ 4 + 8 * length os
unfolding lf_text
length_lf os hs e f = omega (arith, length_entries os hs e f)

pub length_lh : (os : List ℕ) (hs : List (List ℕ)) → length os ≡ length hs → AreHints hs
    → length (lh_text os hs) ≡ 4 + 8 * length os
unfolding lh_text
length_lh os hs e f = omega (arith, length_entries os hs e f)
