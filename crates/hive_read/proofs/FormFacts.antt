-- What forms say of lengths and numbers, where payloads are bytes.
use Rattle.std.proofs.Common.{◌≡◌, ℕ, zero, suc, ◌+◌, ◌-◌, ◌*◌, ◌/◌, ◌%◌, ◌<◌, ◌≤◌, Bool, true, false, cond, List, [], ◌∷◌, ◌++◌, length, get_or, take, drop, Option, Some, None, Result, Ok, Err, refl, sym, ap, subst, ◌∙◌, arith}
use Rattle.std.specs.Prelude.{◌==◌, nat_lt, nat_le, slice_range}
use Rattle.std.specs.List.{list_any}
use Rattle.std.specs.Int.{w16, w32, from_le_bytes, to_le_bytes}
use Rattle.std.proofs.lemmas.Bool.Decides.{nat_tests}
use Rattle.std.proofs.lemmas.Bool.{eqb-true, eqb-false, or_parts}
use Rattle.nt_bytes.specs.declared.fault.HiveFaultKind.{HiveFaultKind}
use Rattle.nt_bytes.specs.declared.fault.HiveFaultKind.TheVariants.{FormShort, FormSign, FormLength, FormName}
use Rattle.nt_bytes.specs.Fields.{u16_in, u32_in}
use Rattle.hive_model.specs.Forms.{bytes_in}
use Rattle.hive_model.specs.StoredNames.{stored_name, has_half_unit, is_bad_key_name, is_bad_value_name, key_name_at, value_name_at}
use Rattle.hive_model.specs.KeyNode.{KeyNode, is_narrow_key, key_node_in, key_node_at}
use Rattle.hive_model.specs.KeyValue.{KeyValue, is_in_place, is_overfull, is_narrow_value, key_value_in, key_value_at, data_inside}
use Rattle.hive_model.specs.Security.{SecurityCell, security_in, security_at}
use Rattle.hive_model.specs.Lists.{numbers_in, offsets_in}
use Rattle.nt_bytes.specs.Text.{is_backslash}
use Rattle.nt_bytes.specs.Reading.{◌>>=◌}
use Rattle.hive_model.specs.Stands.{tree_flags}

-- ---- bytes

abbrev pub IsBytes : List ℕ → Type 0
IsBytes p = (i : ℕ) → get_or p i 0 < 256

pub bytes-drop : (n : ℕ) (p : List ℕ) → IsBytes p → IsBytes (drop n p)
bytes-drop zero p h = h
bytes-drop (suc n) [] h = h
bytes-drop (suc n) (x ∷ xs) h = bytes-drop n xs (λ i. h (suc i))

pub bytes-take : (n : ℕ) (p : List ℕ) → IsBytes p → IsBytes (take n p)
bytes-take zero p h i = omega arith
bytes-take (suc n) [] h i = h i
bytes-take (suc n) (x ∷ xs) h zero = h zero
bytes-take (suc n) (x ∷ xs) h (suc i) = bytes-take n xs (λ j. h (suc j)) i

pub bytes-front : (a b : List ℕ) → IsBytes (a ++ b) → IsBytes a
bytes-front [] b h i = omega arith
bytes-front (x ∷ xs) b h zero = h zero
bytes-front (x ∷ xs) b h (suc i) = bytes-front xs b (λ j. h (suc j)) i

pub bytes-back : (a b : List ℕ) → IsBytes (a ++ b) → IsBytes b
bytes-back [] b h = h
bytes-back (x ∷ xs) b h = bytes-back xs b (λ j. h (suc j))

-- numbers that are read from bytes fit in their width
le16 : (xs : List ℕ) → IsBytes xs → from_le_bytes w16 xs < 65536
le16 xs h = omega (arith, h 0, h 1)

le32 : (xs : List ℕ) → IsBytes xs → from_le_bytes w32 xs < 4294967296
le32 xs h = omega (arith, h 0, h 1, h 2, h 3)

u16-small : (p : List ℕ) (at : ℕ) → IsBytes p → u16_in p at < 65536
u16-small p at h = le16 (slice_range p at (at + 2)) (bytes-take (at + 2 - at) (drop at p) (bytes-drop at p h))

u32-small : (p : List ℕ) (at : ℕ) → IsBytes p → u32_in p at < 4294967296
u32-small p at h = le32 (slice_range p at (at + 4)) (bytes-take (at + 4 - at) (drop at p) (bytes-drop at p h))

take-short : (n : ℕ) (xs : List ℕ) → length (take n xs) ≤ n
take-short zero xs = omega arith
take-short (suc n) [] = omega arith
take-short (suc n) (x ∷ xs) = omega (arith, take-short n xs)

-- ---- tests that were passed

abbrev pub done : {A : Type 0} → A → Result A HiveFaultKind
done x = Ok x

-- a test that was passed did not hold, and what followed it was done
pub unless : {A : Type 0} (b : Bool) (k : HiveFaultKind) (r : Result A HiveFaultKind) (x : A)
    → cond b (Err k) r ≡ done x
    → (b ≡ false) × (r ≡ done x)
unless true k r x e = absurd cc
unless false k r x e = (refl, e)

only-if : {A : Type 0} (b : Bool) (k : HiveFaultKind) (r : Result A HiveFaultKind) (x : A) → cond b r (Err k) ≡ done x
    → r ≡ done x
only-if true k r x e = e
only-if false k r x e = absurd cc

-- what was done in two steps was done in each
pub then-so : {A B : Type 0} (r : Result A HiveFaultKind) (f : A → Result B HiveFaultKind) (y : B) → (r >>= f) ≡ done y
    → (x : A) × (r ≡ done x) × (f x ≡ done y)
then-so (Ok x) f y e = (x, refl, e)
then-so (Err k) f y e = absurd cc

-- ---- key nodes

pub ok_same : {A : Type 0} (x y : A) → done x ≡ done y → x ≡ y
ok_same x y e = cc

abbrev some : List ℕ → Option (List ℕ)
some x = Some x

some_same : (x y : List ℕ) → some x ≡ some y → x ≡ y
some_same x y e = cc

pub not-above : (a b : ℕ) → nat_lt a b ≡ false → b ≤ a
not-above a b e = grind (arith, nat_tests)

not-from : (a b : ℕ) → nat_le a b ≡ false → b < a
not-from a b e = grind (arith, nat_tests)

take-within : (n : ℕ) (xs : List ℕ) → length (take n xs) ≤ length xs
take-within zero xs = omega arith
take-within (suc n) [] = omega arith
take-within (suc n) (x ∷ xs) = omega (arith, take-within n xs)

-- what a key's node says of its name and of its counts, before anything that it names is read
pub record NodeFacts (node : KeyNode) : Type 0 where
  pub name : length node.name ≤ 255
  pub no_backslash : list_any is_backslash node.name ≡ false
  pub class : node.class_length < 65536
  pub children : node.child_count < 4294967296
  pub values : node.value_count < 4294967296

-- a key's name that was read has at most 255 units and no backslash, a value's at most 16,383 units
key-name : (narrow : Bool) (bytes name : List ℕ) → key_name_at narrow bytes ≡ done name
    → (length name ≤ 255) × (list_any is_backslash name ≡ false)
unfolding key_name_at
key-name narrow bytes name e =
    let stored = stored_name narrow bytes in
    let one = unless (has_half_unit narrow bytes) FormLength (cond (is_bad_key_name stored) (Err FormName) (Ok stored))
    name e in
    let two = unless (is_bad_key_name stored) FormName (Ok stored) name one.1 in
    let same : stored ≡ name = ok_same stored name two.1 in
    let good = or_parts (nat_lt 255 (length stored)) (list_any is_backslash stored) two.0 in (
      subst (λ (n : List ℕ). length n ≤ 255) same (not-above 255 (length stored) good.0),
      subst (λ (n : List ℕ). list_any is_backslash n ≡ false) same good.1,
    )

value-name : (narrow : Bool) (bytes name : List ℕ) → value_name_at narrow bytes ≡ done name → length name ≤ 16383
unfolding value_name_at
value-name narrow bytes name e =
    let stored = stored_name narrow bytes in
    let one = unless (has_half_unit narrow bytes) FormLength
    (cond (is_bad_value_name stored) (Err FormName) (Ok stored)) name e in
    let two = unless (is_bad_value_name stored) FormName (Ok stored) name one.1 in
    let same : stored ≡ name = ok_same stored name two.1 in
    subst (λ (n : List ℕ). length n ≤ 16383) same (not-above 16383 (length stored) two.0)

pub node-facts : (p : List ℕ) (node : KeyNode) → IsBytes p → key_node_at p ≡ done node → NodeFacts node
unfolding key_node_at
node-facts p node h e =
    let narrow = is_narrow_key (u16_in p 2) in
    let bytes = slice_range p 76 (76 + u16_in p 72) in
    let named = key_name_at narrow bytes >>= λ name. Ok (key_node_in p name) in
    let sized = cond (nat_lt (length p) 76) (Err FormShort)
    (cond (nat_lt (length p) (76 + u16_in p 72)) (Err FormShort) named) in
    let one = (unless (nat_lt (length p) 2) FormShort (cond (u16_in p 0 == 0x6b6e) sized (Err FormSign)) node e).1 in
    let two = only-if (u16_in p 0 == 0x6b6e) FormSign sized node one in
    let three = (unless (nat_lt (length p) 76) FormShort
    (cond (nat_lt (length p) (76 + u16_in p 72)) (Err FormShort) named) node two).1 in
    let four = (unless (nat_lt (length p) (76 + u16_in p 72)) FormShort named node three).1 in
    let n = then-so (key_name_at narrow bytes) (λ name. Ok (key_node_in p name)) node four in
    let same : key_node_in p n.0 ≡ node = ok_same (key_node_in p n.0) node n.2 in
    let good = key-name narrow bytes n.0 n.1 in
    subst NodeFacts same (record {
      name = good.0;
      no_backslash = good.1;
      class = u16-small p 74 h;
      children = u32-small p 20 h;
      values = u32-small p 36 h;
    })

-- ---- values

pub value-facts : (p : List ℕ) (value : KeyValue) → key_value_at p ≡ done value → length value.name ≤ 16383
unfolding key_value_at
value-facts p value e =
    let narrow = is_narrow_value (u16_in p 16) in
    let bytes = slice_range p 20 (20 + u16_in p 2) in
    let named = value_name_at narrow bytes >>= λ name. Ok (key_value_in p name) in
    let fitting = cond (is_overfull (u32_in p 4)) (Err FormLength) named in
    let long = cond (nat_lt (length p) (20 + u16_in p 2)) (Err FormShort) fitting in
    let sized = cond (nat_lt (length p) 20) (Err FormShort) long in
    let one = (unless (nat_lt (length p) 2) FormShort (cond (u16_in p 0 == 0x6b76) sized (Err FormSign)) value e).1 in
    let two = only-if (u16_in p 0 == 0x6b76) FormSign sized value one in
    let three = (unless (nat_lt (length p) 20) FormShort long value two).1 in
    let four = (unless (nat_lt (length p) (20 + u16_in p 2)) FormShort fitting value three).1 in
    let five = (unless (is_overfull (u32_in p 4)) FormLength named value four).1 in
    let n = then-so (value_name_at narrow bytes) (λ name. Ok (key_value_in p name)) value five in
    let same : key_value_in p n.0 ≡ value = ok_same (key_value_in p n.0) value n.2 in
    subst (λ (v : KeyValue). length v.name ≤ 16383) same (value-name narrow bytes n.0 n.1)

-- data that a value holds are four bytes at most
pub held-short : (value : KeyValue) (d : List ℕ) → data_inside value ≡ Some d → length d ≤ 4
held-short value d e = go (is_in_place value.size) (value.size == 0) e
  where
    go : (a b : Bool) → cond a (Some (take (value.size - 2147483648) (to_le_bytes w32 value.offset)))
        (cond b (Some []) None) ≡ Some d → length d ≤ 4
    go true b e =
        let same : take (value.size - 2147483648) (to_le_bytes w32 value.offset) ≡ d = some_same _ d e in
        subst (λ (x : List ℕ). length x ≤ 4) same
        (omega (arith, take-within (value.size - 2147483648) (to_le_bytes w32 value.offset)))
    go false true e = let same : [] ≡ d = some_same [] d e in subst (λ (x : List ℕ). length x ≤ 4) same (omega arith)
    go false false e = absurd cc

-- data in a cell are under 2 ^ 31 bytes
pub celled-small : (value : KeyValue) → data_inside value ≡ None → value.size < 2147483648
celled-small value e = go (is_in_place value.size) refl e
  where
    go : (a : Bool) → is_in_place value.size ≡ a
        → cond a (Some (take (value.size - 2147483648) (to_le_bytes w32 value.offset)))
        (cond (value.size == 0) (Some []) None) ≡ None → value.size < 2147483648
    go true s e = absurd cc
    go false s e = not-from 2147483648 value.size s

pub bytes-in : (n : ℕ) (p b : List ℕ) → bytes_in n p ≡ done b → length b ≤ n
unfolding bytes_in
bytes-in n p b e =
    let t = (unless (nat_lt (length p) n) FormShort (Ok (take n p)) b e).1 in
    subst (λ (x : List ℕ). length x ≤ n) (ok_same (take n p) b t) (take-short n p)

-- ---- security and lists

pub descriptor-small : (p : List ℕ) (s : SecurityCell) → IsBytes p → security_at p ≡ done s
    → length s.descriptor < 4294967296
unfolding security_at
descriptor-small p s h e =
    let long = cond (nat_lt (length p) (20 + u32_in p 16)) (Err FormShort) (Ok (security_in p)) in
    let sized = cond (nat_lt (length p) 20) (Err FormShort) long in
    let one = (unless (nat_lt (length p) 2) FormShort (cond (u16_in p 0 == 0x6b73) sized (Err FormSign)) s e).1 in
    let two = only-if (u16_in p 0 == 0x6b73) FormSign sized s one in
    let three = (unless (nat_lt (length p) 20) FormShort long s two).1 in
    let four = (unless (nat_lt (length p) (20 + u32_in p 16)) FormShort (Ok (security_in p)) s three).1 in
    let same : security_in p ≡ s = ok_same (security_in p) s four in
    let size = u32-small p 16 h in
    let part : length (slice_range p 20 (20 + u32_in p 16)) ≤ 20 + u32_in p 16 - 20 =
    take-short (20 + u32_in p 16 - 20) (drop 20 p) in
    subst (λ (c : SecurityCell). length c.descriptor < 4294967296) same (omega (arith, size, part))

pub numbers-length : (step n : ℕ) (p : List ℕ) → length (numbers_in step n p) ≡ n
numbers-length step zero p = refl
numbers-length step (suc n) p = omega (arith, numbers-length step n (drop step p))

pub offsets-length : (n : ℕ) (p offsets : List ℕ) → offsets_in n p ≡ done offsets → length offsets ≡ n
unfolding offsets_in
offsets-length n p offsets e =
    let t = (unless (nat_lt (length p) (4 * n)) FormShort (Ok (numbers_in 4 n p)) offsets e).1 in
    sym (ap length (ok_same (numbers_in 4 n p) offsets t)) ∙ numbers-length 4 n p

-- ---- flags

-- the flag that shows how the name is stored is no flag of the tree
pub own-flags : (flags : ℕ) → tree_flags flags / 32 % 2 ≡ 0
own-flags flags = go (flags / 32 % 2 == 1) refl
  where
    go : (b : Bool) → (flags / 32 % 2 == 1) ≡ b → cond b (flags - 32) flags / 32 % 2 ≡ 0
    go true e = let one : flags / 32 % 2 ≡ 1 = eqb-true (flags / 32 % 2) 1 e in omega arith
    go false e = let other : flags / 32 % 2 ≡ 1 → ⊥ = eqb-false (flags / 32 % 2) 1 e in omega arith
