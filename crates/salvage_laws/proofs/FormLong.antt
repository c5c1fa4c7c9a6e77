-- No form uses more bytes than its cell has.
use Rattle.std.proofs.Common.{◌≡◌, ℕ, ◌+◌, ◌-◌, ◌*◌, ◌/◌, ◌≤◌, min, Bool, true, false, cond, List, [], ◌∷◌, length, take, drop, Result, Ok, Err, subst, ◌∙◌, arith}
use Rattle.std.specs.Prelude.{◌==◌, ◌&&◌, not, nat_lt, slice_range}
use Rattle.std.proofs.lemmas.List.{length-take}
use Rattle.nt_bytes.specs.Fields.{u16_in, u32_in}
use Rattle.nt_bytes.specs.Text.{wide_of}
use Rattle.nt_bytes.specs.declared.fault.HiveFaultKind.{HiveFaultKind}
use Rattle.nt_bytes.specs.declared.fault.HiveFaultKind.TheVariants.{FormShort, FormSign, FormLength, FormName, FormKind}
use Rattle.nt_bytes.specs.Reading.{◌>>=◌}
use Rattle.hive_model.specs.BigData.{BigData, big_data_in, big_data_at}
use Rattle.hive_model.specs.Forms.{bytes_in}
use Rattle.hive_model.specs.KeyNode.{KeyNode, is_narrow_key, key_node_in, key_node_at}
use Rattle.hive_model.specs.KeyValue.{KeyValue, is_narrow_value, is_overfull, key_value_in, key_value_at}
use Rattle.hive_model.specs.Lists.{ListKind, Li, Lf, Lh, Ri, offsets_in, numbers_in}
use Rattle.hive_model.specs.Security.{SecurityCell, security_in, security_at}
use Rattle.hive_model.specs.Size.{segment_count}
use Rattle.hive_model.specs.StoredNames.{stored_name, has_half_unit, is_bad_key_name, is_bad_value_name, key_name_at, value_name_at}
use Rattle.hive_model.specs.Walk.{node_at, big_data_of, is_list_of_lists}
use Rattle.hive_read.proofs.FormFacts.{then-so, unless, ok_same, not-above, offsets-length}
use Rattle.salvage_walk.specs.Parts.{name_bytes, node_long, value_long, security_long, big_long, offsets_long}
use Rattle.salvage_walk.specs.Fronts.{Front, front_of, values_front, kind_front, list_front, leaf_front, kind_or_short}
use Rattle.salvage_laws.proofs.PartViews.{done}

-- what a form uses, with the four bytes of a cell's length, is at most the cell
abbrev pub IsNoLonger : {F : Type 0} → (List ℕ → Result F HiveFaultKind) → (F → ℕ) → Type 0
IsNoLonger {F} form long = (p : List ℕ) (f : F) → form p ≡ Ok f → long f ≤ 4 + length p

only-if : {A : Type 0} (b : Bool) (k : HiveFaultKind) (r : Result A HiveFaultKind) (x : A) → cond b r (Err k) ≡ done x → r ≡ done x
only-if true k r x e = e
only-if false k r x e = absurd cc

-- ---- names

wide-long : (bytes : List ℕ) → 2 * length (wide_of bytes) ≤ length bytes
wide-long [] = omega arith
wide-long (low ∷ []) = omega arith
wide-long (low ∷ high ∷ rest) = omega (arith, wide-long rest)

stored-long : (narrow : Bool) (bytes : List ℕ) → name_bytes narrow (stored_name narrow bytes) ≤ length bytes
stored-long true bytes = omega arith
stored-long false bytes = wide-long bytes

key-name-long : (narrow : Bool) (bytes name : List ℕ) → key_name_at narrow bytes ≡ done name → name_bytes narrow name ≤ length bytes
unfolding key_name_at
key-name-long narrow bytes name e =
    let stored = stored_name narrow bytes in
    let one = unless (has_half_unit narrow bytes) FormLength (cond (is_bad_key_name stored) (Err FormName) (Ok stored)) name e in
    let two = unless (is_bad_key_name stored) FormName (Ok stored) name one.1 in
    subst (λ (n : List ℕ). name_bytes narrow n ≤ length bytes) (ok_same stored name two.1) (stored-long narrow bytes)

value-name-long : (narrow : Bool) (bytes name : List ℕ) → value_name_at narrow bytes ≡ done name → name_bytes narrow name ≤ length bytes
unfolding value_name_at
value-name-long narrow bytes name e =
    let stored = stored_name narrow bytes in
    let one = unless (has_half_unit narrow bytes) FormLength (cond (is_bad_value_name stored) (Err FormName) (Ok stored)) name e in
    let two = unless (is_bad_value_name stored) FormName (Ok stored) name one.1 in
    subst (λ (n : List ℕ). name_bytes narrow n ≤ length bytes) (ok_same stored name two.1) (stored-long narrow bytes)

part-long : (p : List ℕ) (from n : ℕ) → length (slice_range p from (from + n)) ≤ n
part-long p from n = omega (arith, length-take (from + n - from) (drop from p))

-- ---- the forms

key-node-long : IsNoLonger key_node_at node_long
unfolding key_node_at
key-node-long p node e =
    let narrow = is_narrow_key (u16_in p 2) in
    let bytes = slice_range p 76 (76 + u16_in p 72) in
    let named = key_name_at narrow bytes >>= λ name. Ok (key_node_in p name) in
    let sized = cond (nat_lt (length p) 76) (Err FormShort) (cond (nat_lt (length p) (76 + u16_in p 72)) (Err FormShort) named) in
    let one = (unless (nat_lt (length p) 2) FormShort (cond (u16_in p 0 == 0x6b6e) sized (Err FormSign)) node e).1 in
    let two = only-if (u16_in p 0 == 0x6b6e) FormSign sized node one in
    let three = (unless (nat_lt (length p) 76) FormShort (cond (nat_lt (length p) (76 + u16_in p 72)) (Err FormShort) named) node two).1 in
    let four = unless (nat_lt (length p) (76 + u16_in p 72)) FormShort named node three in
    let n = then-so (key_name_at narrow bytes) (λ name. Ok (key_node_in p name)) node four.1 in
    let small = not-above (length p) (76 + u16_in p 72) four.0 in
    subst (λ (x : KeyNode). node_long x ≤ 4 + length p) (ok_same (key_node_in p n.0) node n.2)
    (omega (arith, small, key-name-long narrow bytes n.0 n.1, part-long p 76 (u16_in p 72)))

pub node-long : (root : Bool) → IsNoLonger (node_at root) node_long
unfolding node_at
node-long root p node e =
    let a = then-so (key_node_at p) (λ node. cond ((length node.name == 0) && not root) (Err FormName) (Ok node)) node e in
    let b = unless ((length a.0.name == 0) && not root) FormName (Ok a.0) node a.2 in
    key-node-long p node (a.1 ∙ b.1)

pub value-long : IsNoLonger key_value_at value_long
unfolding key_value_at
value-long p value e =
    let narrow = is_narrow_value (u16_in p 16) in
    let bytes = slice_range p 20 (20 + u16_in p 2) in
    let named = value_name_at narrow bytes >>= λ name. Ok (key_value_in p name) in
    let fitting = cond (is_overfull (u32_in p 4)) (Err FormLength) named in
    let long = cond (nat_lt (length p) (20 + u16_in p 2)) (Err FormShort) fitting in
    let sized = cond (nat_lt (length p) 20) (Err FormShort) long in
    let one = (unless (nat_lt (length p) 2) FormShort (cond (u16_in p 0 == 0x6b76) sized (Err FormSign)) value e).1 in
    let two = only-if (u16_in p 0 == 0x6b76) FormSign sized value one in
    let three = (unless (nat_lt (length p) 20) FormShort long value two).1 in
    let four = unless (nat_lt (length p) (20 + u16_in p 2)) FormShort fitting value three in
    let five = (unless (is_overfull (u32_in p 4)) FormLength named value four.1).1 in
    let n = then-so (value_name_at narrow bytes) (λ name. Ok (key_value_in p name)) value five in
    let small = not-above (length p) (20 + u16_in p 2) four.0 in
    subst (λ (x : KeyValue). value_long x ≤ 4 + length p) (ok_same (key_value_in p n.0) value n.2)
    (omega (arith, small, value-name-long narrow bytes n.0 n.1, part-long p 20 (u16_in p 2)))

pub security-long : IsNoLonger security_at security_long
unfolding security_at
security-long p s e =
    let long = cond (nat_lt (length p) (20 + u32_in p 16)) (Err FormShort) (Ok (security_in p)) in
    let sized = cond (nat_lt (length p) 20) (Err FormShort) long in
    let one = (unless (nat_lt (length p) 2) FormShort (cond (u16_in p 0 == 0x6b73) sized (Err FormSign)) s e).1 in
    let two = only-if (u16_in p 0 == 0x6b73) FormSign sized s one in
    let three = (unless (nat_lt (length p) 20) FormShort long s two).1 in
    let four = unless (nat_lt (length p) (20 + u32_in p 16)) FormShort (Ok (security_in p)) s three in
    let small = not-above (length p) (20 + u32_in p 16) four.0 in
    subst (λ (c : SecurityCell). security_long c ≤ 4 + length p) (ok_same (security_in p) s four.1)
    (omega (arith, small, part-long p 20 (u32_in p 16)))

pub bytes-fit : (n : ℕ) (p b : List ℕ) → bytes_in n p ≡ Ok b → n ≤ length p
unfolding bytes_in
bytes-fit n p b e = not-above (length p) n (unless (nat_lt (length p) n) FormShort (Ok (take n p)) b e).0

pub big-long : (n : ℕ) → IsNoLonger (big_data_of n) big_long
unfolding big_data_of big_data_at
big-long n p big e =
    let read = cond (nat_lt (length p) 8) (Err FormShort) (Ok (big_data_in p)) in
    let a = then-so (cond (nat_lt (length p) 2) (Err FormShort) (cond (u16_in p 0 == 0x6264) read (Err FormSign)))
    (λ (b : BigData). cond (b.segments == segment_count n) (Ok b) (Err FormLength)) big e in
    let one = (unless (nat_lt (length p) 2) FormShort (cond (u16_in p 0 == 0x6264) read (Err FormSign)) a.0 a.1).1 in
    let two = only-if (u16_in p 0 == 0x6264) FormSign read a.0 one in
    let three = unless (nat_lt (length p) 8) FormShort (Ok (big_data_in p)) a.0 two in
    omega (arith, not-above (length p) 8 three.0)

pub offsets-long : (n : ℕ) → IsNoLonger (offsets_in n) offsets_long
unfolding offsets_in
offsets-long n p offsets e =
    let a = unless (nat_lt (length p) (4 * n)) FormShort (Ok (numbers_in 4 n p)) offsets e in
    omega (arith, not-above (length p) (4 * n) a.0, offsets-length n p offsets e)

-- ---- lists

four-fit : (count long : ℕ) → 4 * min count (long / 4) ≤ long
four-fit count long = omega arith

eight-fit : (count long : ℕ) → 8 * min count (long / 8) ≤ long
eight-fit count long = omega arith

front-same : (f g : Front) → done f ≡ done g → f ≡ g
front-same f g e = cc

abbrev pub front_long : Front → ℕ
front_long f = f.long

pub values-front-long : (count : ℕ) → IsNoLonger (values_front count) front_long
unfolding values_front
values-front-long count p f e =
    subst (λ (x : Front). x.long ≤ 4 + length p) (front-same (front_of Li 4 count 0 p) f e)
    (omega (arith, four-fit count (length p - 0)))

kind-front-long : (kind : ListKind) (step : ℕ) → ((count long : ℕ) → step * min count (long / step) ≤ long)
    → IsNoLonger (kind_front kind step) front_long
unfolding kind_front
kind-front-long kind step fit p f e =
    let a = unless (nat_lt (length p) 4) FormShort (Ok (front_of kind step (u16_in p 2) 4 p)) f e in
    subst (λ (x : Front). x.long ≤ 4 + length p) (front-same (front_of kind step (u16_in p 2) 4 p) f a.1)
    (omega (arith, not-above (length p) 4 a.0, fit (u16_in p 2) (length p - 4)))

pub list-front-long : IsNoLonger list_front front_long
unfolding list_front
list-front-long p f e =
    let a = (unless (nat_lt (length p) 2) FormShort _ f e).1 in
    li (u16_in p 0 == 0x696c) a
  where
    ri : (b : Bool) → cond b (kind_front Ri 4 p) (Err FormSign) ≡ done f → f.long ≤ 4 + length p
    ri true e = kind-front-long Ri 4 four-fit p f e
    ri false e = absurd cc

    lh : (b : Bool) → cond b (kind_front Lh 8 p) (cond (u16_in p 0 == 0x6972) (kind_front Ri 4 p) (Err FormSign)) ≡ done f
        → f.long ≤ 4 + length p
    lh true e = kind-front-long Lh 8 eight-fit p f e
    lh false e = ri (u16_in p 0 == 0x6972) e

    lf : (b : Bool) → cond b (kind_front Lf 8 p) (cond (u16_in p 0 == 0x686c) (kind_front Lh 8 p)
        (cond (u16_in p 0 == 0x6972) (kind_front Ri 4 p) (Err FormSign))) ≡ done f → f.long ≤ 4 + length p
    lf true e = kind-front-long Lf 8 eight-fit p f e
    lf false e = lh (u16_in p 0 == 0x686c) e

    li : (b : Bool) → cond b (kind_front Li 4 p) (cond (u16_in p 0 == 0x666c) (kind_front Lf 8 p)
        (cond (u16_in p 0 == 0x686c) (kind_front Lh 8 p) (cond (u16_in p 0 == 0x6972) (kind_front Ri 4 p) (Err FormSign)))) ≡ done f
        → f.long ≤ 4 + length p
    li true e = kind-front-long Li 4 four-fit p f e
    li false e = lf (u16_in p 0 == 0x666c) e

pub leaf-front-long : IsNoLonger leaf_front front_long
unfolding leaf_front
leaf-front-long p f e =
    let a = then-so (list_front p) (λ (f : Front). cond (is_list_of_lists f.kind) (Err (kind_or_short f.short FormKind)) (Ok f)) f e in
    let b = unless (is_list_of_lists a.0.kind) (kind_or_short a.0.short FormKind) (Ok a.0) f a.2 in
    list-front-long p f (a.1 ∙ b.1)
