-- The parts that are salvaged fit their fields, where payloads are bytes.
use Rattle.std.proofs.Common.{◌≡◌, ℕ, ◌+◌, ◌-◌, ◌/◌, ◌<◌, ◌≤◌, Bool, true, false, cond, List, [], ◌∷◌, ◌++◌, length, length-append, Option, Some, None, Result, Ok, Err, refl, ap, subst, ◌∙◌, arith, min}
use Rattle.std.specs.Prelude.{◌==◌, ◌&&◌, not, nat_lt, drop, slice_range}
use Rattle.std.proofs.lemmas.Bool.Decides.{nat_tests}
use Rattle.std.specs.List.{list_any}
use Rattle.std.specs.Int.{w16, from_le_bytes}
use Rattle.nt_bytes.specs.Fields.{u16_in}
use Rattle.nt_bytes.specs.Folding.{folds_same}
use Rattle.nt_bytes.specs.declared.fault.HiveFault.{HiveFault}
use Rattle.nt_bytes.specs.declared.fault.HiveFaultKind.{HiveFaultKind}
use Rattle.nt_bytes.specs.declared.fault.HiveFaultKind.TheVariants.{FormShort, FormSign, FormName, FormKind, DoubleName, Shared}
use Rattle.nt_bytes.specs.Reading.{◌>>=◌}
use Rattle.hive_model.specs.Forms.{bytes_in}
use Rattle.hive_model.specs.Bins.{with_place}
use Rattle.hive_model.specs.KeyNode.{KeyNode, key_node_at}
use Rattle.hive_model.specs.KeyValue.{KeyValue, key_value_at, data_inside}
use Rattle.hive_model.specs.Lists.{ListKind, Li, Lf, Lh, Ri, offsets_in}
use Rattle.hive_model.specs.Security.{SecurityCell, security_at}
use Rattle.hive_model.specs.Size.{segment_bytes, is_big, segment_part}
use Rattle.hive_model.specs.Tree.{Item}
use Rattle.hive_model.specs.Valid.{IsItem}
use Rattle.hive_model.specs.Walk.{big_data_of, is_list_of_lists, node_at}
use Rattle.hive_read.proofs.FormFacts.{IsBytes, bytes-take, bytes-drop, NodeFacts, node-facts, value-facts, held-short, celled-small, bytes-in, descriptor-small, numbers-length, then-so, unless}
use Rattle.hive_read.proofs.ValidTrees.{AreBytes}
use Rattle.salvage_bins.specs.Ground.{Ground}
use Rattle.salvage_walk.specs.declared.claims.Claim.{Claim}
use Rattle.salvage_walk.specs.Uses.{admitted, clashes, claim_of, claimed}
use Rattle.salvage_walk.specs.Parts.{part, unless_named, node_form, value_form, node_long, value_long, security_long, bytes_long, big_long, offsets_long}
use Rattle.salvage_walk.specs.Fronts.{Front, front_of, values_front, kind_front, list_front, leaf_front, kind_or_short, claimed_or_short, front_part}
use Rattle.salvage_walk.specs.Values.{bytes_part, segments_part, big_part, celled_part, data_where, data_part, item_of, value_part}

abbrev pub done : {A : Type 0} → A → Result A HiveFaultKind
done x = Ok x

abbrev pub placed : {A : Type 0} → A → Result A HiveFault
placed x = Ok x

pub done_same : {A : Type 0} (x y : A) → done x ≡ done y → x ≡ y
done_same x y e = cc

pub placed_same : {A : Type 0} (x y : A) → placed x ≡ placed y → x ≡ y
placed_same x y e = cc

-- what was done in two steps with places was done in each
pub steps-so : {A B : Type 0} (r : Result A HiveFault) (f : A → Result B HiveFault) (y : B) → (r >>= f) ≡ placed y
    → (x : A) × (r ≡ placed x) × (f x ≡ placed y)
steps-so (Ok x) f y e = (x, refl, e)
steps-so (Err k) f y e = absurd cc

place-so : {A : Type 0} (at : ℕ) (r : Result A HiveFaultKind) (x : A) → with_place at r ≡ placed x → r ≡ done x
place-so at (Ok y) x e = ap done (placed_same y x e)
place-so at (Err k) x e = absurd cc

-- a cell that is admitted has this payload
admitted-so : (hive : Ground) (claims : List Claim) (security : Bool) (at : ℕ) (p : List ℕ)
    → admitted hive claims security at ≡ done p → hive.cells.payload at ≡ done p
unfolding admitted
admitted-so hive claims security at p e =
    let a = then-so (hive.cells.payload at) (λ p. cond (clashes (claim_of at claims) security) (Err Shared) (Ok p)) p e in
    let b = unless (clashes (claim_of at claims) security) Shared (Ok a.0) p a.2 in
    a.1 ∙ b.1

-- what is a part has its form, in bytes
pub part-so : {F : Type 0} (form : List ℕ → Result F HiveFaultKind) (long : F → ℕ) (security : Bool) (hive : Ground) (claims : List Claim)
    (at : ℕ) (r : F × List Claim) → AreBytes hive.cells → part form long security hive claims at ≡ done r
    → (p : List ℕ) × IsBytes p × (form p ≡ done r.0)
unfolding part
part-so form long security hive claims at r h e =
    let a = then-so (admitted hive claims security at)
    (λ p. form p >>= λ f. claimed hive claims security at (long f) >>= λ after. Ok (f, after)) r e in
    let b = then-so (form a.0) (λ f. claimed hive claims security at (long f) >>= λ after. Ok (f, after)) r a.2 in
    let c = then-so (claimed hive claims security at (long b.0)) (λ after. Ok (b.0, after)) r b.2 in
    let same = done_same (b.0, c.0) r c.2 in
    (a.0, h at a.0 (admitted-so hive claims security at a.0 a.1), b.1 ∙ ap (λ x. done x.0) same)

-- a name that is none of these
named-so : {F : Type 0} (names : List (List ℕ)) (name : List ℕ) (f g : F) → unless_named names name f ≡ done g
    → (list_any (folds_same name) names ≡ false) × (f ≡ g)
named-so names name f g e =
    let a = unless (list_any (folds_same name) names) DoubleName (Ok f) g e in (a.0, done_same f g a.1)

-- ---- values

bytes-short : (n : ℕ) (hive : Ground) (claims : List Claim) (at : ℕ) (r : List ℕ × List Claim) → AreBytes hive.cells
    → bytes_part n hive claims at ≡ placed r → length r.0 ≤ n
unfolding bytes_part
bytes-short n hive claims at r h e =
    let p = part-so (bytes_in n) bytes_long false hive claims at r h (place-so at (part (bytes_in n) bytes_long false hive claims at) r e) in
    bytes-in n p.0 r.0 p.2

segments-short : (hive : Ground) (bytes : List ℕ) (n : ℕ) (offsets : List ℕ) (claims : List Claim) (r : List ℕ × List Claim)
    → AreBytes hive.cells → segments_part hive bytes n offsets claims ≡ placed r → length r.0 ≤ length bytes + n
unfolding segments_part
segments-short hive bytes n [] claims r h e =
    let same = placed_same (bytes, claims) r e in
    subst (λ (x : List ℕ × List Claim). length x.0 ≤ length bytes + n) same (omega arith)
segments-short hive bytes n (at ∷ more) claims r h e =
    let s = steps-so (bytes_part (segment_part n) hive claims at)
    (λ s. segments_part hive (bytes ++ s.0) (n - segment_bytes) more s.1) r e in
    let one = bytes-short (segment_part n) hive claims at s.0 h s.1 in
    let rest = segments-short hive (bytes ++ s.0.0) (n - segment_bytes) more s.0.1 r h s.2 in
    omega (arith, one, rest, length-append bytes s.0.0)

big-short : (n : ℕ) (hive : Ground) (claims : List Claim) (at : ℕ) (r : List ℕ × List Claim) → AreBytes hive.cells
    → big_part n hive claims at ≡ placed r → length r.0 ≤ n
unfolding big_part
big-short n hive claims at r h e =
    let big = steps-so (with_place at (part (big_data_of n) big_long false hive claims at))
    (λ big. with_place big.0.list (part (offsets_in big.0.segments) offsets_long false hive big.1 big.0.list) >>= λ list.
    segments_part hive [] n list.0 list.1) r e in
    let list = steps-so (with_place big.0.0.list (part (offsets_in big.0.0.segments) offsets_long false hive big.0.1 big.0.0.list))
    (λ list. segments_part hive [] n list.0 list.1) r big.2 in
    let short = segments-short hive [] n list.0.0 list.0.1 r h list.2 in omega (arith, short)

celled-short : (n : ℕ) (hive : Ground) (claims : List Claim) (at : ℕ) (r : List ℕ × List Claim) → AreBytes hive.cells
    → celled_part n hive claims at ≡ placed r → length r.0 ≤ n
unfolding celled_part
celled-short n hive claims at r h e = go (is_big hive.cells.version n) e
  where
    go : (b : Bool) → cond b (big_part n hive claims at) (bytes_part n hive claims at) ≡ placed r → length r.0 ≤ n
    go true e = big-short n hive claims at r h e
    go false e = bytes-short n hive claims at r h e

data-small : (value : KeyValue) (hive : Ground) (claims : List Claim) (r : List ℕ × List Claim) → AreBytes hive.cells
    → data_part value hive claims ≡ placed r → length r.0 < 2147483648
unfolding data_part
data-small value hive claims r h e = go (data_inside value) refl e
  where
    go : (o : Option (List ℕ)) → data_inside value ≡ o → data_where o claims (celled_part value.size hive claims value.offset) ≡ placed r
        → length r.0 < 2147483648
    go (Some d) f e =
        let short : length d ≤ 4 = held-short value d f in
        let same = placed_same (d, claims) r e in
        subst (λ (x : List ℕ × List Claim). length x.0 < 2147483648) same (omega (arith, short))
    go None f e =
        let short = celled-short value.size hive claims value.offset r h e in
        let small : value.size < 2147483648 = celled-small value f in
        omega (arith, short, small)

-- a value that is salvaged can be held, and has a name of its own
pub value-so : (names : List (List ℕ)) (hive : Ground) (claims : List Claim) (at : ℕ) (r : Item × List Claim) → AreBytes hive.cells
    → value_part names hive claims at ≡ placed r → IsItem r.0 × (list_any (folds_same r.0.name) names ≡ false)
unfolding value_part value_form
value-so names hive claims at r h e =
    let v = steps-so (with_place at (part (value_form names) value_long false hive claims at))
    (λ value. data_part value.0 hive value.1 >>= λ bytes. Ok (item_of value.0 bytes.0, bytes.1)) r e in
    let d = steps-so (data_part v.0.0 hive v.0.1) (λ bytes. Ok (item_of v.0.0 bytes.0, bytes.1)) r v.2 in
    let p = part-so (value_form names) value_long false hive claims at v.0 h
    (place-so at (part (value_form names) value_long false hive claims at) v.0 v.1) in
    let f = then-so (key_value_at p.0) (λ (value : KeyValue). unless_named names value.name value) v.0.0 p.2 in
    let n = named-so names f.0.name f.0 v.0.0 f.2 in
    let read : key_value_at p.0 ≡ done v.0.0 = f.1 ∙ ap done n.1 in
    let item : IsItem (item_of v.0.0 d.0.0) =
    record { name = value-facts p.0 v.0.0 read; bytes = data-small v.0.0 hive v.0.1 d.0 h d.1 } in
    let apart : list_any (folds_same v.0.0.name) names ≡ false = subst (λ (k : KeyValue). list_any (folds_same k.name) names ≡ false) n.1 n.0 in
    let same = placed_same (item_of v.0.0 d.0.0, d.0.1) r d.2 in
    subst (λ (x : Item × List Claim). IsItem x.0 × (list_any (folds_same x.0.name) names ≡ false)) same (item, apart)

-- ---- class and security

pub class-short : (n : ℕ) (hive : Ground) (claims : List Claim) (at : ℕ) (r : List ℕ × List Claim) → AreBytes hive.cells
    → bytes_part n hive claims at ≡ placed r → length r.0 ≤ n
class-short n hive claims at r h e = bytes-short n hive claims at r h e

pub security-small : (hive : Ground) (claims : List Claim) (at : ℕ) (r : SecurityCell × List Claim) → AreBytes hive.cells
    → part security_at security_long true hive claims at ≡ done r → length r.0.descriptor < 4294967296
security-small hive claims at r h e =
    let p = part-so security_at security_long true hive claims at r h e in descriptor-small p.0 r.0 p.1 p.2

-- ---- key nodes

pub record NamedNode (names : List (List ℕ)) (node : KeyNode) : Type 0 where
  pub facts : NodeFacts node
  pub apart : list_any (folds_same node.name) names ≡ false

node-so : (root : Bool) (p : List ℕ) (node : KeyNode) → node_at root p ≡ done node → key_node_at p ≡ done node
unfolding node_at
node-so root p node e =
    let k = then-so (key_node_at p) (λ node. cond ((length node.name == 0) && not root) (Err FormName) (Ok node)) node e in
    k.1 ∙ (unless ((length k.0.name == 0) && not root) FormName (Ok k.0) node k.2).1

pub key-so : (root : Bool) (names : List (List ℕ)) (hive : Ground) (claims : List Claim) (at : ℕ) (r : KeyNode × List Claim)
    → AreBytes hive.cells → part (node_form root names) node_long false hive claims at ≡ done r → NamedNode names r.0
unfolding node_form
key-so root names hive claims at r h e =
    let p = part-so (node_form root names) node_long false hive claims at r h e in
    let f = then-so (node_at root p.0) (λ (node : KeyNode). unless_named names node.name node) r.0 p.2 in
    let n = named-so names f.0.name f.0 r.0 f.2 in
    let made : NamedNode names f.0 = record { facts = node-facts p.0 f.0 p.1 (node-so root p.0 f.0 f.1); apart = n.0 } in
    subst (NamedNode names) n.1 made

-- a child's name is not empty
pub child-named : (names : List (List ℕ)) (hive : Ground) (claims : List Claim) (at : ℕ) (r : KeyNode × List Claim)
    → AreBytes hive.cells → part (node_form false names) node_long false hive claims at ≡ done r → 0 < length r.0.name
unfolding node_form node_at
child-named names hive claims at r h e =
    let p = part-so (node_form false names) node_long false hive claims at r h e in
    let f = then-so (node_at false p.0) (λ (node : KeyNode). unless_named names node.name node) r.0 p.2 in
    let n = named-so names f.0.name f.0 r.0 f.2 in
    let k = then-so (key_node_at p.0) (λ node. cond ((length node.name == 0) && not false) (Err FormName) (Ok node)) f.0 f.1 in
    let t = unless ((length k.0.name == 0) && not false) FormName (Ok k.0) f.0 k.2 in
    let same = done_same k.0 f.0 t.1 ∙ n.1 in
    subst (λ (x : KeyNode). 0 < length x.name) same (grind (arith, nat_tests, t.0))

-- ---- lists

-- two bytes are a number below 65,536
u16-small : (p : List ℕ) (at : ℕ) → IsBytes p → u16_in p at < 65536
u16-small p at h = two (slice_range p at (at + 2)) (bytes-take (at + 2 - at) (drop at p) (bytes-drop at p h))
  where
    two : (xs : List ℕ) → IsBytes xs → from_le_bytes w16 xs < 65536
    two xs h = omega (arith, h 0, h 1)

pub front-so : (form : List ℕ → Result Front HiveFaultKind) (hive : Ground) (claims : List Claim) (at : ℕ) (r : Front × List Claim)
    → AreBytes hive.cells → front_part form hive claims at ≡ done r → (p : List ℕ) × IsBytes p × (form p ≡ done r.0)
unfolding front_part
front-so form hive claims at r h e =
    let a = then-so (admitted hive claims false at)
    (λ p. form p >>= λ (f : Front). claimed_or_short f (claimed hive claims false at f.long)) r e in
    let b = then-so (form a.0) (λ (f : Front). claimed_or_short f (claimed hive claims false at f.long)) r a.2 in
    (a.0, h at a.0 (admitted-so hive claims false at a.0 a.1), b.1 ∙ ap done (go (claimed hive claims false at b.0.long) b.0 b.2))
  where
    go : (c : Result (List Claim) HiveFaultKind) (f : Front) → claimed_or_short f c ≡ done r → f ≡ r.0
    go (Ok after) f e = ap (λ (x : Front × List Claim). x.0) (done_same (f, after) r e)
    go (Err kind) f e = absurd cc

front-few : (kind : ListKind) (step count from : ℕ) (p : List ℕ) → length (front_of kind step count from p).offsets ≤ count
front-few kind step count from p =
    omega (arith, numbers-length step (min count ((length p - from) / step)) (drop from p))

pub values-few : (count : ℕ) (p : List ℕ) (f : Front) → values_front count p ≡ done f → length f.offsets ≤ count
unfolding values_front
values-few count p f e = subst (λ (x : Front). length x.offsets ≤ count) (done_same (front_of Li 4 count 0 p) f e) (front-few Li 4 count 0 p)

kind-few : (kind : ListKind) (step : ℕ) (p : List ℕ) (f : Front) → IsBytes p → kind_front kind step p ≡ done f → length f.offsets ≤ 65535
unfolding kind_front
kind-few kind step p f h e =
    let a = unless (nat_lt (length p) 4) FormShort (Ok (front_of kind step (u16_in p 2) 4 p)) f e in
    let few = front-few kind step (u16_in p 2) 4 p in
    let small = u16-small p 2 h in
    subst (λ (x : Front). length x.offsets ≤ 65535) (done_same (front_of kind step (u16_in p 2) 4 p) f a.1) (omega (arith, few, small))

pub list-few : (p : List ℕ) (f : Front) → IsBytes p → list_front p ≡ done f → length f.offsets ≤ 65535
unfolding list_front
list-few p f h e =
    let a = (unless (nat_lt (length p) 2) FormShort _ f e).1 in
    li (u16_in p 0 == 0x696c) a
  where
    ri : (b : Bool) → cond b (kind_front Ri 4 p) (Err FormSign) ≡ done f → length f.offsets ≤ 65535
    ri true e = kind-few Ri 4 p f h e
    ri false e = absurd cc

    lh : (b : Bool) → cond b (kind_front Lh 8 p) (cond (u16_in p 0 == 0x6972) (kind_front Ri 4 p) (Err FormSign)) ≡ done f
        → length f.offsets ≤ 65535
    lh true e = kind-few Lh 8 p f h e
    lh false e = ri (u16_in p 0 == 0x6972) e

    lf : (b : Bool) → cond b (kind_front Lf 8 p) (cond (u16_in p 0 == 0x686c) (kind_front Lh 8 p)
        (cond (u16_in p 0 == 0x6972) (kind_front Ri 4 p) (Err FormSign))) ≡ done f → length f.offsets ≤ 65535
    lf true e = kind-few Lf 8 p f h e
    lf false e = lh (u16_in p 0 == 0x686c) e

    li : (b : Bool) → cond b (kind_front Li 4 p) (cond (u16_in p 0 == 0x666c) (kind_front Lf 8 p)
        (cond (u16_in p 0 == 0x686c) (kind_front Lh 8 p) (cond (u16_in p 0 == 0x6972) (kind_front Ri 4 p) (Err FormSign)))) ≡ done f
        → length f.offsets ≤ 65535
    li true e = kind-few Li 4 p f h e
    li false e = lf (u16_in p 0 == 0x666c) e

pub leaf-few : (p : List ℕ) (f : Front) → IsBytes p → leaf_front p ≡ done f → length f.offsets ≤ 65535
unfolding leaf_front
leaf-few p f h e =
    let a = then-so (list_front p) (λ (f : Front). cond (is_list_of_lists f.kind) (Err (kind_or_short f.short FormKind)) (Ok f)) f e in
    let b = unless (is_list_of_lists a.0.kind) (kind_or_short a.0.short FormKind) (Ok a.0) f a.2 in
    list-few p f h (a.1 ∙ b.1)
