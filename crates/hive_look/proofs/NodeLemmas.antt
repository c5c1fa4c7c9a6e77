-- What the payload of a key node says of the key that is at it.
use Rattle.std.proofs.Common.{◌≡◌, ◌≤◌, ℕ, ◌+◌, ◌*◌, Bool, false, eqb, cond, List, [], ◌∷◌, length, Result, Ok, Err, sym, ap, subst, ◌∙◌}
use Rattle.std.specs.Prelude.{◌==◌, nat_lt, slice_range}
use Rattle.std.specs.List.{All}
use Rattle.std.proofs.lemmas.Bool.{ltb-false}
use Rattle.std.proofs.lemmas.List.Elements.{All-cons, All-nil}
use Rattle.nt_bytes.specs.declared.fault.HiveFaultKind.{HiveFaultKind}
use Rattle.nt_bytes.specs.declared.fault.HiveFaultKind.TheVariants.{FormShort, FormSign}
use Rattle.nt_bytes.specs.Fields.{u16_in, u32_in}
use Rattle.nt_bytes.specs.Reading.{◌>>=◌}
use Rattle.hive_model.specs.Bins.{Cells}
use Rattle.hive_model.specs.StoredNames.{key_name_at}
use Rattle.hive_model.specs.KeyNode.{is_narrow_key, KeyNode, key_node_in, key_node_at}
use Rattle.hive_model.specs.Lists.{offsets_in, numbers_in}
use Rattle.hive_model.specs.Tree.{Tree, Trees, key, none, more, head}
use Rattle.hive_model.specs.Walk.{reading, entries_at}
use Rattle.hive_model.specs.Footprint.{of_read, child_places}
use Rattle.hive_model.specs.Stands.{Stands, AllStand, IsWellFormed, items_at, item_at}
use Rattle.key_index.specs.Lists.{IsNode, ListsSiblings, children_at, name_in, name_of, payload_in}
use Rattle.key_index.proofs.Below.{in_payload}
use Rattle.key_index.proofs.Meeting.{siblings_stand}
use Rattle.hive_look.specs.Places.{IsKeyAt, IsItemHere, value_places}
use Rattle.hive_look.proofs.ResultLemmas.{done, only_if, ok_same}
use Rattle.edited_cells.proofs.Wellformed.{places_are}
use Rattle.hive_look.proofs.PlaceLemmas.{places_at_node}
use Rattle.key_index.proofs.Tests.{is_ok_of}
use Rattle.hive_read.proofs.FormFacts.{unless, then-so}

-- the fields of a key node are those of its payload, which is as long as they are
record NodeFacts (p : List ℕ) (node : KeyNode) : Type 0 where
  is : node ≡ key_node_in p node.name
  long : 76 ≤ length p

node_facts : (p : List ℕ) (node : KeyNode) → key_node_at p ≡ done node → NodeFacts p node
unfolding key_node_at
node_facts p node e =
    let narrow = is_narrow_key (u16_in p 2) in
    let bytes = slice_range p 76 (76 + u16_in p 72) in
    let named = key_name_at narrow bytes >>= λ name. Ok (key_node_in p name) in
    let sized = cond (nat_lt (length p) 76) (Err FormShort)
    (cond (nat_lt (length p) (76 + u16_in p 72)) (Err FormShort) named) in
    let one = (unless (nat_lt (length p) 2) FormShort (cond (u16_in p 0 == 0x6b6e) sized (Err FormSign)) node e).1 in
    let two = (only_if (u16_in p 0 == 0x6b6e) FormSign sized node one).1 in
    let three = unless (nat_lt (length p) 76) FormShort
    (cond (nat_lt (length p) (76 + u16_in p 72)) (Err FormShort) named) node two in
    let four = (unless (nat_lt (length p) (76 + u16_in p 72)) FormShort named node three.1).1 in
    let n = then-so (key_name_at narrow bytes) (λ name. Ok (key_node_in p name)) node four in
    let same : key_node_in p n.0 ≡ node = ok_same (key_node_in p n.0) node n.2 in
    record {
      is = sym same ∙ ap (λ (m : KeyNode). key_node_in p m.name) same;
      long = ltb-false (length p) 76 three.0;
    }

-- the node of a key that stands, in its payload
pub record NodeHere (cells : Cells) (at : ℕ) (p : List ℕ) : Type 0 where
  pub node : KeyNode
  pub read : reading key_node_at cells at ≡ done node
  pub is : node ≡ key_node_in p node.name
  pub long : 76 ≤ length p

pub node_here : (cells : Cells) (at : ℕ) (p : List ℕ) → IsKeyAt cells at → p ≡ payload_in cells at → NodeHere cells at p
node_here cells at p k e = go k.0 k.1.stands
  where
    go : (t : Tree) → Stands cells at t → NodeHere cells at p
    go (key h ts) s =
        let f = node_facts p s.1.node
        (subst (λ (q : List ℕ). key_node_at q ≡ done s.1.node) (sym e)
        (in_payload key_node_at cells at s.1.node s.1.read)) in
        record { node = s.1.node; read = s.1.read; is = f.is; long = f.long }

pub node_long : (cells : Cells) (at : ℕ) (p : List ℕ) → IsKeyAt cells at → p ≡ payload_in cells at → 76 ≤ length p
node_long cells at p k e = (node_here cells at p k e).long

-- ---- children

-- its lists stand for its children
pub siblings_here : (cells : Cells) (at : ℕ) (p : List ℕ) (list count : ℕ) → IsKeyAt cells at → p ≡ payload_in cells at
    → list ≡ u32_in p 28 → count ≡ u32_in p 20
    → ListsSiblings cells list count
siblings_here cells at p list count k e l c =
    let n = node_here cells at p k e in
    let s = siblings_stand cells at k.0 n.node k.1.stands k.1.names n.read in
    let a : n.node.child_list ≡ list = ap (λ (m : KeyNode). m.child_list) n.is ∙ sym l in
    let b : n.node.child_count ≡ count = ap (λ (m : KeyNode). m.child_count) n.is ∙ sym c in
    subst (λ (x : ℕ). ListsSiblings cells x count) a (subst (λ (x : ℕ). ListsSiblings cells n.node.child_list x) b s)

pub children_here : (cells : Cells) (at : ℕ) (p : List ℕ) (list count : ℕ) → IsKeyAt cells at → p ≡ payload_in cells at
    → list ≡ u32_in p 28 → count ≡ u32_in p 20
    → children_at cells list count ≡ child_places cells at
unfolding child_places
children_here cells at p list count k e l c =
    let n = node_here cells at p k e in
    let a : n.node.child_list ≡ list = ap (λ (m : KeyNode). m.child_list) n.is ∙ sym l in
    let b : n.node.child_count ≡ count = ap (λ (m : KeyNode). m.child_count) n.is ∙ sym c in
    sym (ap (λ (r : Result KeyNode HiveFaultKind). of_read r
    (λ m. cond (eqb m.child_count 0) [] (of_read (entries_at cells m.child_list) (λ os. os)))) n.read
    ∙ (λ i. cond (eqb (b i) 0) [] (of_read (entries_at cells (a i)) (λ os. os))))

-- a key node is where a tree stands, and has the tree's name
pub node_stands : (cells : Cells) (at : ℕ) (t : Tree) → Stands cells at t
    → IsNode cells at × (name_in cells at ≡ (head t).name)
unfolding name_of
node_stands cells at (key h ts) s =
    let read = in_payload key_node_at cells at s.1.node s.1.read in (
      is_ok_of (key_node_at (payload_in cells at)) s.1.node read,
      ap (λ (r : Result KeyNode HiveFaultKind). of_read r (λ node. node.name)) read ∙ sym s.1.name,
    )

-- a key node is at each child
pub kids_are_nodes : (cells : Cells) (at : ℕ) → IsKeyAt cells at → All (IsNode cells) (child_places cells at)
kids_are_nodes cells at k = go k.0 k.1.stands
  where
    each : (offsets : List ℕ) (ts : Trees) → AllStand cells offsets ts → All (IsNode cells) offsets
    each offsets none s = subst (All (IsNode cells)) (sym s) (All-nil (IsNode cells))
    each offsets (more t ts) s =
        subst (All (IsNode cells)) (sym s.2)
        (All-cons (IsNode cells) s.0 s.1 (node_stands cells s.0 t s.3).0 (each s.1 ts s.4))

    go : (t : Tree) → Stands cells at t → All (IsNode cells) (child_places cells at)
    go (key h ts) s = subst (All (IsNode cells)) (sym (places_are cells at h s.0 s.1)) (each s.0 ts s.2)

-- ---- values

pub item_each : (cells : Cells) (offsets : List ℕ) (items : List Rattle.hive_model.specs.Tree.Item)
    → items_at cells offsets ≡ done items → All (IsItemHere cells) offsets
item_each cells [] items e = All-nil (IsItemHere cells)
item_each cells (at ∷ offsets) items e =
    let one = then-so (item_at cells at) (λ v. items_at cells offsets >>= λ vs. Ok (v ∷ vs)) items e in
    let others = then-so (items_at cells offsets) (λ vs. Ok (one.0 ∷ vs)) items one.2 in
    All-cons (IsItemHere cells) at offsets (is_ok_of (item_at cells at) one.0 one.1)
    (item_each cells offsets others.0 others.1)

-- where a key has values, its list is long enough, and names them in order
pub record ValuesHere (cells : Cells) (at count : ℕ) (list : List ℕ) : Type 0 where
  pub long : 4 * count ≤ length list
  pub places : value_places cells at ≡ numbers_in 4 count list
  pub values : All (IsItemHere cells) (numbers_in 4 count list)

pub numbers_there : (count : ℕ) (p offsets : List ℕ) → offsets_in count p ≡ done offsets
    → (4 * count ≤ length p) × (offsets ≡ numbers_in 4 count p)
unfolding offsets_in
numbers_there count p offsets e =
    let t = unless (nat_lt (length p) (4 * count)) FormShort (Ok (numbers_in 4 count p)) offsets e in
    (ltb-false (length p) (4 * count) t.0, sym (ok_same (numbers_in 4 count p) offsets t.1))

-- a key that counts no value has none
pub no_values_here : (cells : Cells) (at : ℕ) (p : List ℕ) (count : ℕ) → IsKeyAt cells at → p ≡ payload_in cells at
    → count ≡ u32_in p 36 → count ≡ 0
    → value_places cells at ≡ []
no_values_here cells at p count k e c z =
    let n = node_here cells at p k e in
    let b : n.node.value_count ≡ 0 = ap (λ (m : KeyNode). m.value_count) n.is ∙ sym c ∙ z in
    places_at_node cells at n.node n.read
    ∙ (λ i. cond (eqb (b i) 0) []
    (of_read (reading (offsets_in n.node.value_count) cells n.node.value_list) (λ os. os)))

-- the values of a key, by the fields of its node
listed_values : (cells : Cells) (at : ℕ) (t : Tree) (node : KeyNode) → IsWellFormed cells at t
    → reading key_node_at cells at ≡ done node → eqb node.value_count 0 ≡ false
    → ValuesHere cells at node.value_count (payload_in cells node.value_list)
unfolding Rattle.hive_model.specs.Stands.values_of
listed_values cells at (key h ts) node w r some =
    let same : w.stands.1.node ≡ node = ok_same w.stands.1.node node (sym w.stands.1.read ∙ r) in
    let v : Rattle.hive_model.specs.Stands.values_of cells node ≡ done h.values =
    subst (λ (m : KeyNode). Rattle.hive_model.specs.Stands.values_of cells m ≡ done h.values)
    same w.stands.1.values in
    let read : (reading (offsets_in node.value_count) cells node.value_list >>= items_at cells) ≡ done h.values =
    subst (λ (b : Bool). cond b (Ok []) (reading (offsets_in node.value_count) cells node.value_list >>= items_at cells)
    ≡ done h.values) some v in
    let l = then-so (reading (offsets_in node.value_count) cells node.value_list) (items_at cells) h.values read in
    let there = numbers_there node.value_count (payload_in cells node.value_list) l.0
    (in_payload (offsets_in node.value_count) cells node.value_list l.0 l.1) in
    record {
      long = there.0;
      places =
          places_at_node cells at node r
          ∙ ap (λ (b : Bool). cond b []
          (of_read (reading (offsets_in node.value_count) cells node.value_list) (λ os. os))) some
          ∙ ap (λ (q : Result (List ℕ) HiveFaultKind). of_read q (λ os. os)) l.1 ∙ there.1;
      values = subst (All (IsItemHere cells)) there.1 (item_each cells l.0 h.values l.2);
    }

pub values_here : (cells : Cells) (at : ℕ) (p list : List ℕ) (count place : ℕ) → IsKeyAt cells at
    → p ≡ payload_in cells at → count ≡ u32_in p 36 → (count ≡ 0 → ⊥)
    → place ≡ u32_in p 40 → list ≡ payload_in cells place → ValuesHere cells at count list
values_here cells at p list count place k e c some pl l =
    let n = node_here cells at p k e in
    let a : n.node.value_count ≡ count = ap (λ (m : KeyNode). m.value_count) n.is ∙ sym c in
    let b : n.node.value_list ≡ place = ap (λ (m : KeyNode). m.value_list) n.is ∙ sym pl in
    let r = listed_values cells at k.0 n.node k.1 n.read
    (Rattle.std.proofs.lemmas.Bool.ne_eqb n.node.value_count 0 (λ z. some (sym a ∙ z))) in
    subst (λ (q : List ℕ). ValuesHere cells at count q) (sym l)
    (subst (λ (x : ℕ). ValuesHere cells at x (payload_in cells place)) a
    (subst (λ (x : ℕ). ValuesHere cells at n.node.value_count (payload_in cells x)) b r))
