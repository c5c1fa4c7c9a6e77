-- A tree that is in well-formed cells of bytes is one that a hive can hold.
use Rattle.std.proofs.Common.{◌≡◌, ℕ, ◌+◌, ◌-◌, ◌/◌, ◌%◌, ◌<◌, ◌≤◌, Bool, true, false, cond, List, [], ◌∷◌, ◌++◌, length, length-append, Option, Some, None, Result, Ok, Err, refl, sym, subst, arith}
use Rattle.std.specs.Prelude.{MatchBool, ◌==◌}
use Rattle.std.specs.List.{All, list_any, flat_map}
use Rattle.std.proofs.lemmas.List.Elements.{All-cons, All-nil}
use Rattle.std.specs.Int.{w32, to_le_bytes}
use Rattle.nt_bytes.specs.declared.fault.HiveFaultKind.{HiveFaultKind}
use Rattle.nt_bytes.specs.declared.version.HiveVersion.{HiveVersion}
use Rattle.nt_bytes.specs.declared.fault.HiveFaultKind.TheVariants.{FreeCell}
use Rattle.hive_model.specs.Forms.{bytes_in}
use Rattle.hive_model.specs.KeyNode.{KeyNode, key_node_at}
use Rattle.hive_model.specs.KeyValue.{KeyValue, key_value_at, data_inside}
use Rattle.hive_model.specs.Security.{security_at}
use Rattle.hive_model.specs.Lists.{offsets_in}
use Rattle.hive_model.specs.Bins.{Cell, Bin, Cells, head_number, cell_size, bin_size, cell_bytes, head_bytes, bin_bytes, spelled, in_cells, in_bins, or_else, cell_at, payload_of, look_up}
use Rattle.hive_model.specs.Tree.{Tree, Trees, key, none, more, listed, Item}
use Rattle.hive_model.specs.Walk.{reading, nowhere, big_data_of, entries_at}
use Rattle.hive_model.specs.Valid.{IsItem, HoldsKeys, AllHoldKeys, IsValid}
use Rattle.nt_bytes.specs.Text.{is_backslash}
use Rattle.nt_bytes.specs.Reading.{◌>>=◌}
use Rattle.hive_model.specs.Stands.{class_of, security_of, data_or, joined_segments, big_bytes_at, data_of, item_at, items_at, values_of, ListsChildren, Stands, AllStand, HasApartNames, HaveApartNames, IsWellFormed}
use Rattle.hive_model.specs.Size.{segment_bytes, is_big, segment_part}
use Rattle.hive_read.specs.Celled.{celled_bytes}
use Rattle.hive_read.proofs.FormFacts.{IsBytes, bytes-front, bytes-back, node-facts, value-facts, held-short, celled-small, bytes-in, descriptor-small, offsets-length, own-flags, then-so}
use Rattle.hive_read.proofs.ValueWalks.{item_of}

-- each payload is bytes
abbrev pub AreBytes : Cells → Type 0
AreBytes cells = (at : ℕ) (p : List ℕ) → cells.payload at ≡ Ok p → IsBytes p

abbrev done : {A : Type 0} → A → Result A HiveFaultKind
done x = Ok x

ok_same : {A : Type 0} (x y : A) → done x ≡ done y → x ≡ y
ok_same x y e = cc

-- a form that stands, in the payload in which it does
payload : {F : Type 0} (form : List ℕ → Result F HiveFaultKind) (cells : Cells) (at : ℕ) (x : F) → AreBytes cells
    → reading form cells at ≡ done x → (p : List ℕ) × IsBytes p × (form p ≡ done x)
payload form cells at x h r = let p = then-so (cells.payload at) form x r in (p.0, h at p.0 p.1, p.2)

-- each part that was read is no longer than the field that counts it can say
class-short : (cells : Cells) (node : KeyNode) (b : List ℕ) → AreBytes cells → class_of cells node ≡ done b
    → length b ≤ node.class_length
unfolding class_of
class-short cells node b h r = go (node.class_length == 0) r
  where
    go : (t : Bool) → cond t (Ok []) (reading (bytes_in node.class_length) cells node.class) ≡ done b
        → length b ≤ node.class_length
    go true r = let same : [] ≡ b = ok_same [] b r in
        subst (λ (x : List ℕ). length x ≤ node.class_length) same (omega arith)
    go false r = let p = payload (bytes_in node.class_length) cells node.class b h r in
        bytes-in node.class_length p.0 b p.2

security-small : (cells : Cells) (node : KeyNode) (b : List ℕ) → AreBytes cells → security_of cells node ≡ done b
    → length b < 4294967296
unfolding security_of
security-small cells node b h r = go (node.security == nowhere) r
  where
    go : (t : Bool) → cond t (Ok []) (reading security_at cells node.security >>= λ s. Ok s.descriptor) ≡ done b
        → length b < 4294967296
    go true r = let same : [] ≡ b = ok_same [] b r in subst (λ (x : List ℕ). length x < 4294967296) same (omega arith)
    go false r =
        let s = then-so (reading security_at cells node.security) (λ s. Ok s.descriptor) b r in
        let p = payload security_at cells node.security s.0 h s.1 in
        subst (λ (x : List ℕ). length x < 4294967296) (ok_same s.0.descriptor b s.2) (descriptor-small p.0 s.0 p.1 p.2)

-- so are the data: of segments, of big data, of one cell, of a value
segments-short : (cells : Cells) (n : ℕ) (offsets b : List ℕ) → AreBytes cells
    → joined_segments cells n offsets ≡ done b → length b ≤ n
segments-short cells n [] b h r = let same : [] ≡ b = ok_same [] b r in
    subst (λ (x : List ℕ). length x ≤ n) same (omega arith)
segments-short cells n (at ∷ rest) b h r =
    let part = then-so (reading (bytes_in (segment_part n)) cells at)
    (λ xs. joined_segments cells (n - segment_bytes) rest >>= λ ys. Ok (xs ++ ys)) b r in
    let others = then-so (joined_segments cells (n - segment_bytes) rest) (λ ys. Ok (part.0 ++ ys)) b part.2 in
    let p = payload (bytes_in (segment_part n)) cells at part.0 h part.1 in
    let one : length part.0 ≤ segment_part n = bytes-in (segment_part n) p.0 part.0 p.2 in
    let more : length others.0 ≤ n - segment_bytes =
    segments-short cells (n - segment_bytes) rest others.0 h others.1 in
    subst (λ (x : List ℕ). length x ≤ n) (ok_same (part.0 ++ others.0) b others.2)
    (rw (length-append part.0 others.0) (omega arith))

big-short : (cells : Cells) (n at : ℕ) (b : List ℕ) → AreBytes cells → big_bytes_at cells n at ≡ done b → length b ≤ n
unfolding big_bytes_at
big-short cells n at b h r =
    let big = then-so (reading (big_data_of n) cells at)
    (λ big. reading (offsets_in big.segments) cells big.list >>= joined_segments cells n) b r in
    let list = then-so (reading (offsets_in big.0.segments) cells big.0.list) (joined_segments cells n) b big.2 in
    segments-short cells n list.0 b h list.2

celled-short : (cells : Cells) (n at : ℕ) (b : List ℕ) → AreBytes cells → celled_bytes cells n at ≡ done b
    → length b ≤ n
celled-short cells n at b h r = go (is_big cells.version n) r
  where
    go : (big : Bool) → cond big (big_bytes_at cells n at) (reading (bytes_in n) cells at) ≡ done b → length b ≤ n
    go true r = big-short cells n at b h r
    go false r = let p = payload (bytes_in n) cells at b h r in bytes-in n p.0 b p.2

data-small : (cells : Cells) (value : KeyValue) (b : List ℕ) → AreBytes cells → data_of cells value ≡ done b
    → length b < 2147483648
unfolding data_of
data-small cells value b h r = go (data_inside value) refl r
  where
    go : (o : Option (List ℕ)) → data_inside value ≡ o → data_or o (celled_bytes cells value.size value.offset) ≡ done b
        → length b < 2147483648
    go (Some d) e r =
        let short : length d ≤ 4 = held-short value d e in
        subst (λ (x : List ℕ). length x < 2147483648) (ok_same d b r) (omega arith)
    go None e r =
        let short : length b ≤ value.size = celled-short cells value.size value.offset b h r in
        let small : value.size < 2147483648 = celled-small value e in
        omega arith

-- so a value that stands is one that a hive can hold
item-fits : (cells : Cells) (at : ℕ) (item : Item) → AreBytes cells → item_at cells at ≡ done item → IsItem item
unfolding item_at
item-fits cells at item h r =
    let v = then-so (reading key_value_at cells at) (λ value. data_of cells value >>= λ bytes. Ok (item_of value bytes))
    item r in
    let d = then-so (data_of cells v.0) (λ bytes. Ok (item_of v.0 bytes)) item v.2 in
    let p = payload key_value_at cells at v.0 h v.1 in
    let small : length d.0 < 2147483648 = data-small cells v.0 d.0 h d.1 in
    subst IsItem (ok_same (item_of v.0 d.0) item d.2) (record { name = value-facts p.0 v.0 p.2; bytes = small })

-- and so are values in a row, the same number as they were counted
items-fit : (cells : Cells) (offsets : List ℕ) (items : List Item) → AreBytes cells
    → items_at cells offsets ≡ done items → (length items ≡ length offsets) × All IsItem items
items-fit cells [] items h r = let same : [] ≡ items = ok_same [] items r in
    subst (λ (vs : List Item). (length vs ≡ 0) × All IsItem vs) same (refl, All-nil IsItem)
items-fit cells (at ∷ rest) items h r =
    let one = then-so (item_at cells at) (λ item. items_at cells rest >>= λ others. Ok (item ∷ others)) items r in
    let others = then-so (items_at cells rest) (λ others. Ok (one.0 ∷ others)) items one.2 in
    let tail = items-fit cells rest others.0 h others.1 in
    subst (λ (vs : List Item). (length vs ≡ length (at ∷ rest)) × All IsItem vs)
    (ok_same (one.0 ∷ others.0) items others.2)
    (omega (arith, tail.0), All-cons IsItem one.0 others.0 (item-fits cells at one.0 h one.1) tail.1)

values-fit : (cells : Cells) (node : KeyNode) (items : List Item) → AreBytes cells → values_of cells node ≡ done items
    → (length items ≤ node.value_count) × All IsItem items
unfolding values_of
values-fit cells node items h r = go (node.value_count == 0) r
  where
    go : (t : Bool) → cond t (Ok []) (reading (offsets_in node.value_count) cells node.value_list >>= items_at cells)
        ≡ done items → (length items ≤ node.value_count) × All IsItem items
    go true r = let same : [] ≡ items = ok_same [] items r in
        subst (λ (vs : List Item). (length vs ≤ node.value_count) × All IsItem vs) same (omega arith, All-nil IsItem)
    go false r =
        let l = then-so (reading (offsets_in node.value_count) cells node.value_list) (items_at cells) items r in
        let p = payload (offsets_in node.value_count) cells node.value_list l.0 h l.1 in
        let n = offsets-length node.value_count p.0 l.0 p.2 in
        let f = items-fit cells l.0 items h l.2 in
        (omega (arith, n, f.0), f.1)

children-count : (cells : Cells) (node : KeyNode) (offsets : List ℕ) → ListsChildren cells node offsets
    → length offsets ≤ node.child_count
children-count cells node offsets l = go (node.child_count == 0) l
  where
    go : (t : Bool) → MatchBool t (offsets ≡ [])
        ((entries_at cells node.child_list ≡ Ok offsets) × (length offsets ≡ node.child_count))
        → length offsets ≤ node.child_count
    go true l = rw l (omega arith)
    go false l = omega (arith, l.1)

-- keys in a row are the same number as their offsets
pub stand-as-many : (cells : Cells) (offsets : List ℕ) (ts : Trees) → AllStand cells offsets ts
    → length (listed ts) ≡ length offsets
stand-as-many cells offsets none s = rw s refl
stand-as-many cells offsets (more t ts) s = rw s.2 (omega (arith, stand-as-many cells s.1 ts s.4))

mutual
  tree-fits : (cells : Cells) (at : ℕ) (t : Tree) → AreBytes cells → Stands cells at t → HasApartNames t → HoldsKeys t
  tree-fits cells at (key h ts) b s n =
      let k = s.1 in
      let p = payload key_node_at cells at k.node b k.read in
      let f = node-facts p.0 k.node p.1 p.2 in
      let class = class-short cells k.node h.class b k.class in
      let values = values-fit cells k.node h.values b k.values in
      let count = children-count cells k.node s.0 k.children in
      let many = stand-as-many cells s.0 ts s.2 in (
        record {
          name = subst (λ (m : List ℕ). length m ≤ 255) (sym k.name) f.name;
          no_backslash = subst (λ (m : List ℕ). list_any is_backslash m ≡ false) (sym k.name) f.no_backslash;
          flags = subst (λ (m : ℕ). m / 32 % 2 ≡ 0) (sym k.flags) (own-flags k.node.flags);
          class = omega (arith, class, f.class);
          security = security-small cells k.node h.security b k.security;
          item_count = omega (arith, values.0, f.values);
          items = values.1;
          items_differ = n.0;
          key_count = omega (arith, count, many, f.children);
          keys_named = n.1;
          keys_differ = n.2;
        },
        trees-fit cells s.0 ts b s.2 n.3,
      )

  trees-fit : (cells : Cells) (offsets : List ℕ) (ts : Trees) → AreBytes cells → AllStand cells offsets ts
      → HaveApartNames ts → AllHoldKeys ts
  trees-fit cells offsets none b s n = tt
  trees-fit cells offsets (more t ts) b s n = (tree-fits cells s.0 t b s.3 n.0, trees-fit cells s.1 ts b s.4 n.1)

-- the tree of well-formed cells is valid, since its parts, counts, names and levels are
pub well-formed-valid : (cells : Cells) (root : ℕ) (t : Tree) → AreBytes cells → IsWellFormed cells root t → IsValid t
well-formed-valid cells root t b w = record { keys = tree-fits cells root t b w.stands w.names; levels = w.levels }

-- ---- the cells of bins that are spelled in bytes

abbrev some : Cell → Option Cell
some c = Some c

some_same : (a b : Cell) → some a ≡ some b → a ≡ b
some_same a b e = cc

pick : (t : Bool) (x c : Cell) (other : Option Cell) → IsBytes x.payload → (other ≡ some c → IsBytes c.payload)
    → cond t (Some x) other ≡ some c → IsBytes c.payload
pick true x c other h g e = subst (λ (y : Cell). IsBytes y.payload) (some_same x c e) h
pick false x c other h g e = g e

pick-else : (one other : Option Cell) (c : Cell) → (one ≡ some c → IsBytes c.payload)
    → (other ≡ some c → IsBytes c.payload) → or_else one other ≡ some c → IsBytes c.payload
pick-else (Some x) other c h g e = h e
pick-else None other c h g e = g e

payload-bytes : (c : Cell) → IsBytes (cell_bytes c) → IsBytes c.payload
unfolding cell_bytes
payload-bytes c h = bytes-back (to_le_bytes w32 (head_number c.allocated (cell_size c))) c.payload h

-- a payload that is looked up is a part of the bytes: in cells, then in bins
cell-in : (o at : ℕ) (cs : List Cell) (c : Cell) → IsBytes (flat_map cell_bytes cs) → in_cells o at cs ≡ some c
    → IsBytes c.payload
cell-in o at [] c h e = absurd cc
cell-in o at (x ∷ xs) c h e =
    pick (at == o) x c (in_cells o (at + cell_size x) xs)
    (payload-bytes x (bytes-front (cell_bytes x) (flat_map cell_bytes xs) h))
    (λ f. cell-in o (at + cell_size x) xs c (bytes-back (cell_bytes x) (flat_map cell_bytes xs) h) f) e

bin-in : (o at : ℕ) (bs : List Bin) (c : Cell) → IsBytes (spelled at bs) → in_bins o at bs ≡ some c → IsBytes c.payload
bin-in o at [] c h e = absurd cc
bin-in o at (b ∷ bs) c h e =
    let front = bytes-front (bin_bytes at b) (spelled (at + bin_size b) bs) h in
    pick-else (in_cells o (at + 32) b.cells) (in_bins o (at + bin_size b) bs) c
    (λ f. cell-in o (at + 32) b.cells c
    (bytes-back (head_bytes at (bin_size b) b.ignored) (flat_map cell_bytes b.cells) front) f)
    (λ f. bin-in o (at + bin_size b) bs c (bytes-back (bin_bytes at b) (spelled (at + bin_size b) bs) h) f) e

-- so the payloads of bins that are spelled in bytes are bytes
pub cells-bytes : (version : HiveVersion) (bins : List Bin) → IsBytes (spelled 0 bins) → AreBytes (look_up version bins)
cells-bytes version bins h at p e = go (cell_at bins at) refl e
  where
    used : (c : Cell) (t : Bool) → cond t (Ok c.payload) (Err FreeCell) ≡ done p → c.payload ≡ p
    used c true e = ok_same c.payload p e
    used c false e = absurd cc

    go : (o : Option Cell) → cell_at bins at ≡ o → payload_of o ≡ done p → IsBytes p
    go (Some c) f e = subst IsBytes (used c c.allocated e) (bin-in at 0 bins c h f)
    go None f e = absurd cc
