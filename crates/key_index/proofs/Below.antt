-- The children that lists name, by their payloads.
use Rattle.std.proofs.Common.{◌≡◌, ℕ, suc, ◌<◌, Bool, true, false, eqb, cond, List, [], ◌∷◌, ◌++◌, Result, Ok, Err, refl, sym, ap, subst, ◌∙◌, arith}
use Rattle.std.specs.Result.{IsOk}
use Rattle.std.specs.List.{All}
use Rattle.std.proofs.lemmas.List.Elements.{All-append, All-cons, All-nil}
use Rattle.std.proofs.lemmas.Bool.{ne_eqb}
use Rattle.nt_bytes.specs.declared.fault.HiveFaultKind.{HiveFaultKind}
use Rattle.nt_bytes.specs.declared.fault.HiveFaultKind.TheVariants.{FormKind}
use Rattle.nt_bytes.specs.Reading.{◌>>=◌}
use Rattle.hive_model.specs.Bins.{Cells}
use Rattle.hive_model.specs.Lists.{SubkeyList, list_at}
use Rattle.hive_model.specs.Walk.{reading, below_of, leaves_checks, entries_checks, is_list_of_lists, leaf_at, joined_at, entries_of, entries_at}
use Rattle.hive_model.specs.Footprint.{of_read, used_in}
use Rattle.key_index.specs.Lists.{AreLists, AreRead, IsNode, ListsSiblings, NamesDiffer, children_at, lists_at, lists_lists, offsets_of, offsets_in_list, offsets_in_lists, payload_in}
use Rattle.key_index.proofs.Tests.{done, value_of, is_ok_of, unless, then_so, ok_same}
use Rattle.key_index.proofs.Entered.{list_facts}

-- ---- what is read from a payload

-- a form that is read in the cell at an offset is read in its payload
pub in_payload : {F : Type 0} (form : List ℕ → Result F HiveFaultKind) (cells : Cells) (at : ℕ) (x : F)
    → reading form cells at ≡ done x
    → form (payload_in cells at) ≡ done x
unfolding payload_in
in_payload form cells at x r = go (cells.payload at) r
  where
    go : (p : Result (List ℕ) HiveFaultKind) → (p >>= form) ≡ done x → form (of_read p (λ q. q)) ≡ done x
    go (Ok q) e = e
    go (Err kind) e = absurd cc

leaf_list : (p offsets : List ℕ) → leaf_at p ≡ done offsets → IsOk (list_at p) × (offsets_of p ≡ offsets)
unfolding leaf_at offsets_of
leaf_list p offsets e =
    let v = then_so (list_at p) (λ list. cond (is_list_of_lists list.kind) (Err FormKind) (done list.offsets))
    offsets e in
    let w = unless (is_list_of_lists v.0.kind) FormKind (done v.0.offsets) offsets v.2 in (
      is_ok_of (list_at p) v.0 v.1,
      ap (λ (r : Result SubkeyList HiveFaultKind). of_read r (λ list. list.offsets)) v.1
          ∙ ok_same v.0.offsets offsets w.1,
    )

-- ---- lists joined

joined_is : (cells : Cells) (lists offsets : List ℕ) → joined_at cells lists ≡ done offsets
    → AreRead cells lists × (offsets_in_lists cells lists ≡ offsets)
joined_is cells [] offsets e = (All-nil (λ (at : ℕ). IsOk (list_at (payload_in cells at))), ok_same [] offsets e)
joined_is cells (at ∷ more) offsets e =
    let leaf = then_so (reading leaf_at cells at) (λ xs. joined_at cells more >>= λ ys. Ok (xs ++ ys)) offsets e in
    let others = then_so (joined_at cells more) (λ ys. Ok (leaf.0 ++ ys)) offsets leaf.2 in
    let here = leaf_list (payload_in cells at) leaf.0 (in_payload leaf_at cells at leaf.0 leaf.1) in
    let rest = joined_is cells more others.0 others.1 in (
      All-cons (λ (o : ℕ). IsOk (list_at (payload_in cells o))) at more here.0 rest.0,
      ap (λ (xs : List ℕ). xs ++ offsets_in_lists cells more) here.1 ∙ ap (λ (ys : List ℕ). leaf.0 ++ ys) rest.1
          ∙ ok_same (leaf.0 ++ others.0) offsets others.2,
    )

nodes_of : (cells : Cells) (lists : List ℕ) → AreRead cells lists → All (IsNode cells) (offsets_in_lists cells lists)
    → AreLists cells lists
nodes_of cells [] r n = All-nil
    (λ (at : ℕ). IsOk (list_at (payload_in cells at)) × All (IsNode cells) (offsets_in_list cells at))
nodes_of cells (at ∷ more) r n =
    All-cons (λ (o : ℕ). IsOk (list_at (payload_in cells o)) × All (IsNode cells) (offsets_in_list cells o)) at more
    (r 0 0 (omega arith), front (offsets_in_list cells at) (offsets_in_lists cells more) n)
    (nodes_of cells more (λ k d lt. r (suc k) d (omega arith))
    (back (offsets_in_list cells at) (offsets_in_lists cells more) n))
  where
    front : (xs ys : List ℕ) → All (IsNode cells) (xs ++ ys) → All (IsNode cells) xs
    front [] ys h = All-nil (IsNode cells)
    front (x ∷ xs) ys h = All-cons (IsNode cells) x xs (h 0 0 (omega arith))
        (front xs ys (λ k d lt. h (suc k) d (omega arith)))

    back : (xs ys : List ℕ) → All (IsNode cells) (xs ++ ys) → All (IsNode cells) ys
    back [] ys h = h
    back (x ∷ xs) ys h = back xs ys (λ k d lt. h (suc k) d (omega arith))

-- ---- a key's list

-- the list of a key is read from these bytes, and the children are its entries or those of its lists
pub record ChildLists (cells : Cells) (list count : ℕ) (bytes : List ℕ) : Type 0 where
  pub read : IsOk (list_at bytes)
  pub single : lists_lists bytes ≡ false → children_at cells list count ≡ offsets_of bytes
  pub many : lists_lists bytes ≡ true
      → AreRead cells (offsets_of bytes) × (children_at cells list count ≡ offsets_in_lists cells (offsets_of bytes))

lists_of : (cells : Cells) (list : ℕ) (l : SubkeyList) (offsets : List ℕ) → list_at (payload_in cells list) ≡ done l
    → entries_of cells l ≡ done offsets
    → (lists_lists (payload_in cells list) ≡ false → offsets ≡ offsets_of (payload_in cells list))
    × (lists_lists (payload_in cells list) ≡ true
    → AreRead cells (offsets_of (payload_in cells list))
    × (offsets ≡ offsets_in_lists cells (offsets_of (payload_in cells list))))
unfolding offsets_of
lists_of cells list l offsets e f =
    let p = payload_in cells list in
    let facts = list_facts p l e in
    let same : offsets_of p ≡ l.offsets =
    ap (λ (r : Result SubkeyList HiveFaultKind). of_read r (λ list. list.offsets)) e in (
      λ plain.
          let g : done l.offsets ≡ done offsets =
          subst (λ (b : Bool). cond b (joined_at cells l.offsets) (done l.offsets) ≡ done offsets)
          (facts.lists ∙ plain) f in
          sym (ok_same l.offsets offsets g) ∙ sym same,
      λ many.
          let g : joined_at cells l.offsets ≡ done offsets =
          subst (λ (b : Bool). cond b (joined_at cells l.offsets) (done l.offsets) ≡ done offsets)
          (facts.lists ∙ many) f in
          let j = joined_is cells l.offsets offsets g in
          (subst (AreRead cells) (sym same) j.0, sym j.1 ∙ ap (offsets_in_lists cells) (sym same)),
    )

pub child_lists : (cells : Cells) (list count : ℕ) → ListsSiblings cells list count → 0 < count
    → ChildLists cells list count (payload_in cells list)
unfolding entries_at
child_lists cells list count s some =
    let v = value_of (entries_at cells list) (s.read some) in
    let w = then_so (reading list_at cells list) (entries_of cells) v.0 v.1 in
    let read = in_payload list_at cells list w.0 w.1 in
    let l = lists_of cells list w.0 v.0 read w.2 in
    let zero_no : eqb count 0 ≡ false = ne_eqb count 0 (λ z. omega arith) in
    let is : children_at cells list count ≡ v.0 =
    ap (λ (b : Bool). cond b [] (of_read (entries_at cells list) (λ offsets. offsets))) zero_no
    ∙ ap (λ (r : Result (List ℕ) HiveFaultKind). of_read r (λ offsets. offsets)) v.1 in
    record {
      read = is_ok_of (list_at (payload_in cells list)) w.0 read;
      single = λ plain. is ∙ l.0 plain;
      many = λ lists. let m = l.1 lists in (m.0, is ∙ m.1);
    }

pub read_child_lists : {bytes : List ℕ} (cells : Cells) (list count : ℕ) → bytes ≡ payload_in cells list
    → ListsSiblings cells list count → 0 < count → ChildLists cells list count bytes
read_child_lists cells list count e s some =
    subst (ChildLists cells list count) (sym e) (child_lists cells list count s some)

-- the entries of one list, or of many, are nodes of names that differ
pub single_nodes : {bytes : List ℕ} {cells : Cells} {list count : ℕ} → ChildLists cells list count bytes
    → ListsSiblings cells list count → lists_lists bytes ≡ false → All (IsNode cells) (offsets_of bytes)
single_nodes {bytes} {cells} l s plain = subst (All (IsNode cells)) (l.single plain) s.nodes

pub single_apart : {bytes : List ℕ} {cells : Cells} {list count : ℕ} → ChildLists cells list count bytes
    → ListsSiblings cells list count → lists_lists bytes ≡ false → NamesDiffer cells (offsets_of bytes)
single_apart {bytes} {cells} l s plain = subst (NamesDiffer cells) (l.single plain) s.apart

pub many_lists : {bytes : List ℕ} {cells : Cells} {list count : ℕ} → ChildLists cells list count bytes
    → ListsSiblings cells list count → lists_lists bytes ≡ true → AreLists cells (offsets_of bytes)
many_lists {bytes} {cells} l s lists =
    let m = l.many lists in
    nodes_of cells (offsets_of bytes) m.0 (subst (All (IsNode cells)) m.1 s.nodes)

pub many_apart : {bytes : List ℕ} {cells : Cells} {list count : ℕ} → ChildLists cells list count bytes
    → ListsSiblings cells list count → lists_lists bytes ≡ true
    → NamesDiffer cells (offsets_in_lists cells (offsets_of bytes))
many_apart {bytes} {cells} l s lists = subst (NamesDiffer cells) (l.many lists).1 s.apart

-- the children below lists are key nodes
pub all_nodes : (cells : Cells) (lists : List ℕ) → AreLists cells lists
    → All (IsNode cells) (offsets_in_lists cells lists)
all_nodes cells [] h = All-nil (IsNode cells)
all_nodes cells (at ∷ more) h =
    All-append (IsNode cells) (offsets_in_list cells at) (offsets_in_lists cells more) (h 0 0 (omega arith)).1
    (all_nodes cells more (λ k d lt. h (suc k) d (omega arith)))

-- ---- the cells of the lists

leaves_used : (cells : Cells) (lists : List ℕ) → used_in (leaves_checks cells lists) ≡ lists
leaves_used cells [] = refl
leaves_used cells (at ∷ more) = ap (λ (xs : List ℕ). at ∷ xs) (leaves_used cells more)

-- the cells are that of the list, and those of its lists
pub record UsedLists (cells : Cells) (list count : ℕ) : Type 0 where
  pub single : lists_lists (payload_in cells list) ≡ false → lists_at cells list count ≡ list ∷ []
  pub many : lists_lists (payload_in cells list) ≡ true
      → lists_at cells list count ≡ list ∷ offsets_of (payload_in cells list)

pub used_lists : (cells : Cells) (list count : ℕ) → ListsSiblings cells list count → 0 < count
    → UsedLists cells list count
unfolding entries_at lists_at entries_checks offsets_of
used_lists cells list count s some =
    let v = value_of (entries_at cells list) (s.read some) in
    let w = then_so (reading list_at cells list) (entries_of cells) v.0 v.1 in
    let read = in_payload list_at cells list w.0 w.1 in
    let facts = list_facts (payload_in cells list) w.0 read in
    let same : offsets_of (payload_in cells list) ≡ w.0.offsets =
    ap (λ (r : Result SubkeyList HiveFaultKind). of_read r (λ l. l.offsets)) read in
    let zero_no : eqb count 0 ≡ false = ne_eqb count 0 (λ z. omega arith) in
    let is : lists_at cells list count ≡ list
    ∷ used_in (cond (is_list_of_lists w.0.kind) (leaves_checks cells w.0.offsets) []) =
    ap (λ (b : Bool). cond b [] (used_in (entries_checks cells list))) zero_no
    ∙ ap (λ (r : Result SubkeyList HiveFaultKind). list
    ∷ used_in (below_of r (λ l. cond (is_list_of_lists l.kind) (leaves_checks cells l.offsets) []))) w.1 in
    record {
      single = λ plain. is ∙ ap (λ (b : Bool). list ∷ used_in (cond b (leaves_checks cells w.0.offsets) []))
          (facts.lists ∙ plain);
      many = λ lists.
          is ∙ ap (λ (b : Bool). list ∷ used_in (cond b (leaves_checks cells w.0.offsets) [])) (facts.lists ∙ lists)
          ∙ ap (λ (xs : List ℕ). list ∷ xs) (leaves_used cells w.0.offsets ∙ sym same);
    }
