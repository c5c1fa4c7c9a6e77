-- A value of a new name in a hive: where it goes, the edit, the bulk, the strain, and the hive after it.
use Rattle.std.proofs.Common.{◌≡◌, ◌≤◌, ◌<◌, inl, ℕ, zero, suc, ◌+◌, ◌-◌, ◌*◌, Bool, true, false, eqb, cond, List, [], ◌∷◌, ◌++◌, length, Option, Some, None, Result, Ok, Err, refl, sym, ap, subst, ◌∙◌, arith}
use Rattle.std.specs.Prelude.{nat_lt, find, is_some}
use Rattle.std.specs.Option.{is_none, option_and_then, option_map_or}
use Rattle.std.proofs.lemmas.Bool.{le-ltb, lt-ltb, ne_eqb, eqb-true, eqb-false}
use Rattle.nt_bytes.specs.declared.fault.HiveFaultKind.{HiveFaultKind}
use Rattle.nt_bytes.specs.declared.version.HiveVersion.{HiveVersion}
use Rattle.nt_bytes.specs.Reading.{◌>>=◌}
use Rattle.hive_model.specs.Bins.{Bin, Cells, bins_size, look_up, spelled}
use Rattle.hive_model.specs.KeyNode.{KeyNode, key_node_at}
use Rattle.hive_model.specs.Lists.{offsets_in}
use Rattle.hive_model.specs.Size.{cell, item_size, items_sum, items_size, size, bulk_of}
use Rattle.hive_model.specs.Tree.{Tree, Item, head, find_key, find_item, is_item}
use Rattle.hive_model.specs.Tree.{key as tree_key}
use Rattle.hive_model.specs.Edit.{set_value, Refusal, no_key, name_too_long, data_too_long, full, unless, with_item, of_items, has_item, after_step}
use Rattle.hive_model.specs.Packed.{rounded}
use Rattle.hive_model.specs.Walk.{reading}
use Rattle.hive_model.specs.Footprint.{of_read, key_place, value_list_sizes, item_sizes, needed_sizes, room_of}
use Rattle.hive_model.specs.Stands.{Stands, IsWellFormed, items_at, values_of}
use Rattle.hive_cells.specs.Opened.{Opened}
use Rattle.hive_cells.specs.Holes.{new_bin_size}
use Rattle.hive_read.proofs.FormFacts.{IsBytes, then-so}
use Rattle.edited_cells.specs.Owned.{In, value_list_at}
use Rattle.edited_cells.specs.Owned.{value_places as owned_places}
use Rattle.edited_cells.specs.Done.{item}
use Rattle.edited_cells.specs.Revalues.{cells_of_values}
use Rattle.edited_cells.specs.Sizes.{total}
use Rattle.edited_cells.proofs.Ins.{in_left}
use Rattle.edited_cells.proofs.Out.{placed_at}
use Rattle.edited_cells.proofs.Patch.{folds_itself}
use Rattle.edited_cells.proofs.ChangedValues.{values_apart}
use Rattle.edited_cells.proofs.ItemSizes.{added_size as added_items}
use Rattle.edited_cells.proofs.RoomLemmas.{room_for, found_changed, set_needs, item_total}
use Rattle.edited_cells.proofs.Sizes.{revalued_size}
use Rattle.edited_cells.proofs.ValueCells.{value_added}
use Rattle.hive_edit.specs.Given.{place_in}
use Rattle.hive_edit.specs.Gone.{list_room, HasOffsets}
use Rattle.hive_edit.specs.Hive.{HiveCells, cells_in, hive_of, IsHive}
use Rattle.hive_edit.specs.NewValue.{added_size, CanAdd, IsNewIn, LacksRoomForValue, PutsValue, set_tree}
use Rattle.hive_look.specs.Places.{IsKeyAt, value_place, value_places}
use Rattle.hive_edit.specs.Standing.{tree_of}
use Rattle.hive_edit.specs.Stepped.{LacksStepRoom}
use Rattle.hive_edit.proofs.EditLemmas.{made, the_tree}
use Rattle.hive_edit.proofs.GoneLemmas.{list_facts}
use Rattle.hive_look.proofs.PlaceLemmas.{places_same}
use Rattle.hive_look.proofs.PlaceLemmas.{key_there, no_place, items_stand}
use Rattle.hive_look.proofs.ResultLemmas.{done, some, ok_same}
use Rattle.hive_edit.proofs.LowLemmas.{items_length, bulk_is, bulk_then}
use Rattle.hive_edit.proofs.SteppedLemmas.{IsStepMade, stepped, lacks_room}
use Rattle.hive_edit.proofs.UnsetLemmas.{held_offsets, sized, none_named}
use Rattle.hive_edit.proofs.GivenUpLemmas.{replaced_list}
use Rattle.hive_edit.proofs.SecuredLemmas.{none_counted, set_counts_none}

-- ---- the values of a key

-- a key's values by its node: where it counts none there are none, else its list names them
record ValuesListed (b : Cells) (x : ℕ) : Type 0 where
  node : KeyNode
  offsets : List ℕ
  read : reading key_node_at b x ≡ done node
  places : value_places b x ≡ offsets
  lists : (node.value_count ≡ 0 → ⊥) → reading (offsets_in node.value_count) b node.value_list ≡ done offsets
  none : node.value_count ≡ 0 → offsets ≡ []

values_listed : (b : Cells) (x : ℕ) (t : Tree) → Stands b x t → ValuesListed b x
unfolding value_places values_of
values_listed b x (tree_key h ts) s = go (eqb n.value_count 0) refl s.1.values
  where
    n : KeyNode
    n = s.1.node

    at_node : value_places b x
        ≡ cond (eqb n.value_count 0) [] (of_read (reading (offsets_in n.value_count) b n.value_list) (λ os. os))
    at_node = ap (λ (q : Result KeyNode HiveFaultKind). of_read q
        (λ m. cond (eqb m.value_count 0) [] (of_read (reading (offsets_in m.value_count) b m.value_list) (λ os. os))))
        s.1.read

    go : (t : Bool) → eqb n.value_count 0 ≡ t
        → cond t (Ok []) (reading (offsets_in n.value_count) b n.value_list >>= items_at b) ≡ done h.values
        → ValuesListed b x
    go true e v = record {
      node = n;
      offsets = [];
      read = s.1.read;
      places = at_node ∙ ap (λ (t : Bool). cond t []
          (of_read (reading (offsets_in n.value_count) b n.value_list) (λ os. os))) e;
      lists = λ z. absurd (z (eqb-true n.value_count 0 e));
      none = λ z. refl;
    }
    go false e v =
        let l = then-so (reading (offsets_in n.value_count) b n.value_list) (items_at b) h.values v in
        record {
          node = n;
          offsets = l.0;
          read = s.1.read;
          places = at_node ∙ ap (λ (t : Bool). cond t []
              (of_read (reading (offsets_in n.value_count) b n.value_list) (λ os. os))) e
              ∙ ap (λ (q : Result (List ℕ) HiveFaultKind). of_read q (λ os. os)) l.1;
          lists = λ z. l.1;
          none = λ z. absurd (eqb-false n.value_count 0 e z);
        }

-- the list is the key's where it counts some
list_owned : (b : Cells) (x : ℕ) (n : KeyNode) → reading key_node_at b x ≡ done n → (n.value_count ≡ 0 → ⊥)
    → In (value_list_at b x) n.value_list
unfolding value_list_at
list_owned b x n r some_values =
    let is : cond (eqb n.value_count 0) [] (n.value_list ∷ []) ≡ n.value_list ∷ [] =
    ap (λ (t : Bool). cond t [] (n.value_list ∷ [])) (ne_eqb n.value_count 0 some_values) in
    let listed = λ (m : KeyNode). cond (eqb m.value_count 0) [] (m.value_list ∷ []) in
    let whole = ap (λ (q : Result KeyNode HiveFaultKind). of_read q listed) r ∙ is in
    subst (λ (l : List ℕ). In l n.value_list) (sym whole) (inl refl)

-- a value can be put after those of a key that is there
pub can_add : (version : HiveVersion) (bins : List Bin) (root : ℕ) (t : Tree) (path : List (List ℕ)) (x : ℕ)
    → IsWellFormed (look_up version bins) root t
    → key_place (look_up version bins) path root ≡ some x → CanAdd (look_up version bins) bins x
can_add version bins root t path x well k =
    let b = look_up version bins in
    let placed = placed_at b path root x k in
    let there = key_there b path root t x well k in
    let l = values_listed b x there.there there.well.stands in
    let apart = values_apart b root t placed.stored x well placed.reached in
    let has : (l.node.value_count ≡ 0 → ⊥) → HasOffsets bins l.node.value_list l.node.value_count l.offsets =
    λ n. held_offsets version bins l.node.value_count l.node.value_list l.offsets (l.lists n) in
    record {
      node = l.node;
      offsets = l.offsets;
      read = l.read;
      places = places_same b x ∙ l.places;
      listed = record {
        number = by_count bins l.node.value_list l.offsets l.node.value_count l.node.value_count refl
            has l.none;
        there = has;
      };
      list = list_owned b x l.node l.read;
      apart = λ n. apart.node l.node.value_list
          (in_left (value_list_at b x) (cells_of_values b (owned_places b x)) l.node.value_list
          (list_owned b x l.node l.read n));
    }
  where
    by_count : (bins : List Bin) (list : ℕ) (os : List ℕ) (m n : ℕ) → m ≡ n → ((m ≡ 0 → ⊥) → HasOffsets bins list m os)
        → (m ≡ 0 → os ≡ []) → length os ≡ m
    by_count bins list os m zero e h none = ap (λ (l : List ℕ). length l) (none e) ∙ sym e
    by_count bins list os m (suc n) e h none = (list_facts bins list m os (h (λ z. omega (arith, e, z)))).number

-- how many they are
pub values_many : (version : HiveVersion) (bins : List Bin) (x : ℕ) (k : Tree) → IsWellFormed (look_up version bins) x k
    → (can : CanAdd (look_up version bins) bins x) → can.node.value_count ≡ length (head k).values
values_many version bins x k well can =
    let b = look_up version bins in
    sym can.listed.number
    ∙ items_length b can.offsets (head k).values
    (subst (λ (os : List ℕ). items_at b os ≡ done (head k).values) (sym (places_same b x) ∙ can.places)
    (items_stand b x k well))

-- ---- the edit

-- it is made
record EditNew (t : Tree) (path : List (List ℕ)) (name : List ℕ) (kind : ℕ) (bytes : List ℕ) : Type 0 where
  absent : has_item path name t ≡ false
  step : after_step (set_value path name kind bytes) t ≡ the_tree (set_tree path name kind bytes t)

edit_new : (t k : Tree) (path : List (List ℕ)) (name : List ℕ) (kind : ℕ) (bytes : List ℕ) → find_key path t ≡ some k
    → find_item name k ≡ None
    → length name ≤ 16383 → length bytes ≤ 1048576 → EditNew t path name kind bytes
edit_new t k path name kind bytes found none short few = record {
  absent = ap (λ (o : Option Tree). option_map_or (λ k. is_some (find_item name k)) o false) found
      ∙ ap (λ (o : Option Item). is_some o) none;
  step = made path name kind bytes t (ap is_none found) (le-ltb 16383 (length name) short)
      (le-ltb 1048576 (length bytes) few);
}

-- ---- the bulk

size_more : (version : HiveVersion) (t k : Tree) (path : List (List ℕ)) (name : List ℕ) (kind : ℕ) (bytes : List ℕ)
    → find_key path t ≡ some k → find_item name k ≡ None
    → size version [] (set_tree path name kind bytes t) + list_room (length (head k).values)
    ≡ size version [] t + added_size version (length (head k).values) (item name kind bytes)
size_more version t k path name kind bytes found none =
    let vs = (head k).values in
    sum (size version [] (set_tree path name kind bytes t)) (size version [] t) (items_size version vs)
    (items_size version (with_item name kind bytes vs)) (list_room (length vs)) (items_sum version vs)
    (cell (4 * suc (length vs))) (item_size version (item name kind bytes))
    (revalued_size version [] path t k (with_item name kind bytes) found) (sized version vs)
    (added_items version name kind bytes vs (ap (λ (o : Option Item). is_some o) none))
  where
    sum : (x y i j r q c v : ℕ) → x + i ≡ y + j → i ≡ r + q → j ≡ c + q + v → x + r ≡ y + (c + v)
    sum x y i j r q c v e f g = omega (arith, e, f, g)

-- ---- the hive

-- the key in the tree
record NewThere (b : Cells) (root : ℕ) (t : Tree) (path : List (List ℕ)) (name : List ℕ) (x : ℕ) : Type 0 where
  place : key_place b path root ≡ some x
  key : Tree
  found : find_key path t ≡ some key
  well : IsWellFormed b x key
  none : find_item name key ≡ None
  short : length name ≤ 16383

new_there : (bins : Opened) (root : ℕ) (version : HiveVersion) (bulk : ℕ) (h : HiveCells) (path : List (List ℕ))
    (name : List ℕ) (x : ℕ) → IsHive bins.bins root version bulk
    → hive_of bins root version ≡ h → IsNewIn h path name x
    → NewThere (look_up version bins.bins) root (tree_of (look_up version bins.bins) root) path name x
new_there bins root version bulk h path name x is view new =
    let b = look_up version bins.bins in
    let n = subst (λ (g : HiveCells). IsNewIn g path name x) (sym view) new in
    let there = key_there b path root (tree_of b root) x is.stands n.key in
    record {
      place = n.key;
      key = there.there;
      found = there.found;
      well = there.well;
      none = none_named b name x there.there there.well n.absent;
      short = n.short;
    }

pub hive_can_add : (bins : Opened) (root : ℕ) (version : HiveVersion) (bulk : ℕ) (h : HiveCells)
    (path : List (List ℕ)) (name : List ℕ) (x : ℕ) → IsHive bins.bins root version bulk
    → hive_of bins root version ≡ h → IsNewIn h path name x → CanAdd (look_up version bins.bins) bins.bins x
hive_can_add bins root version bulk h path name x is view new =
    can_add version bins.bins root (tree_of (look_up version bins.bins) root) path x is.stands
    (new_there bins root version bulk h path name x is view new).place

-- the bulk with it
pub new_bulk : (bins : Opened) (root : ℕ) (version : HiveVersion) (bulk : ℕ) (h : HiveCells) (path : List (List ℕ))
    (name : List ℕ) (x kind : ℕ) (bytes : List ℕ) (count more less : ℕ)
    → IsHive bins.bins root version bulk → hive_of bins root version ≡ h → IsNewIn h path name x → bins_size bins.bins ≤ 16777216
    → ((n : KeyNode) → reading key_node_at (look_up version bins.bins) x ≡ done n → count ≡ n.value_count)
    → more ≡ added_size version count (item name kind bytes) → more ≤ 68719476736 → less ≡ list_room count
    → (less ≤ bulk + more) × (bulk + more - less ≡ bulk_of h.version (set_tree path name kind bytes h.tree))
new_bulk bins root version bulk h path name x kind bytes count more less is view new fit counts m few l =
    let b = look_up version bins.bins in
    let t = tree_of b root in
    let n = new_there bins root version bulk h path name x is view new in
    let can = can_add version bins.bins root t path x is.stands n.place in
    let counted : count ≡ length (head n.key).values =
    counts can.node can.read ∙ values_many version bins.bins x n.key n.well can in
    let s = size version [] t in
    let u = size version [] (set_tree path name kind bytes t) in
    let e : u + less ≡ s + more =
    ap (λ (r : ℕ). u + r) (l ∙ ap list_room counted)
    ∙ size_more version t n.key path name kind bytes n.found n.none
    ∙ ap (λ (r : ℕ). s + r) (sym (m ∙ ap (λ (k : ℕ). added_size version k (item name kind bytes)) counted)) in
    let d = bulk_then version t (set_tree path name kind bytes t) bulk more less (bulk_is bins.bins root version bulk is fit)
    e few in (
      d.0,
      subst (λ (g : HiveCells). bulk + more - less ≡ bulk_of g.version (set_tree path name kind bytes g.tree))
          view d.1,
    )

pub new_step : (bins : Opened) (root : ℕ) (version : HiveVersion) (bulk : ℕ) (h : HiveCells) (path : List (List ℕ))
    (name : List ℕ) (x kind : ℕ) (bytes : List ℕ)
    → IsHive bins.bins root version bulk → hive_of bins root version ≡ h → IsNewIn h path name x → length bytes ≤ 1048576
    → after_step (set_value path name kind bytes) h.tree ≡ the_tree (set_tree path name kind bytes h.tree)
new_step bins root version bulk h path name x kind bytes is view new few =
    let t = tree_of (look_up version bins.bins) root in
    let n = new_there bins root version bulk h path name x is view new in
    subst (λ (g : HiveCells). after_step (set_value path name kind bytes) g.tree
    ≡ the_tree (set_tree path name kind bytes g.tree)) view
    (edit_new t n.key path name kind bytes n.found n.none n.short few).step

-- ---- no room

last_found : (name : List ℕ) (v : Item) (vs : List Item) → find (is_item name) vs ≡ None → is_item name v ≡ true
    → find (is_item name) (vs ++ v ∷ []) ≡ some v
last_found name v [] none is = ap (λ (b : Bool). cond b (Some v) None) is
last_found name v (w ∷ vs) none is = go (is_item name w) none (λ e. last_found name v vs e is)
  where
    go : (b : Bool) → cond b (Some w) (find (is_item name) vs) ≡ None
        → (find (is_item name) vs ≡ None → find (is_item name) (vs ++ v ∷ []) ≡ some v)
        → cond b (Some w) (find (is_item name) (vs ++ v ∷ [])) ≡ some v
    go true e deep = absurd cc
    go false e deep = deep e

-- the key's values then
record ValuesThen (name : List ℕ) (kind : ℕ) (bytes : List ℕ) (k : Tree) : Type 0 where
  found : find_item name (of_items (with_item name kind bytes) k) ≡ some (item name kind bytes)
  many : length (head (of_items (with_item name kind bytes) k)).values ≡ suc (length (head k).values)

values_then : (name : List ℕ) (kind : ℕ) (bytes : List ℕ) (k : Tree) → find_item name k ≡ None
    → ValuesThen name kind bytes k
values_then name kind bytes (tree_key h ts) none =
    let v = item name kind bytes in
    let is : with_item name kind bytes h.values ≡ h.values ++ v ∷ [] =
    ap (λ (o : Option Item). cond (is_some o)
    (Rattle.hive_model.specs.Edit.at_first (is_item name) (λ w. record w { kind = kind; bytes = bytes }) h.values)
    (h.values ++ v ∷ [])) none in
    record {
      found = ap (λ (l : List Item). find (is_item name) l) is ∙ last_found name v h.values none (folds_itself name);
      many = ap (λ (l : List Item). length l) is ∙ pushed h.values v;
    }
  where
    pushed : (vs : List Item) (v : Item) → length (vs ++ v ∷ []) ≡ suc (length vs)
    pushed [] v = refl
    pushed (w ∷ vs) v = let d = pushed vs v in omega (arith, d)

pub kept_name : (name : List ℕ) (kind : ℕ) (bytes : List ℕ) (w : Tree)
    → (head (of_items (with_item name kind bytes) w)).name ≡ (head w).name
kept_name name kind bytes (tree_key h ts) = refl

-- a new bin for the run is within the room for the cells that the step may need
run_within : (version : HiveVersion) (t k : Tree) (path : List (List ℕ)) (name : List ℕ) (kind : ℕ) (bytes : List ℕ)
    (count : ℕ)
    → find_key path t ≡ some k → find_item name k ≡ None → count ≡ length (head k).values
    → new_bin_size (added_size version count (item name kind bytes)) ≤ room_of
    (needed_sizes version t (set_value path name kind bytes) (set_tree path name kind bytes t))
run_within version t old path name kind bytes count found none counted =
    let u = set_tree path name kind bytes t in
    let v = item name kind bytes in
    let after = values_then name kind bytes old none in
    let k = of_items (with_item name kind bytes) old in
    let there : find_key path u ≡ Some k =
    found_changed (of_items (with_item name kind bytes)) path t old (kept_name name kind bytes) found in
    let many = length (head old).values in
    let asked = cell (4 * suc many) ∷ item_sizes version v in
    let list : value_list_sizes (length (head k).values) ≡ cell (4 * suc many) ∷ [] =
    ap value_list_sizes after.many
    ∙ ap (λ (q : Bool). cond q [] (cell (4 * suc many) ∷ [])) (ne_eqb (suc many) 0 (λ e. omega (arith, e))) in
    let needs = set_needs version t u k path name kind bytes v there after.found
    ∙ ap (λ (l : List ℕ). l ++ item_sizes version v) list in
    let all : total asked ≡ added_size version many v =
    ap (λ (m : ℕ). cell (4 * suc many) + m) (item_total version v) in
    let r = room_for asked (omega (arith, all)) in
    let n : room_of (needed_sizes version t (set_value path name kind bytes) u) ≡ room_of asked = ap room_of needs in
    let e : rounded (total asked + 32) ≡ new_bin_size (added_size version count v) =
    ap (λ (m : ℕ). rounded (m + 32)) (all ∙ ap (λ (m : ℕ). added_size version m v) (sym counted)) in
    within (rounded (total asked + 32)) (room_of asked)
    (room_of (needed_sizes version t (set_value path name kind bytes) u))
    (new_bin_size (added_size version count v)) r n e
  where
    within : (a b c d : ℕ) → a ≤ b → c ≡ b → a ≡ d → d ≤ c
    within a b c d e f g = omega (arith, e, f, g)

-- where the value was put
pub new_set : (old new : Opened) (root : ℕ) (version : HiveVersion) (bulk after : ℕ) (h : HiveCells)
    (path : List (List ℕ)) (name : List ℕ) (x kind : ℕ) (bytes : List ℕ)
    → IsHive old.bins root version bulk → hive_of old root version ≡ h → IsNewIn h path name x → length bytes ≤ 1048576
    → after ≡ bulk_of h.version (set_tree path name kind bytes h.tree) → IsBytes (spelled 0 new.bins)
    → PutsValue version old.bins new.bins x (item name kind bytes)
    → IsStepMade h new root version after (set_value path name kind bytes)
new_set old new root version bulk after h path name x kind bytes is view isnew few counted small put =
    let b = look_up version old.bins in
    let c = look_up version new.bins in
    let t = tree_of b root in
    let u = set_tree path name kind bytes t in
    let n = new_there old root version bulk h path name x is view isnew in
    let can = can_add version old.bins root t path x is.stands n.place in
    let d = edit_new t n.key path name kind bytes n.found n.none n.short few in
    let told : after ≡ bulk_of version u =
    subst (λ (g : HiveCells). after ≡ bulk_of g.version (set_tree path name kind bytes g.tree)) (sym view)
    counted in
    let made_of = value_added b c root t u path name x put.node is.stands n.place put.read kind bytes put.offsets
    put.place put.text put.list d.step put.places d.absent put.adds in
    let node : put.node ≡ can.node = ok_same put.node can.node (sym put.read ∙ can.read) in
    let many : put.node.value_count ≡ length (head n.key).values =
    ap (λ (m : KeyNode). m.value_count) node ∙ values_many version old.bins x n.key n.well can in
    let r = run_within version t n.key path name kind bytes put.node.value_count n.found n.none many in
    let l = put.long in
    let none = subst (λ (g : HiveCells). value_place (cells_in g) name x ≡ None) (sym view) isnew.absent in
    stepped old new root version bulk after h u (set_value path name kind bytes)
    is view d.step made_of small told put.least (omega (arith, l, r))
    (none_counted b c root t u (set_value path name kind bytes) is.stands made_of
    (set_counts_none t path name kind bytes))
    (λ key among. absurd among)
    (λ o given. put.freed o (subst (λ (l : List ℕ). In l o) (replaced_list b path name root x n.place none) given))
    (λ run i. absurd i)

-- where a new bin for the run is not to be had
pub new_lacks : (bins : Opened) (root : ℕ) (version : HiveVersion) (bulk : ℕ) (h : HiveCells) (path : List (List ℕ))
    (name : List ℕ) (x kind : ℕ) (bytes : List ℕ)
    → IsHive bins.bins root version bulk → hive_of bins root version ≡ h → IsNewIn h path name x → length bytes ≤ 1048576
    → LacksRoomForValue version bins.bins x (item name kind bytes) → LacksStepRoom h (set_value path name kind bytes)
new_lacks bins root version bulk h path name x kind bytes is view isnew few lacks =
    let b = look_up version bins.bins in
    let t = tree_of b root in
    let n = new_there bins root version bulk h path name x is view isnew in
    let can = can_add version bins.bins root t path x is.stands n.place in
    let d = edit_new t n.key path name kind bytes n.found n.none n.short few in
    let node : lacks.node ≡ can.node = ok_same lacks.node can.node (sym lacks.read ∙ can.read) in
    let many : lacks.node.value_count ≡ length (head n.key).values =
    ap (λ (m : KeyNode). m.value_count) node ∙ values_many version bins.bins x n.key n.well can in
    let r = run_within version t n.key path name kind bytes lacks.node.value_count n.found n.none many in
    let over = lacks.full in
    lacks_room bins root version h (set_tree path name kind bytes t) (set_value path name kind bytes) view d.step
    (omega (arith, over, r))

-- ---- where the search for the key ends

abbrev pub nowhere : Option ℕ
nowhere = None

-- ---- why a value is not set

abbrev refused : Refusal → Result Tree Refusal
refused why = Err why

abbrev tested : Bool → Bool → Bool → Tree → Result Tree Refusal
tested a b c u = unless ((a, no_key) ∷ (b, name_too_long) ∷ (c, data_too_long) ∷ []) u

pub sets_nowhere : (bins : Opened) (heap : List Bin) (root : ℕ) (version : HiveVersion) (bulk : ℕ) (h : HiveCells)
    (path : List (List ℕ)) (name : List ℕ) (kind : ℕ) (bytes : List ℕ)
    → IsHive bins.bins root version bulk → heap ≡ bins.bins → hive_of bins root version ≡ h
    → nowhere ≡ key_place (look_up version heap) path root
    → after_step (set_value path name kind bytes) h.tree ≡ refused no_key
sets_nowhere bins heap root version bulk h path name kind bytes is e view none =
    subst (λ (g : HiveCells). after_step (set_value path name kind bytes) g.tree ≡ refused no_key) view
    (let b = look_up version bins.bins in
    let here : key_place b path root ≡ nowhere =
    sym (none ∙ ap (λ (bs : List Bin). key_place (look_up version bs) path root) e) in
    let gone = no_place b path root (tree_of b root) is.stands here in
    ap (λ (q : Bool). tested q (nat_lt 16383 (length name)) (nat_lt 1048576 (length bytes))
    (set_tree path name kind bytes (tree_of b root))) (ap is_none gone))

-- a key that is there, seen in the hive
pub key_seen : (bins : Opened) (heap : List Bin) (root : ℕ) (version : HiveVersion) (h : HiveCells) (path : List (List ℕ)) (x : ℕ)
    → heap ≡ bins.bins → hive_of bins root version ≡ h
    → some x ≡ key_place (look_up version heap) path root → key_place (cells_in h) path h.root ≡ some x
key_seen bins heap root version h path x e view k =
    sym (k ∙ ap (λ (bs : List Bin). key_place (look_up version bs) path root) e
    ∙ ap (λ (g : HiveCells). key_place (cells_in g) path g.root) view)

found_there : (bins : Opened) (root : ℕ) (version : HiveVersion) (bulk : ℕ) (h : HiveCells) (path : List (List ℕ))
    (x : ℕ) → IsHive bins.bins root version bulk
    → hive_of bins root version ≡ h → key_place (cells_in h) path h.root ≡ some x
    → is_none (find_key path h.tree) ≡ false
found_there bins root version bulk h path x is view k =
    subst (λ (g : HiveCells). is_none (find_key path g.tree) ≡ false) view
    (let here = subst (λ (g : HiveCells). key_place (cells_in g) path g.root ≡ some x) (sym view) k in
    ap is_none (key_there (look_up version bins.bins) path root (tree_of (look_up version bins.bins) root)
    x is.stands here).found)

pub sets_long_name : (bins : Opened) (root : ℕ) (version : HiveVersion) (bulk : ℕ) (h : HiveCells)
    (path : List (List ℕ)) (name : List ℕ) (x kind : ℕ) (bytes : List ℕ)
    → IsHive bins.bins root version bulk → hive_of bins root version ≡ h → key_place (cells_in h) path h.root ≡ some x
    → 16383 < length name
    → after_step (set_value path name kind bytes) h.tree ≡ refused name_too_long
sets_long_name bins root version bulk h path name x kind bytes is view k long =
    λ i. tested (found_there bins root version bulk h path x is view k i) (lt-ltb 16383 (length name) long i)
    (nat_lt 1048576 (length bytes)) (set_tree path name kind bytes h.tree)

pub sets_long_data : (bins : Opened) (root : ℕ) (version : HiveVersion) (bulk : ℕ) (h : HiveCells)
    (path : List (List ℕ)) (name : List ℕ) (x kind : ℕ) (bytes : List ℕ)
    → IsHive bins.bins root version bulk → hive_of bins root version ≡ h → key_place (cells_in h) path h.root ≡ some x
    → length name ≤ 16383 → 1048576 < length bytes
    → after_step (set_value path name kind bytes) h.tree ≡ refused data_too_long
sets_long_data bins root version bulk h path name x kind bytes is view k short long =
    λ i. tested (found_there bins root version bulk h path x is view k i) (le-ltb 16383 (length name) short i)
    (lt-ltb 1048576 (length bytes) long i) (set_tree path name kind bytes h.tree)

-- where the value of a name is in a key
pub value_seen_in : (bins : Opened) (heap : List Bin) (root : ℕ) (version : HiveVersion) (h : HiveCells) (name : List ℕ) (x : ℕ)
    → heap ≡ bins.bins → hive_of bins root version ≡ h
    → value_place (look_up version heap) name x ≡ value_place (cells_in h) name x
value_seen_in bins heap root version h name x e view =
    ap (λ (bs : List Bin). value_place (look_up version bs) name x) e
    ∙ ap (λ (g : HiveCells). value_place (cells_in g) name x) view

-- the key is in the cells as they are lent
pub stands_at : (bins : Opened) (heap : List Bin) (root : ℕ) (version : HiveVersion) (bulk : ℕ) (h : HiveCells)
    (path : List (List ℕ)) (x : ℕ) → IsHive bins.bins root version bulk
    → heap ≡ bins.bins → hive_of bins root version ≡ h → key_place (cells_in h) path h.root ≡ some x
    → IsKeyAt (look_up version heap) x
stands_at bins heap root version bulk h path x is e view k =
    let here = subst (λ (g : HiveCells). key_place (cells_in g) path g.root ≡ some x) (sym view) k in
    let there = key_there (look_up version bins.bins) path root (tree_of (look_up version bins.bins) root) x is.stands here in
    subst (λ (bs : List Bin). IsKeyAt (look_up version bs) x) (sym e) (there.there, there.well)

-- the value is there by its key
pub placed_in : (h : HiveCells) (path : List (List ℕ)) (name : List ℕ) (x v : ℕ)
    → key_place (cells_in h) path h.root ≡ some x → some v ≡ value_place (cells_in h) name x
    → place_in (cells_in h) path name h.root ≡ some v
placed_in h path name x v k e = ap (option_and_then (value_place (cells_in h) name)) k ∙ sym e
