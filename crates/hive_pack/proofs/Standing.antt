-- A tree is in its packed cells.
use Rattle.std.proofs.Common.{◌≡◌, ◌≤◌, ◌<◌, ℕ, ◌+◌, ◌*◌, ◌-◌, ◌/◌, ◌%◌, ◌^◌, Bool, true, false, eqb, List, [], ◌∷◌, ◌++◌, length, map, Result, Ok, refl, sym, ap, subst, ◌∙◌, arith}
use Rattle.std.specs.Prelude.{nat_eq, if◌then◌else◌}
use lib.Pointwise.{pointwise}
use Rattle.std.proofs.lemmas.Bool.{ne_eqb}
use Rattle.std.proofs.lemmas.Slice.Eq.{bytes_eq-Decides}
use Rattle.nt_bytes.specs.declared.fault.HiveFaultKind.{HiveFaultKind}
use Rattle.nt_bytes.specs.declared.version.HiveVersion.{HiveVersion}
use Rattle.nt_bytes.specs.Reading.{◌>>=◌}
use Rattle.hive_model.specs.Tree.{Head, Tree, Trees, key, none, more, listed, trees}
use Rattle.hive_model.specs.Valid.{IsKey, HoldsKeys, AllHoldKeys}
use Rattle.hive_model.specs.Size.{is_narrow, has_own, class_size, security_size, node_size, head_size, list_size, count, size, size_of_all}
use Rattle.hive_model.specs.Bins.{Cells, look_up}
use Rattle.hive_model.specs.Forms.{bytes_in}
use Rattle.hive_model.specs.StoredNames.{UnitsFit}
use Rattle.hive_model.specs.KeyNode.{KeyNode, IsKeyNode, key_node_text, key_node_at}
use Rattle.hive_model.specs.Security.{SecurityCell, IsSecurityCell, security_text, security_at}
use Rattle.hive_model.specs.Lists.{AreOffsets}
use Rattle.hive_model.specs.Walk.{reading, nowhere}
use Rattle.hive_model.specs.Stands.{tree_flags, class_of, security_of, Stands, AllStand}
use Rattle.hive_model.specs.Packed.{first_or, last_or, behind, ahead, forward, backward, sharers_of_all, ring, Above, top, below, security_place_of, descriptor_place, values_place, list_place, children_place, place_of_some, stored_flags, node_of, class_cells, security_cells, items_cells, head_cells, list_cells, places, hint, cells_of, cells_of_all, packed_bins}
use Rattle.hive_model.proofs.Spelling.{key_node_again, security_again, bytes_again}
use Rattle.hive_pack.specs.Numbers.{HeadNumbers, HasNumbers, AllHaveNumbers, PackedStands}
use Rattle.hive_pack.proofs.Rows.{length_node, narrow_stored, space_class, space_security, space_head, space_lists, space_tree, length_places, same_hints, hints_of}
use Rattle.reg_tree.proofs.Trees.{trees_listed}
use Rattle.hive_pack.proofs.Counts.{few_of_all, short_names, short_classes, short_value_names, short_data}
use Rattle.hive_pack.proofs.Rising.{ring_fits}
use Rattle.hive_pack.proofs.Found.{Has, has_front, has_behind, has_next, has_all, reads_in}
use Rattle.hive_pack.proofs.Items.{units_fit, values_stand}
use Rattle.hive_pack.proofs.Named.{children_named}

-- ---- links

first_fits : (d : ℕ) (xs : List ℕ) → d < 2 ^ 32 → AreOffsets xs → first_or d xs < 2 ^ 32
first_fits d [] h f = h
first_fits d (x ∷ xs) h f = f.0

last_fits : (d : ℕ) (xs : List ℕ) → d < 2 ^ 32 → AreOffsets xs → last_or d xs < 2 ^ 32
last_fits d [] h f = h
last_fits d (x ∷ xs) h f = last_fits x xs f.0 f.1

if_fits : (b : Bool) (x y : ℕ) → x < 2 ^ 32 → y < 2 ^ 32 → (if b then x else y) < 2 ^ 32
if_fits true x y h k = h
if_fits false x y h k = k

behind_fits : (o : ℕ) (xs : List ℕ) (at : ℕ) → o < 2 ^ 32 → AreOffsets xs → behind o xs at < 2 ^ 32
behind_fits o [] at h f = h
behind_fits o (x ∷ xs) at h f =
    if_fits (eqb x at) (first_or o xs) (behind o xs at) (first_fits o xs h f.1) (behind_fits o xs at h f.1)

ahead_fits : (o : ℕ) (xs : List ℕ) (at : ℕ) → o < 2 ^ 32 → AreOffsets xs → ahead o xs at < 2 ^ 32
ahead_fits o [] at h f = h
ahead_fits o (x ∷ xs) at h f = if_fits (eqb x at) o (ahead x xs at) h (ahead_fits x xs at f.0 f.1)

-- ---- descriptors

-- the descriptor at an offset, which may be nowhere
abbrev pub descriptor_at : Cells → ℕ → Result (List ℕ) HiveFaultKind
descriptor_at cells at = if eqb at nowhere then Ok [] else reading security_at cells at >>= λ s. Ok s.descriptor

-- what holds of a key above
pub record AboveStands (cells : Cells) (up : Above) : Type 0 where
  pub place : up.place < 2 ^ 32
  pub security_place : up.security_place < 2 ^ 32
  pub descriptor : descriptor_at cells up.security_place ≡ Ok up.security
  pub ring : AreOffsets up.ring

pub descriptor_stands : (cells : Cells) (up : Above) (at : ℕ) (s : List ℕ) (n : ℕ) → AboveStands cells up
    → Has cells at (security_cells up at s n) → at + security_size up.security s ≤ 16777216 → n ≤ 16777216
    → descriptor_at cells (security_place_of up at s) ≡ Ok s
unfolding security_cells
descriptor_stands cells up at [] n a h le few = refl
descriptor_stands cells up at (b ∷ s) n a h le few = go (pointwise nat_eq up.security (b ∷ s)) refl
  where
    form : SecurityCell
    form = record { forward = forward up.ring at; backward = backward up.ring at; uses = 1 + n; descriptor = b ∷ s }

    go : (same : Bool) → pointwise nat_eq up.security (b ∷ s) ≡ same
        → descriptor_at cells (security_place_of up at (b ∷ s)) ≡ Ok (b ∷ s)
    go true e =
        rw e (subst (λ (d : List ℕ). descriptor_at cells up.security_place ≡ Ok d)
        ((bytes_eq-Decides up.security (b ∷ s)).0 e) a.descriptor)
    go false e =
        let here : Has cells at (security_text form ∷ []) = rw e at h in
        let room = rw e at le in
        let fits : IsSecurityCell form = record {
          forward = behind_fits (first_or 0 up.ring) up.ring at (first_fits 0 up.ring (omega arith) a.ring) a.ring;
          backward = ahead_fits (last_or 0 up.ring) up.ring at (last_fits 0 up.ring (omega arith) a.ring) a.ring;
          uses = omega arith;
          descriptor = omega arith;
        } in
        let somewhere : eqb at nowhere ≡ false = ne_eqb _ _ (λ z. omega arith) in
        let read : reading security_at cells at ≡ Ok form =
        reads_in security_at cells at (security_text form) form here.0 (λ slack. security_again form slack fits) in
        rw (e, somewhere, read) refl

security_place_fits : (cells : Cells) (up : Above) (at : ℕ) (s : List ℕ) → AboveStands cells up → at ≤ 16777216
    → security_place_of up at s < 2 ^ 32
security_place_fits cells up at [] a le = omega arith
security_place_fits cells up at (b ∷ s) a le =
    if_fits (has_own up.security (b ∷ s)) at up.security_place (omega arith) a.security_place

pub below_stands : (cells : Cells) (up : Above) (at : ℕ) (h : Head) (n : ℕ) → AboveStands cells up
    → Has cells (descriptor_place at h) (security_cells up (descriptor_place at h) h.security n)
    → at + head_size cells.version up.security h ≤ 16777216 → n ≤ 16777216 → AboveStands cells (below up at h)
below_stands cells up at h n a has le few = record {
  place = omega arith;
  security_place = security_place_fits cells up (descriptor_place at h) h.security a (omega arith);
  descriptor = descriptor_stands cells up (descriptor_place at h) h.security n a has (omega arith) few;
  ring = a.ring;
}

-- ---- a key's node

place_fits : (n at : ℕ) → at ≤ 16777216 → place_of_some n at < 2 ^ 32
place_fits n at le = if_fits (eqb n 0) nowhere at (omega arith) (omega arith)

flags_fit : (b : Bool) (flags : ℕ) → flags < 2 ^ 16 → flags - flags / 32 % 2 * 32 + (if b then 32 else 0) < 2 ^ 16
flags_fit true flags h = omega arith
flags_fit false flags h = omega arith

flags_again : (name : List ℕ) (flags : ℕ) → flags / 32 % 2 ≡ 0 → flags ≡ tree_flags (stored_flags name flags)
flags_again name flags h = go (is_narrow name)
  where
    go : (b : Bool) → flags ≡ tree_flags (flags - flags / 32 % 2 * 32 + (if b then 32 else 0))
    go true =
        let e : flags - flags / 32 % 2 * 32 + 32 ≡ flags + 32 = omega arith in
        let bit : (flags + 32) / 32 % 2 ≡ 1 = omega arith in
        rw (e, bit) (omega arith)
    go false =
        let e : flags - flags / 32 % 2 * 32 + 0 ≡ flags = omega arith in
        rw (e, h) refl

pub node_fits : (cells : Cells) (up : Above) (at : ℕ) (h : Head) (keys : List Tree) → AboveStands cells up
    → IsKey h keys
    → AllHoldKeys (trees keys) → HeadNumbers h → at + head_size cells.version up.security h ≤ 16777216
    → IsKeyNode (node_of cells.version up at h keys)
node_fits cells up at h keys a f g n le = record {
  flags = flags_fit (is_narrow h.name) h.flags n.flags;
  stamp = n.stamp;
  parent = a.place;
  child_count = f.key_count;
  volatile_count = omega arith;
  child_list = place_fits (length keys) (list_place cells.version up.security at h) (omega arith);
  volatile_list = omega arith;
  value_count = f.item_count;
  value_list = place_fits (length h.values) (values_place up.security at h) (omega arith);
  security = security_place_fits cells up (descriptor_place at h) h.security a (omega arith);
  class = place_fits (length h.class) (at + node_size h) (omega arith);
  greatest_child_name = omega (arith, short_names keys g);
  greatest_child_class = omega (arith, short_classes keys g);
  greatest_value_name = omega (arith, short_value_names h.values f.items);
  greatest_value_size = omega (arith, short_data h.values f.items);
  class_length = f.class;
  name = f.name;
  no_backslash = f.no_backslash;
  units = subst (λ (b : Bool). UnitsFit b h.name) (sym (narrow_stored h.name h.flags)) (units_fit h.name n.units);
}

class_stands : (cells : Cells) (node : KeyNode) (at : ℕ) (c : List ℕ) → node.class_length ≡ length c
    → node.class ≡ place_of_some (length c) at → Has cells at (class_cells c) → class_of cells node ≡ Ok c
unfolding class_of class_cells
class_stands cells node at [] n p has = rw n refl
class_stands cells node at (b ∷ c) n p has =
    let some : eqb (length (b ∷ c)) 0 ≡ false = ne_eqb _ _ (λ z. omega arith) in
    let place : node.class ≡ at = p ∙ rw some refl in
    rw (n, some, place) (reads_in (bytes_in (length (b ∷ c))) cells at (b ∷ c) (b ∷ c) has.0
    (λ slack. bytes_again (b ∷ c) slack))

security_is : (cells : Cells) (node : KeyNode) (s : List ℕ) → descriptor_at cells node.security ≡ Ok s
    → security_of cells node ≡ Ok s
unfolding security_of
security_is cells node s h = h

-- ---- a key

-- what stands of a key's own cells
pub record HeadHas (cells : Cells) (up : Above) (at : ℕ) (h : Head) (ts : Trees) : Type 0 where
  pub node : cells.payload at
      ≡ Ok (Rattle.hive_model.specs.Packed.filled (key_node_text (node_of cells.version up at h (listed ts))))
  pub class : Has cells (at + node_size h) (class_cells h.class)
  pub security : Has cells (descriptor_place at h)
      (security_cells up (descriptor_place at h) h.security (sharers_of_all h.security ts))
  pub values : Has cells (values_place up.security at h)
      (items_cells cells.version (values_place up.security at h) h.values)

pub head_has : (cells : Cells) (up : Above) (at : ℕ) (h : Head) (ts : Trees)
    → Has cells at (head_cells cells.version up at h ts)
    → HeadHas cells up at h ts
unfolding head_cells
head_has cells up at h ts has =
    let node = key_node_text (node_of cells.version up at h (listed ts)) in
    let own = descriptor_place at h in
    let cls = class_cells h.class in
    let sec = security_cells up own h.security (sharers_of_all h.security ts) in
    let vals = items_cells cells.version (values_place up.security at h) h.values in
    let rest = has_next cells at (76 + Rattle.hive_model.specs.Size.name_bytes h.name) node (cls ++ (sec ++ vals))
    (length_node cells.version up at h (listed ts)) has in
    let later = has_behind cells (at + node_size h) (class_size h.class) own cls (sec ++ vals) (space_class h.class)
    refl rest in
    record {
      node = has.0;
      class = has_front cells (at + node_size h) cls (sec ++ vals) rest;
      security = has_front cells own sec vals later;
      values = has_behind cells own (security_size up.security h.security) (values_place up.security at h) sec vals
          (space_security up own h.security (sharers_of_all h.security ts)) refl later;
    }

pub places_fit : (version : HiveVersion) (shared : List ℕ) (at : ℕ) (ts : Trees)
    → at + size_of_all version shared ts ≤ 16777216
    → AreOffsets (places version shared at ts)
places_fit version shared at none le = tt
places_fit version shared at (more t ts) le =
    (omega arith, places_fit version shared (at + size version shared t) ts (omega arith))

mutual
  pub tree_stands : (cells : Cells) (up : Above) (at : ℕ) (t : Tree) → AboveStands cells up
      → Has cells at (cells_of cells.version up at t) → HoldsKeys t → HasNumbers t
      → at + size cells.version up.security t ≤ 16777216 → Stands cells at t
  tree_stands cells up at (key h ts) a has f n le =
      let first = children_place cells.version up.security at h (count ts) in
      let os = places cells.version h.security first ts in
      let hs = map (hint cells.version) (listed ts) in
      let lists = list_cells cells.version (list_place cells.version up.security at h) os hs in
      let all = cells_of_all cells.version (below up at h) first ts in
      let mine = head_has cells up at h ts
      (has_front cells at (head_cells cells.version up at h ts) (lists ++ all) has) in
      let behind_head = has_behind cells at (head_size cells.version up.security h)
      (list_place cells.version up.security at h) (head_cells cells.version up at h ts) (lists ++ all)
      (space_head cells.version up at h ts) (omega arith) has in
      let list = has_front cells (list_place cells.version up.security at h) lists all behind_head in
      let later = has_behind cells (list_place cells.version up.security at h) (list_size (count ts)) first lists all
      (space_lists cells.version (list_place cells.version up.security at h) h.security first ts)
      refl behind_head in
      let few : sharers_of_all h.security ts ≤ 16777216 =
      omega (arith, few_of_all cells.version h.security h.security ts) in
      let keys = subst AllHoldKeys (sym (trees_listed ts)) f.1 in
      let node = node_of cells.version up at h (listed ts) in
      let n_os = length_places cells.version h.security first ts in (
        os,
        record {
          node = node;
          read = reads_in key_node_at cells at (key_node_text node) node mine.node
              (λ slack. key_node_again node slack (node_fits cells up at h (listed ts) a f.0 keys n.0 (omega arith)));
          name = refl;
          flags = flags_again h.name h.flags f.0.flags;
          stamp = refl;
          class = class_stands cells node (at + node_size h) h.class refl refl mine.class;
          security = security_is cells node h.security
              (descriptor_stands cells up (descriptor_place at h) h.security (sharers_of_all h.security ts)
              a mine.security (omega arith) few);
          values = values_stand cells node (values_place up.security at h)
              h.values refl refl mine.values f.0.items n.0.items (omega arith);
          children = children_named cells node (list_place cells.version up.security at h) os hs list (sym n_os)
              (ap (λ k. place_of_some k (list_place cells.version up.security at h)) (sym n_os))
              (same_hints cells.version h.security first ts)
              (places_fit cells.version h.security first ts (omega arith)) (hints_of cells.version (listed ts))
              (omega (arith, ap list_size n_os));
        },
        trees_stand cells (below up at h) first ts
            (below_stands cells up at h (sharers_of_all h.security ts) a mine.security (omega arith) few) later f.1 n.1
            (omega arith),
      )

  trees_stand : (cells : Cells) (up : Above) (at : ℕ) (ts : Trees) → AboveStands cells up
      → Has cells at (cells_of_all cells.version up at ts) → AllHoldKeys ts → AllHaveNumbers ts
      → at + size_of_all cells.version up.security ts ≤ 16777216
      → AllStand cells (places cells.version up.security at ts) ts
  trees_stand cells up at none a has f n le = refl
  trees_stand cells up at (more t ts) a has f n le =
      let next = at + size cells.version up.security t in
      let back = has_behind cells at (size cells.version up.security t) next (cells_of cells.version up at t)
      (cells_of_all cells.version up next ts) (space_tree cells.version up at t) refl has in (
        at,
        places cells.version up.security next ts,
        refl,
        tree_stands cells up at t a
            (has_front cells at (cells_of cells.version up at t) (cells_of_all cells.version up next ts) has) f.0 n.0
            (omega arith),
        trees_stand cells up next ts a back f.1 n.1 (omega arith),
      )

pub above_root : (cells : Cells) (t : Tree) → 32 + size cells.version [] t ≤ 16777216
    → AboveStands cells (top (ring cells.version [] 32 t))
above_root cells t room =
    record {
      place = omega arith;
      security_place = omega arith;
      descriptor = refl;
      ring = ring_fits cells.version [] 32 t room;
    }

pub packed_stands : PackedStands
packed_stands version t f n le =
    let cells = look_up version (packed_bins version t) in
    let room : 32 + size version [] t ≤ 16777216 = omega arith in
    tree_stands cells (top (ring version [] 32 t)) 32 t (above_root cells t room) (has_all version t) f.keys n room
