-- The keys of a packed tree name their parents.
use Rattle.std.proofs.Common.{◌≡◌, ◌≤◌, ℕ, ◌+◌, List, [], ◌++◌, map, refl, sym, ap, subst, inl, inr, arith}
use Rattle.nt_bytes.specs.declared.version.HiveVersion.{HiveVersion}
use Rattle.hive_model.specs.Tree.{Tree, Trees, key, none, more, listed}
use Rattle.hive_model.specs.Valid.{HoldsKeys, AllHoldKeys, IsValid}
use Rattle.hive_model.specs.Size.{head_size, list_size, count, size, size_of_all, bulk_of}
use Rattle.hive_model.specs.Bins.{Cells, look_up}
use Rattle.hive_model.specs.KeyNode.{KeyNode, key_node_text, key_node_at}
use Rattle.hive_model.specs.Walk.{reading}
use Rattle.hive_model.specs.Stands.{ListsChildren}
use Rattle.hive_model.specs.Packed.{sharers_of_all, ring, Above, top, below, list_place, children_place, place_of_some, node_of, head_cells, list_cells, places, hint, cells_of, cells_of_all, packed_bins}
use Rattle.hive_model.proofs.Spelling.{key_node_again}
use Rattle.reg_tree.proofs.Trees.{trees_listed}
use Rattle.hive_pack.specs.Numbers.{HasNumbers, AllHaveNumbers}
use Rattle.hive_pack.proofs.Rows.{space_head, space_lists, space_tree, length_places, same_hints, hints_of}
use Rattle.hive_pack.proofs.Counts.{few_of_all}
use Rattle.hive_pack.proofs.Found.{Has, has_front, has_behind, has_all, reads_in}
use Rattle.hive_pack.proofs.Named.{children_named}
use Rattle.hive_pack.proofs.Standing.{AboveStands, below_stands, node_fits, head_has, places_fit, above_root}
use Rattle.edited_cells.specs.Owned.{In}
use Rattle.edited_cells.specs.Parents.{NamesParents, IsChildOf}
use Rattle.edited_cells.proofs.Revalued.{one_node}
use Rattle.edited_cells.proofs.ParentsKept.{children_name}
use Rattle.edited_cells.proofs.ChildrenColumn.{places_listed}
use Rattle.hive_look.proofs.ResultLemmas.{done}

mutual
  pub packed_names : (cells : Cells) (up : Above) (at : ℕ) (t : Tree) → AboveStands cells up
      → Has cells at (cells_of cells.version up at t) → HoldsKeys t → HasNumbers t
      → at + size cells.version up.security t ≤ 16777216 → IsChildOf cells up.place at
  packed_names cells up at (key h ts) a has f n le =
      let list_at = list_place cells.version up.security at h in
      let first = children_place cells.version up.security at h (count ts) in
      let os = places cells.version h.security first ts in
      let hs = map (hint cells.version) (listed ts) in
      let lists = list_cells cells.version list_at os hs in
      let all = cells_of_all cells.version (below up at h) first ts in
      let head = head_cells cells.version up at h ts in
      let node = node_of cells.version up at h (listed ts) in
      let n_os = length_places cells.version h.security first ts in
      let mine = head_has cells up at h ts (has_front cells at head (lists ++ all) has) in
      let behind = has_behind cells at (head_size cells.version up.security h) list_at head (lists ++ all)
      (space_head cells.version up at h ts) (omega arith) has in
      let later = has_behind cells list_at (list_size (count ts)) first lists all
      (space_lists cells.version list_at h.security first ts) refl behind in
      let few : sharers_of_all h.security ts ≤ 16777216 =
      omega (arith, few_of_all cells.version h.security h.security ts) in
      let read : reading key_node_at cells at ≡ done node =
      reads_in key_node_at cells at (key_node_text node) node mine.node
      (λ slack. key_node_again node slack (node_fits cells up at h (listed ts) a f.0
      (subst AllHoldKeys (sym (trees_listed ts)) f.1) n.0 (omega arith))) in
      let children : ListsChildren cells node os =
      children_named cells node list_at os hs (has_front cells list_at lists all behind) (sym n_os)
      (ap (λ k. place_of_some k list_at) (sym n_os)) (same_hints cells.version h.security first ts)
      (places_fit cells.version h.security first ts (omega arith)) (hints_of cells.version (listed ts))
      (omega (arith, ap list_size n_os)) in
      record {
        here = λ m e. ap (λ (k : KeyNode). k.parent) (one_node (reading key_node_at cells at) m node e read);
        below = children_name cells at (λ y i. all_packed_name cells (below up at h) first ts
            (below_stands cells up at h (sharers_of_all h.security ts) a mine.security (omega arith) few) later f.1 n.1
            (omega arith) y (subst (λ (l : List ℕ). In l y) (places_listed cells at node os read children) i));
      }

  all_packed_name : (cells : Cells) (up : Above) (at : ℕ) (ts : Trees) → AboveStands cells up
      → Has cells at (cells_of_all cells.version up at ts) → AllHoldKeys ts → AllHaveNumbers ts
      → at + size_of_all cells.version up.security ts ≤ 16777216 → (y : ℕ)
      → In (places cells.version up.security at ts) y → IsChildOf cells up.place y
  all_packed_name cells up at none a has f n le y i = absurd i
  all_packed_name cells up at (more t ts) a has f n le y (inl e) =
      subst (IsChildOf cells up.place) e
      (packed_names cells up at t a
      (has_front cells at (cells_of cells.version up at t)
      (cells_of_all cells.version up (at + size cells.version up.security t) ts) has) f.0 n.0 (omega arith))
  all_packed_name cells up at (more t ts) a has f n le y (inr i) =
      let next = at + size cells.version up.security t in
      all_packed_name cells up next ts a
      (has_behind cells at (size cells.version up.security t) next (cells_of cells.version up at t)
      (cells_of_all cells.version up next ts) (space_tree cells.version up at t) refl has) f.1 n.1 (omega arith) y i

-- those below the root of packed bins do
pub packed_parents : (version : HiveVersion) (t : Tree) → IsValid t → HasNumbers t → bulk_of version t ≤ 16773120
    → NamesParents (look_up version (packed_bins version t)) 32
packed_parents version t f n le =
    let cells = look_up version (packed_bins version t) in
    let room : 32 + size version [] t ≤ 16777216 = omega arith in
    let named = packed_names cells (top (ring version [] 32 t)) 32 t (above_root cells t room) (has_all version t) f.keys
    n room in
    named.below
