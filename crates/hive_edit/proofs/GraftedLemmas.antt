-- What the changes of bins amount to, where the run of a key is put into them and named by the key above.
use Rattle.std.proofs.Common.{◌≡◌, ◌≤◌, ◌<◌, ◌^◌, ℕ, ◌+◌, Bool, true, false, eqb, cond, List, [], length, take, drop, Option, Result, Ok, refl, sym, ap, subst, ◌∙◌, inl, inr, arith}
use Rattle.std.specs.Prelude.{◌⊎◌}
use Rattle.std.specs.Option.{IsSomeAnd}
use Rattle.std.specs.Result.{IsOk}
use Rattle.std.specs.List.{position_or_len}
use Rattle.std.specs.Ordering.{is_gt}
use Rattle.std.specs.Int.{w32, to_le_bytes}
use Rattle.std.proofs.lemmas.Bool.{eqb-true, eqb-false, ltb-false, cases_lt}
use Rattle.std.proofs.lemmas.List.{take-append-drop}
use Rattle.nt_bytes.specs.declared.fault.HiveFaultKind.{HiveFaultKind}
use Rattle.nt_bytes.specs.declared.version.HiveVersion.{HiveVersion}
use Rattle.nt_bytes.specs.Fields.{u32_in}
use Rattle.nt_bytes.specs.Folding.{folded_order}
use Rattle.nt_bytes.specs.Reading.{◌>>=◌}
use Rattle.hive_model.specs.Bins.{Bin, look_up}
use Rattle.hive_model.specs.KeyNode.{KeyNode, key_node_at}
use Rattle.hive_model.specs.Security.{security_at}
use Rattle.hive_model.specs.Tree.{Tree, head}
use Rattle.hive_model.specs.Valid.{HoldsKeys, levels}
use Rattle.hive_model.specs.Size.{size}
use Rattle.hive_model.specs.Walk.{reading, nowhere, entries_checks}
use Rattle.hive_model.specs.Footprint.{of_read, used_in, child_places, list_cells_at, security_cell_at}
use Rattle.hive_cells.specs.Held.{held_at, patched}
use Rattle.hive_cells.proofs.HeldLemmas.{payload_held, held_payload}
use Rattle.hive_pack.specs.Below.{beside}
use Rattle.hive_pack.specs.Numbers.{HasNumbers}
use Rattle.hive_pack.proofs.Beside.{Outside}
use Rattle.hive_pack.proofs.Rising.{ring_fits}
use Rattle.hive_pack.proofs.Standing.{AboveStands}
use Rattle.edited_cells.specs.Owned.{In, security, node_name}
use Rattle.edited_cells.specs.Relists.{descriptor_at, IsSecurityCell, HasPlace}
use Rattle.edited_cells.proofs.Ins.{in_from, contains_from}
use Rattle.edited_cells.proofs.Pairs.{pairwise_from}
use Rattle.edited_cells.proofs.Out.{plain_node}
use Rattle.edited_cells.proofs.Held.{are_held}
use Rattle.edited_cells.proofs.Wellformed.{sound_hive, tree_name}
use Rattle.edited_cells.proofs.Same.{lists_same, places_same}
use Rattle.edited_cells.specs.Parents.{IsChildOf}
use Rattle.key_index.specs.Lists.{children_at, lists_at, name_in, is_behind, payload_in, IsNode, ListsSiblings}
use Rattle.key_index.specs.Relists.{AreApart}
use Rattle.key_index.proofs.Meeting.{lists_apart}
use Rattle.hive_edit.specs.declared.making.Above.{Above}
use Rattle.hive_edit.specs.Making.{above_lists, child_fields, IsLinkable}
use Rattle.hive_edit.specs.Grafted.{sharing, counted_more, descriptor_of, SharesAt, IsRunPut, IsGrafted}
use Rattle.hive_edit.specs.Children.{ListsAs}
use Rattle.hive_look.proofs.ResultLemmas.{done, some, no_some}
use Rattle.hive_edit.proofs.CountLemmas.{security_text_is}
use Rattle.hive_look.proofs.ParentLemmas.{Keeps, IsParent, kept_parent, parent_held, node_kept, list_kept, lists_are, children_are, siblings_are, list_no_node, list_no_security, node_no_security}
use Rattle.hive_look.proofs.ParentLemmas.{lists_apart as parent_apart}
use Rattle.hive_edit.proofs.PlacedLemmas.{one_list, name_read, node_name_read, has_place}
use Rattle.hive_edit.proofs.KeyLemmas.{node_read}
use Rattle.hive_edit.proofs.GraftRuns.{IsFormed, IsRunThere, run_there, formed}
use Rattle.hive_edit.proofs.GraftLemmas.{Grafts}
use Rattle.hive_edit.proofs.PackedParents.{packed_names}
use Rattle.key_index.proofs.Tests.{is_ok_of}
use Rattle.hive_read.proofs.FormFacts.{then-so}

-- ---- what is known of the key above, the key and its place

pub record Ready (version : HiveVersion) (old : List Bin) (root : ℕ) (t : Tree) (x : ℕ) (host : Tree) (n : KeyNode)
    (left : ℕ) (above : Above) (shared : List ℕ) (k : Tree) (at : ℕ) : Type 0 where
  pub path : List (List ℕ)
  pub parent : IsParent (look_up version old) root t path x host n
  pub says : ListsAs above n
  pub shares : SharesAt (look_up version old) root above.security shared
  pub low : levels k ≤ left
  pub deep : left ≤ 511
  pub few : above.count ≤ 2097150
  pub inside : at + size version shared k ≤ 16777216
  pub small : x < 2 ^ 32

module _ (version : HiveVersion) (old mid : List Bin) (root : ℕ) (t : Tree) (x : ℕ) (host : Tree) (n : KeyNode)
    (left : ℕ) (above : Above) (shared : List ℕ) (k : Tree) (at : ℕ)
    (r : Ready version old root t x host n left above shared k at) (numbers : HasNumbers k) (holds : HoldsKeys k)
    (put : IsRunPut version x above shared k at old mid) where
  pub there : IsRunThere (look_up version old) (look_up version mid) (beside version x shared above.security at k)
      at k
  there =
      let inside = r.inside in
      run_there version (beside version x shared above.security at k) at k put.run old mid put.is
      (omega (arith, inside)) put.put

  pub keeps : Keeps (look_up version old) (look_up version mid)
  keeps = there.kept

  cell_held : (o : ℕ) → IsSecurityCell (look_up version old) root o
      → (q : List ℕ) × ((look_up version old).payload o ≡ Ok q)
  cell_held o z = (are_held (look_up version old) root t r.parent.well).held z.path security o
      (record { at = z.key; reached = z.reached; has = z.uses })

  descriptor_kept : descriptor_of (look_up version mid) above.security ≡ Ok shared
  descriptor_kept = go (eqb above.security nowhere) refl
    where
      go : (v : Bool) → eqb above.security nowhere ≡ v → descriptor_of (look_up version mid) above.security ≡ Ok shared
      go true e =
          ap (λ (v : Bool). cond v (Ok []) (descriptor_at (look_up version mid) above.security)) e
          ∙ sym (ap (λ (v : Bool). cond v (Ok []) (descriptor_at (look_up version old) above.security)) e)
          ∙ r.shares.descriptor
      go false e =
          let h = cell_held above.security (r.shares.used (λ z. absurd (eqb-false above.security nowhere e z))) in
          ap (λ (v : Bool). cond v (Ok []) (descriptor_at (look_up version mid) above.security)) e
          ∙ ap (λ (q : Result (List ℕ) HiveFaultKind). q >>= security_at >>= λ d. Ok d.descriptor)
          (there.kept.held above.security h.0 h.1 ∙ sym h.1)
          ∙ sym (ap (λ (v : Bool). cond v (Ok []) (descriptor_at (look_up version old) above.security)) e)
          ∙ r.shares.descriptor

  stands_above : AboveStands (look_up version mid) (beside version x shared above.security at k)
  stands_above = record {
    place = r.small;
    security_place = r.shares.small;
    descriptor = descriptor_kept;
    ring = ring_fits version shared at k r.inside;
  }

  beside_run : Outside above.security at (at + size version shared k)
  beside_run = go (eqb above.security nowhere) refl
    where
      go : (v : Bool) → eqb above.security nowhere ≡ v → Outside above.security at (at + size version shared k)
      go true e = let z = eqb-true above.security nowhere e in let inside = r.inside in inr (omega (arith, z, inside))
      go false e =
          let h = cell_held above.security (r.shares.used (λ z. absurd (eqb-false above.security nowhere e z))) in
          low (cases_lt above.security at) h.0 h.1
        where
          high : at ≤ above.security → (q : List ℕ) → (look_up version old).payload above.security ≡ Ok q
              → (above.security < at + size version shared k) ⊎ (at + size version shared k ≤ above.security)
              → Outside above.security at (at + size version shared k)
          high l q h (inl u) = absurd (there.fresh above.security q l u h)
          high l q h (inr u) = inr u

          low : (above.security < at) ⊎ (at ≤ above.security) → (q : List ℕ)
              → (look_up version old).payload above.security ≡ Ok q
              → Outside above.security at (at + size version shared k)
          low (inl l) q h = inl l
          low (inr l) q h = high l q h (cases_lt above.security (at + size version shared k))

  pub is_formed : IsFormed (look_up version mid) at (size version shared k) k above.security
  is_formed =
      let low = r.low in
      let deep = r.deep in
      formed (look_up version mid) (beside version x shared above.security at k)
      at k r.inside stands_above beside_run there.has holds numbers (omega (arith, low, deep))

  pub is_named : IsChildOf (look_up version mid) x at
  is_named =
      packed_names (look_up version mid) (beside version x shared above.security at k) at k stands_above there.has
      holds numbers r.inside

  parent_mid : IsParent (look_up version mid) root t r.path x host n
  parent_mid = kept_parent (look_up version old) (look_up version mid) root t r.path x host n r.parent there.kept

  pub lists_still : lists_at (look_up version mid) above.list above.count ≡ list_cells_at (look_up version old) x
  lists_still =
      (λ i. lists_at (look_up version mid) (r.says.list i) (r.says.count i))
      ∙ lists_are (look_up version mid) root t r.path x host n parent_mid
      ∙ lists_same (look_up version old) (look_up version mid) x
      (node_kept (look_up version old) (look_up version mid) root t r.path x host n r.parent there.kept)
      (list_kept (look_up version old) (look_up version mid) root t r.path x host n r.parent there.kept)

  pub children_still : children_at (look_up version mid) above.list above.count
      ≡ child_places (look_up version old) x
  children_still =
      (λ i. children_at (look_up version mid) (r.says.list i) (r.says.count i))
      ∙ children_are (look_up version mid) root t r.path x host n parent_mid
      ∙ places_same (look_up version old) (look_up version mid) x
      (node_kept (look_up version old) (look_up version mid) root t r.path x host n r.parent there.kept)
      (list_kept (look_up version old) (look_up version mid) root t r.path x host n r.parent there.kept)

  pub siblings_count : length (children_at (look_up version mid) above.list above.count) ≡ above.count
  siblings_count =
      subst (λ (z : ℕ). length (children_at (look_up version mid) z above.count) ≡ above.count) (sym r.says.list)
      (subst (λ (z : ℕ). length (children_at (look_up version mid) n.child_list z) ≡ z) (sym r.says.count)
      (siblings_are (look_up version mid) root t r.path x host n parent_mid).number)

  key_node : (m : KeyNode) × (p : List ℕ) × ((look_up version mid).payload at ≡ done p) × (key_node_at p ≡ done m)
  key_node =
      let m = node_read (look_up version mid) at k is_formed.well.stands in
      let p = then-so ((look_up version mid).payload at) key_node_at m.0 m.1 in
      (m.0, p.0, p.1, p.2)

  key_there : IsNode (look_up version mid) at
  unfolding payload_in
  key_there =
      let m = key_node in
      subst (λ (q : Result (List ℕ) HiveFaultKind). IsOk (key_node_at (of_read q (λ z. z)))) (sym m.2)
      (is_ok_of (key_node_at m.1) m.0 m.3)

  secure_long : (above.security ≡ nowhere → ⊥) → IsSomeAnd (held_at mid above.security) (λ z. 20 ≤ length z)
  secure_long used =
      let h = cell_held above.security (r.shares.used used) in
      let off : eqb above.security nowhere ≡ false = Rattle.std.proofs.lemmas.Bool.ne_eqb above.security nowhere used in
      let f : (reading security_at (look_up version old) above.security >>= λ d. Ok d.descriptor) ≡ done shared =
      sym (ap (λ (v : Bool). cond v (Ok []) (descriptor_at (look_up version old) above.security)) off)
      ∙ r.shares.descriptor in
      let z = then-so (reading security_at (look_up version old) above.security) (λ d. Ok d.descriptor) shared f in
      let q = then-so ((look_up version old).payload above.security) security_at z.0 z.1 in
      let long = ltb-false (length q.0) 20 (security_text_is q.0 z.0 q.2).head in
      subst (λ (o : Option (List ℕ)). IsSomeAnd o (λ z. 20 ≤ length z))
      (sym (payload_held mid above.security q.0 (there.kept.held above.security q.0 q.1))) long

  pub linkable : IsLinkable version x above at mid
  linkable =
      let q = parent_held (look_up version mid) root t r.path x host n parent_mid in
      let long = (Rattle.edited_cells.proofs.Patches.node_text q.0 n q.2).long in
      record {
        siblings = subst (λ (z : ℕ). ListsSiblings (look_up version mid) z above.count) (sym r.says.list)
            (subst (λ (z : ℕ). ListsSiblings (look_up version mid) n.child_list z) (sym r.says.count)
            (siblings_are (look_up version mid) root t r.path x host n parent_mid));
        apart = subst AreApart (sym (λ i. lists_at (look_up version mid) (r.says.list i) (r.says.count i)))
            (parent_apart (look_up version mid) root t r.path x host n parent_mid);
        node = key_there;
        few = r.few;
        parent_long = subst (λ (o : Option (List ℕ)). IsSomeAnd o (λ z. 76 ≤ length z))
            (sym (payload_held mid x q.0 q.1)) (omega (arith, long));
        parent_apart = λ i. list_no_node (look_up version old) root t r.path x host n r.parent
            (subst (λ (l : List ℕ). In l x) lists_still (in_from (above_lists version above mid) x i));
        security_long = secure_long;
        security_lists = λ used i. let u = r.shares.used used in
            list_no_security (look_up version old)
            root t r.path x host n u.path u.key above.security r.parent u.reached u.uses
            (subst (λ (l : List ℕ). In l above.security) lists_still
            (in_from (above_lists version above mid) above.security i));
        security_parent = λ used z. let u = r.shares.used used in
            node_no_security (look_up version old) root t r.path x host n u.path u.key r.parent u.reached
            (subst (λ (w : ℕ). In (security_cell_at (look_up version old) u.key) w) z u.uses);
      }

  -- ---- the place of the key among its siblings

  key_name : name_in (look_up version mid) at ≡ (head k).name
  key_name =
      let m = node_read (look_up version mid) at k is_formed.well.stands in
      name_read (look_up version mid) at m.0 m.1 ∙ sym (node_name_read (look_up version mid) at m.0 m.1)
      ∙ tree_name (look_up version mid) at k is_formed.well.stands

  abbrev pub front : List ℕ
  front = take (position_or_len (is_behind (look_up version mid) (name_in (look_up version mid) at))
      (children_at (look_up version mid) above.list above.count))
      (children_at (look_up version mid) above.list above.count)

  abbrev pub back : List ℕ
  back = drop (position_or_len (is_behind (look_up version mid) (name_in (look_up version mid) at))
      (children_at (look_up version mid) above.list above.count))
      (children_at (look_up version mid) above.list above.count)

  pub placed : HasPlace (look_up version old) (head k).name front back
  placed =
      has_place (look_up version old) (head k).name (is_behind (look_up version mid) (name_in (look_up version mid) at))
      (children_at (look_up version mid) above.list above.count) same
    where
      name_same : (o : ℕ) → In (child_places (look_up version old) x) o
          → name_in (look_up version mid) o ≡ node_name (look_up version old) o
      name_same o i =
          let s = ((sound_hive (look_up version old) root t r.parent.well).all.each r.path x r.parent.reached).child o
          i in
          let read = plain_node false (look_up version old) o s.node s.read in
          let q = then-so ((look_up version old).payload o) key_node_at s.node read in
          name_read (look_up version mid) o s.node
          (ap (λ (z : Result (List ℕ) HiveFaultKind). z >>= key_node_at) (there.kept.held o q.0 q.1) ∙ q.2)
          ∙ sym (node_name_read (look_up version old) o s.node read)

      same : (o : ℕ) → In (children_at (look_up version mid) above.list above.count) o
          → is_behind (look_up version mid) (name_in (look_up version mid) at) o
          ≡ is_gt (folded_order (node_name (look_up version old) o) (head k).name)
      same o i =
          let j = subst (λ (l : List ℕ). In l o) children_still i in
          λ v. is_gt (folded_order (name_same o j v) (key_name v))

-- the changes of the bins, as those of cells
pub grafts : (version : HiveVersion) (old new : List Bin) (root : ℕ) (t : Tree) (x : ℕ) (host : Tree) (n : KeyNode)
    (left : ℕ) (above : Above) (shared : List ℕ) (k : Tree) (at : ℕ)
    → (r : Ready version old root t x host n left above shared k at) → (holds : HoldsKeys k)
    → (a : IsGrafted version x above shared k at old new)
    → Grafts (look_up version old) (look_up version a.mid) (look_up version a.linked.listed) (look_up version new)
    root t x host n left k at (size version shared k)
    above.security a.linked.list shared
    (front version old a.mid root t x host n left above shared k at r a.numbers holds a.put)
    (back version old a.mid root t x host n left above shared k at r a.numbers holds a.put)
grafts version old new root t x host n left above shared k at r holds a =
    let b = look_up version old in
    let m = look_up version a.mid in
    let offs = children_at m above.list above.count in
    let still = lists_still version old a.mid root t x host n left above shared k at r a.numbers holds a.put in
    let count = r.says.count in
    let few = r.few in
    let noted : (q : List ℕ) → (above.security ≡ nowhere → ⊥)
    → (look_up version a.linked.listed).payload above.security ≡ done q
    → held_at a.linked.noted above.security ≡ some q = λ q used e.
    a.linked.fields.others above.security (λ z. let u = r.shares.used used in
    node_no_security b root t r.path x host n u.path u.key r.parent u.reached
    (subst (In (security_cell_at b u.key)) z u.uses))
    ∙ payload_held a.linked.listed above.security q e in
    record {
      path = r.path;
      parent = r.parent;
      shares = r.shares;
      formed = is_formed version old a.mid root t x host n left above shared k at r a.numbers holds a.put;
      named = is_named version old a.mid root t x host n left above shared k at r a.numbers holds a.put;
      low = r.low;
      kept_m = keeps version old a.mid root t x host n left above shared k at r a.numbers holds a.put;
      version = refl;
      fresh = λ o q low high e.
          (there version old a.mid root t x host n left above shared k at r a.numbers holds a.put).fresh o q low high e;
      gone = above_lists version above a.mid;
      gone_is = λ o i. subst (λ (l : List ℕ). In l o) still (in_from (above_lists version above a.mid) o i);
      kept_l = λ o q e ng. held_payload a.linked.listed o q (a.linked.lists.kept o q (payload_held a.mid o q e) ng);
      lists = a.linked.lists.lists;
      unheld = λ o i q e. no_some (held_at a.mid o) q
          (a.linked.lists.fresh o (contains_from
          (used_in (entries_checks (look_up version a.linked.listed) a.linked.list)) o i))
          (payload_held a.mid o q e);
      once = pairwise_from (λ u v. u ≡ v → ⊥) (used_in (entries_checks (look_up version a.linked.listed) a.linked.list))
          (subst AreApart (one_list (look_up version a.linked.listed) a.linked.list)
          (lists_apart (look_up version a.linked.listed) a.linked.list 1 a.linked.lists.once));
      small = a.linked.small;
      few = omega (arith, few, count);
      volatile = subst (λ (z : ℕ). z < 2 ^ 32) r.says.volatile a.linked.volatile;
      kept_c = λ o q e nx ns. held_payload new o q
          (a.linked.counted.others o (λ used z. ns used z) ∙ a.linked.fields.others o nx
          ∙ payload_held a.linked.listed o q e);
      node_c = λ q e. held_payload new x
          (patched 20 (child_fields (n.child_count + 1) n.volatile_count a.linked.list) q)
          (a.linked.counted.others x (λ used z. let u = r.shares.used used in
          node_no_security b root t r.path x host n u.path u.key r.parent u.reached
          (subst (In (security_cell_at b u.key)) (sym z) u.uses))
          ∙ a.linked.fields.here q (payload_held a.linked.listed x q e)
          ∙ (λ i. some (patched 20 (child_fields (count i + 1) (r.says.volatile i) a.linked.list) q)));
      secure_c = λ q used e.
          held_payload new above.security (patched 12 (to_le_bytes w32 (counted_more (sharing shared k) (u32_in q 12))) q)
          (a.linked.counted.here q used (noted q used e));
      uses_small = λ q used e. a.linked.counted.small q used (noted q used e);
      places = sym (children_still version old a.mid root t x host n left above shared k at r a.numbers holds a.put)
          ∙ sym (take-append-drop (position_or_len (is_behind m (name_in m at)) offs) offs);
      count_is = sym count ∙ sym (siblings_count version old a.mid root t x host n left above shared k at r a.numbers holds a.put)
          ∙ ap (λ (l : List ℕ). length l)
          (sym (take-append-drop (position_or_len (is_behind m (name_in m at)) offs) offs));
    }
