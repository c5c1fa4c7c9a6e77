-- Each cell that is owned in well-formed cells is held.
use Rattle.std.proofs.Common.{◌≡◌, ℕ, Bool, true, false, cond, List, [], ◌∷◌, ◌++◌, length, subst, inl, inr, ⊎_elim, Option, Some, None, Result, Ok}
use Rattle.std.specs.Prelude.{◌-◌, MatchBool, ◌==◌, if◌then◌else◌, is_some}
use Rattle.nt_bytes.specs.declared.fault.HiveFaultKind.{HiveFaultKind}
use Rattle.nt_bytes.specs.Reading.{◌>>=◌}
use Rattle.hive_model.specs.Bins.{Cells}
use Rattle.hive_model.specs.Size.{segment_bytes, is_big, segment_part}
use Rattle.hive_model.specs.Forms.{bytes_in}
use Rattle.hive_model.specs.KeyNode.{KeyNode, key_node_at}
use Rattle.hive_model.specs.KeyValue.{KeyValue, key_value_at, data_inside}
use Rattle.hive_model.specs.BigData.{BigData}
use Rattle.hive_model.specs.Security.{security_at}
use Rattle.hive_model.specs.Lists.{SubkeyList, list_at, offsets_in}
use Rattle.hive_model.specs.Tree.{Tree, key, Head, Item}
use Rattle.hive_model.specs.Walk.{reading, nowhere, big_data_of, segments_checks, big_checks, leaf_at, is_list_of_lists, joined_at, entries_of, entries_at, below_of, use_as, name_check, class_checks, security_checks, data_checks, value_checks, leaves_checks, entries_checks}
use Rattle.hive_model.specs.Footprint.{used_in, list_cells_at, security_cell_at}
use Rattle.hive_model.specs.Stands.{class_of, security_of, data_or, joined_segments, big_bytes_at, data_of, item_at, items_at, values_of, ListsChildren, KeyStands, Stands, IsWellFormed}
use Rattle.edited_cells.specs.Owned.{Role, node, class, security, value_list, value, lists, In, value_list_at, class_cell_at, HasRole}
use Rattle.edited_cells.proofs.Out.{of_node_is, behind_big}
use Rattle.edited_cells.proofs.Wellformed.{first_part, standing, items_are, item_from}
use Rattle.edited_cells.proofs.Untouched.{AreHeld}

-- a cell is held
abbrev pub Held : Cells → ℕ → Type 0
Held cells o = (q : List ℕ) × (cells.payload o ≡ Ok q)

pub held_by : {F : Type 0} (form : List ℕ → Result F HiveFaultKind) (cells : Cells) (at o : ℕ) (x : F)
    → reading form cells at ≡ Ok x → at ≡ o → Held cells o
held_by form cells at o x read e =
    let p = first_part (cells.payload at) form x read in subst (λ (z : ℕ). Held cells z) e (p.0, p.1)

class_held : (cells : Cells) (n : KeyNode) (b : List ℕ) (o : ℕ) → class_of cells n ≡ Ok b
    → In (used_in (class_checks cells n)) o → Held cells o
unfolding class_of class_checks
class_held cells n b o r h = go (n.class_length == 0) r h
  where
    go : (t : Bool) → cond t (Ok []) (reading (bytes_in n.class_length) cells n.class) ≡ Ok b
        → In (used_in (cond t [] (use_as false (bytes_in n.class_length) cells n.class))) o → Held cells o
    go true r h = absurd h
    go false r (inl e) = held_by (bytes_in n.class_length) cells n.class o b r e
    go false r (inr h) = absurd h

security_held : (cells : Cells) (n : KeyNode) (b : List ℕ) (o : ℕ) → security_of cells n ≡ Ok b
    → In (used_in (security_checks cells n)) o → Held cells o
unfolding security_of security_checks
security_held cells n b o r h = go (n.security == nowhere) r h
  where
    go : (t : Bool) → cond t (Ok []) (reading security_at cells n.security >>= λ s. Ok s.descriptor) ≡ Ok b
        → In (used_in (cond t [] (use_as true security_at cells n.security))) o → Held cells o
    go true r h = absurd h
    go false r (inl e) =
        let p = first_part (reading security_at cells n.security) (λ s. Ok s.descriptor) b r in
        held_by security_at cells n.security o p.0 p.1 e
    go false r (inr h) = absurd h

value_list_held : (cells : Cells) (at : ℕ) (n : KeyNode) (items : List Item) (o : ℕ)
    → reading key_node_at cells at ≡ Ok n → values_of cells n ≡ Ok items → In (value_list_at cells at) o
    → Held cells o
unfolding values_of value_list_at
value_list_held cells at n items o read r h =
    go (n.value_count == 0) r
    (subst (λ (xs : List ℕ). In xs o)
    (of_node_is cells at n (λ k. if k.value_count == 0 then [] else k.value_list ∷ []) read) h)
  where
    go : (t : Bool)
        → cond t (Ok []) (reading (offsets_in n.value_count) cells n.value_list >>= items_at cells) ≡ Ok items
        → In (cond t [] (n.value_list ∷ [])) o → Held cells o
    go true r h = absurd h
    go false r (inl e) =
        let p = first_part (reading (offsets_in n.value_count) cells n.value_list) (items_at cells) items r in
        held_by (offsets_in n.value_count) cells n.value_list o p.0 p.1 e
    go false r (inr h) = absurd h

segments_held : (cells : Cells) (n : ℕ) (offsets b : List ℕ) (o : ℕ) → joined_segments cells n offsets ≡ Ok b
    → In (used_in (segments_checks cells n offsets)) o → Held cells o
segments_held cells n [] b o r h = absurd h
segments_held cells n (at ∷ rest) b o r h =
    let one = first_part (reading (bytes_in (segment_part n)) cells at)
    (λ bytes. joined_segments cells (n - segment_bytes) rest >>= λ others. Ok (bytes ++ others)) b r in
    let others = first_part (joined_segments cells (n - segment_bytes) rest) (λ others. Ok (one.0 ++ others)) b one.2 in
    ⊎_elim (λ e. held_by (bytes_in (segment_part n)) cells at o one.0 one.1 e)
    (λ i. segments_held cells (n - segment_bytes) rest others.0 o others.1 i) h

abbrev segments_read : Cells → ℕ → BigData → Result (List ℕ) HiveFaultKind
segments_read cells n big = reading (offsets_in big.segments) cells big.list >>= joined_segments cells n

big_held : (cells : Cells) (n at : ℕ) (b : List ℕ) (o : ℕ) → big_bytes_at cells n at ≡ Ok b
    → In (used_in (big_checks cells n at)) o → Held cells o
unfolding big_bytes_at big_checks
big_held cells n at b o r (inl e) =
    let p = first_part (reading (big_data_of n) cells at) (segments_read cells n) b r in
    held_by (big_data_of n) cells at o p.0 p.1 e
big_held cells n at b o r (inr h) =
    let p = first_part (reading (big_data_of n) cells at) (segments_read cells n) b r in
    let l = first_part (reading (offsets_in p.0.segments) cells p.0.list) (joined_segments cells n) b p.2 in
    ⊎_elim (λ e. held_by (offsets_in p.0.segments) cells p.0.list o l.0 l.1 e)
    (λ i. segments_held cells n l.0 b o l.2
    (subst (λ (q : Result (List ℕ) HiveFaultKind). In (used_in (below_of q (segments_checks cells n))) o) l.1 i))
    (subst (λ (q : Result BigData HiveFaultKind). In (used_in (below_of q (behind_big cells n))) o) p.1 h)

data_held : (cells : Cells) (k : KeyValue) (b : List ℕ) (o : ℕ) → data_of cells k ≡ Ok b
    → In (used_in (data_checks cells k)) o → Held cells o
unfolding data_of data_checks
data_held cells k b o r h = go (data_inside k) (is_big cells.version k.size) r h
  where
    go : (t : Option (List ℕ)) (u : Bool)
        → data_or t (cond u (big_bytes_at cells k.size k.offset) (reading (bytes_in k.size) cells k.offset)) ≡ Ok b
        → In (used_in (cond (is_some t) []
        (cond u (big_checks cells k.size k.offset) (use_as false (bytes_in k.size) cells k.offset)))) o
        → Held cells o
    go (Some d) u r h = absurd h
    go None true r h = big_held cells k.size k.offset b o r h
    go None false r (inl e) = held_by (bytes_in k.size) cells k.offset o b r e
    go None false r (inr h) = absurd h

item_held : (cells : Cells) (v o : ℕ) (item : Item) → item_at cells v ≡ Ok item
    → In (used_in (value_checks cells [] v)) o → Held cells o
unfolding item_at value_checks
item_held cells v o item r (inl e) =
    let p = first_part (reading key_value_at cells v)
    (λ value. data_of cells value >>= λ bytes. Ok (item_from value bytes)) item r in
    held_by key_value_at cells v o p.0 p.1 e
item_held cells v o item r (inr h) =
    let p = first_part (reading key_value_at cells v)
    (λ value. data_of cells value >>= λ bytes. Ok (item_from value bytes)) item r in
    let d = first_part (data_of cells p.0) (λ bytes. Ok (item_from p.0 bytes)) item p.2 in
    data_held cells p.0 d.0 o d.1
    (subst (λ (q : Result KeyValue HiveFaultKind). In
    (used_in (below_of q (λ value. name_check [] v value.name ∷ data_checks cells value))) o) p.1 h)

one_item : (cells : Cells) (offsets : List ℕ) (items : List Item) (v : ℕ) → items_at cells offsets ≡ Ok items
    → In offsets v → (item : Item) × (item_at cells v ≡ Ok item)
one_item cells [] items v r h = absurd h
one_item cells (at ∷ rest) items v r h =
    let one = first_part (item_at cells at) (λ item. items_at cells rest >>= λ o. Ok (item ∷ o)) items r in
    let others = first_part (items_at cells rest) (λ o. Ok (one.0 ∷ o)) items one.2 in
    ⊎_elim (λ e. (one.0, subst (λ (z : ℕ). item_at cells z ≡ Ok one.0) e one.1))
    (λ i. one_item cells rest others.0 v others.1 i) h

pub leaf_held : (cells : Cells) (lists offsets : List ℕ) (o : ℕ) → joined_at cells lists ≡ Ok offsets
    → In (used_in (leaves_checks cells lists)) o → Held cells o
leaf_held cells [] offsets o r h = absurd h
leaf_held cells (at ∷ rest) offsets o r h =
    let leaf = first_part (reading leaf_at cells at) (λ xs. joined_at cells rest >>= λ ys. Ok (xs ++ ys)) offsets r in
    let others = first_part (joined_at cells rest) (λ ys. Ok (leaf.0 ++ ys)) offsets leaf.2 in
    ⊎_elim (λ e. held_by leaf_at cells at o leaf.0 leaf.1 e) (λ i. leaf_held cells rest others.0 o others.1 i) h

pub entries_held : (cells : Cells) (at : ℕ) (offsets : List ℕ) (o : ℕ) → entries_at cells at ≡ Ok offsets
    → In (used_in (entries_checks cells at)) o → Held cells o
unfolding entries_at entries_checks
entries_held cells at offsets o r (inl e) =
    let p = first_part (reading list_at cells at) (entries_of cells) offsets r in held_by list_at cells at o p.0 p.1 e
entries_held cells at offsets o r (inr h) =
    let p = first_part (reading list_at cells at) (entries_of cells) offsets r in
    go p.0 (is_list_of_lists p.0.kind) p.2
    (subst (λ (q : Result SubkeyList HiveFaultKind). In
    (used_in (below_of q (λ list. if is_list_of_lists list.kind then leaves_checks cells list.offsets else []))) o)
    p.1 h)
  where
    go : (list : SubkeyList) (t : Bool) → cond t (joined_at cells list.offsets) (Ok list.offsets) ≡ Ok offsets
        → In (used_in (cond t (leaves_checks cells list.offsets) [])) o → Held cells o
    go list true r h = leaf_held cells list.offsets offsets o r h
    go list false r h = absurd h

lists_held : (cells : Cells) (at : ℕ) (n : KeyNode) (offsets : List ℕ) (o : ℕ) → reading key_node_at cells at ≡ Ok n
    → ListsChildren cells n offsets → In (list_cells_at cells at) o → Held cells o
unfolding list_cells_at
lists_held cells at n offsets o read l h =
    go (n.child_count == 0) l
    (subst (λ (xs : List ℕ). In xs o)
    (of_node_is cells at n (λ m. if m.child_count == 0 then [] else used_in (entries_checks cells m.child_list))
    read) h)
  where
    go : (t : Bool)
        → MatchBool t (offsets ≡ []) ((entries_at cells n.child_list ≡ Ok offsets) × (length offsets ≡ n.child_count))
        → In (cond t [] (used_in (entries_checks cells n.child_list))) o → Held cells o
    go true l h = absurd h
    go false l h = entries_held cells n.child_list offsets o l.0 h

role_held : (cells : Cells) (at : ℕ) (h : Head) (offsets : List ℕ) (r : Role) (o : ℕ) → KeyStands cells at h offsets
    → HasRole cells at r o → Held cells o
unfolding class_cell_at security_cell_at
role_held cells at h offsets node o k e = held_by key_node_at cells at o k.node k.read e
role_held cells at h offsets class o k i =
    class_held cells k.node h.class o k.class
    (subst (λ (xs : List ℕ). In xs o) (of_node_is cells at k.node (λ m. used_in (class_checks cells m)) k.read) i)
role_held cells at h offsets security o k i =
    security_held cells k.node h.security o k.security
    (subst (λ (xs : List ℕ). In xs o) (of_node_is cells at k.node (λ m. used_in (security_checks cells m)) k.read)
    i)
role_held cells at h offsets value_list o k i = value_list_held cells at k.node h.values o k.read k.values i
role_held cells at h offsets (value name) o k i =
    let v = items_are cells at h offsets k in
    let item = one_item cells v.offsets h.values i.place v.read
    (subst (λ (xs : List ℕ). In xs i.place) v.places i.listed) in
    item_held cells i.place o item.0 item.1 i.used
role_held cells at h offsets lists o k i = lists_held cells at k.node offsets o k.read k.children i

tree_held : (cells : Cells) (at : ℕ) (t : Tree) (r : Role) (o : ℕ) → Stands cells at t → HasRole cells at r o
    → Held cells o
tree_held cells at (key h ts) r o s i = role_held cells at h s.0 r o s.1 i

pub are_held : (cells : Cells) (root : ℕ) (t : Tree) → IsWellFormed cells root t → AreHeld cells root
are_held cells root t w =
    record {
      held = λ p r o own. let d = standing cells p root own.at t w.stands w.names own.reached in
          tree_held cells own.at d.tree r o d.stands own.has;
    }
