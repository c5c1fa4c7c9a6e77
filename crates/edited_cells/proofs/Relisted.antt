-- A touched key is kept: its node names other lists of children, or other values.
use Rattle.std.proofs.Common.{◌≡◌, ℕ, Bool, true, false, cond, List, [], ◌∷◌, refl, sym, ◌∙◌, ap, subst, inl, Result, Ok}
use Rattle.std.specs.Prelude.{◌==◌, if◌then◌else◌}
use Rattle.nt_bytes.specs.declared.fault.HiveFaultKind.{HiveFaultKind}
use Rattle.hive_model.specs.Bins.{Cells}
use Rattle.hive_model.specs.Forms.{bytes_in}
use Rattle.hive_model.specs.KeyNode.{KeyNode, key_node_at}
use Rattle.hive_model.specs.Security.{security_at}
use Rattle.hive_model.specs.Lists.{offsets_in}
use Rattle.hive_model.specs.Walk.{reading, nowhere, use_as, class_checks, security_checks, entries_checks, entries_at}
use Rattle.hive_model.specs.Footprint.{of_read, used_in, child_places, security_cell_at, list_cells_at}
use Rattle.edited_cells.specs.Owned.{In, value_places, value_list_at, class_cell_at}
use Rattle.edited_cells.proofs.Out.{of_node_is}
use Rattle.edited_cells.proofs.Same.{IsValueSame, same_reading, entries_used, entries_same}

-- the node reads before and after, and names the same class and security
pub record IsNodeKept (b c : Cells) (x : ℕ) : Type 0 where
  pub version : c.version ≡ b.version
  pub old : KeyNode
  pub new : KeyNode
  pub read : reading key_node_at b x ≡ Ok old
  pub read_new : reading key_node_at c x ≡ Ok new
  pub class_length : new.class_length ≡ old.class_length
  pub class : new.class ≡ old.class
  pub security : new.security ≡ old.security

class_list : (cells : Cells) (n : KeyNode)
    → used_in (class_checks cells n) ≡ cond (n.class_length == 0) [] (n.class ∷ [])
unfolding class_checks
class_list cells n = go (n.class_length == 0)
  where
    go : (t : Bool)
        → used_in (cond t [] (use_as false (bytes_in n.class_length) cells n.class)) ≡ cond t [] (n.class ∷ [])
    go true = refl
    go false = refl

security_list : (cells : Cells) (n : KeyNode)
    → used_in (security_checks cells n) ≡ cond (n.security == nowhere) [] (n.security ∷ [])
unfolding security_checks
security_list cells n = go (n.security == nowhere)
  where
    go : (t : Bool) → used_in (cond t [] (use_as true security_at cells n.security)) ≡ cond t [] (n.security ∷ [])
    go true = refl
    go false = refl

pub class_kept : (b c : Cells) (x : ℕ) → IsNodeKept b c x → class_cell_at c x ≡ class_cell_at b x
unfolding class_cell_at
class_kept b c x k =
    of_node_is c x k.new (λ n. used_in (class_checks c n)) k.read_new ∙ class_list c k.new
    ∙ ap (λ (l : ℕ). cond (l == 0) [] (k.new.class ∷ [])) k.class_length
    ∙ ap (λ (o : ℕ). cond (k.old.class_length == 0) [] (o ∷ [])) k.class
    ∙ sym (class_list b k.old) ∙ sym (of_node_is b x k.old (λ n. used_in (class_checks b n)) k.read)

pub security_kept : (b c : Cells) (x : ℕ) → IsNodeKept b c x → security_cell_at c x ≡ security_cell_at b x
unfolding security_cell_at
security_kept b c x k =
    of_node_is c x k.new (λ n. used_in (security_checks c n)) k.read_new ∙ security_list c k.new
    ∙ ap (λ (o : ℕ). cond (o == nowhere) [] (o ∷ [])) k.security
    ∙ sym (security_list b k.old) ∙ sym (of_node_is b x k.old (λ n. used_in (security_checks b n)) k.read)

-- the node names the same values, in cells that are the same
pub record AreValuesKept (b c : Cells) (x : ℕ) (old new : KeyNode) : Type 0 where
  pub count : new.value_count ≡ old.value_count
  pub list : new.value_list ≡ old.value_list
  pub list_cell : (o : ℕ) → In (value_list_at b x) o → c.payload o ≡ b.payload o
  pub cells : (v : ℕ) → In (value_places b x) v → IsValueSame b c v

pub value_list_kept : (b c : Cells) (x : ℕ) (k : IsNodeKept b c x) → AreValuesKept b c x k.old k.new
    → value_list_at c x ≡ value_list_at b x
unfolding value_list_at
value_list_kept b c x k v =
    of_node_is c x k.new (λ n. if n.value_count == 0 then [] else n.value_list ∷ []) k.read_new
    ∙ ap (λ (l : ℕ). cond (l == 0) [] (k.new.value_list ∷ [])) v.count
    ∙ ap (λ (o : ℕ). cond (k.old.value_count == 0) [] (o ∷ [])) v.list
    ∙ sym (of_node_is b x k.old (λ n. if n.value_count == 0 then [] else n.value_list ∷ []) k.read)

pub value_places_kept : (b c : Cells) (x : ℕ) (k : IsNodeKept b c x) → AreValuesKept b c x k.old k.new
    → value_places c x ≡ value_places b x
unfolding value_list_at value_places
value_places_kept b c x k v =
    of_node_is c x k.new (λ n. if n.value_count == 0 then [] else of_read
    (reading (offsets_in n.value_count) c n.value_list) (λ os. os)) k.read_new
    ∙ ap (λ (l : ℕ). cond (l == 0) [] (of_read (reading (offsets_in l) c k.new.value_list) (λ os. os))) v.count
    ∙ ap (λ (o : ℕ). cond (k.old.value_count == 0) [] (of_read (reading (offsets_in k.old.value_count) c o) (λ os. os)))
    v.list
    ∙ go (k.old.value_count == 0)
    (λ o i. v.list_cell o (subst (λ (xs : List ℕ). In xs o)
    (sym (of_node_is b x k.old (λ n. if n.value_count == 0 then [] else n.value_list ∷ []) k.read)) i))
    ∙ sym (of_node_is b x k.old
    (λ n. if n.value_count == 0 then [] else of_read (reading (offsets_in n.value_count) b n.value_list) (λ os. os))
    k.read)
  where
    go : (t : Bool) → ((o : ℕ) → In (cond t [] (k.old.value_list ∷ [])) o → c.payload o ≡ b.payload o)
        → cond t [] (of_read (reading (offsets_in k.old.value_count) c k.old.value_list) (λ os. os))
        ≡ cond t [] (of_read (reading (offsets_in k.old.value_count) b k.old.value_list) (λ os. os))
    go true h = refl
    go false h =
        ap (λ (q : Result (List ℕ) HiveFaultKind). of_read q (λ os. os))
        (same_reading (offsets_in k.old.value_count) b c k.old.value_list (h k.old.value_list (inl refl)))

-- the node names the same lists of children, in cells that are the same
pub record AreChildrenKept (b c : Cells) (x : ℕ) (old new : KeyNode) : Type 0 where
  pub count : new.child_count ≡ old.child_count
  pub list : new.child_list ≡ old.child_list
  pub list_cells : (o : ℕ) → In (list_cells_at b x) o → c.payload o ≡ b.payload o

pub lists_kept : (b c : Cells) (x : ℕ) (k : IsNodeKept b c x) → AreChildrenKept b c x k.old k.new
    → list_cells_at c x ≡ list_cells_at b x
unfolding list_cells_at entries_checks
lists_kept b c x k d =
    of_node_is c x k.new (λ m. if m.child_count == 0 then [] else used_in (entries_checks c m.child_list)) k.read_new
    ∙ ap (λ (l : ℕ). cond (l == 0) [] (used_in (entries_checks c k.new.child_list))) d.count
    ∙ ap (λ (o : ℕ). cond (k.old.child_count == 0) [] (used_in (entries_checks c o))) d.list
    ∙ go (k.old.child_count == 0) (λ o i. d.list_cells o (subst (λ (xs : List ℕ). In xs o) (sym old) i))
    ∙ sym old
  where
    old : list_cells_at b x ≡ cond (k.old.child_count == 0) [] (used_in (entries_checks b k.old.child_list))
    old =
        of_node_is b x k.old (λ m. if m.child_count == 0 then [] else used_in (entries_checks b m.child_list)) k.read

    go : (t : Bool)
        → ((o : ℕ) → In (cond t [] (used_in (entries_checks b k.old.child_list))) o → c.payload o ≡ b.payload o)
        → cond t [] (used_in (entries_checks c k.old.child_list))
        ≡ cond t [] (used_in (entries_checks b k.old.child_list))
    go true h = refl
    go false h = entries_used b c k.old.child_list (h k.old.child_list (inl refl))

pub children_kept : (b c : Cells) (x : ℕ) (k : IsNodeKept b c x) → AreChildrenKept b c x k.old k.new
    → child_places c x ≡ child_places b x
unfolding list_cells_at child_places
children_kept b c x k d =
    of_node_is c x k.new (λ m. if m.child_count == 0 then [] else of_read (entries_at c m.child_list) (λ os. os))
    k.read_new
    ∙ ap (λ (l : ℕ). cond (l == 0) [] (of_read (entries_at c k.new.child_list) (λ os. os))) d.count
    ∙ ap (λ (o : ℕ). cond (k.old.child_count == 0) [] (of_read (entries_at c o) (λ os. os))) d.list
    ∙ go (k.old.child_count == 0) (λ o i. d.list_cells o (subst (λ (xs : List ℕ). In xs o) (sym old) i))
    ∙ sym (of_node_is b x k.old (λ m. if m.child_count == 0 then [] else of_read (entries_at b m.child_list) (λ os. os))
    k.read)
  where
    old : list_cells_at b x ≡ cond (k.old.child_count == 0) [] (used_in (entries_checks b k.old.child_list))
    old =
        of_node_is b x k.old (λ m. if m.child_count == 0 then [] else used_in (entries_checks b m.child_list)) k.read

    go : (t : Bool)
        → ((o : ℕ) → In (cond t [] (used_in (entries_checks b k.old.child_list))) o → c.payload o ≡ b.payload o)
        → cond t [] (of_read (entries_at c k.old.child_list) (λ os. os))
        ≡ cond t [] (of_read (entries_at b k.old.child_list) (λ os. os))
    go true h = refl
    go false h = ap (λ (q : Result (List ℕ) HiveFaultKind). of_read q (λ os. os)) (entries_same b c k.old.child_list h)
