-- A key whose own cells are the same lists the same; and what is owned after a step, key by key.
use Rattle.std.proofs.Common.{◌≡◌, ℕ, Bool, true, false, cond, List, [], ◌∷◌, ◌++◌, refl, sym, ◌∙◌, ap, subst, inl, inr, ⊎_elim, Result, Ok, Err}
use Rattle.std.specs.Prelude.{◌-◌, ◌⊎◌, ◌==◌, if◌then◌else◌, is_some}
use Rattle.nt_bytes.specs.declared.fault.HiveFaultKind.{HiveFaultKind}
use Rattle.nt_bytes.specs.declared.version.HiveVersion.{HiveVersion}
use Rattle.nt_bytes.specs.Reading.{◌>>=◌}
use Rattle.hive_model.specs.Bins.{Cells}
use Rattle.hive_model.specs.Size.{segment_bytes, is_big}
use Rattle.hive_model.specs.Forms.{bytes_in}
use Rattle.hive_model.specs.KeyNode.{KeyNode, key_node_at}
use Rattle.hive_model.specs.KeyValue.{KeyValue, key_value_at, data_inside}
use Rattle.hive_model.specs.BigData.{BigData}
use Rattle.hive_model.specs.Security.{security_at}
use Rattle.hive_model.specs.Lists.{SubkeyList, list_at, offsets_in}
use Rattle.hive_model.specs.Walk.{Check, reading, nowhere, big_data_of, segments_checks, big_checks, leaf_at, is_list_of_lists, joined_at, entries_of, entries_at, below_of, use_as, name_check, names_of, class_checks, security_checks, data_checks, value_checks, leaves_checks, entries_checks}
use Rattle.hive_model.specs.Footprint.{of_read, of_node, used_in, child_places, security_cell_at, list_cells_at}
use Rattle.edited_cells.specs.Owned.{Role, node, class, security, value_list, value, lists, In, first_or_empty, node_name, value_name, value_places, value_list_at, class_cell_at, HasRole, Reaches, Owns, IsSecurity}
use Rattle.edited_cells.proofs.Out.{of_node_is, behind_big}

-- the key's own cells are the same, but for its security
pub record IsSame (b c : Cells) (at : ℕ) : Type 0 where
  pub version : c.version ≡ b.version
  pub each : (r : Role) (o : ℕ) → (IsSecurity r → ⊥) → HasRole b at r o → c.payload o ≡ b.payload o

pub same_reading : {F : Type 0} (form : List ℕ → Result F HiveFaultKind) (b c : Cells) (at : ℕ)
    → c.payload at ≡ b.payload at → reading form c at ≡ reading form b at
same_reading form b c at e = ap (λ r. r >>= form) e

pub same_name : (b c : Cells) (at : ℕ) → c.payload at ≡ b.payload at → node_name c at ≡ node_name b at
same_name b c at e =
    ap (λ (r : Result KeyNode HiveFaultKind). first_or_empty (names_of (λ (n : KeyNode). n.name) r))
    (same_reading key_node_at b c at e)

pub same_value_name : (b c : Cells) (at : ℕ) → c.payload at ≡ b.payload at → value_name c at ≡ value_name b at
same_value_name b c at e =
    ap (λ (r : Result KeyValue HiveFaultKind). first_or_empty (names_of (λ (v : KeyValue). v.name) r))
    (same_reading key_value_at b c at e)

-- the cells that are used as a form do not matter to which they are
class_used : (b c : Cells) (n : KeyNode) → used_in (class_checks c n) ≡ used_in (class_checks b n)
unfolding class_checks
class_used b c n = go (n.class_length == 0)
  where
    go : (t : Bool)
        → used_in (cond t [] (use_as false (bytes_in n.class_length) c n.class))
        ≡ used_in (cond t [] (use_as false (bytes_in n.class_length) b n.class))
    go true = refl
    go false = refl

security_used : (b c : Cells) (n : KeyNode) → used_in (security_checks c n) ≡ used_in (security_checks b n)
unfolding security_checks
security_used b c n = go (n.security == nowhere)
  where
    go : (t : Bool)
        → used_in (cond t [] (use_as true security_at c n.security))
        ≡ used_in (cond t [] (use_as true security_at b n.security))
    go true = refl
    go false = refl

segments_used : (b c : Cells) (n : ℕ) (offsets : List ℕ)
    → used_in (segments_checks c n offsets) ≡ used_in (segments_checks b n offsets)
segments_used b c n [] = refl
segments_used b c n (at ∷ rest) = ap (λ (l : List ℕ). at ∷ l) (segments_used b c (n - segment_bytes) rest)

-- which cells are used as big data, by those that are the same
big_used : (b c : Cells) (n at : ℕ) → ((o : ℕ) → In (used_in (big_checks b n at)) o → c.payload o ≡ b.payload o)
    → used_in (big_checks c n at) ≡ used_in (big_checks b n at)
unfolding big_checks
big_used b c n at h =
    ap (λ (l : List ℕ). at ∷ l)
    (ap (λ (q : Result BigData HiveFaultKind). used_in (below_of q (behind_big c n)))
    (same_reading (big_data_of n) b c at (h at (inl refl)))
    ∙ one (reading (big_data_of n) b at) (λ o i. h o (inr i)))
  where
    two : (q : Result (List ℕ) HiveFaultKind)
        → used_in (below_of q (segments_checks c n)) ≡ used_in (below_of q (segments_checks b n))
    two (Ok offsets) = segments_used b c n offsets
    two (Err k) = refl

    one : (q : Result BigData HiveFaultKind)
        → ((o : ℕ) → In (used_in (below_of q (behind_big b n))) o → c.payload o ≡ b.payload o)
        → used_in (below_of q (behind_big c n)) ≡ used_in (below_of q (behind_big b n))
    one (Ok big) h =
        ap (λ (l : List ℕ). big.list ∷ l)
        (ap (λ (q : Result (List ℕ) HiveFaultKind). used_in (below_of q (segments_checks c n)))
        (same_reading (offsets_in big.segments) b c big.list (h big.list (inl refl)))
        ∙ two (reading (offsets_in big.segments) b big.list))
    one (Err k) h = refl

data_used : (b c : Cells) (v : KeyValue) → c.version ≡ b.version
    → ((o : ℕ) → In (used_in (data_checks b v)) o → c.payload o ≡ b.payload o)
    → used_in (data_checks c v) ≡ used_in (data_checks b v)
unfolding data_checks
data_used b c v e h =
    ap (λ (n : HiveVersion). used_in (by_version n)) e ∙ go (is_some (data_inside v)) (is_big b.version v.size) h
  where
    by_version : HiveVersion → List Check
    by_version n =
        cond (is_some (data_inside v)) []
        (cond (is_big n v.size) (big_checks c v.size v.offset) (use_as false (bytes_in v.size) c v.offset))

    go : (t u : Bool)
        → ((o : ℕ) → In (used_in (cond t []
        (cond u (big_checks b v.size v.offset) (use_as false (bytes_in v.size) b v.offset)))) o
        → c.payload o ≡ b.payload o)
        → used_in (cond t [] (cond u (big_checks c v.size v.offset) (use_as false (bytes_in v.size) c v.offset)))
        ≡ used_in (cond t [] (cond u (big_checks b v.size v.offset) (use_as false (bytes_in v.size) b v.offset)))
    go true u h = refl
    go false true h = big_used b c v.size v.offset h
    go false false h = refl

leaves_used : (b c : Cells) (offsets : List ℕ) → used_in (leaves_checks c offsets) ≡ used_in (leaves_checks b offsets)
leaves_used b c [] = refl
leaves_used b c (at ∷ rest) = ap (λ (l : List ℕ). at ∷ l) (leaves_used b c rest)

-- the cells of a value are the same
abbrev pub IsValueSame : Cells → Cells → ℕ → Type 0
IsValueSame b c v = (o : ℕ) → In (used_in (value_checks b [] v)) o → c.payload o ≡ b.payload o

pub value_used_same : (b c : Cells) (v : ℕ) → c.version ≡ b.version → IsValueSame b c v
    → used_in (value_checks c [] v) ≡ used_in (value_checks b [] v)
unfolding value_checks
value_used_same b c v e h =
    ap (λ (l : List ℕ). v ∷ l)
    (ap (λ (q : Result KeyValue HiveFaultKind). used_in
    (below_of q (λ value. name_check [] v value.name ∷ data_checks c value)))
    (same_reading key_value_at b c v (h v (inl refl)))
    ∙ one (reading key_value_at b v) (λ o i. h o (inr i)))
  where
    one : (q : Result KeyValue HiveFaultKind)
        → ((o : ℕ) → In (used_in (below_of q (λ value. name_check [] v value.name ∷ data_checks b value))) o
        → c.payload o ≡ b.payload o)
        → used_in (below_of q (λ value. name_check [] v value.name ∷ data_checks c value))
        ≡ used_in (below_of q (λ value. name_check [] v value.name ∷ data_checks b value))
    one (Ok x) h = data_used b c x e h
    one (Err k) h = refl

pub entries_used : (b c : Cells) (at : ℕ) → c.payload at ≡ b.payload at
    → used_in (entries_checks c at) ≡ used_in (entries_checks b at)
unfolding entries_checks
entries_used b c at e =
    ap (λ (l : List ℕ). at ∷ l)
    (ap (λ (q : Result SubkeyList HiveFaultKind). used_in
    (below_of q (λ list. if is_list_of_lists list.kind then leaves_checks c list.offsets else [])))
    (same_reading list_at b c at e)
    ∙ one (reading list_at b at))
  where
    two : (list : SubkeyList) (t : Bool)
        → used_in (cond t (leaves_checks c list.offsets) []) ≡ used_in (cond t (leaves_checks b list.offsets) [])
    two list true = leaves_used b c list.offsets
    two list false = refl

    one : (q : Result SubkeyList HiveFaultKind)
        → used_in (below_of q (λ list. if is_list_of_lists list.kind then leaves_checks c list.offsets else []))
        ≡ used_in (below_of q (λ list. if is_list_of_lists list.kind then leaves_checks b list.offsets else []))
    one (Ok list) = two list (is_list_of_lists list.kind)
    one (Err k) = refl

joined_same : (b c : Cells) (offsets : List ℕ) → ((o : ℕ) → In offsets o → c.payload o ≡ b.payload o)
    → joined_at c offsets ≡ joined_at b offsets
joined_same b c [] h = refl
joined_same b c (at ∷ rest) h =
    ap (λ (q : Result (List ℕ) HiveFaultKind). q >>= λ xs. joined_at c rest >>= λ ys. Ok (xs ++ ys))
    (same_reading leaf_at b c at (h at (inl refl)))
    ∙ ap (λ (q : Result (List ℕ) HiveFaultKind). reading leaf_at b at >>= λ xs. q >>= λ ys. Ok (xs ++ ys))
    (joined_same b c rest (λ o i. h o (inr i)))

leaf_in : (cells : Cells) (offsets : List ℕ) (o : ℕ) → In offsets o → In (used_in (leaves_checks cells offsets)) o
leaf_in cells [] o h = absurd h
leaf_in cells (at ∷ rest) o (inl e) = inl e
leaf_in cells (at ∷ rest) o (inr h) = inr (leaf_in cells rest o h)

pub entries_same : (b c : Cells) (at : ℕ)
    → ((o : ℕ) → In (used_in (entries_checks b at)) o → c.payload o ≡ b.payload o) → entries_at c at ≡ entries_at b at
unfolding entries_at entries_checks
entries_same b c at h =
    ap (λ (q : Result SubkeyList HiveFaultKind). q >>= entries_of c) (same_reading list_at b c at (h at (inl refl)))
    ∙ go (reading list_at b at) (λ o i. h o (inr i))
  where
    two : (list : SubkeyList) (t : Bool)
        → ((o : ℕ) → In (used_in (cond t (leaves_checks b list.offsets) [])) o → c.payload o ≡ b.payload o)
        → cond t (joined_at c list.offsets) (Ok list.offsets) ≡ cond t (joined_at b list.offsets) (Ok list.offsets)
    two list true h = joined_same b c list.offsets (λ o i. h o (leaf_in b list.offsets o i))
    two list false h = refl

    go : (q : Result SubkeyList HiveFaultKind)
        → ((o : ℕ) → In (used_in (below_of q
        (λ list. if is_list_of_lists list.kind then leaves_checks b list.offsets else []))) o
        → c.payload o ≡ b.payload o)
        → (q >>= entries_of c) ≡ (q >>= entries_of b)
    go (Ok list) h = two list (is_list_of_lists list.kind) h
    go (Err k) h = refl

-- ---- a key

both_nodes : (b c : Cells) (at : ℕ) (f g : KeyNode → List ℕ) → c.payload at ≡ b.payload at
    → ((n : KeyNode) → reading key_node_at b at ≡ Ok n → f n ≡ g n) → of_node c at f ≡ of_node b at g
both_nodes b c at f g e same =
    ap (λ (q : Result KeyNode HiveFaultKind). of_read q f) (same_reading key_node_at b c at e)
    ∙ go (reading key_node_at b at) refl
  where
    go : (q : Result KeyNode HiveFaultKind) → reading key_node_at b at ≡ q → of_read q f ≡ of_read q g
    go (Ok n) e = same n e
    go (Err k) e = refl

pub class_same : (b c : Cells) (at : ℕ) → c.payload at ≡ b.payload at → class_cell_at c at ≡ class_cell_at b at
unfolding class_cell_at
class_same b c at e =
    both_nodes b c at (λ n. used_in (class_checks c n)) (λ n. used_in (class_checks b n)) e (λ n r. class_used b c n)

pub security_same : (b c : Cells) (at : ℕ) → c.payload at ≡ b.payload at
    → security_cell_at c at ≡ security_cell_at b at
unfolding security_cell_at
security_same b c at e =
    both_nodes b c at (λ n. used_in (security_checks c n)) (λ n. used_in (security_checks b n)) e
    (λ n r. security_used b c n)

pub value_list_same : (b c : Cells) (at : ℕ) → c.payload at ≡ b.payload at → value_list_at c at ≡ value_list_at b at
unfolding value_list_at
value_list_same b c at e =
    both_nodes b c at (λ k. if k.value_count == 0 then [] else k.value_list ∷ [])
    (λ k. if k.value_count == 0 then [] else k.value_list ∷ []) e (λ n r. refl)

pub lists_same : (b c : Cells) (at : ℕ) → c.payload at ≡ b.payload at
    → ((o : ℕ) → In (list_cells_at b at) o → c.payload o ≡ b.payload o) → list_cells_at c at ≡ list_cells_at b at
unfolding list_cells_at entries_checks
lists_same b c at e h =
    both_nodes b c at (λ m. if m.child_count == 0 then [] else used_in (entries_checks c m.child_list))
    (λ m. if m.child_count == 0 then [] else used_in (entries_checks b m.child_list)) e
    (λ n r. go n (n.child_count == 0)
    (λ o i. h o (subst (λ (xs : List ℕ). In xs o)
    (sym (of_node_is b at n (λ m. if m.child_count == 0 then [] else used_in (entries_checks b m.child_list)) r))
    i)))
  where
    go : (n : KeyNode) (t : Bool)
        → ((o : ℕ) → In (cond t [] (used_in (entries_checks b n.child_list))) o → c.payload o ≡ b.payload o)
        → cond t [] (used_in (entries_checks c n.child_list)) ≡ cond t [] (used_in (entries_checks b n.child_list))
    go n true h = refl
    go n false h = entries_used b c n.child_list (h n.child_list (inl refl))

pub places_same : (b c : Cells) (at : ℕ) → c.payload at ≡ b.payload at
    → ((o : ℕ) → In (list_cells_at b at) o → c.payload o ≡ b.payload o) → child_places c at ≡ child_places b at
unfolding list_cells_at child_places
places_same b c at e h =
    both_nodes b c at (λ m. if m.child_count == 0 then [] else of_read (entries_at c m.child_list) (λ os. os))
    (λ m. if m.child_count == 0 then [] else of_read (entries_at b m.child_list) (λ os. os)) e
    (λ n r. go n (n.child_count == 0)
    (λ o i. h o (subst (λ (xs : List ℕ). In xs o)
    (sym (of_node_is b at n (λ m. if m.child_count == 0 then [] else used_in (entries_checks b m.child_list)) r))
    i)))
  where
    go : (n : KeyNode) (t : Bool)
        → ((o : ℕ) → In (cond t [] (used_in (entries_checks b n.child_list))) o → c.payload o ≡ b.payload o)
        → cond t [] (of_read (entries_at c n.child_list) (λ os. os))
        ≡ cond t [] (of_read (entries_at b n.child_list) (λ os. os))
    go n true h = refl
    go n false h = ap (λ (q : Result (List ℕ) HiveFaultKind). of_read q (λ os. os)) (entries_same b c n.child_list h)

pub value_places_same : (b c : Cells) (at : ℕ) → c.payload at ≡ b.payload at
    → ((o : ℕ) → In (value_list_at b at) o → c.payload o ≡ b.payload o) → value_places c at ≡ value_places b at
unfolding value_list_at value_places
value_places_same b c at e h =
    both_nodes b c at (λ k. if k.value_count == 0 then [] else of_read
    (reading (offsets_in k.value_count) c k.value_list) (λ os. os))
    (λ k. if k.value_count == 0 then [] else of_read (reading (offsets_in k.value_count) b k.value_list) (λ os. os))
    e
    (λ n r. go n (n.value_count == 0)
    (λ o i. h o (subst (λ (xs : List ℕ). In xs o)
    (sym (of_node_is b at n (λ k. if k.value_count == 0 then [] else k.value_list ∷ []) r)) i)))
  where
    go : (n : KeyNode) (t : Bool) → ((o : ℕ) → In (cond t [] (n.value_list ∷ [])) o → c.payload o ≡ b.payload o)
        → cond t [] (of_read (reading (offsets_in n.value_count) c n.value_list) (λ os. os))
        ≡ cond t [] (of_read (reading (offsets_in n.value_count) b n.value_list) (λ os. os))
    go n true h = refl
    go n false h =
        ap (λ (q : Result (List ℕ) HiveFaultKind). of_read q (λ os. os))
        (same_reading (offsets_in n.value_count) b c n.value_list (h n.value_list (inl refl)))

pub first_used : (cells : Cells) (v : ℕ) → In (used_in (value_checks cells [] v)) v
unfolding value_checks
first_used cells v = inl refl

-- what the key owns in the new cells it owned
pub same_role : (b c : Cells) (at : ℕ) → IsSame b c at → (r : Role) (o : ℕ) → HasRole c at r o → HasRole b at r o
same_role b c at s node o h = h
same_role b c at s class o h = subst (λ (xs : List ℕ). In xs o) (class_same b c at (s.each node at (λ z. z) refl)) h
same_role b c at s security o h =
    subst (λ (xs : List ℕ). In xs o) (security_same b c at (s.each node at (λ z. z) refl)) h
same_role b c at s value_list o h =
    subst (λ (xs : List ℕ). In xs o) (value_list_same b c at (s.each node at (λ z. z) refl)) h
same_role b c at s (value name) o h =
    let listed = subst (λ (xs : List ℕ). In xs h.place)
    (value_places_same b c at (s.each node at (λ z. z) refl) (λ w i. s.each value_list w (λ z. z) i)) h.listed in
    let there : IsValueSame b c h.place =
    λ w i. s.each (value (value_name b h.place)) w (λ z. z)
    (record { place = h.place; listed = listed; named = refl; used = i }) in
    record {
      place = h.place;
      listed = listed;
      named = sym (same_value_name b c h.place (there h.place (first_used b h.place))) ∙ h.named;
      used = subst (λ (xs : List ℕ). In xs o) (value_used_same b c h.place s.version there) h.used;
    }
same_role b c at s lists o h =
    subst (λ (xs : List ℕ). In xs o)
    (lists_same b c at (s.each node at (λ z. z) refl) (λ w i. s.each lists w (λ z. z) i)) h

-- ---- what is owned after a step, key by key

-- a key's children after the step were its children, or are new with all below them; and its cells were its own, or
-- are new
pub record IsKept (b c : Cells) (New : ℕ → Type 0) (x : ℕ) : Type 0 where
  pub child : (y : ℕ) → In (child_places c x) y
      → (In (child_places b x) y × (node_name c y ≡ node_name b y))
      ⊎ ((p : List (List ℕ)) (r : Role) (o : ℕ) → Owns c y p r o → New o)
  pub role : (r : Role) (o : ℕ) → HasRole c x r o → HasRole b x r o ⊎ New o

-- where each key that is at its path before and after is kept, what is owned after was owned before, or is new
pub owned_frame : (b c : Cells) (New : ℕ → Type 0) (p : List (List ℕ)) (at x : ℕ) (r : Role) (o : ℕ)
    → ((q : List (List ℕ)) (y : ℕ) → Reaches b at q y → Reaches c at q y → IsKept b c New y) → Reaches c at p x
    → HasRole c x r o → Owns b at p r o ⊎ New o
owned_frame b c New [] at x r o kept e h =
    ⊎_elim (λ i. inl (record { at = at; reached = refl; has = i })) (λ n. inr n)
    ((kept [] at refl refl).role r o (subst (λ (z : ℕ). HasRole c z r o) (sym e) h))
owned_frame b c New (m ∷ p) at x r o kept e h =
    go (λ i s. owned_frame b c New p e.0 x r o (λ q y w z. kept (m ∷ q) y (e.0, i, sym s ∙ e.2, w) (e.0, e.1, e.2, z))
    e.3 h) ((kept [] at refl refl).child e.0 e.1)
  where
    up : In (child_places b at) e.0 → node_name c e.0 ≡ node_name b e.0 → Owns b e.0 p r o → Owns b at (m ∷ p) r o
    up i s w = record { at = w.at; reached = (e.0, i, sym s ∙ e.2, w.reached); has = w.has }

    go : (In (child_places b at) e.0 → node_name c e.0 ≡ node_name b e.0 → Owns b e.0 p r o ⊎ New o)
        → (In (child_places b at) e.0 × (node_name c e.0 ≡ node_name b e.0))
        ⊎ ((p : List (List ℕ)) (r : Role) (o : ℕ) → Owns c e.0 p r o → New o)
        → Owns b at (m ∷ p) r o ⊎ New o
    go deep (inl i) = ⊎_elim (λ w. inl (up i.0 i.1 w)) (λ n. inr n) (deep i.0 i.1)
    go deep (inr new) = inr (new p r o (record { at = x; reached = e.3; has = h }))

-- a key with the same cells, whose children have the same names, is kept
pub kept_same : (b c : Cells) (New : ℕ → Type 0) (x : ℕ) → IsSame b c x
    → ((y : ℕ) → In (child_places b x) y → node_name c y ≡ node_name b y) → IsKept b c New x
kept_same b c New x s names = record {
  child = λ y i. let j = subst (λ (xs : List ℕ). In xs y)
      (places_same b c x (s.each node x (λ z. z) refl) (λ w k. s.each lists w (λ z. z) k)) i in inl (j, names y j);
  role = λ r o h. inl (same_role b c x s r o h);
}
