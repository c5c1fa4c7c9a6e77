-- A key whose cells are the same says the same, and a tree whose keys are the same stands where it stood and uses
-- what it used.
use Rattle.std.proofs.Common.{◌≡◌, ℕ, zero, suc, Bool, true, false, cond, List, [], ◌∷◌, ◌++◌, length, refl, sym, ◌∙◌, ap, subst, inl, inr, Option, Some, None, Result, Ok, Err}
use Rattle.std.specs.Prelude.{◌-◌, MatchBool, ◌==◌, if◌then◌else◌, is_some, flat_map}
use Rattle.nt_bytes.specs.declared.fault.HiveFaultKind.{HiveFaultKind}
use Rattle.nt_bytes.specs.declared.version.HiveVersion.{HiveVersion}
use Rattle.nt_bytes.specs.Reading.{◌>>=◌}
use Rattle.hive_model.specs.Bins.{Cells}
use Rattle.hive_model.specs.Size.{segment_bytes, is_big, segment_part}
use Rattle.hive_model.specs.Forms.{bytes_in}
use Rattle.hive_model.specs.KeyNode.{KeyNode, key_node_at}
use Rattle.hive_model.specs.KeyValue.{KeyValue, key_value_at, data_inside}
use Rattle.hive_model.specs.BigData.{BigData}
use Rattle.hive_model.specs.Security.{security_at}
use Rattle.hive_model.specs.Lists.{offsets_in}
use Rattle.hive_model.specs.Tree.{Tree, Trees, key, none, more, Head, Item}
use Rattle.hive_model.specs.Walk.{reading, nowhere, big_data_of, segments_checks, big_checks, entries_at, below_of, use_as, name_check, class_checks, security_checks, data_checks, value_checks, entries_checks}
use Rattle.hive_model.specs.Footprint.{of_read, used_in, child_places, security_cell_at, list_cells_at}
use Rattle.hive_model.specs.Stands.{class_of, security_of, data_or, joined_segments, big_bytes_at, data_of, item_at, items_at, values_of, ListsChildren, KeyStands, Stands, AllStand}
use Rattle.edited_cells.specs.Owned.{node, class, value_list, value, lists, In, value_name, value_places, value_list_at, class_cell_at, Reaches, node_name}
use Rattle.edited_cells.proofs.Out.{of_node_is, behind_big}
use Rattle.edited_cells.proofs.Wellformed.{places_are}
use Rattle.edited_cells.proofs.Same.{IsSame, IsValueSame, same_reading, class_same, security_same, value_list_same, value_places_same, lists_same, places_same, value_used_same, entries_same}
use Rattle.edited_cells.specs.Revalues.{cells_of_values, all_value_cells}
use Rattle.edited_cells.specs.Uses.{plain, secure, own_uses, tree_uses}

-- ---- values

segments_same : (b c : Cells) (n : ℕ) (offsets : List ℕ)
    → ((o : ℕ) → In (used_in (segments_checks b n offsets)) o → c.payload o ≡ b.payload o)
    → joined_segments c n offsets ≡ joined_segments b n offsets
segments_same b c n [] h = refl
segments_same b c n (at ∷ rest) h =
    ap (λ (r : Result _ HiveFaultKind). r >>= λ x. joined_segments c (n - segment_bytes) rest >>= λ y. Ok (x ++ y))
    (same_reading (bytes_in (segment_part n)) b c at (h at (inl refl)))
    ∙ ap (λ (r : Result _ HiveFaultKind). reading (bytes_in (segment_part n)) b at >>= λ x. r >>= λ y. Ok (x ++ y))
    (segments_same b c (n - segment_bytes) rest (λ o i. h o (inr i)))

big_same : (b c : Cells) (n at : ℕ) → ((o : ℕ) → In (used_in (big_checks b n at)) o → c.payload o ≡ b.payload o)
    → big_bytes_at c n at ≡ big_bytes_at b n at
unfolding big_checks big_bytes_at
big_same b c n at h =
    ap (λ (r : Result BigData HiveFaultKind). r >>= λ big. reading (offsets_in big.segments)
    c big.list >>= joined_segments c n) (same_reading (big_data_of n) b c at (h at (inl refl)))
    ∙ one (reading (big_data_of n) b at) (λ o i. h o (inr i))
  where
    two : (r : Result (List ℕ) HiveFaultKind)
        → ((o : ℕ) → In (used_in (below_of r (segments_checks b n))) o → c.payload o ≡ b.payload o)
        → (r >>= joined_segments c n) ≡ (r >>= joined_segments b n)
    two (Ok offsets) h = segments_same b c n offsets h
    two (Err k) h = refl

    one : (r : Result BigData HiveFaultKind)
        → ((o : ℕ) → In (used_in (below_of r (behind_big b n))) o → c.payload o ≡ b.payload o)
        → (r >>= λ big. reading (offsets_in big.segments) c big.list >>= joined_segments c n)
        ≡ (r >>= λ big. reading (offsets_in big.segments) b big.list >>= joined_segments b n)
    one (Ok big) h =
        ap (λ (r : Result (List ℕ) HiveFaultKind). r >>= joined_segments c n)
        (same_reading (offsets_in big.segments) b c big.list (h big.list (inl refl)))
        ∙ two (reading (offsets_in big.segments) b big.list) (λ o i. h o (inr i))
    one (Err k) h = refl

data_same : (b c : Cells) (v : KeyValue) → c.version ≡ b.version
    → ((o : ℕ) → In (used_in (data_checks b v)) o → c.payload o ≡ b.payload o) → data_of c v ≡ data_of b v
unfolding data_checks data_of
data_same b c v e h = ap (λ (n : HiveVersion). by_version n) e ∙ go (data_inside v) (is_big b.version v.size) h
  where
    by_version : HiveVersion → Result (List ℕ) HiveFaultKind
    by_version n =
        data_or (data_inside v) (cond (is_big n v.size) (big_bytes_at c v.size v.offset)
        (reading (bytes_in v.size) c v.offset))

    go : (t : Option (List ℕ)) (u : Bool)
        → ((o : ℕ) → In (used_in (cond (is_some t) []
        (cond u (big_checks b v.size v.offset) (use_as false (bytes_in v.size) b v.offset)))) o
        → c.payload o ≡ b.payload o)
        → data_or t (cond u (big_bytes_at c v.size v.offset) (reading (bytes_in v.size) c v.offset))
        ≡ data_or t (cond u (big_bytes_at b v.size v.offset) (reading (bytes_in v.size) b v.offset))
    go (Some d) u h = refl
    go None true h = big_same b c v.size v.offset h
    go None false h = same_reading (bytes_in v.size) b c v.offset (h v.offset (inl refl))

abbrev of_value : Cells → KeyValue → Result Item HiveFaultKind
of_value cells v = data_of cells v >>= λ bytes. Ok (record { name = v.name; kind = v.kind; bytes = bytes })

-- a value whose cells are the same is the same
pub item_same : (b c : Cells) (v : ℕ) → c.version ≡ b.version → IsValueSame b c v → item_at c v ≡ item_at b v
unfolding value_checks item_at
item_same b c v e h =
    ap (λ (r : Result KeyValue HiveFaultKind). r >>= of_value c) (same_reading key_value_at b c v (h v (inl refl)))
    ∙ one (reading key_value_at b v) (λ o i. h o (inr i))
  where
    one : (r : Result KeyValue HiveFaultKind)
        → ((o : ℕ) → In (used_in (below_of r (λ value. name_check [] v value.name ∷ data_checks b value))) o
        → c.payload o ≡ b.payload o)
        → (r >>= of_value c) ≡ (r >>= of_value b)
    one (Ok x) h =
        ap (λ (r : Result (List ℕ) HiveFaultKind). r >>= λ bytes. Ok
        (record { name = x.name; kind = x.kind; bytes = bytes })) (data_same b c x e h)
    one (Err k) h = refl

pub items_same : (b c : Cells) (offsets : List ℕ) → c.version ≡ b.version
    → ((v : ℕ) → In offsets v → IsValueSame b c v) → items_at c offsets ≡ items_at b offsets
items_same b c [] e h = refl
items_same b c (at ∷ rest) e h =
    ap (λ (r : Result Item HiveFaultKind). r >>= λ item. items_at c rest >>= λ items. Ok (item ∷ items))
    (item_same b c at e (h at (inl refl)))
    ∙ ap (λ (r : Result (List Item) HiveFaultKind). item_at b at >>= λ item. r >>= λ items. Ok (item ∷ items))
    (items_same b c rest e (λ v i. h v (inr i)))

-- ---- a key

-- the key's own cells are the same, but that of its security perhaps, which has the same descriptor
pub record IsSameKey (b c : Cells) (at : ℕ) : Type 0 where
  pub same : IsSame b c at
  pub security : (o : ℕ) → In (security_cell_at b at) o
      → (reading security_at c o >>= λ s. Ok s.descriptor) ≡ (reading security_at b o >>= λ s. Ok s.descriptor)

-- what a node names is listed
pub class_is : (cells : Cells) (at : ℕ) (n : KeyNode) → reading key_node_at cells at ≡ Ok n
    → (n.class_length == 0) ≡ false → In (class_cell_at cells at) n.class
unfolding class_cell_at class_checks
class_is cells at n read some =
    subst (λ (l : List ℕ). In l n.class) (sym (of_node_is cells at n (λ m. used_in (class_checks cells m)) read))
    (subst (λ (b : Bool). In (used_in (cond b [] (use_as false (bytes_in n.class_length) cells n.class))) n.class)
    (sym some) (inl refl))

pub security_is : (cells : Cells) (at : ℕ) (n : KeyNode) → reading key_node_at cells at ≡ Ok n
    → (n.security == nowhere) ≡ false → In (security_cell_at cells at) n.security
unfolding security_cell_at security_checks
security_is cells at n read some =
    subst (λ (l : List ℕ). In l n.security) (sym (of_node_is cells at n (λ m. used_in (security_checks cells m)) read))
    (subst (λ (b : Bool). In (used_in (cond b [] (use_as true security_at cells n.security))) n.security) (sym some)
    (inl refl))

pub value_list_is : (cells : Cells) (at : ℕ) (n : KeyNode) → reading key_node_at cells at ≡ Ok n
    → (n.value_count == 0) ≡ false → In (value_list_at cells at) n.value_list
unfolding value_list_at
value_list_is cells at n read some =
    subst (λ (l : List ℕ). In l n.value_list)
    (sym (of_node_is cells at n (λ k. if k.value_count == 0 then [] else k.value_list ∷ []) read))
    (subst (λ (b : Bool). In (cond b [] (n.value_list ∷ [])) n.value_list) (sym some) (inl refl))

-- the lists of a node that counts children
pub lists_are : (cells : Cells) (at : ℕ) (n : KeyNode) (o : ℕ) → reading key_node_at cells at ≡ Ok n
    → (n.child_count == 0) ≡ false → In (used_in (entries_checks cells n.child_list)) o
    → In (list_cells_at cells at) o
unfolding list_cells_at
lists_are cells at n o read some h =
    subst (λ (l : List ℕ). In l o)
    (sym (of_node_is cells at n
    (λ m. if m.child_count == 0 then [] else used_in (entries_checks cells m.child_list)) read))
    (subst (λ (b : Bool). In (cond b [] (used_in (entries_checks cells n.child_list))) o) (sym some) h)

-- the values of a node that counts some
pub values_are : (cells : Cells) (at : ℕ) (n : KeyNode) (offsets : List ℕ) → reading key_node_at cells at ≡ Ok n
    → (n.value_count == 0) ≡ false → reading (offsets_in n.value_count) cells n.value_list ≡ Ok offsets
    → value_places cells at ≡ offsets
unfolding value_places
values_are cells at n offsets read some list =
    of_node_is cells at n (λ k. if k.value_count == 0 then [] else of_read_list k) read
    ∙ ap (λ (b : Bool). cond b [] (of_read_list n)) some
    ∙ ap (λ (r : Result (List ℕ) HiveFaultKind). of_read r (λ os. os)) list
  where
    of_read_list : KeyNode → List ℕ
    of_read_list k = of_read (reading (offsets_in k.value_count) cells k.value_list) (λ offsets. offsets)

pub class_of_same : (b c : Cells) (n : KeyNode)
    → ((n.class_length == 0) ≡ false → c.payload n.class ≡ b.payload n.class) → class_of c n ≡ class_of b n
unfolding class_of
class_of_same b c n h = go (n.class_length == 0) h
  where
    go : (t : Bool) → (t ≡ false → c.payload n.class ≡ b.payload n.class)
        → cond t (Ok []) (reading (bytes_in n.class_length) c n.class)
        ≡ cond t (Ok []) (reading (bytes_in n.class_length) b n.class)
    go true h = refl
    go false h = same_reading (bytes_in n.class_length) b c n.class (h refl)

pub security_of_same : (b c : Cells) (n : KeyNode)
    → ((n.security == nowhere) ≡ false
    → (reading security_at c n.security >>= λ s. Ok s.descriptor)
    ≡ (reading security_at b n.security >>= λ s. Ok s.descriptor))
    → security_of c n ≡ security_of b n
unfolding security_of
security_of_same b c n h = go (n.security == nowhere) h
  where
    go : (t : Bool)
        → (t ≡ false → (reading security_at c n.security >>= λ s. Ok s.descriptor)
        ≡ (reading security_at b n.security >>= λ s. Ok s.descriptor))
        → cond t (Ok []) (reading security_at c n.security >>= λ s. Ok s.descriptor)
        ≡ cond t (Ok []) (reading security_at b n.security >>= λ s. Ok s.descriptor)
    go true h = refl
    go false h = h refl

pub values_of_same : (b c : Cells) (n : KeyNode) → c.version ≡ b.version
    → ((n.value_count == 0) ≡ false → c.payload n.value_list ≡ b.payload n.value_list)
    → ((offsets : List ℕ) (v : ℕ) → (n.value_count == 0) ≡ false
    → reading (offsets_in n.value_count) b n.value_list ≡ Ok offsets → In offsets v → IsValueSame b c v)
    → values_of c n ≡ values_of b n
unfolding values_of
values_of_same b c n e h each = go (n.value_count == 0) h each
  where
    some : (r : Result (List ℕ) HiveFaultKind)
        → ((offsets : List ℕ) (v : ℕ) → r ≡ Ok offsets → In offsets v → IsValueSame b c v)
        → (r >>= items_at c) ≡ (r >>= items_at b)
    some (Ok offsets) each = items_same b c offsets e (λ v i. each offsets v refl i)
    some (Err k) each = refl

    go : (t : Bool) → (t ≡ false → c.payload n.value_list ≡ b.payload n.value_list)
        → ((offsets : List ℕ) (v : ℕ) → t ≡ false → reading (offsets_in n.value_count) b n.value_list ≡ Ok offsets
        → In offsets v → IsValueSame b c v)
        → cond t (Ok []) (reading (offsets_in n.value_count) c n.value_list >>= items_at c)
        ≡ cond t (Ok []) (reading (offsets_in n.value_count) b n.value_list >>= items_at b)
    go true h each = refl
    go false h each =
        ap (λ (r : Result (List ℕ) HiveFaultKind). r >>= items_at c)
        (same_reading (offsets_in n.value_count) b c n.value_list (h refl))
        ∙ some (reading (offsets_in n.value_count) b n.value_list) (λ offsets v r i. each offsets v refl r i)

pub children_same : (b c : Cells) (n : KeyNode) (offsets : List ℕ)
    → ((n.child_count == 0) ≡ false → (o : ℕ) → In (used_in (entries_checks b n.child_list)) o
    → c.payload o ≡ b.payload o)
    → ListsChildren b n offsets → ListsChildren c n offsets
children_same b c n offsets h l = go (n.child_count == 0) h l
  where
    go : (t : Bool)
        → (t ≡ false → (o : ℕ) → In (used_in (entries_checks b n.child_list)) o → c.payload o ≡ b.payload o)
        → MatchBool t (offsets ≡ []) ((entries_at b n.child_list ≡ Ok offsets) × (length offsets ≡ n.child_count))
        → MatchBool t (offsets ≡ []) ((entries_at c n.child_list ≡ Ok offsets) × (length offsets ≡ n.child_count))
    go true h l = l
    go false h l = (entries_same b c n.child_list (h refl) ∙ l.0, l.1)

-- a key whose cells are the same stands as it stood
pub key_same : (b c : Cells) (at : ℕ) (h : Head) (offsets : List ℕ) → KeyStands b at h offsets → IsSameKey b c at
    → KeyStands c at h offsets
key_same b c at h offsets k s = record {
  node = k.node;
  read = same_reading key_node_at b c at (s.same.each node at (λ z. z) refl) ∙ k.read;
  name = k.name;
  flags = k.flags;
  stamp = k.stamp;
  class = class_of_same b c k.node (λ some. s.same.each class k.node.class (λ z. z) (class_is b at k.node k.read some))
      ∙ k.class;
  security = security_of_same b c k.node (λ some. s.security k.node.security (security_is b at k.node k.read some))
      ∙ k.security;
  values = values_of_same b c k.node s.same.version
      (λ some. s.same.each value_list k.node.value_list (λ z. z) (value_list_is b at k.node k.read some))
      (λ os v some r i o used.
      s.same.each (value (value_name b v)) o (λ z. z)
      (record {
        place = v;
        listed = subst (λ (l : List ℕ). In l v) (sym (values_are b at k.node os k.read some r)) i;
        named = refl;
        used = used;
      })) ∙ k.values;
  children = children_same b c k.node offsets
      (λ some o i. s.same.each lists o (λ z. z) (lists_are b at k.node o k.read some i)) k.children;
}

mutual
  -- a tree whose keys are the same stands where it stood
  pub tree_same : (b c : Cells) (at : ℕ) (t : Tree) → Stands b at t
      → ((p : List (List ℕ)) (x : ℕ) → Reaches b at p x → IsSameKey b c x) → Stands c at t
  tree_same b c at (key h ts) s each =
      let places = places_are b at h s.0 s.1 in (
        s.0,
        key_same b c at h s.0 s.1 (each [] at refl),
        all_same b c s.0 ts s.2 (λ y i p x r. each (node_name b y ∷ p) x
            (y, subst (λ (l : List ℕ). In l y) (sym places) i, refl, r)),
      )

  pub all_same : (b c : Cells) (offsets : List ℕ) (ts : Trees) → AllStand b offsets ts
      → ((y : ℕ) → In offsets y → (p : List (List ℕ)) (x : ℕ) → Reaches b y p x → IsSameKey b c x)
      → AllStand c offsets ts
  all_same b c offsets none e each = e
  all_same b c offsets (more t ts) a each =
      let each_of : (y : ℕ) → In (a.0 ∷ a.1) y → (p : List (List ℕ)) (x : ℕ) → Reaches b y p x → IsSameKey b c x =
      λ y i. each y (subst (λ (l : List ℕ). In l y) (sym a.2) i) in (
        a.0,
        a.1,
        a.2,
        tree_same b c a.0 t a.3 (each_of a.0 (inl refl)),
        all_same b c a.1 ts a.4 (λ y i. each_of y (inr i)),
      )

-- ---- uses

pub values_used_same : (b c : Cells) (offsets : List ℕ) → c.version ≡ b.version
    → ((v : ℕ) → In offsets v → IsValueSame b c v) → cells_of_values c offsets ≡ cells_of_values b offsets
values_used_same b c [] e h = refl
values_used_same b c (at ∷ rest) e h =
    ap (λ (l : List ℕ). l ++ cells_of_values c rest) (value_used_same b c at e (h at (inl refl)))
    ∙ ap (λ (l : List ℕ). used_in (value_checks b [] at) ++ l) (values_used_same b c rest e (λ v i. h v (inr i)))

-- a key whose cells are the same uses the same values
pub value_cells_same : (b c : Cells) (at : ℕ) → IsSame b c at → all_value_cells c at ≡ all_value_cells b at
value_cells_same b c at s =
    ap (λ (l : List ℕ). l ++ cells_of_values c (value_places c at))
    (value_list_same b c at (s.each node at (λ z. z) refl))
    ∙ ap (λ (l : List ℕ). value_list_at b at ++ cells_of_values c l)
    (value_places_same b c at (s.each node at (λ z. z) refl) (λ o i. s.each value_list o (λ z. z) i))
    ∙ ap (λ (l : List ℕ). value_list_at b at ++ l) (values_used_same b c (value_places b at) s.version
    (λ v i o used. s.each (value (value_name b v)) o (λ z. z)
    (record { place = v; listed = i; named = refl; used = used })))

pub own_same : (b c : Cells) (at : ℕ) → IsSame b c at → own_uses c at ≡ own_uses b at
own_same b c at s =
    ap (λ (l : List ℕ). (at, false)
    ∷ (plain l ++ (secure (security_cell_at c at) ++ (plain (all_value_cells c at) ++ plain (list_cells_at c at)))))
    (class_same b c at (s.each node at (λ z. z) refl))
    ∙ ap (λ (l : List ℕ). (at, false)
    ∷ (plain (class_cell_at b at) ++ (secure l ++ (plain (all_value_cells c at) ++ plain (list_cells_at c at)))))
    (security_same b c at (s.each node at (λ z. z) refl))
    ∙ ap (λ (l : List ℕ). (at, false)
    ∷ (plain (class_cell_at b at) ++ (secure (security_cell_at b at) ++ (plain l ++ plain (list_cells_at c at)))))
    (value_cells_same b c at s)
    ∙ ap (λ (l : List ℕ). (at, false)
    ∷ (plain (class_cell_at b at) ++ (secure (security_cell_at b at) ++ (plain (all_value_cells b at) ++ plain l))))
    (lists_same b c at (s.each node at (λ z. z) refl) (λ o i. s.each lists o (λ z. z) i))

-- a key that is the same has its children where they were
pub places_kept : (b c : Cells) (at : ℕ) → IsSame b c at → child_places c at ≡ child_places b at
places_kept b c at s = places_same b c at (s.each node at (λ z. z) refl) (λ o i. s.each lists o (λ z. z) i)

-- what is used in sequence is the same where each is
pub uses_over : (left : ℕ) (b c : Cells) (offsets : List ℕ)
    → ((y : ℕ) → In offsets y → tree_uses left c y ≡ tree_uses left b y)
    → flat_map (tree_uses left c) offsets ≡ flat_map (tree_uses left b) offsets
uses_over left b c [] h = refl
uses_over left b c (y ∷ ys) h =
    ap (λ (l : List (ℕ × Bool)). l ++ flat_map (tree_uses left c) ys) (h y (inl refl))
    ∙ ap (λ (l : List (ℕ × Bool)). tree_uses left b y ++ l) (uses_over left b c ys (λ z i. h z (inr i)))

-- where keys are the same, they use the same, however many levels down
pub uses_same : (left : ℕ) (b c : Cells) (at : ℕ) → ((p : List (List ℕ)) (x : ℕ) → Reaches b at p x → IsSameKey b c x)
    → tree_uses left c at ≡ tree_uses left b at
uses_same zero b c at each = refl
uses_same (suc left) b c at each =
    ap (λ (l : List (ℕ × Bool)). l ++ flat_map (tree_uses left c) (child_places c at))
    (own_same b c at (each [] at refl).same)
    ∙ ap (λ (l : List ℕ). own_uses b at ++ flat_map (tree_uses left c) l) (places_kept b c at (each [] at refl).same)
    ∙ ap (λ (l : List (ℕ × Bool)). own_uses b at ++ l)
    (uses_over left b c (child_places b at)
    (λ y i. uses_same left b c y (λ p x r. each (node_name b y ∷ p) x (y, i, refl, r))))
