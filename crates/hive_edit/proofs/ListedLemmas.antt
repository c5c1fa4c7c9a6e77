-- The lists of a key whose children changed: they are as they are written, and the old ones are free.
use Rattle.std.proofs.Common.{◌≡◌, ◌<◌, ◌^◌, ℕ, ◌+◌, Bool, true, false, not, eqb, cond, List, [], ◌∷◌, ◌++◌, length, Some, None, Result, Ok, refl, sym, ap, subst, ◌∙◌, inl, inr, ⊎_elim, arith}
use Rattle.std.specs.Prelude.{◌==◌, Contains, MatchBool}
use Rattle.std.proofs.lemmas.Bool.{ne_eqb, eqb-false}
use Rattle.std.proofs.lemmas.List.{length-append}
use Rattle.nt_bytes.specs.declared.fault.HiveFaultKind.{HiveFaultKind}
use Rattle.nt_bytes.specs.declared.version.HiveVersion.{HiveVersion}
use Rattle.nt_bytes.specs.Reading.{◌>>=◌}
use Rattle.hive_model.specs.Bins.{Bin, Cells, look_up}
use Rattle.hive_model.specs.KeyNode.{KeyNode, key_node_at}
use Rattle.hive_model.specs.Tree.{Tree}
use Rattle.hive_model.specs.Walk.{reading, nowhere}
use Rattle.hive_model.specs.Footprint.{of_read, child_places, list_cells_at}
use Rattle.hive_model.specs.Stands.{ListsAt, ListsChildren}
use Rattle.hive_model.specs.InPlace.{IsPackedList}
use Rattle.hive_cells.specs.Opened.{Opened}
use Rattle.hive_cells.specs.Held.{held_at}
use Rattle.hive_cells.proofs.HeldLemmas.{payload_held, held_payload}
use Rattle.edited_cells.specs.Owned.{Role, node, security, lists, In, node_name, HasRole, Reaches, Owns}
use Rattle.edited_cells.specs.Uses.{tree_uses}
use Rattle.edited_cells.specs.Written.{with_part, three_numbers}
use Rattle.edited_cells.specs.Relists.{SaysTheRest, IsSecurityCell, ChangesChildren}
use Rattle.edited_cells.specs.Lists.{RemovesChild}
use Rattle.edited_cells.proofs.Ins.{in_cases, in_left, in_right}
use Rattle.edited_cells.proofs.Held.{are_held}
use Rattle.edited_cells.proofs.Untouched.{are_once}
use Rattle.edited_cells.proofs.OwnedUses.{use_owned}
use Rattle.edited_cells.proofs.Revalued.{one_node, reach_on}
use Rattle.edited_cells.proofs.ChildrenColumn.{places_listed}
use Rattle.edited_cells.proofs.FromLists.{children_written, removes_child}
use Rattle.key_index.specs.Lists.{node_hint, hints_in, lists_at, payload_in, without_child}
use Rattle.key_index.specs.Relists.{AreRelisted}
use Rattle.key_index.proofs.Packing.{relisted_packed}
use Rattle.hive_edit.specs.declared.making.Above.{Above}
use Rattle.hive_edit.specs.Hive.{hive_of}
use Rattle.hive_edit.specs.Dropped.{AreShortened, IsRemoved, left_children}
use Rattle.hive_edit.specs.Listed.{HasNewLists}
use Rattle.hive_look.proofs.ResultLemmas.{done, no_some}
use Rattle.hive_look.proofs.ParentLemmas.{Keeps, IsParent, parent_held, list_no_node, list_no_security, role_code}
use Rattle.hive_edit.proofs.SecuredLemmas.{secure_own}

-- ---- a child is no other cell of its parent

longer : (p : List (List ℕ)) (m : List ℕ) → p ++ m ∷ [] ≡ p → ⊥
longer p m e = omega (arith, ap (λ (l : List (List ℕ)). length l) e, length-append p (m ∷ []))

end_of : (b : Cells) (path : List (List ℕ)) (role : Role) (z a y : ℕ) → length path ≡ 0 → node ≡ role
    → Reaches b z path a → HasRole b a role y → z ≡ y
end_of b [] role z a y l d r has = r ∙ subst (λ (v : Role). HasRole b a v y) (sym d) has
end_of b (m ∷ path) role z a y l d r has = absurd (omega (arith, l))

module _ (b : Cells) (root : ℕ) (t : Tree) (p : List (List ℕ)) (x : ℕ) (k : Tree) (n : KeyNode)
    (h : IsParent b root t p x k n) where
  kid_node : (y : ℕ) → In (child_places b x) y → Owns b root (p ++ node_name b y ∷ []) node y
  kid_node y i = record {
    at = y;
    reached = reach_on b p (node_name b y ∷ []) root x y h.reached (y, i, refl, refl);
    has = refl;
  }

  pub kid_held : (y : ℕ) → In (child_places b x) y → (q : List ℕ) × (b.payload y ≡ Ok q)
  kid_held y i = (are_held b root t h.well).held (p ++ node_name b y ∷ []) node y (kid_node y i)

  kid_alone : (y : ℕ) → In (child_places b x) y → (q : List (List ℕ)) (r : Role) → Owns b root q r y
      → (p ++ node_name b y ∷ [] ≡ q → node ≡ r → ⊥) → ⊥
  kid_alone y i q r w differ =
      ⊎_elim (λ e. differ e.0 e.1) (λ s. s.0)
      ((are_once b root t h.well).one (p ++ node_name b y ∷ []) q node r y (kid_node y i) w)

  pub kid_no_parent : (y : ℕ) → In (child_places b x) y → y ≡ x → ⊥
  kid_no_parent y i e =
      kid_alone y i p node (record { at = x; reached = h.reached; has = sym e }) (λ f d. longer p (node_name b y) f)

  pub kid_no_list : (y : ℕ) → In (child_places b x) y → In (list_cells_at b x) y → ⊥
  kid_no_list y i l =
      kid_alone y i p lists (record { at = x; reached = h.reached; has = l })
      (λ f d. let z : 0 ≡ 5 = ap role_code d in cc)

  pub kid_no_security : (y : ℕ) → In (child_places b x) y → IsSecurityCell b root y → ⊥
  kid_no_security y i s =
      kid_alone y i s.path security (record { at = s.key; reached = s.reached; has = s.uses })
      (λ f d. let z : 0 ≡ 2 = ap role_code d in cc)

  -- nor of another child, or of a key below that
  pub kid_no_other : (y z left : ℕ) (s : Bool) → In (child_places b x) y → In (child_places b x) z → (y ≡ z → ⊥)
      → In (tree_uses left b z) (y, s) → ⊥
  kid_no_other y z left s i j differ u =
      let w = use_owned left b z (y, s) u in
      kid_alone y i (p ++ node_name b z ∷ w.path) w.role
      (record {
        at = w.owns.at;
        reached = reach_on b p (node_name b z ∷ w.path) root x w.owns.at h.reached (z, j, refl, w.owns.reached);
        has = w.owns.has;
      })
      (λ f d. differ (sym (end_of b w.path w.role z w.owns.at y
      (omega (
        arith,
        ap (λ (l : List (List ℕ)). length l) f,
        length-append p (node_name b y ∷ []),
        length-append p (node_name b z ∷ w.path),
      ))
      d w.owns.reached w.owns.has)))

-- ---- hints

-- nodes that are the same have the same hints
hints_same : (b c : Cells) (os : List ℕ) → c.version ≡ b.version → ((o : ℕ) → In os o → c.payload o ≡ b.payload o)
    → hints_in c os ≡ hints_in b os
unfolding payload_in
hints_same b c [] v e = refl
hints_same b c (o ∷ os) v e =
    let here = e o (inl refl) in
    let rest = hints_same b c os v (λ w j. e w (inr j)) in
    λ i. node_hint (v i) (of_read (here i) (λ p. p)) ∷ rest i

some_listed : (c : Cells) (n : KeyNode) (os : List ℕ) → ListsChildren c n os → 0 < n.child_count → 0 < length os
some_listed c n os l some =
    let off : (n.child_count == 0) ≡ false = ne_eqb n.child_count 0 (λ e. omega (arith, e, some)) in
    let both = subst (λ (v : Bool). MatchBool v (os ≡ []) (ListsAt c n.child_list os × (length os ≡ n.child_count))) off
    l in
    omega (arith, both.1, some)

-- ---- the lists of a node

-- lists that are as they are written, of children whose nodes are those of the cells that the hints are of
listed_anew : (version : HiveVersion) (old : Opened) (hinted : List Bin) (new : Opened) (root x list : ℕ) (was n : KeyNode) (os : List ℕ)
    → reading key_node_at (look_up version old.bins) x ≡ done was → reading key_node_at (look_up version new.bins) x ≡ done n
    → SaysTheRest was n → n.child_list ≡ list
    → ListsChildren (look_up version new.bins) n os
    → (0 < length os → IsPackedList (look_up version new.bins) list os (hints_in (look_up version hinted) os))
    → ((o : ℕ) → In os o → (look_up version new.bins).payload o ≡ (look_up version hinted).payload o)
    → ((o : ℕ) → In (list_cells_at (look_up version old.bins) x) o → held_at new.bins o ≡ None)
    → HasNewLists (hive_of old root version) (hive_of new root version) x
listed_anew version old hinted new root x list was n os read_old read rest at listed packed same freed =
    let c = look_up version new.bins in
    let places : child_places c x ≡ os = places_listed c x n os read listed in
    let hints : hints_in c os ≡ hints_in (look_up version hinted) os =
    hints_same (look_up version hinted) c os refl same in
    record {
      was = was;
      node = n;
      read_old = read_old;
      read = read;
      rest = rest;
      lists = λ some. subst (λ (z : ℕ). IsPackedList c z (child_places c x) (hints_in c (child_places c x))) (sym at)
          (subst (λ (l : List ℕ). IsPackedList c list l (hints_in c l)) (sym places)
          (subst (λ (hs : List (List ℕ)). IsPackedList c list os hs) (sym hints)
          (packed (some_listed c n os listed some))));
      freed = freed;
    }

-- a key was put into cells that were none, and new lists of its parent name it; then all but the parent's node and a cell of security
-- stays
pub record Inserts (version : HiveVersion) (old mid listed new : List Bin) (root : ℕ) (t : Tree) (p : List (List ℕ))
    (x : ℕ) (k : Tree) (n : KeyNode) (y list sp : ℕ) (gone front back : List ℕ) : Type 0 where
  pub parent : IsParent (look_up version old) root t p x k n
  pub keeps : Keeps (look_up version old) (look_up version mid)
  pub gone_to : (o : ℕ) → Contains gone o → In (list_cells_at (look_up version old) x) o
  pub gone_from : (o : ℕ) → In (list_cells_at (look_up version old) x) o → Contains gone o
  pub lists : AreRelisted version gone (front ++ y ∷ back) (hints_in (look_up version mid) (front ++ y ∷ back)) mid listed list
  pub fresh : (q : List ℕ) → (look_up version old).payload y ≡ done q → ⊥
  pub there : (q : List ℕ) × ((look_up version mid).payload y ≡ done q)
  pub places : child_places (look_up version old) x ≡ front ++ back
  pub small : list < 2 ^ 32
  pub few : n.child_count + 1 < 2 ^ 32
  pub volatile : n.volatile_count < 2 ^ 32
  pub noted : (q : List ℕ) → (look_up version listed).payload x ≡ done q
      → (look_up version new).payload x ≡ done (with_part 20 (three_numbers (n.child_count + 1) n.volatile_count list) q)
  pub others : (o : ℕ) → (o ≡ x → ⊥) → ((sp ≡ nowhere → ⊥) → o ≡ sp → ⊥) → held_at new o ≡ held_at listed o
  pub secure : (sp ≡ nowhere → ⊥) → IsSecurityCell (look_up version old) root sp

pub inserted_lists : (version : HiveVersion) (old : Opened) (mid listed : List Bin) (new : Opened) (root : ℕ) (t : Tree) (p : List (List ℕ))
    (x : ℕ) (k : Tree) (n : KeyNode) (y list sp left : ℕ) (gone front back counted : List ℕ)
    → (g : Inserts version old.bins mid listed new.bins root t p x k n y list sp gone front back)
    → ChangesChildren (look_up version old.bins) (look_up version new.bins) root x left front [] (y ∷ []) back counted
    → HasNewLists (hive_of old root version) (hive_of new root version) x
inserted_lists version old mid listed new root t p x k n y list sp left gone front back counted g ch =
    listed_anew version old mid new root x list ch.old ch.new (front ++ y ∷ back) ch.read ch.read_new ch.same list_is
    ch.listed_new
    (λ some. relisted_packed version gone (front ++ y ∷ back) (look_up version mid) mid listed new.bins list g.lists some
    (λ o q e none. g.others o (λ z. no_some (held_at mid o) here.0 none (ap (held_at mid) z ∙ held_x))
    (λ used z. let s = secure_held used in no_some (held_at mid o) s.0 none (ap (held_at mid) z ∙ s.1)) ∙ e))
    (λ o i. ⊎_elim (λ j. stays o (in_left front back o j))
    (λ j. ⊎_elim (λ e. subst (λ (z : ℕ). c.payload z ≡ m.payload z) e new_stays)
    (λ j. stays o (in_right front back o j)) j)
    (in_cases front (y ∷ back) o i))
    (λ o i. g.others o (λ z. list_no_node b root t p x k n g.parent (subst (In (list_cells_at b x)) z i))
    (λ used z. let s = g.secure used in
    list_no_security b root t p x k n s.path s.key sp g.parent s.reached s.uses (subst (In (list_cells_at b x)) z i))
    ∙ g.lists.freed o (g.gone_from o i))
  where
    b : Cells
    b = look_up version old.bins

    m : Cells
    m = look_up version mid

    c : Cells
    c = look_up version new.bins

    here : (q : List ℕ) × (b.payload x ≡ done q) × (key_node_at q ≡ done n)
    here = parent_held b root t p x k n g.parent

    held_x : held_at mid x ≡ Some here.0
    held_x = payload_held mid x here.0 (g.keeps.held x here.0 here.1)

    secure_held : (sp ≡ nowhere → ⊥) → (q : List ℕ) × (held_at mid sp ≡ Some q)
    secure_held used =
        let s = g.secure used in
        let q = (are_held b root t g.parent.well).held s.path security sp (secure_own b root sp s) in
        (q.0, payload_held mid sp q.0 (g.keeps.held sp q.0 q.1))

    node_listed : (look_up version listed).payload x ≡ done here.0
    node_listed = held_payload listed x here.0
        (g.lists.kept x here.0 held_x (λ i. list_no_node b root t p x k n g.parent (g.gone_to x i)))

    list_is : ch.new.child_list ≡ list
    list_is =
        let w = children_written here.0 n (n.child_count + 1) list here.2 g.few g.small g.volatile in
        let read : reading key_node_at c x ≡ done w.new =
        ap (λ (r : Result (List ℕ) HiveFaultKind). r >>= key_node_at) (g.noted here.0 node_listed) ∙ w.read in
        ap (λ (z : KeyNode). z.child_list) (one_node (reading key_node_at c x) ch.new w.new ch.read_new read) ∙ w.list_is

    -- a child from before
    stays : (o : ℕ) → In (front ++ back) o → c.payload o ≡ m.payload o
    stays o i =
        let j = subst (λ (l : List ℕ). In l o) (sym g.places) i in
        let q = kid_held b root t p x k n g.parent o j in
        ch.others o q.0 q.1 (kid_no_parent b root t p x k n g.parent o j) (kid_no_list b root t p x k n g.parent o j)
        (λ s u. absurd u)
        (λ u. kid_no_security b root t p x k n g.parent o j (ch.counted_are o u))
        ∙ sym (g.keeps.held o q.0 q.1)

    -- and the new one
    new_stays : c.payload y ≡ m.payload y
    new_stays =
        let q = g.there in
        held_payload new.bins y q.0
        (g.others y (λ z. g.fresh here.0 (ap b.payload z ∙ here.1))
        (λ used z. let s = g.secure used in
        let r = (are_held b root t g.parent.well).held s.path security sp (secure_own b root sp s) in
        g.fresh r.0 (ap b.payload z ∙ r.1))
        ∙ g.lists.kept y q.0 (payload_held mid y q.0 q.1)
        (λ i. let r = (are_held b root t g.parent.well).held p lists y
        (record { at = x; reached = g.parent.reached; has = g.gone_to y i }) in
        g.fresh r.0 r.1))
        ∙ sym q.1

-- ---- a child less

without_it : (zs : List ℕ) (y o : ℕ) → In (without_child y zs) o → o ≡ y → ⊥
without_it [] y o i e = i
without_it (z ∷ zs) y o i e = go (λ j. without_it zs y o j e) (eqb z y) refl i
  where
    go : (In (without_child y zs) o → ⊥) → (v : Bool) → eqb z y ≡ v
        → In (cond (not v) (z ∷ without_child y zs) (without_child y zs)) o → ⊥
    go later true f j = later j
    go later false f (inl same) = eqb-false z y f (same ∙ e)
    go later false f (inr j) = later j

pub removed_lists : (version : HiveVersion) (old new : Opened) (root : ℕ) (t : Tree) (p : List (List ℕ)) (x : ℕ)
    (k : Tree) (n : KeyNode) (above : Above) (y left : ℕ) (uses : List (ℕ × Bool)) (front back counted q : List ℕ)
    → IsParent (look_up version old.bins) root t p x k n → (r : IsRemoved version x above y uses old.bins new.bins)
    → RemovesChild (look_up version old.bins) (look_up version new.bins) root x left n front back y q r.list counted
    → child_places (look_up version old.bins) x ≡ front ++ y ∷ back → left_children version above y old.bins ≡ front ++ back
    → without_child y (child_places (look_up version old.bins) x) ≡ front ++ back
    → ((o : ℕ) → In (list_cells_at (look_up version old.bins) x) o
    → Contains (lists_at (look_up version old.bins) above.list above.count) o)
    → ((o : ℕ) (v : Bool) → In uses (o, v) → (z : List ℕ) × (held_at old.bins o ≡ Some z))
    → ((o : ℕ) (v : Bool) → In uses (o, v) → In (list_cells_at (look_up version old.bins) x) o → ⊥)
    → HasNewLists (hive_of old root version) (hive_of new root version) x
removed_lists version old new root t p x k n above y left uses front back counted q h r g places left_is without gone
    used no_list =
    listed_anew version old old.bins new root x r.list ch.old ch.new os ch.read ch.read_new ch.same list_is
    (subst (λ (l : List ℕ). ListsChildren c ch.new l) (sym left_is) ch.listed_new)
    (packed r.lists)
    (λ o i. stays o (subst (λ (l : List ℕ). In l o) left_is i))
    (λ o i. final o (λ v u. no_list o v u i)
    (λ z. list_no_node b root t p x k n h (subst (In (list_cells_at b x)) z i)) ∙ freed r.lists o (gone o i))
  where
    b : Cells
    b = look_up version old.bins

    c : Cells
    c = look_up version new.bins

    os : List ℕ
    os = left_children version above y old.bins

    ch : ChangesChildren b c root x left front (y ∷ []) [] back counted
    ch = removes_child b c root x left n front back y q r.list counted h.read places g

    here : (z : List ℕ) × (b.payload x ≡ done z) × (key_node_at z ≡ done n)
    here = parent_held b root t p x k n h

    list_is : ch.new.child_list ≡ r.list
    list_is =
        let read : reading key_node_at c x ≡ done g.node.new =
        ap (λ (z : Result (List ℕ) HiveFaultKind). z >>= key_node_at) g.there ∙ g.node.read in
        ap (λ (z : KeyNode). z.child_list) (one_node (reading key_node_at c x) ch.new g.node.new ch.read_new read)
        ∙ g.node.list_is

    -- what is held when the lists are written, and is neither the node nor used, is held then
    final : (o : ℕ) → ((v : Bool) → In uses (o, v) → ⊥) → (o ≡ x → ⊥) → held_at new.bins o ≡ held_at r.listed o
    final o nu nx = r.dropped.others o nu ∙ r.fields.others o nx

    packed : AreShortened version above y old.bins r.listed r.list → 0 < length os → IsPackedList c r.list os (hints_in b os)
    packed (inl s) some =
        relisted_packed version (lists_at b above.list above.count) os b old.bins r.listed new.bins r.list s.1 some
        (λ o z e none. final o (λ v u. let w = used o v u in no_some (held_at old.bins o) w.0 none w.1)
        (λ f. no_some (held_at old.bins o) here.0 none (ap (held_at old.bins) f ∙ payload_held old.bins x here.0 here.1)) ∙ e)
    packed (inr s) some = absurd (omega (arith, some, ap (λ (l : List ℕ). length l) s.0))

    freed : AreShortened version above y old.bins r.listed r.list → (o : ℕ)
        → Contains (lists_at b above.list above.count) o → held_at r.listed o ≡ None
    freed (inl s) o i = s.1.freed o i
    freed (inr s) o i = s.1.freed o i

    stays : (o : ℕ) → In (front ++ back) o → c.payload o ≡ b.payload o
    stays o i =
        let differ = without_it (child_places b x) y o (subst (λ (l : List ℕ). In l o) (sym without) i) in
        let there : In (front ++ y ∷ back) o = ⊎_elim (λ j. in_left front (y ∷ back) o j)
        (λ j. in_right front (y ∷ back) o (inr j)) (in_cases front back o i) in
        let j = subst (λ (l : List ℕ). In l o) (sym places) there in
        let child = subst (λ (l : List ℕ). In l y) (sym places) (in_right front (y ∷ back) y (inl refl)) in
        let held = kid_held b root t p x k n h o j in
        ch.others o held.0 held.1 (kid_no_parent b root t p x k n h o j) (kid_no_list b root t p x k n h o j)
        (λ s u. kid_no_other b root t p x k n h o y left s j child differ
        (⊎_elim (λ w. w) (λ (w : ⊥). absurd w) (in_cases (tree_uses left b y) [] (o, s) u)))
        (λ u. kid_no_security b root t p x k n h o j (ch.counted_are o u))
        ∙ sym held.1
