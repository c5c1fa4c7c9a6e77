-- Values of a key go and others come in their place: the key is rewritten.
use Rattle.std.proofs.Common.{◌≡◌, ℕ, suc, ◌+◌, ◌<◌, Bool, false, List, [], ◌∷◌, ◌++◌, length, refl, sym, ◌∙◌, ap, subst, inl, inr, ⊎_elim, Result, Ok}
use Rattle.std.specs.Prelude.{◌⊎◌, MatchBool, ◌==◌, flat_map}
use Rattle.nt_bytes.specs.declared.fault.HiveFaultKind.{HiveFaultKind}
use Rattle.nt_bytes.specs.Reading.{◌>>=◌}
use Rattle.hive_model.specs.Bins.{Cells}
use Rattle.hive_model.specs.KeyNode.{KeyNode, key_node_at}
use Rattle.hive_model.specs.Security.{security_at}
use Rattle.hive_model.specs.Tree.{Tree, Trees, key, Head, Item}
use Rattle.hive_model.specs.Valid.{ItemsDiffer}
use Rattle.hive_model.specs.Walk.{reading, value_checks, entries_at}
use Rattle.hive_model.specs.Footprint.{used_in, child_places, security_cell_at, list_cells_at}
use Rattle.hive_model.specs.Stands.{items_at, ListsChildren, Stands, HasApartNames, IsWellFormed}
use Rattle.edited_cells.specs.Owned.{Role, node, class, security, value_list, value, lists, In, value_name, value_places, value_list_at, class_cell_at, HasRole, HasValue, Reaches, Owns, IsSecurity}
use Rattle.edited_cells.specs.Pairs.{Pairwise}
use Rattle.edited_cells.specs.Revalues.{cells_of_values, all_value_cells, ChangesValues}
use Rattle.edited_cells.specs.Uses.{Agree, Once, plain, secure, tree_uses}
use Rattle.edited_cells.specs.Relists.{IsSecurityCell, descriptor_at}
use Rattle.edited_cells.proofs.Ins.{in_left, in_right, in_cases, in_flat, in_flat_from}
use Rattle.edited_cells.proofs.Wellformed.{places_are}
use Rattle.edited_cells.proofs.Held.{are_held}
use Rattle.edited_cells.proofs.Untouched.{are_once}
use Rattle.edited_cells.proofs.Same.{IsValueSame, first_used, value_used_same, same_value_name}
use Rattle.edited_cells.proofs.Relisted.{IsNodeKept, AreChildrenKept, class_kept, security_kept, lists_kept, children_kept}
use Rattle.edited_cells.proofs.SameTree.{IsSameKey, lists_are, children_same, all_same, items_same, values_used_same, uses_over, uses_same}
use Rattle.edited_cells.proofs.Revalued.{one_node}
use Rattle.edited_cells.proofs.ParentsKept.{children_name, child_names, parent_kept, child_still}
use Rattle.edited_cells.proofs.Pairs.{pairwise_map}
use Rattle.edited_cells.proofs.ChangedValues.{listed_values, listed_places, both_items}
use Rattle.edited_cells.specs.Woven.{Woven}
use Rattle.edited_cells.specs.Rewrites.{is_secure, RewritesKey}
use Rattle.edited_cells.proofs.Weaving.{kept_front, kept_back, old_front, woven_map, woven_middle}
use Rattle.edited_cells.proofs.OwnedUses.{in_plain, from_plain}
use Rattle.edited_cells.proofs.Column.{IsColumn, stays, child_same, child_owned, low_there, key_stands, name_kept}

-- a key's uses for its values: of the list and some of the values, and of the others
values_woven : (cells : Cells) (at : ℕ) (front mid back : List ℕ) → value_places cells at ≡ front ++ (mid ++ back)
    → Woven (plain (all_value_cells cells at)) (plain (value_list_at cells at ++ cells_of_values cells mid))
    (plain (cells_of_values cells front ++ cells_of_values cells back))
values_woven cells at front mid back e =
    woven_map (λ (o : ℕ). (o, false)) (all_value_cells cells at) (value_list_at cells at ++ cells_of_values cells mid)
    (cells_of_values cells front ++ cells_of_values cells back)
    (old_front (value_list_at cells at) (cells_of_values cells (value_places cells at)) (cells_of_values cells mid)
    (cells_of_values cells front ++ cells_of_values cells back)
    (subst (λ (l : List ℕ). Woven (cells_of_values cells l) (cells_of_values cells mid)
    (cells_of_values cells front ++ cells_of_values cells back)) (sym e)
    (woven_middle (λ v. used_in (value_checks cells [] v)) front mid back)))

once_plain : (xs : List ℕ) → Pairwise (λ p q. p ≡ q → ⊥) xs → Once (plain xs)
once_plain xs h = pairwise_map (λ p q. p ≡ q → ⊥) Agree (λ o. (o, false)) xs (λ p q i j apart e. absurd (apart e)) h

module _ (b c : Cells) (root : ℕ) (t : Tree) (p : List (List ℕ)) (x left : ℕ) (front gone put back : List ℕ)
    (come : List Item) (hd : Head) (ts : Trees) (well : IsWellFormed b root t) (h : Reaches b root p x)
    (deep : length p + suc left ≡ 512) (s : Stands b x (key hd ts)) (g : ChangesValues b c x front gone put back come)
  where
    -- a key's uses but for its values' list, and those of the values that go
    abbrev around_values : List ℕ → List (ℕ × Bool) → List (ℕ × Bool)
    around_values class_cells values =
        (plain class_cells ++ (secure (security_cell_at b x) ++ (values ++ plain (list_cells_at b x))))
        ++ flat_map (tree_uses left b) (child_places b x)

    abbrev old : List (ℕ × Bool)
    old = plain (value_list_at b x ++ cells_of_values b gone)

    abbrev new : List (ℕ × Bool)
    new = plain (value_list_at c x ++ cells_of_values c put)

    abbrev stay : List ℕ
    stay = cells_of_values b front ++ cells_of_values b back

    abbrev rest : List (ℕ × Bool)
    rest = around_values (class_cell_at b x) (plain stay)

    woven_around : (values part : List (ℕ × Bool)) → Woven values part (plain stay)
        → Woven ((x, false) ∷ around_values (class_cell_at b x) values) part ((x, false) ∷ rest)
    woven_around values part w = inr (
      rest,
      refl,
      kept_back (plain (class_cell_at b x) ++ (secure (security_cell_at b x) ++ (values ++ plain (list_cells_at b x))))
          (flat_map (tree_uses left b) (child_places b x)) part
          (plain (class_cell_at b x) ++ (secure (security_cell_at b x) ++ (plain stay ++ plain (list_cells_at b x))))
          (kept_front (plain (class_cell_at b x)) (secure (security_cell_at b x) ++ (values ++ plain (list_cells_at b x)))
          part (secure (security_cell_at b x) ++ (plain stay ++ plain (list_cells_at b x)))
          (kept_front (secure (security_cell_at b x)) (values ++ plain (list_cells_at b x)) part
          (plain stay ++ plain (list_cells_at b x))
          (kept_back values (plain (list_cells_at b x)) part (plain stay) w))),
    )

    -- a cell of security is none of the key's node and its values
    security_same : (o : ℕ) → IsSecurityCell b root o → descriptor_at c o ≡ descriptor_at b o
    security_same o z =
        let own : Owns b root z.path security o = record { at = z.key; reached = z.reached; has = z.uses } in
        let q = (are_held b root t well).held z.path security o own in
        let other : (r : Role) → HasRole b x r o → (IsSecurity r → ⊥) → ⊥ =
        λ r i plain_role. ⊎_elim (λ (e : (z.path ≡ p) × (security ≡ r)). plain_role (subst IsSecurity e.1 tt))
        (λ (e : IsSecurity security × IsSecurity r). plain_role e.1)
        ((are_once b root t well).one z.path p security r o own (record { at = x; reached = h; has = i })) in
        ap (λ (r : Result (List ℕ) HiveFaultKind). (r >>= security_at) >>= λ d. Ok d.descriptor)
        (g.others o q.0 q.1 (λ e. other node (sym e) (λ w. w)) (λ i. other value_list i (λ w. w))
        (λ i. let f = in_flat (λ v. used_in (value_checks b [] v)) gone o i in
        other (value (value_name b f.0)) (record {
          place = f.0;
          listed = subst (λ (l : List ℕ). In l f.0) (sym g.listed)
              (in_right front (gone ++ back) f.0 (in_left gone back f.0 f.1));
          named = refl;
          used = f.2;
        }) (λ w. w))
        ∙ sym q.1)

    column : IsColumn b c root t p x left old rest []
    column = record {
      well = well;
      reached = h;
      deep = deep;
      version = g.version;
      was = woven_around (plain (all_value_cells b x)) old (values_woven b x front gone back g.listed);
      others = λ o q held no_node no_old no_count. g.others o q held no_node
          (λ i. no_old false (in_plain (value_list_at b x ++ cells_of_values b gone) o
          (in_left (value_list_at b x) (cells_of_values b gone) o i)))
          (λ i. no_old false (in_plain (value_list_at b x ++ cells_of_values b gone) o
          (in_right (value_list_at b x) (cells_of_values b gone) o i)));
      counted_are = λ o i. absurd i;
      security_same = security_same;
    }

    abbrev kept : IsNodeKept b c x
    kept = record {
      version = g.version;
      old = g.old;
      new = g.new;
      read = g.read;
      read_new = g.read_new;
      class_length = g.same.class_length;
      class = g.same.class;
      security = g.same.security;
    }

    still : (o : ℕ) → In rest (o, false) → c.payload o ≡ b.payload o
    still = stays b c root t p x left old rest [] column

    -- what is kept
    own_rest : (u : ℕ × Bool)
        → In (plain (class_cell_at b x)
        ++ (secure (security_cell_at b x) ++ (plain stay ++ plain (list_cells_at b x)))) u
        → In rest u
    own_rest u i = in_left
        (plain (class_cell_at b x) ++ (secure (security_cell_at b x) ++ (plain stay ++ plain (list_cells_at b x))))
        (flat_map (tree_uses left b) (child_places b x)) u i

    in_class : (o : ℕ) → In (class_cell_at b x) o → In rest (o, false)
    in_class o i = own_rest (o, false) (in_left (plain (class_cell_at b x))
        (secure (security_cell_at b x) ++ (plain stay ++ plain (list_cells_at b x))) (o, false)
        (in_plain (class_cell_at b x) o i))

    behind_security : (o : ℕ) → In (plain stay ++ plain (list_cells_at b x)) (o, false) → In rest (o, false)
    behind_security o i = own_rest (o, false) (in_right (plain (class_cell_at b x))
        (secure (security_cell_at b x) ++ (plain stay ++ plain (list_cells_at b x))) (o, false)
        (in_right (secure (security_cell_at b x)) (plain stay ++ plain (list_cells_at b x)) (o, false) i))

    lists_there : (o : ℕ) → In (list_cells_at b x) o → c.payload o ≡ b.payload o
    lists_there o i = still o (behind_security o
        (in_right (plain stay) (plain (list_cells_at b x)) (o, false) (in_plain (list_cells_at b x) o i)))

    value_there : (v : ℕ) → In front v ⊎ In back v → IsValueSame b c v
    value_there v i o used = still o (behind_security o
        (in_left (plain stay) (plain (list_cells_at b x)) (o, false) (in_plain stay o
        (⊎_elim (λ j. in_left (cells_of_values b front) (cells_of_values b back) o
        (in_flat_from (λ w. used_in (value_checks b [] w)) front o v j used))
        (λ j. in_right (cells_of_values b front) (cells_of_values b back) o
        (in_flat_from (λ w. used_in (value_checks b [] w)) back o v j used)) i))))

    below : (y : ℕ) → In (child_places b x) y → (u : ℕ × Bool) → In (tree_uses left b y) u → In rest u
    below y i u j = in_right
        (plain (class_cell_at b x) ++ (secure (security_cell_at b x) ++ (plain stay ++ plain (list_cells_at b x))))
        (flat_map (tree_uses left b) (child_places b x)) u
        (in_flat_from (tree_uses left b) (child_places b x) u y i j)

    child : (y : ℕ) → In (child_places b x) y → (q : List (List ℕ)) (z : ℕ) → Reaches b y q z → IsSameKey b c z
    child y i = child_same b c root t p x left old rest [] column y i (below y i)

    children_there : AreChildrenKept b c x g.old g.new
    children_there =
        record { count = g.same.child_count; list = g.same.child_list; list_cells = lists_there }

    places : value_places c x ≡ front ++ (put ++ back)
    places = listed_places c x g.new (front ++ (put ++ back)) g.read_new g.listed_new

    stay_same : cells_of_values c front ++ cells_of_values c back ≡ stay
    stay_same =
        ap (λ (l : List ℕ). l ++ cells_of_values c back)
        (values_used_same b c front g.version (λ v i. value_there v (inl i)))
        ∙ ap (λ (l : List ℕ). cells_of_values b front ++ l)
        (values_used_same b c back g.version (λ v i. value_there v (inr i)))

    is : Woven (tree_uses (suc left) c x) new ((x, false) ∷ rest)
    is =
        subst (λ (l : List (ℕ × Bool)). Woven l new ((x, false) ∷ rest)) (sym same)
        (woven_around (plain (all_value_cells c x)) new
        (subst (λ (l : List ℕ). Woven (plain (all_value_cells c x)) new (plain l)) stay_same
        (values_woven c x front put back places)))
      where
        own_with : List ℕ → List ℕ → List ℕ → List (ℕ × Bool) → List (ℕ × Bool)
        own_with cl se li fl =
            (x, false) ∷ ((plain cl ++ (secure se ++ (plain (all_value_cells c x) ++ plain li))) ++ fl)

        same : tree_uses (suc left) c x ≡ (x, false) ∷ around_values (class_cell_at b x) (plain (all_value_cells c x))
        same =
            ap (λ (l : List ℕ). own_with l (security_cell_at c x) (list_cells_at c x)
            (flat_map (tree_uses left c) (child_places c x))) (class_kept b c x kept)
            ∙ ap (λ (l : List ℕ). own_with (class_cell_at b x) l (list_cells_at c x)
            (flat_map (tree_uses left c) (child_places c x))) (security_kept b c x kept)
            ∙ ap (λ (l : List ℕ). own_with (class_cell_at b x) (security_cell_at b x) l
            (flat_map (tree_uses left c) (child_places c x))) (lists_kept b c x kept children_there)
            ∙ ap (λ (l : List ℕ). own_with (class_cell_at b x) (security_cell_at b x) (list_cells_at b x)
            (flat_map (tree_uses left c) l)) (children_kept b c x kept children_there)
            ∙ ap (own_with (class_cell_at b x) (security_cell_at b x) (list_cells_at b x))
            (uses_over left b c (child_places b x) (λ y i. uses_same left b c y (child y i)))

    -- what the key and those below it own then
    old_value : (name : List ℕ) (o : ℕ) (w : HasValue c x name o) → In (front ++ (gone ++ back)) w.place
        → In front w.place ⊎ In back w.place → HasValue b x name o
    old_value name o w l i =
        let same = value_there w.place i in
        record {
          place = w.place;
          listed = subst (λ (l : List ℕ). In l w.place) (sym g.listed) l;
          named = sym (same_value_name b c w.place (same w.place (first_used b w.place))) ∙ w.named;
          used = subst (λ (l : List ℕ). In l o) (value_used_same b c w.place g.version same) w.used;
        }

    value_role : (name : List ℕ) (o : ℕ) (w : HasValue c x name o) → In front w.place ⊎ In (put ++ back) w.place
        → HasValue b x name o ⊎ In new (o, false)
    value_role name o w (inl i) = inl (old_value name o w (in_left front (gone ++ back) w.place i) (inl i))
    value_role name o w (inr i) = ⊎_elim
        (λ j. inr (in_plain (value_list_at c x ++ cells_of_values c put) o
        (in_right (value_list_at c x) (cells_of_values c put) o
        (in_flat_from (λ v. used_in (value_checks c [] v)) put o w.place j w.used))))
        (λ j. inl (old_value name o w (in_right front (gone ++ back) w.place (in_right gone back w.place j)) (inr j)))
        (in_cases put back w.place i)

    role : (r : Role) (o : ℕ) → HasRole c x r o → HasRole b x r o ⊎ In new (o, is_secure r)
    role node o i = inl i
    role class o i = inl (subst (λ (l : List ℕ). In l o) (class_kept b c x kept) i)
    role security o i = inl (subst (λ (l : List ℕ). In l o) (security_kept b c x kept) i)
    role value_list o i = inr (in_plain (value_list_at c x ++ cells_of_values c put) o
        (in_left (value_list_at c x) (cells_of_values c put) o i))
    role (value name) o i =
        value_role name o i (in_cases front (put ++ back) i.place (subst (λ (l : List ℕ). In l i.place) places i.listed))
    role lists o i = inl (subst (λ (l : List ℕ). In l o) (lists_kept b c x kept children_there) i)

    owned : (q : List (List ℕ)) (r : Role) (o : ℕ) → length q < suc left → Owns c x q r o
        → Owns b x q r o ⊎ In new (o, is_secure r)
    owned [] r o lt w =
        ⊎_elim (λ i. inl (record { at = x; reached = refl; has = i })) (λ i. inr i)
        (role r o (subst (λ (z : ℕ). HasRole c z r o) (sym w.reached) w.has))
    owned (m ∷ q) r o lt w =
        let i = subst (λ (l : List ℕ). In l w.reached.0) (children_kept b c x kept children_there) w.reached.1 in
        inl (child_owned b c root t p x left old rest [] column w.reached.0 i (below w.reached.0 i) m q r o w.reached.2
        (record { at = w.at; reached = w.reached.3; has = w.has }))

    listed_as : ListsChildren c g.old s.0 → ListsChildren c g.new s.0
    listed_as l =
        subst (λ (n : ℕ). MatchBool (n == 0) (s.0 ≡ []) ((entries_at c g.new.child_list ≡ Ok s.0) × (length s.0 ≡ n)))
        (sym g.same.child_count)
        (subst (λ (o : ℕ). MatchBool (g.old.child_count == 0) (s.0 ≡ [])
        ((entries_at c o ≡ Ok s.0) × (length s.0 ≡ g.old.child_count))) (sym g.same.child_list) l)

    -- the key is rewritten: its values are those before, those that come, and those after
    pub values_rewritten : (before behind : List Item) → items_at b front ≡ Ok before → items_at b back ≡ Ok behind
        → HasApartNames (key hd ts) → ItemsDiffer (before ++ (come ++ behind))
        → RewritesKey b c root x (suc left) (key (record hd { values = before ++ (come ++ behind) }) ts) old new []
    values_rewritten before behind read_front read_back n differ = record {
      kept = (x, false) ∷ rest;
      version = g.version;
      was = column.was;
      is = is;
      others = column.others;
      counted_are = column.counted_are;
      security_same = security_same;
      used = λ u i. let m = from_plain (value_list_at c x ++ cells_of_values c put) u i in
          ⊎_elim (λ j. inl (subst (λ (w : Bool). In old (u.0, w)) m.1
          (in_plain (value_list_at b x ++ cells_of_values b gone) u.0 j))) (λ j. inr (inl j)) (g.used u.0 m.0);
      once = once_plain (value_list_at c x ++ cells_of_values c put) g.once;
      owned = owned;
      name = name_kept b c x kept g.same.name;
      parent = parent_kept b c x kept g.same.parent;
      parents = λ names. children_name c x (λ y i.
          let j = subst (λ (l : List ℕ). In l y) (children_kept b c x kept children_there) i in
          child_still b c x y (child y j) (child_names b x y names j));
      stands = (
        s.0,
        key_stands b c root t p x left old rest [] column kept in_class hd s.0 s.0 (before ++ (come ++ behind)) s.1
            g.same.name g.same.flags g.same.stamp
            (listed_values c g.new (front ++ (put ++ back)) g.listed_new
            ∙ both_items c front (put ++ back) before (come ++ behind)
            (items_same b c front g.version (λ v i. value_there v (inl i)) ∙ read_front)
            (both_items c put back come behind g.items
            (items_same b c back g.version (λ v i. value_there v (inr i)) ∙ read_back)))
            (listed_as (children_same b c g.old s.0 (λ some o i. lists_there o (lists_are b x g.old o g.read some i))
            (subst (λ (m : KeyNode). ListsChildren b m s.0)
            (one_node (reading key_node_at b x) s.1.node g.old s.1.read g.read) s.1.children))),
        all_same b c s.0 ts s.2
            (λ y i. child y (subst (λ (l : List ℕ). In l y) (sym (places_are b x hd s.0 s.1)) i)),
      );
      names = (differ, n.1, n.2, n.3);
      low = low_there b c root t p x left old rest [] column (key hd ts) s;
    }
