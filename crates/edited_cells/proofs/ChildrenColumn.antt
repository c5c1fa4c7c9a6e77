-- Children of a key go and others come in their place: the key is rewritten.
use Rattle.std.proofs.Common.{◌≡◌, ℕ, suc, ◌+◌, ◌<◌, ◌≤◌, Bool, true, false, cond, List, [], ◌∷◌, ◌++◌, length, refl, sym, ◌∙◌, ap, subst, inl, inr, ⊎_elim, Result, Ok, arith}
use Rattle.std.specs.Prelude.{◌⊎◌, MatchBool, ◌==◌, if◌then◌else◌, flat_map}
use Rattle.nt_bytes.specs.declared.fault.HiveFaultKind.{HiveFaultKind}
use Rattle.nt_bytes.specs.Reading.{◌>>=◌}
use Rattle.hive_model.specs.Bins.{Cells}
use Rattle.hive_model.specs.KeyNode.{KeyNode, key_node_at}
use Rattle.hive_model.specs.Lists.{offsets_in}
use Rattle.hive_model.specs.Tree.{Tree, Trees, key, trees, listed, Head}
use Rattle.hive_model.specs.Valid.{levels}
use Rattle.hive_model.specs.Walk.{reading, value_checks, entries_at}
use Rattle.hive_model.specs.Footprint.{of_read, used_in, child_places, security_cell_at, list_cells_at}
use Rattle.hive_model.specs.Stands.{items_at, values_of, ListsChildren, Stands, AllStand, HasApartNames, IsWellFormed}
use Rattle.edited_cells.specs.Owned.{Role, node, class, security, value_list, value, lists, In, node_name, value_places, value_list_at, class_cell_at, HasRole, HasValue, Reaches, Owns}
use Rattle.edited_cells.specs.Pairs.{Pairwise}
use Rattle.edited_cells.specs.Revalues.{cells_of_values, all_value_cells}
use Rattle.edited_cells.specs.Parents.{IsChildOf, NamesParents}
use Rattle.edited_cells.specs.Uses.{plain, secure, tree_uses}
use Rattle.edited_cells.specs.Relists.{SaysTheRest, ChangesChildren}
use Rattle.edited_cells.proofs.Ins.{in_left, in_right, in_cases, in_flat_from}
use Rattle.edited_cells.proofs.Wellformed.{places_are}
use Rattle.edited_cells.proofs.Out.{of_node_is}
use Rattle.edited_cells.proofs.Same.{IsValueSame, first_used, value_used_same, same_value_name}
use Rattle.edited_cells.proofs.Relisted.{IsNodeKept, AreValuesKept, class_kept, security_kept, value_list_kept, value_places_kept}
use Rattle.edited_cells.proofs.SameTree.{IsSameKey, value_list_is, values_are, values_of_same, all_same, values_used_same, uses_over, uses_same}
use Rattle.edited_cells.proofs.Replaced.{trees_listed, apart_with, most_each, each_most, Unlike, names_in}
use Rattle.edited_cells.proofs.Revalued.{one_node}
use Rattle.edited_cells.proofs.ParentsKept.{children_name, child_names, parent_kept, child_still}
use Rattle.edited_cells.proofs.One.{first_one}
use Rattle.edited_cells.specs.Woven.{Woven}
use Rattle.edited_cells.specs.Rewrites.{is_secure, RewritesKey}
use Rattle.edited_cells.proofs.Weaving.{kept_front, kept_then_old, woven_on, woven_middle}
use Rattle.edited_cells.proofs.OwnedUses.{in_plain, owned_use}
use Rattle.edited_cells.proofs.Column.{IsColumn, stays, child_same, child_owned, low_there, key_stands, name_kept}

-- ---- trees in parts

-- trees that are in two parts
pub record StandBoth (cells : Cells) (xs ys : List ℕ) (ts : List Tree) : Type 0 where
  pub left : List Tree
  pub right : List Tree
  pub whole : ts ≡ left ++ right
  pub first : AllStand cells xs (trees left)
  pub second : AllStand cells ys (trees right)

pub stand_both : (cells : Cells) (xs ys : List ℕ) (ts : List Tree) → AllStand cells (xs ++ ys) (trees ts)
    → StandBoth cells xs ys ts
stand_both cells [] ys ts a = record { left = []; right = ts; whole = refl; first = refl; second = a }
stand_both cells (x ∷ xs) ys [] a = absurd (let d : x ∷ (xs ++ ys) ≡ [] = a in cc)
stand_both cells (x ∷ xs) ys (t ∷ ts) a =
    let e = first_one x a.0 (xs ++ ys) a.1 a.2 in
    let r = stand_both cells xs ys ts (subst (λ (l : List ℕ). AllStand cells l (trees ts)) (sym e.1) a.4) in
    record {
      left = t ∷ r.left;
      right = r.right;
      whole = ap (λ (l : List Tree). t ∷ l) r.whole;
      first = (x, xs, refl, subst (λ (o : ℕ). Stands cells o t) (sym e.0) a.3, r.first);
      second = r.second;
    }

both_stand : (cells : Cells) (xs ys : List ℕ) (us vs : List Tree) → AllStand cells xs (trees us)
    → AllStand cells ys (trees vs) → AllStand cells (xs ++ ys) (trees (us ++ vs))
both_stand cells xs ys [] vs a b = subst (λ (l : List ℕ). AllStand cells (l ++ ys) (trees vs)) (sym a) b
both_stand cells xs ys (u ∷ us) vs a b =
    (a.0, a.1 ++ ys, ap (λ (l : List ℕ). l ++ ys) a.2, a.3, both_stand cells a.1 ys us vs a.4 b)

pub places_listed : (cells : Cells) (at : ℕ) (n : KeyNode) (offsets : List ℕ) → reading key_node_at cells at ≡ Ok n
    → ListsChildren cells n offsets → child_places cells at ≡ offsets
unfolding child_places
places_listed cells at n offsets read l =
    of_node_is cells at n (λ m. if m.child_count == 0 then [] else of_read (entries_at cells m.child_list) (λ os. os))
    read
    ∙ go (n.child_count == 0) l
  where
    go : (b : Bool)
        → MatchBool b (offsets ≡ []) ((entries_at cells n.child_list ≡ Ok offsets) × (length offsets ≡ n.child_count))
        → cond b [] (of_read (entries_at cells n.child_list) (λ os. os)) ≡ offsets
    go true e = sym e
    go false e = ap (λ (q : Result (List ℕ) HiveFaultKind). of_read q (λ os. os)) e.0

-- keys that may be children of one: their names have units and differ by fold, as do all names below them
pub record AreSiblings (us : List Tree) : Type 0 where
  pub apart : Pairwise Unlike (names_in us)
  pub named : (m : List ℕ) → In (names_in us) m → 0 < length m
  pub each : (u : Tree) → In us u → HasApartNames u

-- ---- the key

values_rest : (c : Cells) (old new : KeyNode) → SaysTheRest old new → values_of c new ≡ values_of c old
unfolding values_of
values_rest c old new same =
    ap (λ (n : ℕ). cond (n == 0) (Ok []) (reading (offsets_in n) c new.value_list >>= items_at c)) same.value_count
    ∙ ap (λ (o : ℕ). cond (old.value_count == 0) (Ok []) (reading (offsets_in old.value_count) c o >>= items_at c))
    same.value_list

module _ (b c : Cells) (root : ℕ) (t : Tree) (p : List (List ℕ)) (x left : ℕ) (front gone put back counted : List ℕ)
    (hd : Head) (ts : Trees) (well : IsWellFormed b root t) (h : Reaches b root p x)
    (deep : length p + suc left ≡ 512) (s : Stands b x (key hd ts))
    (g : ChangesChildren b c root x left front gone put back counted) where
  abbrev own_kept : List (ℕ × Bool)
  own_kept = plain (class_cell_at b x) ++ (secure (security_cell_at b x) ++ plain (all_value_cells b x))

  abbrev stay : List (ℕ × Bool)
  stay = flat_map (tree_uses left b) front ++ flat_map (tree_uses left b) back

  abbrev rest : List (ℕ × Bool)
  rest = own_kept ++ stay

  abbrev old : List (ℕ × Bool)
  old = plain (list_cells_at b x) ++ flat_map (tree_uses left b) gone

  abbrev new : List (ℕ × Bool)
  new = plain (list_cells_at c x) ++ flat_map (tree_uses left c) put

  -- the key's uses with these lists, and these of its children
  abbrev with_children : List ℕ → List (ℕ × Bool) → List (ℕ × Bool)
  with_children list below =
      (x, false)
      ∷ ((plain (class_cell_at b x)
      ++ (secure (security_cell_at b x) ++ (plain (all_value_cells b x) ++ plain list))) ++ below)

  woven_around : (list : List ℕ) (below part : List (ℕ × Bool)) → Woven below part stay
      → Woven (with_children list below) (plain list ++ part) ((x, false) ∷ rest)
  woven_around list below part w = inr (
    rest,
    refl,
    woven_on (plain (class_cell_at b x)
        ++ (secure (security_cell_at b x) ++ (plain (all_value_cells b x) ++ plain list))) below (plain list) part
        own_kept stay
        (kept_front (plain (class_cell_at b x))
        (secure (security_cell_at b x) ++ (plain (all_value_cells b x) ++ plain list)) (plain list)
        (secure (security_cell_at b x) ++ plain (all_value_cells b x))
        (kept_front (secure (security_cell_at b x)) (plain (all_value_cells b x) ++ plain list) (plain list)
        (plain (all_value_cells b x)) (kept_then_old (plain (all_value_cells b x)) (plain list))))
        w,
  )

  column : IsColumn b c root t p x left old rest counted
  column = record {
    well = well;
    reached = h;
    deep = deep;
    version = g.version;
    was = woven_around (list_cells_at b x) (flat_map (tree_uses left b) (child_places b x))
        (flat_map (tree_uses left b) gone)
        (subst (λ (l : List ℕ). Woven (flat_map (tree_uses left b) l) (flat_map (tree_uses left b) gone) stay)
        (sym g.listed) (woven_middle (tree_uses left b) front gone back));
    others = λ o q held no_node no_old no_count. g.others o q held no_node
        (λ i. no_old false (in_left (plain (list_cells_at b x)) (flat_map (tree_uses left b) gone) (o, false)
        (in_plain (list_cells_at b x) o i)))
        (λ s i. no_old s (in_right (plain (list_cells_at b x)) (flat_map (tree_uses left b) gone) (o, s) i)) no_count;
    counted_are = g.counted_are;
    security_same = g.security;
  }

  abbrev kept : IsNodeKept b c x
  kept = record {
    version = g.version;
    old = g.old;
    new = g.new;
    read = g.read;
    read_new = g.read_new;
    class_length = g.same.class_length;
    class = g.same.class;
    security = g.same.security;
  }

  still : (o : ℕ) → In own_kept (o, false) → c.payload o ≡ b.payload o
  still o i = stays b c root t p x left old rest counted column o (in_left own_kept stay (o, false) i)

  in_class : (o : ℕ) → In (class_cell_at b x) o → In rest (o, false)
  in_class o i = in_left own_kept stay (o, false)
      (in_left (plain (class_cell_at b x)) (secure (security_cell_at b x) ++ plain (all_value_cells b x)) (o, false)
      (in_plain (class_cell_at b x) o i))

  values_still : (o : ℕ) → In (all_value_cells b x) o → c.payload o ≡ b.payload o
  values_still o i = still o
      (in_right (plain (class_cell_at b x)) (secure (security_cell_at b x) ++ plain (all_value_cells b x)) (o, false)
      (in_right (secure (security_cell_at b x)) (plain (all_value_cells b x)) (o, false)
      (in_plain (all_value_cells b x) o i)))

  one_value : (v : ℕ) → In (value_places b x) v → IsValueSame b c v
  one_value v i o used =
      values_still o (in_right (value_list_at b x) (cells_of_values b (value_places b x)) o
      (in_flat_from (λ w. used_in (value_checks b [] w)) (value_places b x) o v i used))

  values_there : AreValuesKept b c x g.old g.new
  values_there = record {
    count = g.same.value_count;
    list = g.same.value_list;
    list_cell = λ o i. values_still o (in_left (value_list_at b x) (cells_of_values b (value_places b x)) o i);
    cells = one_value;
  }

  listed_there : (y : ℕ) → In front y ⊎ In back y → In (child_places b x) y
  listed_there y i = subst (λ (l : List ℕ). In l y) (sym g.listed)
      (⊎_elim (λ j. in_left front (gone ++ back) y j)
      (λ j. in_right front (gone ++ back) y (in_right gone back y j)) i)

  below : (y : ℕ) → In front y ⊎ In back y → (u : ℕ × Bool) → In (tree_uses left b y) u → In rest u
  below y i u j = in_right own_kept stay u
      (⊎_elim (λ k. in_left (flat_map (tree_uses left b) front) (flat_map (tree_uses left b) back) u
      (in_flat_from (tree_uses left b) front u y k j))
      (λ k. in_right (flat_map (tree_uses left b) front) (flat_map (tree_uses left b) back) u
      (in_flat_from (tree_uses left b) back u y k j)) i)

  child : (y : ℕ) → In front y ⊎ In back y → (q : List (List ℕ)) (z : ℕ) → Reaches b y q z → IsSameKey b c z
  child y i = child_same b c root t p x left old rest counted column y (listed_there y i) (below y i)

  places : child_places c x ≡ front ++ (put ++ back)
  places = places_listed c x g.new (front ++ (put ++ back)) g.read_new g.listed_new

  is : Woven (tree_uses (suc left) c x) new ((x, false) ∷ rest)
  is =
      subst (λ (l : List (ℕ × Bool)). Woven l new ((x, false) ∷ rest)) (sym same)
      (woven_around (list_cells_at c x) (flat_map (tree_uses left c) (front ++ (put ++ back)))
      (flat_map (tree_uses left c) put)
      (subst (λ (l : List (ℕ × Bool)). Woven (flat_map (tree_uses left c) (front ++ (put ++ back)))
      (flat_map (tree_uses left c) put) l) stay_same (woven_middle (tree_uses left c) front put back)))
    where
      own_with : List ℕ → List ℕ → List ℕ → List ℕ → List (ℕ × Bool)
      own_with cl se va pl =
          (x, false)
          ∷ ((plain cl ++ (secure se ++ (plain va ++ plain (list_cells_at c x)))) ++ flat_map (tree_uses left c) pl)

      same : tree_uses (suc left) c x
          ≡ with_children (list_cells_at c x) (flat_map (tree_uses left c) (front ++ (put ++ back)))
      same =
          ap (λ (l : List ℕ). own_with l (security_cell_at c x) (all_value_cells c x) (child_places c x))
          (class_kept b c x kept)
          ∙ ap (λ (l : List ℕ). own_with (class_cell_at b x) l (all_value_cells c x) (child_places c x))
          (security_kept b c x kept)
          ∙ ap (λ (l : List ℕ). own_with (class_cell_at b x) (security_cell_at b x)
          (l ++ cells_of_values c (value_places c x)) (child_places c x)) (value_list_kept b c x kept values_there)
          ∙ ap (λ (l : List ℕ). own_with (class_cell_at b x) (security_cell_at b x)
          (value_list_at b x ++ cells_of_values c l) (child_places c x)) (value_places_kept b c x kept values_there)
          ∙ ap (λ (l : List ℕ). own_with (class_cell_at b x) (security_cell_at b x)
          (value_list_at b x ++ l) (child_places c x)) (values_used_same b c (value_places b x) g.version one_value)
          ∙ ap (own_with (class_cell_at b x) (security_cell_at b x) (all_value_cells b x)) places

      stay_same : flat_map (tree_uses left c) front ++ flat_map (tree_uses left c) back ≡ stay
      stay_same =
          ap (λ (l : List (ℕ × Bool)). l ++ flat_map (tree_uses left c) back)
          (uses_over left b c front (λ y i. uses_same left b c y (child y (inl i))))
          ∙ ap (λ (l : List (ℕ × Bool)). flat_map (tree_uses left b) front ++ l)
          (uses_over left b c back (λ y i. uses_same left b c y (child y (inr i))))

  -- what the key and those below it own then
  value_role : (name : List ℕ) (o : ℕ) (w : HasValue c x name o) → In (value_places b x) w.place → HasValue b x name o
  value_role name o w i =
      let same = one_value w.place i in
      record {
        place = w.place;
        listed = i;
        named = sym (same_value_name b c w.place (same w.place (first_used b w.place))) ∙ w.named;
        used = subst (λ (l : List ℕ). In l o) (value_used_same b c w.place g.version same) w.used;
      }

  role : (r : Role) (o : ℕ) → HasRole c x r o → HasRole b x r o ⊎ In new (o, is_secure r)
  role node o i = inl i
  role class o i = inl (subst (λ (l : List ℕ). In l o) (class_kept b c x kept) i)
  role security o i = inl (subst (λ (l : List ℕ). In l o) (security_kept b c x kept) i)
  role value_list o i = inl (subst (λ (l : List ℕ). In l o) (value_list_kept b c x kept values_there) i)
  role (value name) o i =
      inl (value_role name o i (subst (λ (l : List ℕ). In l i.place) (value_places_kept b c x kept values_there)
      i.listed))
  role lists o i = inr (in_left (plain (list_cells_at c x)) (flat_map (tree_uses left c) put) (o, false)
      (in_plain (list_cells_at c x) o i))

  below_owned : (y : ℕ) (m : List ℕ) (q : List (List ℕ)) (r : Role) (o : ℕ) → length q < left → node_name c y ≡ m
      → Owns c y q r o → In front y ⊎ In (put ++ back) y → Owns b x (m ∷ q) r o ⊎ In new (o, is_secure r)
  below_owned y m q r o lt e w (inl i) =
      inl (child_owned b c root t p x left old rest counted column y (listed_there y (inl i)) (below y (inl i))
      m q r o e w)
  below_owned y m q r o lt e w (inr i) = ⊎_elim
      (λ j. inr (in_right (plain (list_cells_at c x)) (flat_map (tree_uses left c) put) (o, is_secure r)
      (in_flat_from (tree_uses left c) put (o, is_secure r) y j (owned_use left c q y r o lt w))))
      (λ j. inl (child_owned b c root t p x left old rest counted column y (listed_there y (inr j))
      (below y (inr j)) m q r o e w))
      (in_cases put back y i)

  owned : (q : List (List ℕ)) (r : Role) (o : ℕ) → length q < suc left → Owns c x q r o
      → Owns b x q r o ⊎ In new (o, is_secure r)
  owned [] r o lt w =
      ⊎_elim (λ i. inl (record { at = x; reached = refl; has = i })) (λ i. inr i)
      (role r o (subst (λ (z : ℕ). HasRole c z r o) (sym w.reached) w.has))
  owned (m ∷ q) r o lt w =
      below_owned w.reached.0 m q r o (omega (arith, lt)) w.reached.2
      (record { at = w.at; reached = w.reached.3; has = w.has })
      (in_cases front (put ++ back) w.reached.0 (subst (λ (l : List ℕ). In l w.reached.0) places w.reached.1))

  values_here : values_of c g.new ≡ values_of b g.old
  values_here =
      values_rest c g.old g.new g.same
      ∙ values_of_same b c g.old g.version
      (λ some. values_there.list_cell g.old.value_list (value_list_is b x g.old g.read some))
      (λ offsets v some r i. one_value v (subst (λ (l : List ℕ). In l v) (sym (values_are b x g.old offsets g.read some
      r)) i))

  -- the key's children in parts
  pub in_parts : (one : StandBoth b front (gone ++ back) (listed ts)) × StandBoth b gone back one.right
  in_parts =
      let offsets : s.0 ≡ front ++ (gone ++ back) = sym (places_are b x hd s.0 s.1) ∙ g.listed in
      let one = stand_both b front (gone ++ back) (listed ts)
      (subst (λ (us : Trees). AllStand b (front ++ (gone ++ back)) us) (sym (trees_listed ts))
      (subst (λ (l : List ℕ). AllStand b l ts) offsets s.2)) in
      (one, stand_both b gone back one.right one.second)

  -- the key is rewritten: its children are those before, those that come, and those after
  pub children_rewritten : (one : StandBoth b front (gone ++ back) (listed ts)) (two : StandBoth b gone back one.right)
      (come : List Tree) → HasApartNames (key hd ts) → AllStand c put (trees come)
      → ((u : Tree) → In come u → levels u ≤ left)
      → AreSiblings (one.left ++ (come ++ two.right))
      → RewritesKey b c root x (suc left) (key hd (trees (one.left ++ (come ++ two.right)))) old new counted
  children_rewritten one two come n new_stand new_low siblings = record {
    kept = (x, false) ∷ rest;
    version = g.version;
    was = column.was;
    is = is;
    others = column.others;
    counted_are = g.counted_are;
    security_same = g.security;
    used = g.used;
    once = g.once;
    owned = owned;
    name = name_kept b c x kept g.same.name;
    parent = parent_kept b c x kept g.same.parent;
    parents = λ names. children_name c x
        (λ y i. comes names y (in_cases front (put ++ back) y (subst (λ (l : List ℕ). In l y) places i)));
    stands = (
      front ++ (put ++ back),
      key_stands b c root t p x left old rest counted column kept in_class hd s.0 (front ++ (put ++ back)) hd.values
          s.1 g.same.name g.same.flags g.same.stamp
          (values_here ∙ subst (λ (m : KeyNode). values_of b m ≡ Ok hd.values)
          (one_node (reading key_node_at b x) s.1.node g.old s.1.read g.read) s.1.values) g.listed_new,
      both_stand c front (put ++ back) one.left (come ++ two.right)
          (all_same b c front (trees one.left) one.first (λ y i. child y (inl i)))
          (both_stand c put back come two.right new_stand
          (all_same b c back (trees two.right) two.second (λ y i. child y (inr i)))),
    );
    names = apart_with hd ts (one.left ++ (come ++ two.right)) n siblings.apart siblings.named
        siblings.each;
    low = let l = most_each (one.left ++ (come ++ two.right)) left low_each in omega (arith, l);
  }
    where
      stays_named : (y : ℕ) → NamesParents b x → In front y ⊎ In back y → IsChildOf c x y
      stays_named y names i = child_still b c x y (child y i) (child_names b x y names (listed_there y i))

      comes : NamesParents b x → (y : ℕ) → In front y ⊎ In (put ++ back) y → IsChildOf c x y
      comes names y (inl i) = stays_named y names (inl i)
      comes names y (inr i) = ⊎_elim (λ j. g.named y j) (λ j. stays_named y names (inr j)) (in_cases put back y i)

      old_low : (u : Tree) → In (listed ts) u → levels u ≤ left
      old_low u i =
          let e = each_most ts u i in
          let w = low_there b c root t p x left old rest counted column (key hd ts) s in omega (arith, e, w)

      low_each : (u : Tree) → In (one.left ++ (come ++ two.right)) u → levels u ≤ left
      low_each u i = ⊎_elim
          (λ j. old_low u (subst (λ (l : List Tree). In l u) (sym one.whole)
          (in_left one.left one.right u j)))
          (λ j. ⊎_elim (λ k. new_low u k)
          (λ k. old_low u (subst (λ (l : List Tree). In l u) (sym one.whole)
          (in_right one.left one.right u
          (subst (λ (l : List Tree). In l u) (sym two.whole) (in_right two.left two.right u k)))))
          (in_cases come two.right u j))
          (in_cases one.left (come ++ two.right) u i)
