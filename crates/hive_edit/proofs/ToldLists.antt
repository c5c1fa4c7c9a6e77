-- Where a node records greater lengths, the lists of each key are as they were.
use Rattle.std.proofs.Common.{◌≡◌, ◌<◌, ℕ, Bool, true, false, cond, List, [], ◌∷◌, ◌++◌, length, take, drop, Result, Ok, Err, inl, inr, refl, sym, ap, subst, ◌∙◌, ⊎_elim, arith}
use Rattle.std.specs.Prelude.{◌⊎◌, ◌==◌, nat_lt}
use Rattle.std.proofs.lemmas.Bool.{cases_eq}
use Rattle.nt_bytes.specs.Fields.{u16_in}
use Rattle.nt_bytes.specs.declared.fault.HiveFaultKind.{HiveFaultKind}
use Rattle.nt_bytes.specs.declared.fault.HiveFaultKind.TheVariants.{FormShort, FormSign, FormKind}
use Rattle.nt_bytes.specs.declared.version.HiveVersion.{HiveVersion}
use Rattle.nt_bytes.specs.declared.version.HiveVersion.TheVariants.{V3, V5}
use Rattle.nt_bytes.specs.Reading.{◌>>=◌}
use Rattle.hive_model.specs.Bins.{Bin, Cells, payload_at}
use Rattle.hive_model.specs.KeyNode.{KeyNode, key_node_at, is_narrow_key}
use Rattle.hive_model.specs.Lists.{Li, Lf, Lh, Ri, SubkeyList, list_of, list_at, lf_text, lh_text, ri_text}
use Rattle.hive_model.specs.Packed.{list_text}
use Rattle.hive_model.specs.Walk.{reading, is_list_of_lists, leaf_at, joined_at, entries_of, entries_at}
use Rattle.hive_model.specs.Footprint.{of_read, child_places}
use Rattle.hive_model.specs.InPlace.{BeginsWith, PartsAt, IsPackedList}
use Rattle.hive_cells.specs.Held.{held_at}
use Rattle.hive_cells.proofs.HeldLemmas.{payload_held, held_payload}
use Rattle.hive_read.proofs.FormFacts.{then-so}
use Rattle.edited_cells.specs.Greatest.{with_lengths, RaisesLengths}
use Rattle.edited_cells.specs.Relists.{SaysTheRest}
use Rattle.edited_cells.proofs.Out.{of_node_is}
use Rattle.edited_cells.proofs.Patches.{node_text}
use Rattle.key_index.specs.Lists.{payload_in, name_of, stored_hint, node_hint, hint_in, hints_in}
use Rattle.hive_look.proofs.ResultLemmas.{done, ok_same, some_same}

-- ---- results that are the same, but for which fault it is

abbrev pub AreAlike : {A : Type 0} → Result A HiveFaultKind → Result A HiveFaultKind → Type 0
AreAlike (Ok x) (Ok y) = x ≡ y
AreAlike (Ok x) (Err k) = ⊥
AreAlike (Err k) (Ok y) = ⊥
AreAlike (Err k) (Err l) = Unit {0}

alike_itself : {A : Type 0} (r : Result A HiveFaultKind) → AreAlike r r
alike_itself (Ok x) = refl
alike_itself (Err k) = tt

then_alike : {A B : Type 0} (r s : Result A HiveFaultKind) (f g : A → Result B HiveFaultKind) → AreAlike r s
    → ((x : A) → AreAlike (f x) (g x)) → AreAlike (r >>= f) (s >>= g)
then_alike (Ok x) (Ok y) f g e h = subst (λ z. AreAlike (f x) (g z)) e (h x)
then_alike (Ok x) (Err k) f g e h = absurd e
then_alike (Err k) (Ok y) f g e h = absurd e
then_alike (Err k) (Err l) f g e h = tt

never_alike : {A : Type 0} (r s : Result A HiveFaultKind) → ((x : A) → r ≡ done x → ⊥) → ((x : A) → s ≡ done x → ⊥)
    → AreAlike r s
never_alike (Ok x) s f g = absurd (f x refl)
never_alike (Err k) (Ok y) f g = absurd (g y refl)
never_alike (Err k) (Err l) f g = tt

listed_alike : (r s : Result (List ℕ) HiveFaultKind) → AreAlike r s → of_read r (λ l. l) ≡ of_read s (λ l. l)
listed_alike (Ok x) (Ok y) e = e
listed_alike (Ok x) (Err k) e = absurd e
listed_alike (Err k) (Ok y) e = absurd e
listed_alike (Err k) (Err l) e = refl

-- what is held as before is read as before
pub held_alike : (old new : List Bin) (o : ℕ) → held_at new o ≡ held_at old o
    → AreAlike (payload_at new o) (payload_at old o)
held_alike old new o e = go (payload_at new o) (payload_at old o) refl refl
  where
    go : (r s : Result (List ℕ) HiveFaultKind) → payload_at new o ≡ r → payload_at old o ≡ s → AreAlike r s
    go (Ok p) (Ok q) f g = some_same p q (sym (payload_held new o p f) ∙ e ∙ payload_held old o q g)
    go (Ok p) (Err k) f g =
        absurd (let d = sym g ∙ held_payload old o p (sym e ∙ payload_held new o p f) in cc)
    go (Err k) (Ok q) f g =
        absurd (let d = sym f ∙ held_payload new o q (e ∙ payload_held old o q g) in cc)
    go (Err k) (Err l) f g = tt

-- ---- a node is no list

no_list : (p : List ℕ) (n : KeyNode) (l : SubkeyList) → key_node_at p ≡ done n → list_at p ≡ done l → ⊥
unfolding list_at
no_list p n l e f =
    go (nat_lt (length p) 2) (subst (λ (s : ℕ). by_sign s ≡ done l) (node_text p n e).sign f)
  where
    by_sign : ℕ → Result SubkeyList HiveFaultKind
    by_sign s =
        cond (nat_lt (length p) 2) (Err FormShort)
        (cond (s == 0x696c) (list_of Li 4 p)
        (cond (s == 0x666c) (list_of Lf 8 p)
        (cond (s == 0x686c) (list_of Lh 8 p) (cond (s == 0x6972) (list_of Ri 4 p) (Err FormSign)))))

    go : (b : Bool) → cond b (Err FormShort) (Err FormSign) ≡ done l → ⊥
    go true d = cc
    go false d = cc

no_leaf : (p : List ℕ) (n : KeyNode) (os : List ℕ) → key_node_at p ≡ done n → leaf_at p ≡ done os → ⊥
unfolding leaf_at
no_leaf p n os e f =
    let l = then-so (list_at p) (λ list. cond (is_list_of_lists list.kind) (Err FormKind) (Ok list.offsets)) os f in
    no_list p n l.0 e l.1

-- nor does it begin as one
no_node_text : (version : HiveVersion) (os : List ℕ) (hs : List (List ℕ)) (rest : List ℕ) (n : KeyNode)
    → key_node_at (list_text version os hs ++ rest) ≡ done n → ⊥
unfolding lf_text lh_text
no_node_text V3 os hs rest n e =
    let s : 0x666c ≡ 0x6b6e = (node_text (lf_text os hs ++ rest) n e).sign in omega (arith, s)
no_node_text V5 os hs rest n e =
    let s : 0x686c ≡ 0x6b6e = (node_text (lh_text os hs ++ rest) n e).sign in omega (arith, s)

no_node_lists : (lists rest : List ℕ) (n : KeyNode) → key_node_at (ri_text lists ++ rest) ≡ done n → ⊥
unfolding ri_text
no_node_lists lists rest n e =
    let s : 0x6972 ≡ 0x6b6e = (node_text (ri_text lists ++ rest) n e).sign in omega (arith, s)

-- what a list has for a node
node_said : (cells : Cells) (o : ℕ) (n : KeyNode) → reading key_node_at cells o ≡ done n
    → (u16_in (payload_in cells o) 2 ≡ n.flags) × (name_of (payload_in cells o) ≡ n.name)
unfolding payload_in name_of
node_said cells o n read =
    let p = then-so (cells.payload o) key_node_at n read in
    let there : payload_in cells o ≡ p.0 = ap (λ (r : Result (List ℕ) HiveFaultKind). of_read r (λ q. q)) p.1 in (
      ap (λ (q : List ℕ). u16_in q 2) there ∙ sym (ap (λ (m : KeyNode). m.flags) (node_text p.0 n p.2).fields),
      ap (λ (q : List ℕ). of_read (key_node_at q) (λ m. m.name)) there
          ∙ ap (λ (r : Result KeyNode HiveFaultKind). of_read r (λ m. m.name)) p.2,
    )

-- ---- the cells

-- a node with other lengths says the rest as before
lengths_rest : (n m : KeyNode) → SaysTheRest n (with_lengths n m)
lengths_rest n m = record {
  name = refl;
  flags = refl;
  stamp = refl;
  parent = refl;
  volatile_count = refl;
  volatile_list = refl;
  value_count = refl;
  value_list = refl;
  security = refl;
  class = refl;
  class_length = refl;
}

same_rest : (n : KeyNode) → SaysTheRest n n
same_rest n = lengths_rest n n

rest_on : (n m k : KeyNode) → SaysTheRest n m → SaysTheRest m k → SaysTheRest n k
rest_on n m k r s = record {
  name = s.name ∙ r.name;
  flags = s.flags ∙ r.flags;
  stamp = s.stamp ∙ r.stamp;
  parent = s.parent ∙ r.parent;
  volatile_count = s.volatile_count ∙ r.volatile_count;
  volatile_list = s.volatile_list ∙ r.volatile_list;
  value_count = s.value_count ∙ r.value_count;
  value_list = s.value_list ∙ r.value_list;
  security = s.security ∙ r.security;
  class = s.class ∙ r.class;
  class_length = s.class_length ∙ r.class_length;
}

-- the lists of the node at an offset are in packed form, and the node says the rest as this one
pub record HasLists (c : Cells) (at : ℕ) (n : KeyNode) : Type 0 where
  pub node : KeyNode
  pub read : reading key_node_at c at ≡ done node
  pub rest : SaysTheRest n node
  pub lists : 0 < node.child_count
      → IsPackedList c node.child_list (child_places c at) (hints_in c (child_places c at))

packed_as : (c : Cells) (k l : ℕ) (os ps : List ℕ) (hs is : List (List ℕ)) → l ≡ k → ps ≡ os → is ≡ hs
    → IsPackedList c k os hs → IsPackedList c l ps is
packed_as c k l os ps hs is e f g w =
    subst (λ (z : ℕ). IsPackedList c z ps is) (sym e)
    (subst (λ (z : List ℕ). IsPackedList c k z is) (sym f)
    (subst (λ (z : List (List ℕ)). IsPackedList c k os z) (sym g) w))

-- the node at an offset names the same list as before, and says the rest as before
pub record IsNodeStill (c : Cells) (at : ℕ) (n : KeyNode) : Type 0 where
  pub node : KeyNode
  pub read : reading key_node_at c at ≡ done node
  pub rest : SaysTheRest n node
  pub count : node.child_count ≡ n.child_count
  pub list : node.child_list ≡ n.child_list

module _ (b c : Cells) (x : ℕ) (g : RaisesLengths b c x)
    (others : (o : ℕ) → (o ≡ x → ⊥) → AreAlike (c.payload o) (b.payload o))
  where
    -- what no node reads as is read as before
    form_alike : {F : Type 0} (form : List ℕ → Result F HiveFaultKind)
        → ((p : List ℕ) (n : KeyNode) (y : F) → key_node_at p ≡ done n → form p ≡ done y → ⊥) → (o : ℕ)
        → AreAlike (reading form c o) (reading form b o)
    form_alike {F} form never o = ⊎_elim
        (λ (e : o ≡ x). subst (λ (z : ℕ). AreAlike (reading form c z) (reading form b z)) (sym e)
        (never_alike (reading form c x) (reading form b x) (none c g.new g.read_new) (none b g.old g.read)))
        (λ (e : o ≡ x → ⊥). then_alike (c.payload o) (b.payload o) form form (others o e) (λ p. alike_itself (form p)))
        (cases_eq o x)
      where
        none : (cells : Cells) (n : KeyNode) → reading key_node_at cells x ≡ done n → (y : F)
            → reading form cells x ≡ done y → ⊥
        none cells n read y e =
            let p = then-so (cells.payload x) key_node_at n read in
            let q = then-so (cells.payload x) form y e in
            let same : q.0 ≡ p.0 = ok_same q.0 p.0 (sym q.1 ∙ p.1) in
            never p.0 n y p.2 (ap form (sym same) ∙ q.2)

    joined_alike : (offsets : List ℕ) → AreAlike (joined_at c offsets) (joined_at b offsets)
    joined_alike [] = refl
    joined_alike (o ∷ os) =
        then_alike (reading leaf_at c o) (reading leaf_at b o)
        (λ xs. joined_at c os >>= λ ys. Ok (xs ++ ys)) (λ xs. joined_at b os >>= λ ys. Ok (xs ++ ys))
        (form_alike leaf_at no_leaf o)
        (λ xs. then_alike (joined_at c os) (joined_at b os) (λ ys. Ok (xs ++ ys)) (λ ys. Ok (xs ++ ys)) (joined_alike os)
        (λ ys. refl))

    entries_alike : (at : ℕ) → AreAlike (entries_at c at) (entries_at b at)
    unfolding entries_at
    entries_alike at =
        then_alike (reading list_at c at) (reading list_at b at) (entries_of c) (entries_of b)
        (form_alike list_at no_list at) (λ l. go l.offsets (is_list_of_lists l.kind))
      where
        go : (os : List ℕ) (lists : Bool)
            → AreAlike (cond lists (joined_at c os) (Ok os)) (cond lists (joined_at b os) (Ok os))
        go os true = joined_alike os
        go os false = refl

    still_here : (n : KeyNode) → g.old ≡ n → IsNodeStill c x n
    still_here n same = record {
      node = g.new;
      read = g.read_new;
      rest = subst (SaysTheRest n) (sym (g.same ∙ ap (λ (m : KeyNode). with_lengths m g.new) same)) (lengths_rest n g.new);
      count = ap (λ (m : KeyNode). m.child_count) g.same ∙ ap (λ (m : KeyNode). m.child_count) same;
      list = ap (λ (m : KeyNode). m.child_list) g.same ∙ ap (λ (m : KeyNode). m.child_list) same;
    }

    still_there : (at : ℕ) (n : KeyNode) (p : List ℕ) → b.payload at ≡ done p → key_node_at p ≡ done n → (at ≡ x → ⊥)
        → IsNodeStill c at n
    still_there at n p held read e = record {
      node = n;
      read = ap (λ (r : Result (List ℕ) HiveFaultKind). r >>= key_node_at) (g.others at p held e) ∙ read;
      rest = same_rest n;
      count = refl;
      list = refl;
    }

    node_still : (at : ℕ) (n : KeyNode) → reading key_node_at b at ≡ done n → IsNodeStill c at n
    node_still at n read = go (cases_eq at x)
      where
        there : (p : List ℕ) × (b.payload at ≡ done p) × (key_node_at p ≡ done n)
        there = then-so (b.payload at) key_node_at n read

        at_x : at ≡ x → reading key_node_at b x ≡ done n
        at_x e = subst (λ (z : ℕ). reading key_node_at b z ≡ done n) e read

        go : ((at ≡ x) ⊎ (at ≡ x → ⊥)) → IsNodeStill c at n
        go (inl e) = subst (λ (z : ℕ). IsNodeStill c z n) (sym e)
            (still_here n (ok_same g.old n (sym g.read ∙ at_x e)))
        go (inr e) = still_there at n there.0 there.1 there.2 e

    places_still : (at : ℕ) (n : KeyNode) → reading key_node_at b at ≡ done n → (s : IsNodeStill c at n)
        → child_places c at ≡ child_places b at
    unfolding child_places
    places_still at n read s =
        of_node_is c at s.node (λ m. cond (m.child_count == 0) [] (of_read (entries_at c m.child_list) (λ os. os))) s.read
        ∙ by_count s.node.child_count n.child_count s.node.child_list s.count
        ∙ by_list s.node.child_list n.child_list n.child_count s.list
        ∙ by_cells n.child_count n.child_list
        ∙ sym (of_node_is b at n (λ m. cond (m.child_count == 0) [] (of_read (entries_at b m.child_list) (λ os. os)))
        read)
      where
        by_count : (k l list : ℕ) → k ≡ l → cond (k == 0) [] (of_read (entries_at c list) (λ os. os))
            ≡ cond (l == 0) [] (of_read (entries_at c list) (λ os. os))
        by_count k l list e = ap (λ (m : ℕ). cond (m == 0) [] (of_read (entries_at c list) (λ os. os))) e

        by_list : (k l count : ℕ) → k ≡ l → cond (count == 0) [] (of_read (entries_at c k) (λ os. os))
            ≡ cond (count == 0) [] (of_read (entries_at c l) (λ os. os))
        by_list k l count e = ap (λ (m : ℕ). cond (count == 0) [] (of_read (entries_at c m) (λ os. os))) e

        by_cells : (count list : ℕ) → cond (count == 0) [] (of_read (entries_at c list) (λ os. os))
            ≡ cond (count == 0) [] (of_read (entries_at b list) (λ os. os))
        by_cells count list = ap (λ (l : List ℕ). cond (count == 0) [] l)
            (listed_alike (entries_at c list) (entries_at b list) (entries_alike list))

    -- the node itself names the same children
    pub children_still : child_places c x ≡ child_places b x
    children_still = places_still x g.old g.read (node_still x g.old g.read)

    hint_still : (o : ℕ) → hint_in c o ≡ hint_in b o
    unfolding payload_in
    hint_still o = ⊎_elim
        (λ (e : o ≡ x). subst (λ (z : ℕ). hint_in c z ≡ hint_in b z) (sym e) here)
        (λ (e : o ≡ x → ⊥). there e) (cases_eq o x)
      where
        here : hint_in c x ≡ hint_in b x
        here =
            let old = node_said b x g.old g.read in
            let new = node_said c x g.new g.read_new in
            let flags = new.0 ∙ ap (λ (m : KeyNode). m.flags) g.same ∙ sym old.0 in
            let name = new.1 ∙ ap (λ (m : KeyNode). m.name) g.same ∙ sym old.1 in
            λ i. stored_hint (g.version i) (is_narrow_key (flags i)) (name i)

        there : (o ≡ x → ⊥) → hint_in c o ≡ hint_in b o
        there e =
            let same : payload_in c o ≡ payload_in b o = listed_alike (c.payload o) (b.payload o) (others o e) in
            λ i. node_hint (g.version i) (same i)

    hints_still : (os : List ℕ) → hints_in c os ≡ hints_in b os
    hints_still [] = refl
    hints_still (o ∷ os) = λ i. hint_still o i ∷ hints_still os i

    begins_still : (at : ℕ) (text : List ℕ) → ((rest : List ℕ) (n : KeyNode) → key_node_at (text ++ rest) ≡ done n → ⊥)
        → BeginsWith b at text → BeginsWith c at text
    begins_still at text never w = record {
      rest = w.rest;
      payload = g.others at (text ++ w.rest) w.payload (λ e. never w.rest g.old
          (ap (λ (r : Result (List ℕ) HiveFaultKind). r >>= key_node_at) (sym w.payload ∙ ap b.payload e) ∙ g.read));
    }

    list_still : (at : ℕ) (os : List ℕ) (hs : List (List ℕ)) → BeginsWith b at (list_text b.version os hs)
        → BeginsWith c at (list_text c.version os hs)
    list_still at os hs w =
        subst (λ (v : HiveVersion). BeginsWith c at (list_text v os hs)) (sym g.version)
        (begins_still at (list_text b.version os hs) (λ rest n. no_node_text b.version os hs rest n) w)

    parts_still : (lists os : List ℕ) (hs : List (List ℕ)) → PartsAt b lists os hs → PartsAt c lists os hs
    parts_still [] os hs w = tt
    parts_still (at ∷ lists) os hs w =
        (list_still at (take 500 os) (take 500 hs) w.0, parts_still lists (drop 500 os) (drop 500 hs) w.1)

    packed_still : (list : ℕ) (os : List ℕ) (hs : List (List ℕ)) → IsPackedList b list os hs
        → IsPackedList c list os hs
    packed_still list os hs (inl s) =
        inl (record { some = s.some; few = s.few; whole = list_still list os hs s.whole })
    packed_still list os hs (inr p) =
        inr (record {
          many = p.many;
          lists = p.lists;
          number = p.number;
          whole = begins_still list (ri_text p.lists) (λ rest n. no_node_lists p.lists rest n) p.whole;
          parts = parts_still p.lists os hs p.parts;
        })

    lists_by : (at : ℕ) (n : KeyNode) (h : HasLists b at n) → (s : IsNodeStill c at h.node)
        → child_places c at ≡ child_places b at → HasLists c at n
    lists_by at n h s places = record {
      node = s.node;
      read = s.read;
      rest = rest_on n h.node s.node h.rest s.rest;
      lists = λ some. packed_as c h.node.child_list s.node.child_list (child_places b at) (child_places c at)
          (hints_in b (child_places b at)) (hints_in c (child_places c at)) s.list places
          (ap (λ (os : List ℕ). hints_in c os) places ∙ hints_still (child_places b at))
          (packed_still h.node.child_list (child_places b at) (hints_in b (child_places b at))
          (h.lists (subst (λ (k : ℕ). 0 < k) s.count some)));
    }

    pub lists_still : (at : ℕ) (n : KeyNode) → HasLists b at n → HasLists c at n
    lists_still at n h = by_node (node_still at h.node h.read)
      where
        by_node : IsNodeStill c at h.node → HasLists c at n
        by_node s = lists_by at n h s (places_still at h.node h.read s)
