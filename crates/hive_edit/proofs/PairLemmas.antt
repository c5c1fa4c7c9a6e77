-- A key below another one: where a path leads, and which cells the two use.
use Rattle.std.proofs.Common.{◌≡◌, ◌≤◌, ◌<◌, ℕ, suc, ◌+◌, Bool, true, false, cond, List, [], ◌∷◌, ◌++◌, length, Option, Some, None, Result, Ok, ◌⊎◌, inl, inr, refl, sym, ap, subst, ◌∙◌, arith}
use Rattle.std.proofs.lemmas.Bool.{ltb-false, ne_eqb, eq-eqb}
use Rattle.std.specs.Prelude.{slice_range, ◌==◌, find, flat_map, option_and_then, Contains}
use Rattle.nt_bytes.specs.Folding.{folds_same}
use Rattle.nt_bytes.specs.declared.version.HiveVersion.{HiveVersion}
use Rattle.hive_model.specs.Bins.{Bin, Cells, look_up}
use Rattle.hive_model.specs.KeyNode.{KeyNode, key_node_at}
use Rattle.nt_bytes.specs.declared.fault.HiveFaultKind.{HiveFaultKind}
use Rattle.nt_bytes.specs.Fields.{u16_in, u32_in}
use Rattle.nt_bytes.specs.Reading.{◌>>=◌}
use Rattle.hive_model.specs.Security.{SecurityCell, security_at}
use Rattle.hive_model.specs.Tree.{Tree, head, children, is_named, find_key}
use Rattle.hive_model.specs.Walk.{reading, nowhere}
use Rattle.hive_model.specs.Footprint.{child_places, is_node_named, key_place, list_cells_at, security_cell_at}
use Rattle.hive_model.specs.Stands.{security_of, IsWellFormed}
use Rattle.hive_cells.specs.Held.{held_at}
use Rattle.hive_cells.proofs.HeldLemmas.{payload_held}
use Rattle.edited_cells.specs.Owned.{In, node_name, class_cell_at, Reaches, Folds}
use Rattle.edited_cells.specs.Relists.{IsSecurityCell}
use Rattle.edited_cells.specs.Uses.{Agree, Once, plain, secure, own_uses, tree_uses}
use Rattle.edited_cells.specs.Revalues.{all_value_cells}
use Rattle.edited_cells.proofs.Ins.{in_from, in_right, in_flat_from, found_in}
use Rattle.edited_cells.proofs.Pairs.{InParts, pairwise_parts, among, in_map_from}
use Rattle.edited_cells.proofs.Out.{named_so, placed_at}
use Rattle.edited_cells.proofs.Patches.{node_text}
use Rattle.edited_cells.proofs.Wellformed.{sound_hive}
use Rattle.edited_cells.proofs.Around.{IsSwapped, above_is, around, flat_append, hive_uses, hive_once, used_held}
use Rattle.edited_cells.proofs.ChangedValues.{path_itself, same_itself}
use Rattle.edited_cells.proofs.Revalued.{folds_length, reach_on}
use Rattle.edited_cells.proofs.OwnedUses.{secure_is, use_owned}
use Rattle.edited_cells.proofs.TakenOut.{hive_used}
use Rattle.key_index.specs.Lists.{lists_at, payload_in, ListsSiblings}
use Rattle.key_index.proofs.Below.{in_payload}
use Rattle.key_index.specs.Relists.{AreApart}
use Rattle.hive_edit.specs.declared.deleting.KeyPair.{KeyPair}
use Rattle.hive_edit.specs.declared.making.Above.{Above}
use Rattle.hive_look.specs.Places.{IsKeyAt}
use Rattle.hive_edit.specs.Making.{AboveIs}
use Rattle.hive_edit.specs.Dropped.{CanRemove}
use Rattle.hive_edit.specs.Deleting.{pair, pair_from, pair_place, levels_left}
use Rattle.hive_look.proofs.ResultLemmas.{done, some, some_same, ok_same}
use Rattle.hive_edit.proofs.GoneLemmas.{is_held, and_some}
use Rattle.hive_edit.proofs.CountLemmas.{security_text_is}
use Rattle.hive_look.proofs.PlaceLemmas.{IsPlaceOf, child_place, key_there}
use Rattle.hive_edit.proofs.KeyLemmas.{node_read}
use Rattle.hive_look.proofs.NodeLemmas.{node_here}
use Rattle.hive_look.proofs.ParentLemmas.{IsParent, node_stands, security_read, parent_held, lists_are, children_are, siblings_are, lists_apart, list_no_node}
use Rattle.hive_edit.proofs.SecuredLemmas.{role_security, secure_reads}
use Rattle.hive_read.proofs.FormFacts.{then-so}

-- ---- the search

abbrev pub a_pair : KeyPair → Option KeyPair
a_pair p = Some p

abbrev pub no_pair : Option KeyPair
no_pair = None

-- ---- the two keys by the path

pub record IsParted (path : List (List ℕ)) : Type 0 where
  pub parent : List (List ℕ)
  pub name : List ℕ
  pub whole : path ≡ parent ++ name ∷ []

parted : (name : List ℕ) (path : List (List ℕ)) → IsParted (name ∷ path)
parted name [] = record { parent = []; name = name; whole = refl }
parted name (next ∷ path) =
    let p = parted next path in
    record { parent = name ∷ p.parent; name = p.name; whole = ap (λ (l : List (List ℕ)). name ∷ l) p.whole }

parts_of : (cells : Cells) (parent : List (List ℕ)) (name : List ℕ) (above at : ℕ) (p : KeyPair)
    → pair_from cells (parent ++ name ∷ []) above at ≡ a_pair p
    → (key_place cells parent at ≡ some p.above)
    × (find (is_node_named cells name) (child_places cells p.above) ≡ some p.at)
parts_of cells [] name above at p e = go (find (is_node_named cells name) (child_places cells at)) refl e
  where
    go : (o : Option ℕ) → find (is_node_named cells name) (child_places cells at) ≡ o
        → option_and_then (pair_from cells [] at) o ≡ a_pair p
        → (Some at ≡ some p.above) × (find (is_node_named cells name) (child_places cells p.above) ≡ some p.at)
    go None f e = absurd cc
    go (Some y) f e =
        let same : pair at y ≡ p = some_same (pair at y) p e in (
          ap (λ (q : KeyPair). some q.above) same,
          subst (λ (q : KeyPair). find (is_node_named cells name) (child_places cells q.above) ≡ some q.at) same f,
        )
parts_of cells (m ∷ parent) name above at p e =
    go (find (is_node_named cells m) (child_places cells at)) e (λ y f. parts_of cells parent name at y p f)
  where
    go : (o : Option ℕ) → option_and_then (pair_from cells (parent ++ name ∷ []) at) o ≡ a_pair p
        → ((y : ℕ) → pair_from cells (parent ++ name ∷ []) at y ≡ a_pair p
        → (key_place cells parent y ≡ some p.above)
        × (find (is_node_named cells name) (child_places cells p.above) ≡ some p.at))
        → (option_and_then (key_place cells parent) o ≡ some p.above)
        × (find (is_node_named cells name) (child_places cells p.above) ≡ some p.at)
    go None e deep = absurd cc
    go (Some y) e deep = deep y e

abbrev no_place_there : Option ℕ
no_place_there = None

none_from : (cells : Cells) (path : List (List ℕ)) (above at : ℕ) → pair_from cells path above at ≡ no_pair
    → key_place cells path at ≡ no_place_there
none_from cells [] above at e = absurd cc
none_from cells (name ∷ path) above at e =
    go (find (is_node_named cells name) (child_places cells at)) e (λ y f. none_from cells path at y f)
  where
    go : (o : Option ℕ) → option_and_then (pair_from cells path at) o ≡ no_pair
        → ((y : ℕ) → pair_from cells path at y ≡ no_pair → key_place cells path y ≡ no_place_there)
        → option_and_then (key_place cells path) o ≡ no_place_there
    go None e deep = refl
    go (Some y) e deep = deep y e

-- where no pair is, the path is the root's own, or leads to no key
pub pair_absent : (cells : Cells) (path : List (List ℕ)) (root : ℕ) → pair_place cells path root ≡ no_pair
    → (path ≡ []) ⊎ (key_place cells path root ≡ no_place_there)
pair_absent cells [] root e = inl refl
pair_absent cells (name ∷ path) root e = inr (none_from cells (name ∷ path) root root e)

-- all that is known of a key and of the one above it
pub record PairHere (b : Cells) (root : ℕ) (t : Tree) (path : List (List ℕ)) (p : KeyPair) : Type 0 where
  pub parent : List (List ℕ)
  pub name : List ℕ
  pub whole : path ≡ parent ++ name ∷ []
  pub place : key_place b parent root ≡ some p.above
  pub child : find (is_node_named b name) (child_places b p.above) ≡ some p.at
  pub stored : List (List ℕ)
  pub folds : Folds parent stored
  pub reached : Reaches b root stored p.above
  pub there : Tree
  pub found : find_key parent t ≡ Some there
  pub node : KeyNode
  pub parent_is : IsParent b root t stored p.above there node
  pub kid : Tree
  pub kid_found : find (is_named name) (children there) ≡ Some kid
  pub kid_well : IsWellFormed b p.at kid
  pub listed : In (child_places b p.above) p.at
  pub named : folds_same name (node_name b p.at) ≡ true
  pub short : length path ≤ 511
  pub deep : length parent + suc (levels_left path) ≡ 512
  pub stored_deep : length stored + suc (levels_left path) ≡ 512

length_last : (parent : List (List ℕ)) (name : List ℕ) → length (parent ++ name ∷ []) ≡ suc (length parent)
length_last [] name = refl
length_last (m ∷ parent) name = let e = length_last parent name in omega (arith, e)

record KidThere (b : Cells) (name : List ℕ) (at : ℕ) (there : Tree) : Type 0 where
  kid : Tree
  found : find (is_named name) (children there) ≡ Some kid
  well : IsWellFormed b at kid

kid_there : (b : Cells) (name : List ℕ) (x y : ℕ) (there : Tree) → IsWellFormed b x there
    → find (is_node_named b name) (child_places b x) ≡ some y
    → KidThere b name y there
kid_there b name x y there well e =
    go (find (is_named name) (children there)) refl
    (subst (λ (o : Option ℕ). IsPlaceOf b o (find (is_named name) (children there))) e
    (child_place b name x there well))
  where
    go : (o : Option Tree) → find (is_named name) (children there) ≡ o → IsPlaceOf b (Some y) o
        → KidThere b name y there
    go None f p = absurd p
    go (Some k) f p = record { kid = k; found = f; well = p }

pub pair_here : (b : Cells) (root : ℕ) (t : Tree) (path : List (List ℕ)) (p : KeyPair) → IsWellFormed b root t
    → pair_place b path root ≡ a_pair p
    → PairHere b root t path p
pair_here b root t [] p well e = absurd cc
pair_here b root t (first ∷ path) p well e =
    let parts = parted first path in
    let two = parts_of b parts.parent parts.name root root p
    (ap (λ (l : List (List ℕ)). pair_from b l root root) (sym parts.whole) ∙ e) in
    let there = key_there b parts.parent root t p.above well two.0 in
    let placed = placed_at b parts.parent root p.above two.0 in
    let read = node_read b p.above there.there there.well.stands in
    let kid = kid_there b parts.name p.above p.at there.there there.well two.1 in
    let one = found_in (is_node_named b parts.name) (child_places b p.above) p.at two.1 in
    let on = reach_on b placed.stored (node_name b p.at ∷ []) root p.above p.at placed.reached
    (p.at, one.0, refl, refl) in
    let shallow = (sound_hive b root t well).shallow (placed.stored ++ node_name b p.at ∷ []) p.at on in
    let one_more = length_last placed.stored (node_name b p.at) in
    let one_name = length_last parts.parent parts.name in
    let alike = folds_length parts.parent placed.stored placed.folds in
    let whole = ap (λ (l : List (List ℕ)). length l) parts.whole in
    record {
      parent = parts.parent;
      name = parts.name;
      whole = parts.whole;
      place = two.0;
      child = two.1;
      stored = placed.stored;
      folds = placed.folds;
      reached = placed.reached;
      there = there.there;
      found = there.found;
      node = read.0;
      parent_is = record { well = well; reached = placed.reached; below = there.well; read = read.1 };
      kid = kid.kid;
      kid_found = kid.found;
      kid_well = kid.well;
      listed = one.0;
      named = named_so parts.name (λ (n : KeyNode). n.name) (reading key_node_at b p.at) one.1;
      short = omega (arith, shallow, one_more, one_name, alike, whole);
      deep = omega (arith, shallow, one_more, one_name, alike, whole);
      stored_deep = omega (arith, shallow, one_more, one_name, alike, whole);
    }

-- ---- which cells they use

-- what a key and those below it use, it uses once
pub below_once : (b : Cells) (root : ℕ) (t : Tree) (p : List (List ℕ)) (x left : ℕ) → IsWellFormed b root t
    → Reaches b root p x
    → length p + left ≡ 512 → Once (tree_uses left b x)
below_once b root t p x left well h deep =
    let s = subst (λ (n : ℕ). IsSwapped (tree_uses n b root) (tree_uses n b root) (tree_uses left b x)
    (tree_uses left b x)) (above_is p left ∙ deep)
    (around b b p p left root x t well.stands well.names (path_itself p) h (λ q z r out. same_itself b z)) in
    let whole = subst Once s.was (hive_once b root t well.stands well.names well.once) in
    (pairwise_parts Agree (tree_uses left b x) s.behind
    (pairwise_parts Agree s.before (tree_uses left b x ++ s.behind) whole).right).left

one_of : (f : ℕ → List (ℕ × Bool)) (xs : List ℕ) (x : ℕ) → In xs x → Once (flat_map f xs) → Once (f x)
one_of f xs x i once =
    let a = among xs x i in
    let whole : Once (flat_map f a.before ++ (f x ++ flat_map f a.behind)) =
    subst Once (ap (flat_map f) a.whole ∙ flat_append f a.before (x ∷ a.behind)) once in
    (pairwise_parts Agree (f x) (flat_map f a.behind)
    (pairwise_parts Agree (flat_map f a.before) (f x ++ flat_map f a.behind) whole).right).left

-- a key uses its lists
list_used : (cells : Cells) (at o : ℕ) → In (list_cells_at cells at) o → In (own_uses cells at) (o, false)
list_used cells at o i =
    inr (in_right (plain (class_cell_at cells at))
    (secure (security_cell_at cells at) ++ (plain (all_value_cells cells at) ++ plain (list_cells_at cells at)))
    (o, false)
    (in_right (secure (security_cell_at cells at)) (plain (all_value_cells cells at) ++ plain (list_cells_at cells at))
    (o, false)
    (in_right (plain (all_value_cells cells at)) (plain (list_cells_at cells at)) (o, false)
    (in_map_from (λ (z : ℕ). (z, false)) (list_cells_at cells at) o i))))

module _ (b : Cells) (root : ℕ) (t : Tree) (path : List (List ℕ)) (p : KeyPair) (h : PairHere b root t path p) where
  abbrev left : ℕ
  left = levels_left path

  parts : InParts Agree (own_uses b p.above) (flat_map (tree_uses left b) (child_places b p.above))
  parts =
      pairwise_parts Agree (own_uses b p.above) (flat_map (tree_uses left b) (child_places b p.above))
      (below_once b root t h.stored p.above (suc left) h.parent_is.well h.reached h.stored_deep)

  in_flat_here : (u : ℕ × Bool) → In (tree_uses left b p.at) u
      → In (flat_map (tree_uses left b) (child_places b p.above)) u
  in_flat_here u i = in_flat_from (tree_uses left b) (child_places b p.above) u p.at h.listed i

  pub in_hive : (u : ℕ × Bool) → In (tree_uses left b p.at) u → In (hive_uses b root) u
  in_hive u i =
      hive_used b root h.stored p.above (suc left) u h.reached h.stored_deep
      (in_right (own_uses b p.above) (flat_map (tree_uses left b) (child_places b p.above)) u (in_flat_here u i))

  pub uses_once : Once (tree_uses left b p.at)
  uses_once = one_of (tree_uses left b) (child_places b p.above) p.at h.listed parts.right

  -- no cell of the key above, but its security, is used by the child or below it
  apart_own : (o : ℕ) (s : Bool) → In (own_uses b p.above) (o, false) → In (tree_uses left b p.at) (o, s) → ⊥
  apart_own o s i j = let both = parts.across (o, false) (o, s) i (in_flat_here (o, s) j) refl in let d : false ≡ true =
      both.0 in cc

  pub no_node : (o : ℕ) (s : Bool) → In (tree_uses left b p.at) (o, s) → o ≡ p.above → ⊥
  no_node o s i e = apart_own o s (inl (λ j. (sym e j, false))) i

  pub no_list : (o : ℕ) (s : Bool) → In (tree_uses left b p.at) (o, s) → In (list_cells_at b p.above) o → ⊥
  no_list o s i j = apart_own o s (list_used b p.above o j) i

  pub secure_cells : (o : ℕ) → In (tree_uses left b p.at) (o, true) → IsSecurityCell b root o
  secure_cells o i =
      let w = use_owned left b p.at (o, true) i in
      record {
        path = h.stored ++ node_name b p.at ∷ w.path;
        key = w.owns.at;
        reached = reach_on b h.stored (node_name b p.at ∷ w.path) root p.above w.owns.at h.reached
            (p.at, h.listed, refl, w.owns.reached);
        uses = role_security b w.owns.at o w.role w.owns.has (secure_is w.role w.way);
      }

-- ---- the key can be taken out

-- the lists of the key above are those that its node says
pub in_lists : (version : HiveVersion) (bins : List Bin) (root : ℕ) (t : Tree) (path : List (List ℕ)) (p : KeyPair)
    (above : Above)
    → (h : PairHere (look_up version bins) root t path p) → AboveIs above h.node
    → (o : ℕ) → Contains (lists_at (look_up version bins) above.list above.count) o
    → In (list_cells_at (look_up version bins) p.above) o
in_lists version bins root t path p above h says o i =
    let b = look_up version bins in
    subst (λ (l : List ℕ). In l o)
    ((λ j. lists_at b (says.list j) (says.count j))
    ∙ lists_are b root t h.stored p.above h.there h.node h.parent_is)
    (in_from (lists_at b above.list above.count) o i)

pub can_remove : (version : HiveVersion) (bins : List Bin) (root : ℕ) (t : Tree) (path : List (List ℕ)) (p : KeyPair)
    (above : Above)
    → (h : PairHere (look_up version bins) root t path p) → AboveIs above h.node
    → CanRemove version p.above above (tree_uses (levels_left path) (look_up version bins) p.at) bins
can_remove version bins root t path p above h says = record {
  siblings = subst (λ (z : ℕ). ListsSiblings b z above.count) (sym says.list)
      (subst (λ (z : ℕ). ListsSiblings b h.node.child_list z) (sym says.count)
      (siblings_are b root t h.stored p.above h.there h.node h.parent_is));
  apart = subst AreApart (sym (λ i. lists_at b (says.list i) (says.count i)))
      (lists_apart b root t h.stored p.above h.there h.node h.parent_is);
  some =
      let count = says.count in
      let number = (siblings_are b root t h.stored p.above h.there h.node h.parent_is).number in
      let same = ap (λ (l : List ℕ). length l) (children_are b root t h.stored p.above h.there h.node h.parent_is) in
      let kids = some_length (child_places b p.above) p.at h.listed in
      omega (arith, count, number, same, kids);
  parent_long = and_some (held_at bins p.above) (λ z. 76 ≤ length z) q.0 (payload_held bins p.above q.0 q.1) long;
  parent_apart = λ i. list_no_node b root t h.stored p.above h.there h.node h.parent_is
      (in_lists version bins root t path p above h says p.above i);
  can = record {
    once = uses_once b root t path p h;
    held = λ o i. let r = used_held b root t h.parent_is.well (o, false) (in_hive b root t path p h (o, false) i) in
        is_held (held_at bins o) r.0 (payload_held bins o r.0 r.1);
    secure = λ o i.
        let z = secure_reads b root t h.parent_is.well o
        (secure_cells b root t path p h o i) in
        let r = then-so (b.payload o) security_at z.0 z.1 in
        let size = ltb-false (length r.0) 20 (security_text_is r.0 z.0 r.2).head in
        and_some (held_at bins o) (λ w. 20 ≤ length w) r.0 (payload_held bins o r.0 r.1) size;
  };
  no_list = λ o s i j. no_list b root t path p h o s i (in_lists version bins root t path p above h says o j);
  no_parent = λ o s i e. no_node b root t path p h o s i e;
}
  where
    b : Cells
    b = look_up version bins

    some_length : (xs : List ℕ) (x : ℕ) → In xs x → 0 < length xs
    some_length [] x i = absurd i
    some_length (y ∷ xs) x i = omega arith

    q : (r : List ℕ) × (b.payload p.above ≡ done r) × (key_node_at r ≡ done h.node)
    q = parent_held b root t h.stored p.above h.there h.node h.parent_is

    at_least : (n m : ℕ) → 76 + n ≤ m → 76 ≤ m
    at_least n m l = omega (arith, l)

    long : 76 ≤ length q.0
    long = at_least (u16_in q.0 72) (length q.0) (node_text q.0 h.node q.2).long

-- ---- what the search asks and finds

pub above_stands : (b : Cells) (root : ℕ) (t : Tree) (path : List (List ℕ)) (p : KeyPair) → PairHere b root t path p
    → IsKeyAt b p.above
above_stands b root t path p h = (h.there, h.parent_is.below)

pub kid_stands : (b : Cells) (root : ℕ) (t : Tree) (path : List (List ℕ)) (p : KeyPair) → PairHere b root t path p
    → IsKeyAt b p.at
kid_stands b root t path p h = (h.kid, h.kid_well)

-- ---- the descriptor of a key

-- a key that names no cell of security has none
pub no_descriptor : (cells : Cells) (at : ℕ) (p : List ℕ) (place : ℕ) → IsKeyAt cells at → p ≡ payload_in cells at
    → place ≡ u32_in p 44 → place ≡ nowhere
    → (t : Tree) → IsWellFormed cells at t → [] ≡ (head t).security
unfolding security_of
no_descriptor cells at p place k e pl none t well =
    let n = node_here cells at p k e in
    let says : n.node.security ≡ nowhere = ap (λ (m : KeyNode). m.security) n.is ∙ sym pl ∙ none in
    let d = (node_stands cells at t n.node well.stands n.read).security in
    ok_same [] (head t).security
    (sym (ap (λ (b : Bool). cond b (Ok []) (reading security_at cells n.node.security >>= λ s. Ok s.descriptor))
    (eq-eqb n.node.security nowhere says)) ∙ d)

-- a cell of security that a key names, and what it has
pub record DescriptorHere (cells : Cells) (at : ℕ) (q : List ℕ) : Type 0 where
  pub long : 20 ≤ length q
  pub whole : 20 + u32_in q 16 ≤ length q
  pub is : (t : Tree) → IsWellFormed cells at t → slice_range q 20 (20 + u32_in q 16) ≡ (head t).security

pub descriptor_here : (cells : Cells) (at : ℕ) (p q : List ℕ) (place : ℕ) → IsKeyAt cells at → p ≡ payload_in cells at
    → place ≡ u32_in p 44
    → (place ≡ nowhere → ⊥) → q ≡ payload_in cells place → DescriptorHere cells at q
unfolding security_of
descriptor_here cells at p q place k e pl some f =
    let n = node_here cells at p k e in
    let says : n.node.security ≡ place = ap (λ (m : KeyNode). m.security) n.is ∙ sym pl in
    let there = λ (none : n.node.security ≡ nowhere). some (sym says ∙ none) in
    let first = (node_stands cells at k.0 n.node k.1.stands n.read).security in
    let s = security_read cells n.node (head k.0).security first there in
    let read : security_at q ≡ done s.0 =
    ap security_at (f ∙ ap (payload_in cells) (sym says)) ∙ in_payload security_at cells n.node.security s.0 s.1 in
    let text = security_text_is q s.0 read in
    record {
      long = ltb-false (length q) 20 text.head;
      whole = ltb-false (length q) (20 + u32_in q 16) text.whole;
      is = λ t well.
          let d = (node_stands cells at t n.node well.stands n.read).security in
          let off : (n.node.security == nowhere) ≡ false = ne_eqb n.node.security nowhere there in
          ap (λ (z : SecurityCell). z.descriptor) text.fields
          ∙ ok_same s.0.descriptor (head t).security
          (sym (ap (λ (r : Result SecurityCell HiveFaultKind). r >>= λ z. Ok z.descriptor) s.1)
          ∙ sym (ap (λ (b : Bool). cond b (Ok []) (reading security_at cells n.node.security >>= λ z. Ok z.descriptor))
          off) ∙ d);
    }
