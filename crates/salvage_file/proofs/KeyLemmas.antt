-- The tree that is salvaged can be held by a hive, where payloads are bytes.
use Rattle.std.proofs.Common.{◌≡◌, ℕ, zero, suc, ◌+◌, ◌*◌, ◌<◌, ◌≤◌, Bool, true, false, cond, List, [], ◌∷◌, ◌++◌, length, length-append, Option, Some, None, Result, Ok, Err, refl, sym, subst, arith, map, append_assoc, append-nil}
use Rattle.std.specs.Prelude.{◌==◌, ◌&&◌, not}
use Rattle.std.specs.List.{All, list_any}
use Rattle.std.proofs.lemmas.List.Elements.{All-append, All-cons, All-nil}
use Rattle.nt_bytes.specs.Folding.{folds_same}
use Rattle.nt_bytes.specs.declared.fault.HiveFault.{HiveFault}
use Rattle.nt_bytes.specs.declared.fault.HiveFaultKind.{HiveFaultKind}
use Rattle.hive_model.specs.Base.{fault_at}
use Rattle.hive_model.specs.KeyNode.{KeyNode}
use Rattle.hive_model.specs.Security.{SecurityCell, security_at}
use Rattle.hive_model.specs.Tree.{Item, Tree, trees, head}
use Rattle.hive_model.specs.Valid.{IsItem, IsKey, HoldsKeys, AllHoldKeys, IsValid, levels, most_levels}
use Rattle.hive_model.specs.Walk.{nowhere, is_list_of_lists}
use Rattle.hive_read.proofs.Apart.{Apart, apart-pairs}
use Rattle.hive_read.proofs.FormFacts.{NodeFacts, own-flags}
use Rattle.hive_read.proofs.ValidTrees.{AreBytes}
use Rattle.reg_tree.proofs.Trees.{listed_trees}
use Rattle.salvage_bins.specs.Ground.{Ground}
use Rattle.salvage_walk.specs.declared.claims.Claim.{Claim}
use Rattle.salvage_walk.specs.declared.lines.WalkLine.TheVariants as lines
use Rattle.salvage_walk.specs.Parts.{part, node_form, node_long, security_long}
use Rattle.salvage_walk.specs.Fronts.{Front, front_part, values_front, list_front, leaf_front}
use Rattle.salvage_walk.specs.Values.{bytes_part, value_part}
use Rattle.salvage_walk.specs.Walked.{Walked, say, using}
use Rattle.salvage_walk.specs.Steps.{class_done, class_step, security_done, security_step, item_names, value_done, value_next, values_next, values_done, values_step, Entries, list_done, leaf_next, leaves_next, no_entries, entries_below, lists_done, lists_step, counted, entries_step}
use Rattle.salvage_walk.specs.Keys.{Judge, key_names, with_child, keys_next, head_of, key_below, key_done, judged_key, least_root, root_below, other_done, other_at, other_root, root_done, root_part, salvaged}
use Rattle.salvage_file.proofs.PartLemmas.{value-so, class-short, security-small, key-so, child-named, front-so, values-few, list-few, leaf-few, done}

-- one more name that is none of those before it
apart-push : {X : Type 0} (name : X → List ℕ) (names : List (List ℕ)) (xs : List X) (x : X) → Apart name names xs
    → list_any (folds_same (name x)) (names ++ map name xs) ≡ false → Apart name names (xs ++ x ∷ [])
apart-push name names [] x a e = (subst (λ (ns : List (List ℕ)). list_any (folds_same (name x)) ns ≡ false) (append-nil names) e, tt)
apart-push name names (y ∷ ys) x a e = (
  a.0,
  apart-push name (names ++ name y ∷ []) ys x a.1
      (subst (λ (ns : List (List ℕ)). list_any (folds_same (name x)) ns ≡ false) (sym (append_assoc names (name y ∷ []) (map name ys))) e),
)

-- ---- class and security

class-fits : (hive : Ground) (path : List (List ℕ)) (node : KeyNode) (w : Walked) → AreBytes hive.cells → node.class_length < 65536
    → length (class_step hive path node w).0 < 65536
unfolding class_step
class-fits hive path node w h small = go (node.class_length == 0)
  where
    by : (r : Result (List ℕ × List Claim) HiveFault) → bytes_part node.class_length hive w.claims node.class ≡ r
        → length (class_done path w r).0 < 65536
    by (Ok r) e = omega (arith, small, class-short node.class_length hive w.claims node.class r h e)
    by (Err fault) e = omega arith

    go : (b : Bool) → length (cond {A = List ℕ × Walked} b ([], w) (class_done path w (bytes_part node.class_length hive w.claims node.class))).0 < 65536
    go true = omega arith
    go false = by (bytes_part node.class_length hive w.claims node.class) refl

security-fits : (hive : Ground) (above : List ℕ) (path : List (List ℕ)) (node : KeyNode) (w : Walked) → AreBytes hive.cells
    → length above < 4294967296 → length (security_step hive above path node w).0 < 4294967296
unfolding security_step
security-fits hive above path node w h small = go (node.security == nowhere)
  where
    by : (r : Result (SecurityCell × List Claim) HiveFaultKind) → part security_at security_long true hive w.claims node.security ≡ r
        → length (security_done above path node.security w r).0 < 4294967296
    by (Ok r) e = security-small hive w.claims node.security r h e
    by (Err kind) e = small

    go : (b : Bool) → length (cond {A = List ℕ × Walked} b ([], w) (security_done above path node.security w
        (part security_at security_long true hive w.claims node.security))).0 < 4294967296
    go true = omega arith
    go false = by (part security_at security_long true hive w.claims node.security) refl

-- ---- values

-- values that a key can have, at most that many
pub record GoodItems (n : ℕ) (items : List Item) : Type 0 where
  pub few : length items ≤ n
  pub fit : All IsItem items
  pub apart : Apart (λ (v : Item). v.name) [] items

good-nil : (n : ℕ) → GoodItems n []
good-nil n = record { few = omega arith; fit = All-nil IsItem; apart = tt }

good-more : (n : ℕ) (items : List Item) → GoodItems n items → GoodItems (n + 1) items
good-more n items g = record { few = omega (arith, g.few); fit = g.fit; apart = g.apart }

value-good : (n : ℕ) (hive : Ground) (path : List (List ℕ)) (i at : ℕ) (values : List Item) (w : Walked) → AreBytes hive.cells
    → GoodItems n values → GoodItems (n + 1) (value_next hive path i at values w).0
unfolding value_next
value-good n hive path i at values w h g = by (value_part (item_names values) hive w.claims at) refl
  where
    by : (r : Result (Item × List Claim) HiveFault) → value_part (item_names values) hive w.claims at ≡ r
        → GoodItems (n + 1) (value_done hive path i at values w r).0
    by (Ok r) e =
        let v = value-so (item_names values) hive w.claims at r h e in
        record {
          few = omega (arith, g.few, length-append values (r.0 ∷ []));
          fit = All-append IsItem values (r.0 ∷ []) g.fit (All-cons IsItem r.0 [] v.0 (All-nil IsItem));
          apart = apart-push (λ (v : Item). v.name) [] values r.0 g.apart v.1;
        }
    by (Err fault) e = good-more n values g

values-good : (n : ℕ) (hive : Ground) (path : List (List ℕ)) (i : ℕ) (offsets : List ℕ) (values : List Item) (w : Walked)
    → AreBytes hive.cells → GoodItems n values → GoodItems (n + length offsets) (values_next hive path i offsets values w).0
unfolding values_next
values-good n hive path i [] values w h g = record { few = omega (arith, g.few); fit = g.fit; apart = g.apart }
values-good n hive path i (at ∷ rest) values w h g =
    let next = value_next hive path i at values w in
    let one = value-good n hive path i at values w h g in
    let all = values-good (n + 1) hive path (i + 1) rest next.0 next.1 h one in
    record { few = omega (arith, all.few); fit = all.fit; apart = all.apart }

items-good : (hive : Ground) (path : List (List ℕ)) (node : KeyNode) (w : Walked) → AreBytes hive.cells
    → GoodItems node.value_count (values_step hive path node w).0
unfolding values_step
items-good hive path node w h = go (node.value_count == 0)
  where
    by : (r : Result (Front × List Claim) HiveFaultKind) → front_part (values_front node.value_count) hive w.claims node.value_list ≡ r
        → GoodItems node.value_count (values_done hive path node.value_list w r).0
    by (Ok r) e =
        let p = front-so (values_front node.value_count) hive w.claims node.value_list r h e in
        let few = values-few node.value_count p.0 r.0 p.2 in
        let all = values-good 0 hive path 1 r.0.offsets [] _ h (good-nil 0) in
        record { few = omega (arith, all.few, few); fit = all.fit; apart = all.apart }
    by (Err kind) e = good-nil node.value_count

    go : (b : Bool) → GoodItems node.value_count (cond {A = List Item × Walked} b ([], w) (values_done hive path node.value_list w
        (front_part (values_front node.value_count) hive w.claims node.value_list))).0
    go true = good-nil node.value_count
    go false = by (front_part (values_front node.value_count) hive w.claims node.value_list) refl

-- ---- lists of children

leaf-adds : (hive : Ground) (path : List (List ℕ)) (at : ℕ) (e : Entries) (w : Walked) → AreBytes hive.cells
    → length (leaf_next hive path at e w).0.offsets ≤ length e.offsets + 65535
unfolding leaf_next
leaf-adds hive path at e w h = by (front_part leaf_front hive w.claims at) refl
  where
    by : (r : Result (Front × List Claim) HiveFaultKind) → front_part leaf_front hive w.claims at ≡ r
        → length (list_done path at e w r).0.offsets ≤ length e.offsets + 65535
    by (Ok r) s =
        let p = front-so leaf_front hive w.claims at r h s in
        let few = leaf-few p.0 r.0 p.1 p.2 in
        omega (arith, few, length-append e.offsets r.0.offsets)
    by (Err kind) s = omega arith

leaves-add : (hive : Ground) (path : List (List ℕ)) (lists : List ℕ) (e : Entries) (w : Walked) → AreBytes hive.cells
    → length (leaves_next hive path lists e w).0.offsets ≤ length e.offsets + 65535 * length lists
unfolding leaves_next
leaves-add hive path [] e w h = omega arith
leaves-add hive path (at ∷ rest) e w h =
    let next = leaf_next hive path at e w in
    omega (arith, leaf-adds hive path at e w h, leaves-add hive path rest next.0 next.1 h)

entries-few : (hive : Ground) (path : List (List ℕ)) (list : Front) (w : Walked) → AreBytes hive.cells → length list.offsets ≤ 65535
    → length (entries_below hive path list w).0.offsets < 4294967296
entries-few hive path list w h few = go (is_list_of_lists list.kind)
  where
    go : (b : Bool) → length (cond {A = Entries × Walked} b (leaves_next hive path list.offsets (no_entries (not list.short)) w)
        (record { offsets = list.offsets; sound = not list.short }, w)).0.offsets < 4294967296
    go true = omega (arith, few, leaves-add hive path list.offsets (no_entries (not list.short)) w h)
    go false = omega (arith, few)

lists-few : (hive : Ground) (path : List (List ℕ)) (at : ℕ) (w : Walked) → AreBytes hive.cells
    → length (lists_step hive path at w).0.offsets < 4294967296
unfolding lists_step
lists-few hive path at w h = by (front_part list_front hive w.claims at) refl
  where
    by : (r : Result (Front × List Claim) HiveFaultKind) → front_part list_front hive w.claims at ≡ r
        → length (lists_done hive path at w r).0.offsets < 4294967296
    by (Ok r) e =
        let p = front-so list_front hive w.claims at r h e in
        entries-few hive path r.0 _ h (list-few p.0 r.0 p.1 p.2)
    by (Err kind) e = omega arith

children-few : (hive : Ground) (path : List (List ℕ)) (node : KeyNode) (at : ℕ) (w : Walked) → AreBytes hive.cells
    → length (entries_step hive path node at w).0 < 4294967296
unfolding entries_step
children-few hive path node at w h = go (node.child_count == 0)
  where
    by : (e : Entries × Walked) → length e.0.offsets < 4294967296 → length (counted path node at e).0 < 4294967296
    by e few =
        let test : (b : Bool) → length (cond {A = List ℕ × Walked} b (e.0.offsets, say e.1 (lines.Nothing at path)) (e.0.offsets, e.1)).0 < 4294967296 =
        elim [ true ↦ few | false ↦ few ] in
        test (e.0.sound && not (length e.0.offsets == node.child_count))

    go : (b : Bool) → length (cond {A = List ℕ × Walked} b ([], w) (counted path node at (lists_step hive path node.child_list w))).0 < 4294967296
    go true = omega arith
    go false = by (lists_step hive path node.child_list w) (lists-few hive path node.child_list w h)

-- ---- keys

-- a child that a key can have, with at most that many levels, beside children of these names
pub record GoodKey (left : ℕ) (names : List (List ℕ)) (t : Tree) : Type 0 where
  pub holds : HoldsKeys t
  pub levels : levels t ≤ left
  pub named : 0 < length (head t).name
  pub apart : list_any (folds_same (head t).name) names ≡ false

-- children that a key can have, at most that many
pub record GoodKeys (n left : ℕ) (ts : List Tree) : Type 0 where
  pub few : length ts ≤ n
  pub holds : AllHoldKeys (trees ts)
  pub levels : most_levels (trees ts) ≤ left
  pub named : All (λ t. 0 < length (head t).name) ts
  pub apart : Apart (λ t. (head t).name) [] ts

hold-push : (ts : List Tree) (t : Tree) → AllHoldKeys (trees ts) → HoldsKeys t → AllHoldKeys (trees (ts ++ t ∷ []))
hold-push [] t a h = (h, tt)
hold-push (u ∷ us) t a h = (a.0, hold-push us t a.1 h)

levels-push : (left : ℕ) (ts : List Tree) (t : Tree) → most_levels (trees ts) ≤ left → levels t ≤ left
    → most_levels (trees (ts ++ t ∷ [])) ≤ left
levels-push left [] t a h = omega (arith, h)
levels-push left (u ∷ us) t a h = omega (arith, a, levels-push left us t (omega (arith, a)) h)

-- each child that is judged is a good one
abbrev pub JudgesWell : ℕ → Judge → Type 0
JudgesWell left judge =
    (above : List ℕ) (path names : List (List ℕ)) (i at : ℕ) (w : Walked) (t : Tree) → length above < 4294967296
    → (judge above path names i at w).0 ≡ Some t → GoodKey left names t

child-good : (n left : ℕ) (judge : Judge) (above : List ℕ) (path : List (List ℕ)) (i at : ℕ) (ts : List Tree) (w : Walked)
    → JudgesWell left judge → length above < 4294967296 → GoodKeys n left ts
    → GoodKeys (n + 1) left (with_child ts (judge above path (key_names ts) i at w)).0
child-good n left judge above path i at ts w well small g =
    by (judge above path (key_names ts) i at w) (λ t. well above path (key_names ts) i at w t small)
  where
    by : (r : Option Tree × Walked) → ((t : Tree) → r.0 ≡ Some t → GoodKey left (key_names ts) t) → GoodKeys (n + 1) left (with_child ts r).0
    by (Some t, v) k =
        let one = k t refl in
        record {
          few = omega (arith, g.few, length-append ts (t ∷ []));
          holds = hold-push ts t g.holds one.holds;
          levels = levels-push left ts t g.levels one.levels;
          named = All-append (λ t. 0 < length (head t).name) ts (t ∷ []) g.named
              (All-cons (λ t. 0 < length (head t).name) t [] one.named (All-nil (λ t. 0 < length (head t).name)));
          apart = apart-push (λ t. (head t).name) [] ts t g.apart one.apart;
        }
    by (None, v) k =
        record { few = omega (arith, g.few); holds = g.holds; levels = g.levels; named = g.named; apart = g.apart }

keys-good : (n left : ℕ) (judge : Judge) (above : List ℕ) (path : List (List ℕ)) (i : ℕ) (offsets : List ℕ) (ts : List Tree) (w : Walked)
    → JudgesWell left judge → length above < 4294967296 → GoodKeys n left ts
    → GoodKeys (n + length offsets) left (keys_next judge above path i offsets ts w).0
unfolding keys_next
keys-good n left judge above path i [] ts w well small g =
    record { few = omega (arith, g.few); holds = g.holds; levels = g.levels; named = g.named; apart = g.apart }
keys-good n left judge above path i (at ∷ rest) ts w well small g =
    let next = with_child ts (judge above path (key_names ts) i at w) in
    let one = child-good n left judge above path i at ts w well small g in
    let all = keys-good (n + 1) left judge above path (i + 1) rest next.0 next.1 well small one in
    record { few = omega (arith, all.few); holds = all.holds; levels = all.levels; named = all.named; apart = all.apart }

below-good : (left : ℕ) (judge : Judge) (hive : Ground) (above : List ℕ) (path : List (List ℕ)) (node : KeyNode) (at : ℕ) (w : Walked)
    → AreBytes hive.cells → NodeFacts node → length above < 4294967296 → JudgesWell left judge
    → HoldsKeys (key_below judge hive above path node at w).0 × (levels (key_below judge hive above path node at w).0 ≤ left + 1)
unfolding key_below
below-good left judge hive above path node at w h f small well =
    let class = class_step hive path node w in
    let security = security_step hive above path node class.1 in
    let values = values_step hive path node security.1 in
    let entries = entries_step hive path node at values.1 in
    let own = security-fits hive above path node class.1 h small in
    let items = items-good hive path node security.1 h in
    let count = children-few hive path node at values.1 h in
    let ks = keys-good 0 left judge security.0 path 1 entries.0 [] entries.1 well own
    (record { few = omega arith; holds = tt; levels = omega arith; named = All-nil (λ t. 0 < length (head t).name); apart = tt }) in
    let children = keys_next judge security.0 path 1 entries.0 [] entries.1 in
    let is : IsKey (head_of node class.0 security.0 values.0) children.0 = record {
      name = f.name;
      no_backslash = f.no_backslash;
      flags = own-flags node.flags;
      class = class-fits hive path node w h f.class;
      security = own;
      item_count = omega (arith, items.few, f.values);
      items = items.fit;
      items_differ = apart-pairs (λ (v : Item). v.name) [] values.0 items.apart;
      key_count = omega (arith, ks.few, count);
      keys_named = ks.named;
      keys_differ = apart-pairs (λ t. (head t).name) [] children.0 ks.apart;
    } in
    ((subst (IsKey (head_of node class.0 security.0 values.0)) (sym (listed_trees children.0)) is, ks.holds), omega (arith, ks.levels))

abbrev some : Tree → Option Tree
some t = Some t

some_same : (t u : Tree) → some t ≡ some u → t ≡ u
some_same t u e = cc

head-name : (judge : Judge) (hive : Ground) (above : List ℕ) (path : List (List ℕ)) (node : KeyNode) (at : ℕ) (w : Walked)
    → (head (key_below judge hive above path node at w).0).name ≡ node.name
unfolding key_below
head-name judge hive above path node at w = refl

pub judged-good : (left : ℕ) (hive : Ground) → AreBytes hive.cells → JudgesWell left (judged_key left hive)
unfolding judged_key
judged-good zero hive h above path names i at w t small e = absurd cc
judged-good (suc left) hive h above path names i at w t small e =
    by (judged-good left hive h) (part (node_form false names) node_long false hive w.claims at) refl e
  where
    by : JudgesWell left (judged_key left hive) → (r : Result (KeyNode × List Claim) HiveFaultKind)
        → part (node_form false names) node_long false hive w.claims at ≡ r
        → (key_done (judged_key left hive) hive above path i at w r).0 ≡ Some t → GoodKey (suc left) names t
    by well (Ok r) s e =
        let node = key-so false names hive w.claims at r h s in
        let named = child-named names hive w.claims at r h s in
        let below = key_below (judged_key left hive) hive above (path ++ r.0.name ∷ []) r.0 at (using w r.1) in
        let good = below-good left (judged_key left hive) hive above (path ++ r.0.name ∷ []) r.0 at (using w r.1) h node.facts small well in
        let is : (head below.0).name ≡ r.0.name = head-name (judged_key left hive) hive above (path ++ r.0.name ∷ []) r.0 at (using w r.1) in
        let made : GoodKey (suc left) names below.0 = record {
          holds = good.0;
          levels = omega (arith, good.1);
          named = subst (λ (n : List ℕ). 0 < length n) (sym is) named;
          apart = subst (λ (n : List ℕ). list_any (folds_same n) names ≡ false) (sym is) node.apart;
        } in
        subst (GoodKey (suc left) names) (some_same below.0 t e) made
    by well (Err kind) s e = absurd cc

-- ---- the root

found-valid : (hive : Ground) (at : ℕ) (w : Walked) (r : KeyNode × List Claim) (t : Tree) → AreBytes hive.cells
    → root_part hive w.claims at ≡ done r → (v : Walked) → (root_below hive at v r).0 ≡ Some t → IsValid t
found-valid hive at w r t h s v e =
    let node = key-so true [] hive w.claims at r h s in
    let good = below-good 511 (judged_key 511 hive) hive [] [] r.0 at (using v r.1) h node.facts (omega arith) (judged-good 511 hive h) in
    let below = key_below (judged_key 511 hive) hive [] [] r.0 at (using v r.1) in
    let made : IsValid below.0 = record { keys = good.0; levels = omega (arith, good.1) } in
    subst IsValid (some_same below.0 t e) made

other-valid : (hive : Ground) (at : ℕ) (w : Walked) (t : Tree) → AreBytes hive.cells → (other_at hive at w).0 ≡ Some t → IsValid t
other-valid hive at w t h e = by (root_part hive w.claims at) refl e
  where
    by : (r : Result (KeyNode × List Claim) HiveFaultKind) → root_part hive w.claims at ≡ r → (other_done hive at w r).0 ≡ Some t → IsValid t
    by (Ok r) s e = found-valid hive at w r t h s (say w (lines.RootAt at)) e
    by (Err kind) s e = absurd cc

-- the tree that is salvaged is one that a hive can hold
pub salvaged-valid : (hive : Ground) (root : ℕ) (t : Tree) → AreBytes hive.cells → (salvaged hive root).0 ≡ Some t → IsValid t
unfolding salvaged
salvaged-valid hive root t h e = by (root_part hive [] root) refl e
  where
    begun : Walked
    begun = record { claims = []; lines = [] }

    other : (o : Option ℕ) (v : Walked) → (other_root hive v o).0 ≡ Some t → IsValid t
    other (Some at) v e = other-valid hive at v t h e
    other None v e = absurd cc

    by : (r : Result (KeyNode × List Claim) HiveFaultKind) → root_part hive [] root ≡ r → (root_done hive root begun r).0 ≡ Some t → IsValid t
    by (Ok r) s e = found-valid hive root begun r t h s begun e
    by (Err kind) s e = other (least_root hive hive.slots 0) (say begun (lines.Root (fault_at kind root))) e
