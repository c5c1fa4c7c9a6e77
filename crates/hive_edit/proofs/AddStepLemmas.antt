-- The step that adds a child: what it is judged by, and that it is made.
use Rattle.std.proofs.Common.{◌≡◌, ◌≤◌, ◌<◌, ◌^◌, ℕ, ◌+◌, Bool, true, false, List, [], ◌∷◌, ◌++◌, length, Option, Some, None, Result, Ok, Err, refl, sym, ap, subst, ◌∙◌, ⊎_elim, arith}
use Rattle.std.specs.Prelude.{nat_lt, find, is_some, MatchBool, IfOk}
use Rattle.std.specs.Result.{IsOk}
use Rattle.std.specs.Option.{IfSome}
use Rattle.std.proofs.lemmas.Bool.{le-ltb, ltb-false}
use Rattle.std.proofs.lemmas.List.Sums.{sum_by-append}
use Rattle.nt_bytes.specs.declared.version.HiveVersion.{HiveVersion}
use Rattle.hive_model.specs.Bins.{Bin, Cells, bins_size, look_up}
use Rattle.hive_model.specs.KeyNode.{KeyNode, key_node_at}
use Rattle.hive_model.specs.Walk.{reading}
use Rattle.hive_model.specs.Tree.{Tree, key, head, children, listed, is_named}
use Rattle.hive_model.specs.Valid.{HoldsKeys, levels}
use Rattle.hive_model.specs.Size.{size}
use Rattle.hive_model.specs.Packed.{rounded}
use Rattle.hive_model.specs.Edit.{add_child, Refusal, bad_name, name_too_long, exists, too_deep, unless, has_child, is_bad_name, placed, renamed, with_child, after_step}
use Rattle.hive_model.specs.Footprint.{child_places, security_cell_at, is_node_named, list_sizes, sizes, room_of, needed_sizes, added_sizes_in}
use Rattle.hive_model.specs.Stands.{IsWellFormed, security_of}
use Rattle.hive_model.specs.InPlace.{IsKeptSecurity}
use Rattle.hive_cells.specs.Opened.{Opened}
use Rattle.hive_cells.specs.Holes.{new_bin_size}
use Rattle.hive_pack.proofs.Formed.{apart}
use Rattle.reg_tree.specs.Makes.{IsRefused, refusal_of}
use Rattle.reg_tree.specs.declared.stop.EditStop.{EditStop}
use Rattle.reg_tree.specs.declared.stop.EditStop.TheVariants as stops
use Rattle.edited_cells.specs.Owned.{In}
use Rattle.edited_cells.specs.Done.{IsDone}
use Rattle.edited_cells.specs.Sizes.{total}
use Rattle.edited_cells.proofs.KeySteps.{a_child_added, renamed_name, renamed_levels}
use Rattle.edited_cells.proofs.Patch.{folds_itself}
use Rattle.edited_cells.proofs.Replaced.{listed_trees}
use Rattle.edited_cells.proofs.RoomLemmas.{added_needs, room_for}
use Rattle.edited_cells.proofs.Totals.{tree_total, placed_length, found_placed}
use Rattle.hive_edit.specs.declared.making.Above.{Above}
use Rattle.hive_edit.specs.Making.{AboveIs}
use Rattle.hive_edit.specs.Grafted.{descriptor_of, sharing}
use Rattle.hive_edit.specs.Children.{IsFreeName, RefusesName, IsNewChild, MayGraft, IsGraftedIn, LacksGraftRoom, IsAddedIn, security_listed}
use Rattle.hive_edit.specs.Hive.{HiveCells, cells_in, hive_of, IsHive}
use Rattle.hive_edit.specs.Stepped.{IsStepped, LacksStepRoom}
use Rattle.hive_edit.specs.Listed.{HasNewLists}
use Rattle.hive_edit.specs.NewRun.{HasNewRun}
use Rattle.hive_edit.specs.Standing.{tree_of}
use Rattle.hive_edit.proofs.EditLemmas.{the_tree}
use Rattle.hive_edit.proofs.JudgeLemmas.{key_present, key_absent, counted_children}
use Rattle.hive_edit.proofs.KeyLemmas.{node_read, no_slash}
use Rattle.hive_look.proofs.ParentLemmas.{IsParent, node_stands, security_at_node, security_there}
use Rattle.hive_look.proofs.ResultLemmas.{done, ok_same}
use Rattle.hive_edit.proofs.SecuredLemmas.{keeps_security}
use Rattle.hive_edit.specs.Secured.{changes_of, comers}
use Rattle.reg_tree.proofs.Sound.{some_size}
use Rattle.key_index.proofs.Tests.{is_ok_of}

-- ---- the name

abbrev of_tests : Bool → Bool → Bool → List (Bool × Refusal) → Tree → Result Tree Refusal
of_tests a b c further u = unless ((a, bad_name) ∷ (b, name_too_long) ∷ (c, exists) ∷ further) u

pub refuses_there : (h : HiveCells) (name : List ℕ) → is_bad_name name ≡ false → length name ≤ 255
    → has_child name h.tree ≡ true → RefusesName h name stops.Exists
refuses_there h name e l t = λ further u i. of_tests (e i) (le-ltb 255 (length name) l i) (t i) further u

-- ---- the step is judged

abbrev judged : Bool → Bool → Bool → Bool → Tree → Result Tree Refusal
judged a b c d u = of_tests a b c ((d, too_deep) ∷ []) u

pub refuses_step : (h : HiveCells) (name : List ℕ) (k : Tree) (stop : EditStop) → RefusesName h name stop
    → IsRefused (after_step (add_child name k) h.tree) stop
refuses_step h name k stop r = go (refusal_of stop) r
  where
    go : (o : Option Refusal)
        → IfSome o (λ why. (further : List (Bool × Refusal)) (u : Tree)
        → of_tests (is_bad_name name) (nat_lt 255 (length name)) (has_child name h.tree) further u ≡ Err why)
        → IfSome o (λ why. after_step (add_child name k) h.tree ≡ Err why)
    go None r = tt
    go (Some why) r = r ((nat_lt 512 (levels k + 1), too_deep) ∷ []) (with_child name k h.tree)

pub step_added : (h : HiveCells) (name : List ℕ) (k : Tree) → IsFreeName h name → levels k ≤ 511
    → after_step (add_child name k) h.tree ≡ the_tree (with_child name k h.tree)
step_added h name k f low = λ i.
    judged (f.good i) (le-ltb 255 (length name) f.short i) (f.absent i) (le-ltb 512 (levels k + 1) (omega arith) i)
    (with_child name k h.tree)

-- ---- the key under its new name

renamed_holds : (name : List ℕ) (k : Tree) → is_bad_name name ≡ false → length name ≤ 255 → HoldsKeys k
    → HoldsKeys (renamed name k)
renamed_holds name (key hd ts) good short h = (
  record {
    name = short;
    no_backslash = no_slash name good;
    flags = h.0.flags;
    class = h.0.class;
    security = h.0.security;
    item_count = h.0.item_count;
    items = h.0.items;
    items_differ = h.0.items_differ;
    key_count = h.0.key_count;
    keys_named = h.0.keys_named;
    keys_differ = h.0.keys_differ;
  },
  h.1,
)

pub new_child : (h : HiveCells) (name : List ℕ) (k : Tree) → IsFreeName h name → HoldsKeys k → levels k ≤ 511
    → IsNewChild h (renamed name k)
new_child h name k f holds low = record {
  holds = renamed_holds name k f.good f.short holds;
  low = let l = renamed_levels name k in omega (arith, l, low);
  good = subst (λ (z : List ℕ). is_bad_name z ≡ false) (sym (renamed_name name k)) f.good;
  absent = subst (λ (z : List ℕ). has_child z h.tree ≡ false) (sym (renamed_name name k)) f.absent;
}

-- ---- the room

none_there : (name : List ℕ) (us : List Tree) → is_some (find (is_named name) us) ≡ false
    → find (is_named name) us ≡ None
none_there name us e = go (find (is_named name) us) e
  where
    go : (o : Option Tree) → is_some o ≡ false → o ≡ None
    go None e = refl
    go (Some z) e = absurd cc

named_here : (name : List ℕ) (k : Tree) → is_named name (renamed name k) ≡ true
named_here name (key hd ts) = folds_itself name

pub needs_both : (version : HiveVersion) (name : List ℕ) (k t : Tree) → has_child name t ≡ false
    → new_bin_size (size version (head t).security (renamed name k)) + room_of (list_sizes (length (children t) + 1))
    ≤ room_of (added_sizes_in version [] name (with_child name k t))
needs_both version name k (key hd ts) absent =
    let u = with_child name k (key hd ts) in
    let w = renamed name k in
    let us = listed_trees (placed w (listed ts)) in
    let found : find (is_named name) (children u) ≡ Some w =
    ap (find (is_named name)) us
    ∙ found_placed name w (listed ts) (named_here name k) (none_there name (listed ts) absent) in
    let n : length (children u) ≡ length (listed ts) + 1 =
    ap (λ (l : List Tree). length l) us ∙ placed_length w (listed ts) in
    let needs = added_needs version u u w [] name refl found in
    let t = tree_total version hd.security w in
    let some = some_size version hd.security w in
    let room = room_for (sizes version hd.security w) (omega (arith, t, some)) in
    let split = sum_by-append (λ (s : ℕ). rounded (s + 32)) (list_sizes (length (children u)))
    (sizes version hd.security w) in
    let same : room_of (list_sizes (length (children u))) ≡ room_of (list_sizes (length (listed ts) + 1)) =
    ap (λ (m : ℕ). room_of (list_sizes m)) n in
    let whole : room_of (added_sizes_in version [] name u)
    ≡ room_of (list_sizes (length (children u)) ++ sizes version hd.security w) = ap room_of needs in
    both (size version hd.security w) (total (sizes version hd.security w)) (room_of (sizes version hd.security w))
    (room_of (list_sizes (length (children u))))
    (room_of (list_sizes (length (listed ts) + 1)))
    (room_of (list_sizes (length (children u)) ++ sizes version hd.security w))
    (room_of (added_sizes_in version [] name u)) t room split same whole
  where
    both : (s w r l m j a : ℕ) → w ≡ s → rounded (w + 32) ≤ r → j ≡ l + r → l ≡ m → a ≡ j → rounded (s + 32) + m ≤ a
    both s w r l m j a b c d e f = omega (arith, b, c, d, e, f)

-- ---- the step is made

pub with_again : (name : List ℕ) (k t : Tree)
    → with_child (head (renamed name k)).name (renamed name k) t ≡ with_child name k t
with_again name (key hd ts) (key g us) = refl

-- as many keys share a descriptor under another name
pub sharing_renamed : (s name : List ℕ) (k : Tree) → sharing s (renamed name k) ≡ sharing s k
sharing_renamed [] name k = refl
sharing_renamed (b ∷ s) name (key hd ts) = refl

pub add_stepped : (old new : HiveCells) (name : List ℕ) (k : Tree) → IsWellFormed (cells_in old) old.root old.tree
    → IsFreeName old name → HoldsKeys k → levels k ≤ 511
    → IsAddedIn old (renamed name k) new → IsStepped old (add_child name k) new
add_stepped old new name k well f holds low a =
    let g = a.grafted in
    let t = old.tree in
    let u = with_child name k t in
    let tree : new.tree ≡ u = g.tree ∙ with_again name k t in
    let ok = step_added old name k f low in
    let room = g.room in
    let needs = needs_both old.version name k t f.absent in
    let made : IsDone (cells_in old) (cells_in new) old.root t u (add_child name k) =
    a_child_added (cells_in old) (cells_in new) old.root t u k name g.at g.front g.back (security_listed a.security)
    well ok (apart k holds) g.changes (λ o i. subst (λ (l : List ℕ). In l o) a.same i) g.stands
    (subst (λ (z : List ℕ). Rattle.edited_cells.specs.Relists.HasPlace (cells_in old) z g.front g.back)
    (renamed_name name k) g.place) in
    record {
      version = g.version;
      root = g.root;
      tree = ok ∙ sym (ap the_tree tree);
      done = subst (λ (w : Tree). IsDone (cells_in old) (cells_in new) old.root t w (add_child name k)) (sym tree) made;
      secure = keeps_security (cells_in old) (cells_in new) old.root t
          (changes_of (cells_in old) old.root t (add_child name k)) well
          (λ o s. subst (λ (l : List Bool). IsKeptSecurity (cells_in old) (cells_in new) l o)
          (λ i. comers (sharing_renamed (head t).security name k i) (a.same i) o) (g.secure o s));
      lists = λ at i. ⊎_elim (λ e. subst (HasNewLists old new) e g.lists) (λ (z : ⊥). absurd z) i;
      freed = λ o given. absurd given;
      runs = λ r i. ⊎_elim (λ e. subst (λ (z : List ℕ × Tree). HasNewRun old z.0 z.1 new) e g.run)
          (λ (z : ⊥). absurd z) i;
      long = g.long;
      room = subst (λ (w : Tree). bins_size new.bins ≤ bins_size old.bins
          + room_of (needed_sizes old.version t (add_child name k) w)) (sym tree)
          (within (bins_size new.bins) (bins_size old.bins)
          (new_bin_size (size old.version (head t).security (renamed name k))
          + room_of (list_sizes (length (children t) + 1)))
          (room_of (needed_sizes old.version t (add_child name k) u)) room needs);
    }
  where
    within : (n o x y : ℕ) → n ≤ o + x → x ≤ y → n ≤ o + y
    within n o x y a b = omega (arith, a, b)

pub add_lacks : (h : HiveCells) (name : List ℕ) (k : Tree) → IsFreeName h name → levels k ≤ 511
    → LacksGraftRoom h (head h.tree).security (renamed name k)
    → LacksStepRoom h (add_child name k)
add_lacks h name k f low over = λ w e.
    let same : with_child name k h.tree ≡ w = let d = sym (step_added h name k f low) ∙ e in
    same_tree (with_child name k h.tree) w d in
    let needs = needs_both h.version name k h.tree f.absent in
    subst (λ (z : Tree). 16777216 < bins_size h.bins + room_of (needed_sizes h.version h.tree (add_child name k) z))
    same
    (beyond (bins_size h.bins)
    (new_bin_size (size h.version (head h.tree).security (renamed name k))
    + room_of (list_sizes (length (children h.tree) + 1)))
    (room_of (needed_sizes h.version h.tree (add_child name k) (with_child name k h.tree))) over needs)
  where
    same_tree : (a b : Tree) → the_tree a ≡ the_tree b → a ≡ b
    same_tree a b e = cc

    beyond : (o x y : ℕ) → 16777216 < o + x → x ≤ y → 16777216 < o + y
    beyond o x y a b = omega (arith, a, b)

-- ---- is a child there?

pub child_there : (bins : Opened) (heap : List Bin) (root : ℕ) (version : HiveVersion) (bulk : ℕ) (h : HiveCells) (name : List ℕ)
    (r : Option ℕ) (v : Bool)
    → IsHive bins.bins root version bulk → hive_of bins root version ≡ h → heap ≡ bins.bins
    → r ≡ find (is_node_named (look_up version heap) name) (child_places (look_up version heap) root) → is_some r ≡ v
    → has_child name h.tree ≡ v
child_there bins heap root version bulk h name r v is view same e some =
    subst (λ (g : HiveCells). has_child name g.tree ≡ v) view
    (go r (sym (e ∙ ap (λ (z : List Bin). find (is_node_named (look_up version z) name)
    (child_places (look_up version z) root)) same)) some)
  where
    t : Tree
    t = tree_of (look_up version bins.bins) root

    go : (o : Option ℕ) → find (is_node_named (look_up version bins.bins) name) (child_places (look_up version bins.bins) root)
        ≡ o → is_some o ≡ v → has_child name t ≡ v
    go None f g = key_absent (look_up version bins.bins) root t t [] name root is.stands refl f ∙ g
    go (Some y) f g = key_present (look_up version bins.bins) root t t [] name root y is.stands refl f ∙ g

-- ---- what the root's node says

pub record RootSays (h : HiveCells) (above : Above) : Type 0 where
  pub node : KeyNode
  pub parent : IsParent (cells_in h) h.root h.tree [] h.root h.tree node
  pub says : AboveIs above node

pub root_says : (bins : Opened) (heap : List Bin) (root : ℕ) (version : HiveVersion) (bulk : ℕ) (h : HiveCells) (above : Above)
    → IsHive bins.bins root version bulk
    → hive_of bins root version ≡ h → heap ≡ bins.bins
    → ((n : KeyNode) → reading key_node_at (look_up version heap) root ≡ Ok n → AboveIs above n) → RootSays h above
root_says bins heap root version bulk h above is view same says =
    let t = tree_of (look_up version bins.bins) root in
    let read = node_read (look_up version bins.bins) root t is.stands.stands in
    subst (λ (g : HiveCells). RootSays g above) view (record {
      node = read.0;
      parent = record { well = is.stands; reached = refl; below = is.stands; read = read.1 };
      says = says read.0 (subst (λ (z : List Bin). reading key_node_at (look_up version z) root ≡ Ok read.0) (sym same)
          read.1);
    })

pub root_count : (h : HiveCells) (above : Above) → RootSays h above → above.count ≡ length (children h.tree)
root_count h above r = r.says.count ∙ counted_children (cells_in h) h.root h.tree [] h.root h.tree r.node r.parent

pub root_descriptor : (h : HiveCells) (above : Above) → RootSays h above
    → descriptor_of (cells_in h) above.security ≡ Ok (head h.tree).security
unfolding security_of
root_descriptor h above r =
    ap (descriptor_of (cells_in h)) r.says.security
    ∙ (node_stands (cells_in h) h.root h.tree r.node r.parent.well.stands r.parent.read).security

-- the cells that a lookup reads from are the hive's
pub same_cells : (bins : Opened) (heap : List Bin) (root : ℕ) (version : HiveVersion) (h : HiveCells)
    → hive_of bins root version ≡ h → heap ≡ bins.bins → look_up version heap ≡ cells_in h
same_cells bins heap root version h view same = ap (look_up version) same ∙ ap cells_in view

pub root_readable : (bins : Opened) (heap : List Bin) (root : ℕ) (version : HiveVersion) (h : HiveCells) (above : Above)
    → hive_of bins root version ≡ h → heap ≡ bins.bins → RootSays h above
    → IsOk (descriptor_of (look_up version heap) above.security)
root_readable bins heap root version h above view same r =
    is_ok_of (descriptor_of (look_up version heap) above.security) (head h.tree).security
    (ap (λ (z : Cells). descriptor_of z above.security) (same_cells bins heap root version h view same)
    ∙ root_descriptor h above r)

pub root_shared : (bins : Opened) (heap : List Bin) (root : ℕ) (version : HiveVersion) (h : HiveCells) (above : Above)
    (shared : List ℕ) → hive_of bins root version ≡ h → heap ≡ bins.bins → RootSays h above
    → descriptor_of (look_up version heap) above.security ≡ Ok shared → shared ≡ (head h.tree).security
root_shared bins heap root version h above shared view same r e =
    ok_same shared (head h.tree).security
    (sym e ∙ ap (λ (z : Cells). descriptor_of z above.security) (same_cells bins heap root version h view same)
    ∙ root_descriptor h above r)

pub may_graft : (h : HiveCells) (above : Above) (shared : List ℕ) → RootSays h above → shared ≡ (head h.tree).security
    → above.security < 2 ^ 32 → above.count ≤ 2097150
    → MayGraft h above shared
may_graft h above shared r same small few = record {
  says = λ n e. let z : r.node ≡ n = ok_same r.node n (sym r.parent.read ∙ e) in
      record {
        list = r.says.list ∙ ap (λ (m : KeyNode). m.child_list) z;
        count = r.says.count ∙ ap (λ (m : KeyNode). m.child_count) z;
        volatile = r.says.volatile ∙ ap (λ (m : KeyNode). m.volatile_count) z;
      };
  shares = record {
    small = small;
    descriptor = root_descriptor h above r ∙ sym (ap done same);
    used = λ some. record {
      path = [];
      key = h.root;
      reached = refl;
      uses = subst (In (security_cell_at (cells_in h) h.root)) (sym r.says.security)
          (security_there (cells_in h) h.root r.node r.parent.read (λ e. some (r.says.security ∙ e)));
    };
  };
  few = few;
}

-- a key that was put below the root, with the root's descriptor
pub added_if : {E : Type 0} (r : Result Bool E) (h new : HiveCells) (above : Above) (shared : List ℕ) (k : Tree)
    → RootSays h above → shared ≡ (head h.tree).security
    → IfOk r (λ done. MatchBool done (IsGraftedIn h above.security shared k new) (LacksGraftRoom h shared k))
    → IfOk r (λ done. MatchBool done (IsAddedIn h k new) (LacksGraftRoom h (head h.tree).security k))
added_if (Ok true) h new above shared k says same g = record {
  security = above.security;
  grafted = subst (λ (z : List ℕ). IsGraftedIn h above.security z k new) same g;
  same = ap security_listed says.says.security
      ∙ sym (security_at_node (cells_in h) h.root says.node says.parent.read);
}
added_if (Ok false) h new above shared k says same g = subst (λ (z : List ℕ). LacksGraftRoom h z k) same g
added_if (Err e) h new above shared k says same g = tt

pub low_by : (k : Tree) (v : Bool) → v ≡ nat_lt 511 (levels k) → v ≡ false → levels k ≤ 511
low_by k v e f = ltb-false 511 (levels k) (sym e ∙ f)
