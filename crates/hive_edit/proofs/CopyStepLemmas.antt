-- The step that copies a child: what it is judged by, and that it is made.
use Rattle.std.proofs.Common.{◌≡◌, ◌≤◌, ◌<◌, ◌^◌, ℕ, ◌+◌, Bool, not, List, [], ◌∷◌, length, Option, Some, None, Result, Ok, Err, refl, sym, ap, subst, ◌∙◌, ⊎_elim, arith}
use Rattle.std.specs.Prelude.{nat_lt, find, is_some, option_and_then}
use Rattle.std.specs.Option.{IfSome, option_map_or}
use Rattle.std.proofs.lemmas.Bool.{le-ltb}
use Rattle.nt_bytes.specs.declared.version.HiveVersion.{HiveVersion}
use Rattle.hive_model.specs.Bins.{Bin, bins_size, look_up}
use Rattle.hive_model.specs.KeyNode.{KeyNode, key_node_at}
use Rattle.hive_model.specs.Tree.{Tree, key, head, children, is_named, find_key}
use Rattle.hive_model.specs.Valid.{HoldsKeys, levels}
use Rattle.hive_model.specs.Size.{size}
use Rattle.hive_model.specs.Packed.{rounded}
use Rattle.hive_model.specs.Edit.{copy_child, Refusal, no_key, bad_name, name_too_long, exists, unless, has_child, is_bad_name, renamed, with_child, after_step}
use Rattle.hive_model.specs.Walk.{reading}
use Rattle.hive_model.specs.Footprint.{child_places, is_node_named, key_place, security_cell_at, list_sizes, room_of, needed_sizes}
use Rattle.hive_model.specs.Stands.{IsWellFormed, security_of}
use Rattle.hive_model.specs.InPlace.{IsKeptSecurity}
use Rattle.hive_cells.specs.Opened.{Opened}
use Rattle.hive_cells.specs.Holes.{new_bin_size}
use Rattle.hive_pack.proofs.Formed.{apart}
use Rattle.reg_tree.specs.Makes.{IsRefused, refusal_of}
use Rattle.reg_tree.specs.declared.stop.EditStop.{EditStop}
use Rattle.edited_cells.specs.Owned.{In, Folds, Extends}
use Rattle.edited_cells.specs.Done.{IsDone}
use Rattle.edited_cells.specs.Relists.{HasPlace}
use Rattle.edited_cells.proofs.KeySteps.{a_child_copied, renamed_name}
use Rattle.edited_cells.proofs.Out.{placed_at}
use Rattle.hive_edit.specs.Grafted.{descriptor_of, sharing}
use Rattle.hive_edit.specs.Children.{IsFreeName, RefusesName, LacksGraftRoom, security_listed}
use Rattle.hive_edit.specs.Copying.{SharesChild, IsCopiedIn}
use Rattle.hive_edit.specs.Hive.{HiveCells, cells_in, hive_of, IsHive}
use Rattle.hive_edit.specs.Standing.{tree_of}
use Rattle.hive_edit.specs.Stepped.{IsStepped, LacksStepRoom}
use Rattle.hive_edit.specs.Listed.{HasNewLists}
use Rattle.hive_edit.specs.NewRun.{HasNewRun}
use Rattle.hive_edit.proofs.EditLemmas.{the_tree}
use Rattle.hive_edit.proofs.JudgeLemmas.{shared_own}
use Rattle.hive_edit.proofs.KeyLemmas.{node_read}
use Rattle.hive_look.proofs.ParentLemmas.{node_stands, security_at_node, security_there}
use Rattle.hive_look.proofs.PlaceLemmas.{key_there}
use Rattle.hive_look.proofs.ResultLemmas.{done, some, some_same}
use Rattle.hive_edit.proofs.AddStepLemmas.{needs_both, with_again, sharing_renamed}
use Rattle.hive_edit.proofs.SecuredLemmas.{keeps_security}
use Rattle.hive_edit.specs.Secured.{changes_of, comers}

-- ---- the step is judged

abbrev of_copy : Bool → Bool → Bool → Bool → Tree → Result Tree Refusal
of_copy a b c d u = unless ((a, no_key) ∷ (b, bad_name) ∷ (c, name_too_long) ∷ (d, exists) ∷ []) u

-- the tree with the child that is found, under the other name
abbrev copied_tree : List ℕ → Option Tree → Tree → Tree
copied_tree to o t = option_map_or (λ k. with_child to k t) o t

pub refuses_copy : (h : HiveCells) (from to : List ℕ) (k : Tree) (stop : EditStop)
    → find (is_named from) (children h.tree) ≡ Some k → RefusesName h to stop
    → IsRefused (after_step (copy_child from to) h.tree) stop
refuses_copy h from to k stop found r = go (refusal_of stop) r
  where
    go : (o : Option Refusal)
        → IfSome o (λ why. (further : List (Bool × Refusal)) (u : Tree)
        → unless ((is_bad_name to, bad_name) ∷ (nat_lt 255 (length to), name_too_long)
        ∷ (has_child to h.tree, exists) ∷ further) u ≡ Err why)
        → IfSome o (λ why. after_step (copy_child from to) h.tree ≡ Err why)
    go None r = tt
    go (Some why) r =
        ap (λ (v : Option Tree). of_copy (not (is_some v)) (is_bad_name to) (nat_lt 255 (length to))
        (has_child to h.tree) (copied_tree to v h.tree)) found
        ∙ r [] (with_child to k h.tree)

pub step_copied : (h : HiveCells) (from to : List ℕ) (k : Tree) → find (is_named from) (children h.tree) ≡ Some k
    → IsFreeName h to
    → after_step (copy_child from to) h.tree ≡ the_tree (with_child to k h.tree)
step_copied h from to k found f = λ i.
    of_copy (not (is_some (found i))) (f.good i) (le-ltb 255 (length to) f.short i) (f.absent i)
    (copied_tree to (found i) h.tree)

pub key_found : (h : HiveCells) (from : List ℕ) (k : Tree) → find_key (from ∷ []) h.tree ≡ Some k
    → find (is_named from) (children h.tree) ≡ Some k
key_found h from k e = go (find (is_named from) (children h.tree)) e
  where
    go : (o : Option Tree) → option_and_then (find_key []) o ≡ Some k → o ≡ Some k
    go None e = absurd cc
    go (Some j) e = e

-- ---- the size below another key is no less than below one with the same descriptor

size_less : (version : HiveVersion) (shared : List ℕ) (k : Tree)
    → size version (head k).security k ≤ size version shared k
size_less version shared (key hd ts) = rw (shared_own hd.security) (omega arith)

-- ---- the security that is shared

extends_one : (from : List ℕ) (stored : List (List ℕ)) → Folds (from ∷ []) stored → Extends (from ∷ []) stored
extends_one from [] f = absurd f
extends_one from (m ∷ ms) f = (f.0, tt)

pub shares_child : (bins : Opened) (heap : List Bin) (root : ℕ) (version : HiveVersion) (bulk : ℕ) (h : HiveCells) (from : List ℕ)
    (at place : ℕ)
    → IsHive bins.bins root version bulk → hive_of bins root version ≡ h → heap ≡ bins.bins
    → some at ≡ find (is_node_named (look_up version heap) from) (child_places (look_up version heap) root)
    → ((n : KeyNode) → reading key_node_at (look_up version heap) at ≡ Ok n → place ≡ n.security) → place < 2 ^ 32
    → SharesChild h from place
unfolding security_of
shares_child bins heap root version bulk h from at place is view same found says small =
    subst (λ (g : HiveCells). SharesChild g from place) view (record {
      small = small;
      each = λ k e. record {
        small = small;
        descriptor = subst (λ (j : Tree). descriptor_of (look_up version bins.bins) place ≡ Ok (head j).security) (one k e)
            (ap (descriptor_of (look_up version bins.bins)) place_is
            ∙ (node_stands (look_up version bins.bins) at there.there node.0 there.well.stands node.1).security);
        used = λ used. record {
          path = placed.stored;
          key = at;
          reached = placed.reached;
          uses = subst (In (security_cell_at (look_up version bins.bins) at)) (sym place_is)
              (security_there (look_up version bins.bins) at node.0 node.1 (λ e. used (place_is ∙ e)));
        };
      };
      owned = λ o i. (
        placed.stored,
        extends_one from placed.stored placed.folds,
        record {
          at = at;
          reached = placed.reached;
          has = subst (λ (l : List ℕ). In l o) (sym (security_at_node (look_up version bins.bins) at node.0 node.1))
              (subst (λ (z : ℕ). In (security_listed z) o) place_is i);
        },
      );
      same = ap security_listed place_is ∙ sym (security_at_node (look_up version bins.bins) at node.0 node.1)
          ∙ sym (ap (λ (o : Option ℕ). option_map_or (security_cell_at (look_up version bins.bins)) o []) key_at);
    })
  where
    t : Tree
    t = tree_of (look_up version bins.bins) root

    here : find (is_node_named (look_up version bins.bins) from) (child_places (look_up version bins.bins) root) ≡ some at
    here = sym (found ∙ ap (λ (z : List Bin). find (is_node_named (look_up version z) from)
        (child_places (look_up version z) root)) same)

    key_at : key_place (look_up version bins.bins) (from ∷ []) root ≡ some at
    key_at = ap (λ (o : Option ℕ). option_and_then (key_place (look_up version bins.bins) []) o) here

    there : Rattle.hive_look.proofs.PlaceLemmas.KeyThere (look_up version bins.bins) (from ∷ []) t at
    there = key_there (look_up version bins.bins) (from ∷ []) root t at is.stands key_at

    placed : Rattle.edited_cells.proofs.Out.IsPlaced (look_up version bins.bins) root (from ∷ []) at
    placed = placed_at (look_up version bins.bins) (from ∷ []) root at key_at

    node : (n : KeyNode) × (reading key_node_at (look_up version bins.bins) at ≡ done n)
    node = node_read (look_up version bins.bins) at there.there there.well.stands

    place_is : place ≡ node.0.security
    place_is = says node.0 (subst (λ (z : List Bin). reading key_node_at (look_up version z) at ≡ done node.0)
        (sym same) node.1)

    one : (k : Tree) → find (is_named from) (children t) ≡ Some k → there.there ≡ k
    one k e = some_same there.there k (sym there.found ∙ ap (λ (o : Option Tree). option_and_then (find_key []) o) e)

-- ---- the step is made

security_renamed : (name : List ℕ) (k : Tree) → (head (renamed name k)).security ≡ (head k).security
security_renamed name (key hd ts) = refl

pub copy_stepped : (old new : HiveCells) (from to : List ℕ) (k : Tree) → IsWellFormed (cells_in old) old.root old.tree
    → find (is_named from) (children old.tree) ≡ Some k
    → IsFreeName old to → HoldsKeys k → levels k ≤ 511 → IsCopiedIn old from (renamed to k) new
    → IsStepped old (copy_child from to) new
copy_stepped old new from to k well found f holds low a =
    let g = a.grafted in
    let t = old.tree in
    let u = with_child to k t in
    let w = renamed to k in
    let tree : new.tree ≡ u = g.tree ∙ with_again to k t in
    let ok = step_copied old from to k found f in
    let room = g.room in
    let needs = needs_both old.version to k t f.absent in
    let less = size_less old.version (head t).security w in
    let count : sharing (head w).security w
    ≡ option_map_or (λ j. sharing (head j).security j) (find (is_named from) (children t)) 0 =
    (λ i. sharing (security_renamed to k i) w) ∙ sharing_renamed (head k).security to k
    ∙ sym (ap (λ (o : Option Tree). option_map_or (λ j. sharing (head j).security j) o 0) found) in
    let made : IsDone (cells_in old) (cells_in new) old.root t u (copy_child from to) =
    a_child_copied (cells_in old) (cells_in new) old.root t u k from to g.at g.front g.back (security_listed a.place)
    well ok found (apart k holds) low g.changes a.counts g.stands
    (subst (λ (z : List ℕ). HasPlace (cells_in old) z g.front g.back) (renamed_name to k) g.place) in
    record {
      version = g.version;
      root = g.root;
      tree = ok ∙ sym (ap the_tree tree);
      done = subst (λ (x : Tree). IsDone (cells_in old) (cells_in new) old.root t x (copy_child from to)) (sym tree)
          made;
      secure = keeps_security (cells_in old) (cells_in new) old.root t
          (changes_of (cells_in old) old.root t (copy_child from to)) well
          (λ o s. subst (λ (l : List Bool). IsKeptSecurity (cells_in old) (cells_in new) l o)
          (λ i. comers (count i) (a.same i) o) (g.secure o s));
      lists = λ at i. ⊎_elim (λ e. subst (HasNewLists old new) e g.lists) (λ (z : ⊥). absurd z) i;
      freed = λ o given. absurd given;
      runs = λ r i.
          let one : In (((head k).security, w) ∷ []) r =
          subst (λ (o : Option Tree). In (option_map_or (λ j. ((head j).security, renamed to j) ∷ []) o []) r) found i in
          ⊎_elim (λ e. subst (λ (z : List ℕ × Tree). HasNewRun old z.0 z.1 new) e
          (subst (λ (s : List ℕ). HasNewRun old s w new) (security_renamed to k) g.run)) (λ (z : ⊥). absurd z) one;
      long = g.long;
      room = subst (λ (x : Tree). bins_size new.bins ≤ bins_size old.bins
          + room_of (needed_sizes old.version t (copy_child from to) x)) (sym tree)
          (within (bins_size new.bins) (bins_size old.bins) (size old.version (head w).security w)
          (size old.version (head t).security w)
          (room_of (list_sizes (length (children t) + 1))) (room_of (needed_sizes old.version t (copy_child from to) u))
          room less needs);
    }
  where
    within : (n o s r m y : ℕ) → n ≤ o + (rounded (s + 32) + m) → s ≤ r → rounded (r + 32) + m ≤ y → n ≤ o + y
    within n o s r m y a b c = omega (arith, a, b, c)

pub copy_lacks : (h : HiveCells) (from to : List ℕ) (k : Tree) → find (is_named from) (children h.tree) ≡ Some k
    → IsFreeName h to
    → LacksGraftRoom h (head h.tree).security (renamed to k) → LacksStepRoom h (copy_child from to)
copy_lacks h from to k found f over = λ w e.
    let same : with_child to k h.tree ≡ w = let d = sym (step_copied h from to k found f) ∙ e in
    same_tree (with_child to k h.tree) w d in
    let needs = needs_both h.version to k h.tree f.absent in
    subst (λ (z : Tree). 16777216 < bins_size h.bins + room_of (needed_sizes h.version h.tree (copy_child from to) z))
    same
    (beyond (bins_size h.bins)
    (new_bin_size (size h.version (head h.tree).security (renamed to k))
    + room_of (list_sizes (length (children h.tree) + 1)))
    (room_of (needed_sizes h.version h.tree (copy_child from to) (with_child to k h.tree))) over needs)
  where
    same_tree : (a b : Tree) → the_tree a ≡ the_tree b → a ≡ b
    same_tree a b e = cc

    beyond : (o x y : ℕ) → 16777216 < o + x → x ≤ y → 16777216 < o + y
    beyond o x y a b = omega (arith, a, b)
